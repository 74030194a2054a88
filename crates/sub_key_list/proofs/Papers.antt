-- What document 01 says of a list's answer tells the answers apart, so that two answers allowed for one input are equal. Assumes
-- nothing.
use mathlib.Core.Path.{◌≡◌, ap, sym, ◌∙◌}
use mathlib.Core.List.{List}
use mathlib.Core.Bool.{Bool}
use Prim.Native.Nat.{ℕ}
use Rattle.words.proofs.Papers as papers
use Rattle.words.proofs.Papers.{same-refusal}
use Rattle.words.specs.Paper.{Paper}
use Rattle.sub_key_list.specs.Lists.{word_of, Listed, leaf, index, listed_of, list_paper, list_at}
use Rattle.sub_key_list.specs.Strict.{strict_at}
use Rattle.sub_key_list.proofs.ListKinds.{same_kind, leaf-index, same-leaf}
use Rattle.sub_key_list.specs.declared.LeafList.{LeafList}
use Rattle.sub_key_list.specs.declared.IndexList.{IndexList}
use Rattle.sub_key_list.specs.declared.SubKeyList.{SubKeyList}
use Rattle.sub_key_list.specs.declared.SubKeyList.TheVariants.{Leaf, Index}
use Rattle.std.specs.Prelude.{Ok}
use Rattle.std.specs.declared.result.Result.{Result}
use Rattle.words.specs.declared.Refusal.{Refusal}

same_index : {n m : ℕ} → index n ≡ index m → n ≡ m
same_index e = cc

leaf_path : {a b : LeafList} → leaf (word_of a.kind) a.entry_size a.count ≡ leaf (word_of b.kind) b.entry_size b.count → a ≡ b
leaf_path {a} {b} e = let p = same-leaf e in let q = same_kind a.kind b.kind p.0 in λ i. record { kind = q i; entry_size = p.1 i; count = p.2 i }

index_path : {a b : IndexList} → index a.count ≡ index b.count → a ≡ b
index_path e = let p = same_index e in λ i. record { count = p i }

same_listed : (a b : SubKeyList) → listed_of a ≡ listed_of b → a ≡ b
same_listed (Leaf a) (Leaf b) e = ap Leaf (leaf_path e)
same_listed (Leaf a) (Index b) e = absurd (leaf-index e)
same_listed (Index a) (Leaf b) e = absurd (leaf-index (sym e))
same_listed (Index a) (Index b) e = ap Index (index_path e)

pub paper_injective : (a b : Result SubKeyList Refusal) → list_paper a ≡ list_paper b → a ≡ b
paper_injective = papers.paper_injective same_listed same-refusal

-- what is said of a list that is read, of the kind that it is found to be
pub read_as : {x y : SubKeyList} {u : Paper Listed} → x ≡ y → list_paper (Ok x) ≡ u → list_paper (Ok y) ≡ u
read_as e q = ap (λ (z : SubKeyList). list_paper (Ok z)) (sym e) ∙ q

-- two answers allowed for one image and position
pub list_determined : (s : List ℕ) (p : ℕ) (a b : (Result SubKeyList Refusal)) → list_paper a ≡ list_at s p → list_paper b ≡ list_at s p → a ≡ b
list_determined s p a b x y = paper_injective a b (x ∙ sym y)

pub strict_determined : (s : List ℕ) (minor : ℕ) (named : Bool) (p : ℕ) (a b : (Result SubKeyList Refusal)) → list_paper a ≡ strict_at s minor named p → list_paper b ≡ strict_at s minor named p
    → a ≡ b
strict_determined s minor named p a b x y = paper_injective a b (x ∙ sym y)
