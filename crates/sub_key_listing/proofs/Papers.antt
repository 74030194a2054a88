-- The promises fix the answers: two answers and two buffers that are allowed for one input are equal. Assumes nothing.
use mathlib.Core.Path.{◌≡◌, ap, sym, ◌∙◌}
use mathlib.Core.List.{List}
use Prim.Native.Nat.{ℕ}
use Rattle.words.specs.Paper.{Told}
use Rattle.words.proofs.Papers.{same_reason, paper_injective}
use Rattle.words.proofs.Buffers.{determined}
use Rattle.sub_key_walk.proofs.Papers.{same-fault}
use Rattle.cell_key_node.specs.declared.KeyNode.{KeyNode}
use Rattle.sub_key_listing.specs.Answers.{check_paper, checked_of, write_told, write_paper, WriteAnswered}
use Rattle.sub_key_listing.specs.declared.WriteRefusal.{WriteRefusal}
use Rattle.std.specs.declared.result.Result.{Result}
use Rattle.sub_key_walk.specs.declared.Counts.{Counts}
use Rattle.sub_key_walk.specs.declared.WalkRefusal.{WalkRefusal}
use Rattle.sub_key_listing.specs.declared.Written.{Written}

same_write : (f g : WriteRefusal) → write_told f ≡ write_told g → f ≡ g
same_write f g e = λ i. record { reason = same_reason (ap (λ (t : Told). t.number) e) i; position = (e i).position; lists = (e i).lists; bytes = (e i).places; entries = (e i).entries; dropped = (e i).dropped }

pub check_injective : (r t : Result Counts WalkRefusal) → check_paper r ≡ check_paper t → r ≡ t
check_injective = paper_injective (λ v w e. e) same-fault

pub write_injective : (r t : Result Written WriteRefusal) → write_paper r ≡ write_paper t → r ≡ t
write_injective = paper_injective (λ v w e. e) same_write

module _ (s : List ℕ) (key : KeyNode) (budget : ℕ) where
  pub check_determined : (listing : List ℕ) (r r' : Result Counts WalkRefusal) → check_paper r ≡ checked_of s key budget listing → check_paper r' ≡ checked_of s key budget listing → r ≡ r'
  check_determined listing r r' x y = check_injective r r' (x ∙ sym y)

  pub write_determined : (old new new' : List ℕ) (r r' : Result Written WriteRefusal) → WriteAnswered s key budget old r new → WriteAnswered s key budget old r' new' → (r ≡ r') × (new ≡ new')
  write_determined old new new' r r' x y = let e = determined x y in (write_injective r r' e.0, e.1)
