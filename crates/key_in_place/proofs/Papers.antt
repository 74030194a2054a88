-- The promises fix the answers: two answers and two buffers that are allowed for one image and record are equal. Assumes nothing.
use mathlib.Core.Path.{◌≡◌, sym, ◌∙◌}
use mathlib.Core.List.{List}
use Prim.Native.Nat.{ℕ}
use Rattle.words.specs.Paper.{Paper}
use Rattle.words.specs.Buffers.{Answered}
use Rattle.words.proofs.Buffers.{determined}
use Rattle.sub_key_walk.specs.Answers.{walk_paper}
use Rattle.sub_key_walk.specs.declared.Counts.{Counts}
use Rattle.sub_key_walk.proofs.Papers.{paper_injective}
use Rattle.cell_key_node.specs.declared.KeyNode.{KeyNode}
use Rattle.cell_key_node.proofs.Papers.{list_injective}
use Rattle.cell_key_value.specs.Lookup.{lookup_paper}
use Rattle.cell_key_value.proofs.Papers.{lookup_injective}
use Rattle.key_in_place.specs.Answers.{WalkAnsweredOf, StrictAnsweredOf, ListAnsweredOf, found_of}
use Rattle.std.specs.declared.result.Result.{Result}
use Rattle.sub_key_walk.specs.declared.WalkRefusal.{WalkRefusal}
use Rattle.words.specs.declared.RoomRefusal.{RoomRefusal}
use Rattle.cell_key_value.specs.declared.FoundValue.{FoundValue}
use Rattle.words.specs.declared.Refusal.{Refusal}

-- the walk's counts, ordinary and strict: by what the answers say
pub counts_determined : (right : Paper Counts) (r r' : (Result Counts WalkRefusal)) → walk_paper r ≡ right → walk_paper r' ≡ right → r ≡ r'
counts_determined right r r' x y = paper_injective r r' (x ∙ sym y)

walk_determined : {right : Paper Counts} {ks old : List ℕ} (r r' : (Result Counts WalkRefusal)) {new new' : List ℕ} → Answered (walk_paper r) right ks old new
    → Answered (walk_paper r') right ks old new' → (r ≡ r') × (new ≡ new')
walk_determined r r' x y = let e = determined x y in (paper_injective r r' e.0, e.1)

module _ (s : List ℕ) (key : KeyNode) (old new new' : List ℕ) where
  pub sub_keys_determined : (budget : ℕ) (r r' : (Result Counts WalkRefusal)) → WalkAnsweredOf s key budget old r new → WalkAnsweredOf s key budget old r' new'
      → (r ≡ r') × (new ≡ new')
  sub_keys_determined budget r r' x y = walk_determined r r' x y

  pub strict_sub_keys_determined : (budget minor : ℕ) (r r' : (Result Counts WalkRefusal)) → StrictAnsweredOf s key budget minor old r new
      → StrictAnsweredOf s key budget minor old r' new' → (r ≡ r') × (new ≡ new')
  strict_sub_keys_determined budget minor r r' x y = walk_determined r r' x y

  pub values_determined : (r r' : (Result ℕ RoomRefusal)) → ListAnsweredOf s key old r new → ListAnsweredOf s key old r' new' → (r ≡ r') × (new ≡ new')
  values_determined r r' x y = let e = determined x y in (list_injective r r' e.0, e.1)

pub found_determined : (s : List ℕ) (key : KeyNode) (name : List ℕ) (r r' : (Result FoundValue Refusal)) → lookup_paper r ≡ found_of s key name
    → lookup_paper r' ≡ found_of s key name → r ≡ r'
found_determined s key name r r' x y = lookup_injective r r' (x ∙ sym y)
