-- Document 02, order 11, said of any answers that the promises allow: when a record passes the check, and what is answered for one that does and
-- for one that does not. Proved in proofs/Demands.antt.
use Rattle.std.specs.Prelude.{ℕ, ◌+◌, ◌≤◌, ◌≡◌, ◌↔◌, List, Bool, true, nat_abs, length, take, drop}
use Rattle.words.specs.Refusals.{OTHER_PLACE}
use Rattle.words.specs.Paper.{Paper, success, refused, by}
use Rattle.sub_key_walk.specs.Answers.{COUNT_LIMIT, BUDGET_LIMIT, measured, walk_paper, WalkAnswered}
use Rattle.sub_key_walk.specs.Strict.{strict_measured, StrictAnswered}
use Rattle.sub_key_walk.specs.Demand.{Demand3}
use Rattle.cell_key_node.specs.Key.{key_at}
use Rattle.cell_key_node.specs.declared.KeyNode.{KeyNode}
use Rattle.cell_key_node.specs.ValueList.{value_list_paper, ListAnswered}
use Rattle.cell_key_value.specs.Lookup.{lookup_of, lookup_paper}
use Rattle.key_in_place.specs.Place.{ReadsAs, is_in_place}
use Rattle.key_in_place.specs.Answers.{measured_of, strict_measured_of, WalkAnsweredOf, StrictAnsweredOf, ListAnsweredOf, found_of}
use Rattle.std.specs.declared.result.Result.{Result}
use Rattle.sub_key_walk.specs.declared.Counts.{Counts}
use Rattle.sub_key_walk.specs.declared.WalkRefusal.{WalkRefusal}
use Rattle.words.specs.declared.RoomRefusal.{RoomRefusal}
use Rattle.cell_key_value.specs.declared.FoundValue.{FoundValue}
use Rattle.words.specs.declared.Refusal.{Refusal}

-- ---- the check

-- a record that `read_key_node` gave for an image, a position and a base: `b` is what `is_in_place` answers for an image
pub record Passes (image : List ℕ) (p base : ℕ) (key : KeyNode) : Type 0 where
  -- it passes on that image
  pub there : (b : Bool) → b ≡ is_in_place image key → b ≡ true
  -- and on another exactly if it reads the same there
  pub other : (image' : List ℕ) (b : Bool) → b ≡ is_in_place image' key → (b ≡ true) ↔ (key_at image' p base ≡ success key)
  -- as it does where the 80 bytes of its fixed part are the same and its cell lies in the image: "other bytes in name or slack pass"
  pub same : (image' : List ℕ) (b : Bool) → b ≡ is_in_place image' key → take 80 (drop p image') ≡ take 80 (drop p image) → p + nat_abs key.size ≤ length image' → b ≡ true

-- ---- "Demands 2 and 3 read "base" as the record's, for records that pass the check"

pub record Demands (s : List ℕ) (key : KeyNode) : Type 0 where
  -- demand 2: the answers and the buffers are those of document 01's definitions, with the record's base and numbers
  pub walk : (budget : ℕ) (old new : List ℕ) (r : (Result Counts WalkRefusal)) → WalkAnsweredOf s key budget old r new
      → WalkAnswered s key.base key.number_of_sub_keys key.sub_keys_list_offset_relative budget old r new
  pub counts : (budget : ℕ) (r : (Result Counts WalkRefusal)) → walk_paper r ≡ measured_of s key budget
      → walk_paper r ≡ measured s key.base key.number_of_sub_keys key.sub_keys_list_offset_relative budget
  pub strict_walk : (budget minor : ℕ) (old new : List ℕ) (r : (Result Counts WalkRefusal)) → StrictAnsweredOf s key budget minor old r new
      → StrictAnswered s key.base key.number_of_sub_keys key.sub_keys_list_offset_relative budget minor old r new
  pub strict_counts : (budget minor : ℕ) (r : (Result Counts WalkRefusal)) → walk_paper r ≡ strict_measured_of s key budget minor
      → walk_paper r ≡ strict_measured s key.base key.number_of_sub_keys key.sub_keys_list_offset_relative budget minor
  pub values : (old new : List ℕ) (r : (Result ℕ RoomRefusal)) → ListAnsweredOf s key old r new
      → ListAnswered s key.base key.number_of_key_values key.key_values_list_offset_relative old r new
  pub found : (name : List ℕ) (r : (Result FoundValue Refusal)) → lookup_paper r ≡ found_of s key name
      → lookup_paper r ≡ lookup_of s key.base key.number_of_key_values key.key_values_list_offset_relative name
  -- demand 3, of the answer of `sub_keys_of` itself
  pub demand_3 : (budget : ℕ) (old new : List ℕ) (r : (Result Counts WalkRefusal)) → WalkAnsweredOf s key budget old r new
      → 1 ≤ key.number_of_sub_keys → key.number_of_sub_keys ≤ COUNT_LIMIT → budget ≤ BUDGET_LIMIT
      → Demand3 s key.base key.number_of_sub_keys key.sub_keys_list_offset_relative budget old r new

-- ---- "21 OTHER PLACE, before all others, where the bytes at that position do not read as this same record"

abbrev pub Refuses : {A : Type 0} → Paper A → Type 0
Refuses said = said ≡ refused (by OTHER_PLACE 0)

-- 21, and it changes no place
abbrev pub Untouched : {A : Type 0} → Paper A → List ℕ → List ℕ → Type 0
Untouched said old new = Refuses said × (new ≡ old)

-- each function is refused by 21 exactly where the record does not read as itself, with any budget, room, version or name, and a count of 0 too
pub record Refused21 (s : List ℕ) (key : KeyNode) : Type 0 where
  pub walk : (budget : ℕ) (old new : List ℕ) (r : (Result Counts WalkRefusal)) → WalkAnsweredOf s key budget old r new
      → (ReadsAs s key → ⊥) ↔ Untouched (walk_paper r) old new
  pub counts : (budget : ℕ) (r : (Result Counts WalkRefusal)) → walk_paper r ≡ measured_of s key budget → (ReadsAs s key → ⊥) ↔ Refuses (walk_paper r)
  pub strict_walk : (budget minor : ℕ) (old new : List ℕ) (r : (Result Counts WalkRefusal)) → StrictAnsweredOf s key budget minor old r new
      → (ReadsAs s key → ⊥) ↔ Untouched (walk_paper r) old new
  pub strict_counts : (budget minor : ℕ) (r : (Result Counts WalkRefusal)) → walk_paper r ≡ strict_measured_of s key budget minor
      → (ReadsAs s key → ⊥) ↔ Refuses (walk_paper r)
  pub values : (old new : List ℕ) (r : (Result ℕ RoomRefusal)) → ListAnsweredOf s key old r new → (ReadsAs s key → ⊥) ↔ Untouched (value_list_paper r) old new
  pub found : (name : List ℕ) (r : (Result FoundValue Refusal)) → lookup_paper r ≡ found_of s key name → (ReadsAs s key → ⊥) ↔ Refuses (lookup_paper r)
