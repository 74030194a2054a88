-- What the functions on key records answer: what the functions on plain numbers answer (document 01), with the record's base and numbers
-- ("walk and value list take the base from it"), behind the check.
use Rattle.std.specs.Prelude.{ℕ, List, length}
use Rattle.words.specs.Paper.{Paper}
use Rattle.words.specs.Buffers.{Answered}
use Rattle.sub_key_walk.specs.declared.Counts.{Counts}
use Rattle.sub_key_walk.specs.Answers.{measured, answer_of, kept_by, walk_paper}
use Rattle.sub_key_walk.specs.Strict.{strict_measured, strict_answer_of, strict_kept_by}
use Rattle.cell_key_node.specs.declared.KeyNode.{KeyNode}
use Rattle.cell_key_node.specs.ValueList.{value_list_of, entries_of, value_list_paper}
use Rattle.cell_key_value.specs.declared.FoundValue.{FoundValue}
use Rattle.cell_key_value.specs.Lookup.{lookup_of}
use Rattle.key_in_place.specs.Place.{behind}
use Rattle.std.specs.declared.result.Result.{Result}
use Rattle.sub_key_walk.specs.declared.WalkRefusal.{WalkRefusal}
use Rattle.words.specs.declared.RoomRefusal.{RoomRefusal}

-- ---- the subkeys: "subkeys 24", "subkey list 32"

-- what the walk counts, with no regard to room
abbrev pub measured_of : List ℕ → KeyNode → ℕ → Paper Counts
measured_of s key budget = behind s key (measured s key.base key.number_of_sub_keys key.sub_keys_list_offset_relative budget)

abbrev pub strict_measured_of : List ℕ → KeyNode → ℕ → ℕ → Paper Counts
strict_measured_of s key budget minor =
    behind s key (strict_measured s key.base key.number_of_sub_keys key.sub_keys_list_offset_relative budget minor)

-- what `sub_keys_of` promises of its answer `r` and of the buffer, which held `old` and then holds `new`
abbrev pub WalkAnsweredOf : List ℕ → KeyNode → ℕ → List ℕ → (Result Counts WalkRefusal) → List ℕ → Type 0
WalkAnsweredOf s key budget old r new =
    Answered (walk_paper r)
    (behind s key (answer_of s key.base key.number_of_sub_keys key.sub_keys_list_offset_relative budget (length old)))
    (kept_by s key.base key.number_of_sub_keys key.sub_keys_list_offset_relative)
    old new

abbrev pub StrictAnsweredOf : List ℕ → KeyNode → ℕ → ℕ → List ℕ → (Result Counts WalkRefusal) → List ℕ → Type 0
StrictAnsweredOf s key budget minor old r new =
    Answered (walk_paper r)
    (behind s key (strict_answer_of s key.base key.number_of_sub_keys key.sub_keys_list_offset_relative budget minor (length old)))
    (strict_kept_by s key.base key.number_of_sub_keys key.sub_keys_list_offset_relative minor)
    old new

-- ---- the values: "values 40, value list 44 (signed)"

-- what `value_list_of` promises
abbrev pub ListAnsweredOf : List ℕ → KeyNode → List ℕ → (Result ℕ RoomRefusal) → List ℕ → Type 0
ListAnsweredOf s key old r new =
    Answered (value_list_paper r)
    (behind s key (value_list_of s key.base key.number_of_key_values key.key_values_list_offset_relative (length old)))
    (entries_of s key.base key.number_of_key_values key.key_values_list_offset_relative)
    old new

-- the value of a name
abbrev pub found_of : List ℕ → KeyNode → List ℕ → Paper FoundValue
found_of s key name = behind s key (lookup_of s key.base key.number_of_key_values key.key_values_list_offset_relative name)
