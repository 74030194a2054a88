-- The bytes that are said of a value's name are those that stand at its place. Assumes nothing.
use mathlib.Core.List.{List}
use Prim.Native.Nat.{ℕ}
use lib.ListN.{drop}
use Rattle.words.specs.Words.{word16}
use Rattle.words.specs.Parts.{Lies}
use Rattle.words.proofs.Parts.{lies_handed}
use Rattle.cell_key_node.proofs.Places.{name_lies}
use Rattle.cell_key_value.specs.Value.{value_fault, value_name, value_name_at}

pub value_name_lies : (image : List ℕ) (position : ℕ) → Lies image (value_name_at image position) (value_name image position)
unfolding value_name value_name_at value_fault
value_name_lies image position = lies_handed image _ _ _ (name_lies image position 24 0x6B76 6 (word16 (drop position image) 6))
