use mathlib.Core.Path.{◌≡◌}
use lib.ListN.{drop}
use Rattle.cell_key_node.specs.ValueList.{up_to, entry_of}
use Rattle.cell_key_value.specs.Lookup.{look_through}
use Rattle.cell_key_value.proofs.find_in.Given as goal

abbrev pub invariant-loop-i : goal.invariant-loop-i
invariant-loop-i l =
    look_through l.image l.base l.name (drop l.i (up_to (entry_of l.list) l.count)) ≡ look_through l.image l.base l.name (up_to (entry_of l.list) l.count)
