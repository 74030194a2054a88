use mathlib.Core.Path.{◌≡◌}
use lib.ListN.{drop}
use Rattle.cell_key_node.specs.ValueList.{up_to}
use Rattle.list_conversion.specs.Entries.{offset_in, judged_of}
use Rattle.list_conversion.proofs.check_keys.Given as goal

abbrev pub invariant-loop-i : goal.invariant-loop-i
invariant-loop-i l =
    judged_of l.image l.base (drop l.i (up_to (offset_in l.list 4) l.count)) ≡ judged_of l.image l.base (up_to (offset_in l.list 4) l.count)
