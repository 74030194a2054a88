use mathlib.Core.Path.{◌≡◌}
use lib.ListN.{drop}
use Rattle.cell_key_node.specs.ValueList.{up_to, entry_of}
use Rattle.value_data.specs.Pieces.{judged, segments}
use Rattle.value_data.proofs.check_segments.Given as goal

abbrev pub invariant-loop-i : goal.invariant-loop-i
invariant-loop-i l =
    judged l.image (segments l.base (drop l.i (up_to (entry_of l.list) l.count)) l.left) ≡ judged l.image (segments l.base (up_to (entry_of l.list) l.count) l.size)
