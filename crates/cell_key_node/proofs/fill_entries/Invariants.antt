use mathlib.Core.Path.{◌≡◌}
use mathlib.Core.List.{◌++◌}
use lib.ListN.{length, drop}
use Rattle.cell_key_node.specs.ValueList.{up_to, entry_of}
use Rattle.cell_key_node.proofs.fill_entries.Given as goal

abbrev pub invariant-loop-i : goal.invariant-loop-i
invariant-loop-i l =
    (length l.out ≡ length l.initial.out) × (l.out ≡ up_to (entry_of l.list) l.i ++ drop l.i l.initial.out)
