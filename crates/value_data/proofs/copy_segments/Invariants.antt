use Rattle.cell_key_node.specs.ValueList.{entry_of}
use Rattle.value_data.proofs.Copies.{Filling}
use Rattle.value_data.proofs.copy_segments.Given as goal

abbrev pub invariant-loop-i : goal.invariant-loop-i
invariant-loop-i l =
    Filling l.image l.base (entry_of l.list) l.count l.size l.initial.out l.out l.at l.left l.i
