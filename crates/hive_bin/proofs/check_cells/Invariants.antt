use Rattle.hive_bin.specs.Walk.{cell_row}
use Rattle.hive_bin.proofs.Sums.{SoFar}
use Rattle.hive_bin.proofs.check_cells.Given as goal

abbrev pub invariant-loop-rest : goal.invariant-loop-rest
invariant-loop-rest l =
    SoFar (cell_row l.bins) l.at l.left l.here l.rest l.totals

abbrev pub decreases-loop-rest : goal.decreases-loop-rest
decreases-loop-rest l =
    l.rest
