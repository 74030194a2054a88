use lib.ListN.{length}
use Rattle.hive_bin.specs.Walk.{bin_row}
use Rattle.hive_bin.proofs.Sums.{SoFar}
use Rattle.hive_bin.proofs.check_row.Given as goal

abbrev pub invariant-loop-left : goal.invariant-loop-left
invariant-loop-left l =
    SoFar (bin_row l.bins) 0 (length l.bins) l.at l.left l.totals

abbrev pub decreases-loop-left : goal.decreases-loop-left
decreases-loop-left l =
    l.left
