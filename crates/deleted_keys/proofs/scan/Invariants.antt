use lib.ListN.{length}
use Prim.Native.Nat.{◌-◌}
use Rattle.deleted_keys.proofs.Scans.{SoFar}
use Rattle.deleted_keys.proofs.scan.Given as goal

abbrev pub invariant-loop-cell : goal.invariant-loop-cell
invariant-loop-cell l =
    SoFar l.image l.base l.bins l.room l.initial.out l.spot l.n l.out

abbrev pub decreases-loop-cell : goal.decreases-loop-cell
decreases-loop-cell l =
    length l.bins - l.spot.place
