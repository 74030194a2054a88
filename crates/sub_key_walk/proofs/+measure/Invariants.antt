use Prim.Native.Nat.{◌+◌, ◌-◌, ◌*◌}
use Rattle.sub_key_walk.specs.Trace.{trace}
use Rattle.sub_key_walk.specs.Walk.{reading_by}
use Rattle.sub_key_walk.proofs.Walks.{Indexing}
use Rattle.sub_key_walk.proofs.+measure.Given as goal

abbrev pub decreases-measure : goal.decreases-measure
decreases-measure l = l.levels

abbrev pub invariant-loop-i : goal.invariant-loop-i
invariant-loop-i l =
    Indexing l.budget (trace (reading_by l.profile l.image) (l.levels - 1) l.image l.base) l.image l.i-end (l.position + 8) l.initial.sum l.sum (l.position + 8 + 4 * l.i) l.i
