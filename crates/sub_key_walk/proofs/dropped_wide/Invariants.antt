use Rattle.sub_key_walk.proofs.Pieces.{Leaving}
use Rattle.sub_key_walk.proofs.dropped_wide.Given as goal

abbrev pub invariant-loop-left : goal.invariant-loop-left
invariant-loop-left l =
    Leaving l.image l.base l.size l.n l.pos l.at l.left

abbrev pub decreases-loop-left : goal.decreases-loop-left
decreases-loop-left l =
    l.left
