use Rattle.sub_key_walk.proofs.Entries.{Piecewise}
use Rattle.sub_key_walk.proofs.fill_kept.Given as goal

abbrev pub invariant-loop-left : goal.invariant-loop-left
invariant-loop-left l =
    Piecewise l.image l.base l.size l.n l.pos l.initial.out l.place l.out l.at l.to l.left

abbrev pub decreases-loop-left : goal.decreases-loop-left
decreases-loop-left l =
    l.left
