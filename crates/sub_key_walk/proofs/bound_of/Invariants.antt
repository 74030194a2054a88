use Rattle.sub_key_walk.proofs.Pieces.{Bounding}
use Rattle.sub_key_walk.proofs.bound_of.Given as goal

abbrev pub invariant-loop-i : goal.invariant-loop-i
invariant-loop-i l =
    Bounding l.image l.size l.half l.pos l.near l.further l.i
