use Rattle.sub_key_walk.proofs.Entries.{Counting}
use Rattle.sub_key_walk.proofs.dropped_of.Given as goal

abbrev pub invariant-loop-i : goal.invariant-loop-i
invariant-loop-i l =
    Counting l.image l.base l.size l.n l.pos l.dropped l.i
