use Rattle.sub_key_walk.proofs.Entries.{FillingWhole}
use Rattle.sub_key_walk.proofs.whole_of.Given as goal

abbrev pub invariant-loop-i : goal.invariant-loop-i
invariant-loop-i l =
    FillingWhole l.image l.base l.size l.n l.pos l.initial.out l.place l.out l.i
