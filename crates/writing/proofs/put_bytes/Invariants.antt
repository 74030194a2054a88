use Rattle.writing.proofs.Writing.{Putting}
use Rattle.writing.proofs.put_bytes.Given as goal

abbrev pub invariant-loop-i : goal.invariant-loop-i
invariant-loop-i l =
    Putting l.initial.out l.at l.n l.x l.out l.rest l.i
