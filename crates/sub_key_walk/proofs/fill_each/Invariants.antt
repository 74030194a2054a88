use Prim.Native.Nat.{◌+◌, ◌*◌}
use Rattle.sub_key_walk.proofs.Entries.{Filling}
use Rattle.sub_key_walk.proofs.fill_each.Given as goal

abbrev pub invariant-loop-i : goal.invariant-loop-i
invariant-loop-i l =
    Filling l.image l.base l.size l.n l.pos l.initial.out l.place l.out (l.pos + l.size * l.i) l.to l.i
