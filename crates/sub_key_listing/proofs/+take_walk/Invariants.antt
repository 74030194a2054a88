use Prim.Native.Nat.{◌-◌}
use Rattle.sub_key_walk.specs.Trace.{trace, ordinary}
use Rattle.sub_key_walk.proofs.Uses.{Spreading}
use Rattle.sub_key_listing.proofs.+take_walk.Given as goal

abbrev pub invariant-loop-i : goal.invariant-loop-i
invariant-loop-i g l =
    Spreading g.T.Takes.taking (trace (ordinary l.image) (l.left - 1) l.image l.base) l.image l.i-end l.initial.pos (l.initial.to, l.initial.out) (l.to, l.out) l.pos l.i

abbrev pub decreases-take_walk : goal.decreases-take_walk
decreases-take_walk g l = l.left
