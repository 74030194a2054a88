use Prim.Native.Nat.{◌+◌, ◌-◌, ◌*◌}
use Rattle.sub_key_walk.specs.Trace.{trace, ordinary}
use Rattle.sub_key_walk.proofs.Fills.{Spread}
use Rattle.sub_key_walk.proofs.+fill.Given as goal

abbrev pub decreases-fill : goal.decreases-fill
decreases-fill l = l.left

abbrev pub invariant-loop-k : goal.invariant-loop-k
invariant-loop-k l =
    Spread (trace (ordinary l.image) (l.left - 1) l.image l.base) l.image l.k-end (l.position + 8) l.whole l.initial.out l.place l.out l.to (l.position + 8 + 4 * l.k) l.k
