use Prim.Native.Nat.{◌+◌}
use Rattle.sub_key_walk.proofs.Uses.{Passing}
use Rattle.sub_key_listing.proofs.take_leaf.Given as goal

abbrev pub invariant-loop-i : goal.invariant-loop-i
invariant-loop-i g l =
    Passing g.T.Takes.taking l.image l.base l.size l.i-end (l.position + 8) (l.initial.to, l.initial.out) (l.to, l.out) l.at l.i
