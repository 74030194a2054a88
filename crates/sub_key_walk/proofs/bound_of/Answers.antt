use Rattle.sub_key_walk.proofs.bound_of.Goals.{then-half-n, else-half-n}
use Prim.Native.Nat.{◌/◌}
use native.Mathlib.Omega.{arith}
use Rattle.sub_key_walk.proofs.Pieces.{bounding_start, bounding_step, bounding_even, bounding_odd}
use Rattle.sub_key_walk.proofs.bound_of.Goals as goal

pub loop-i-init : goal.loop-i-init
loop-i-init c =
    let a = c.args in
    bounding_start a.image.now a.size a.n (a.n / 2) a.pos c.requires (omega arith)

pub loop-i-preserved : goal.loop-i-preserved
loop-i-preserved c =
    let a = c.args in
    bounding_step a.image.now a.size a.n (a.n / 2) a.pos c.requires (omega arith) _ _ _ c.loop-i.invariant c.loop-i-test.true c.offset_at-near.ensures c.offset_at-further.ensures

pub returns : goal.returns
returns c =
    let a = c.args in
    let v = c.loop-i.invariant in
    let h = c.loop-i-test.false in
    elim c.if-half-n.branch [
      | then-half-n w ↦ bounding_odd a.image.now a.size a.n (a.n / 2) a.pos c.requires (omega arith) _ _ _ v h (let t = w.if-half-n.true in omega arith) w.offset_at-further-then-half-n.ensures w.further-is
      | else-half-n w ↦ bounding_even a.image.now a.size a.n (a.n / 2) a.pos c.requires (omega arith) _ _ _ v h (let t = w.if-half-n.false in omega arith) w.further-is
    ]
