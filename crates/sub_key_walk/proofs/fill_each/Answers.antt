use native.Mathlib.Omega.{arith}
use Rattle.sub_key_walk.proofs.Pieces.{times_next}
use Rattle.sub_key_walk.proofs.Entries.{filling_start, filling_room, filling_step, filling_end}
use Rattle.sub_key_walk.proofs.fill_each.Goals as goal

pub loop-i-init : goal.loop-i-init
loop-i-init c =
    let a = c.args in
    filling_start a.image.now a.base a.size a.n a.pos a.out.now a.place c.requires.there c.requires.room _ (omega arith)

pub put_kept-to-requires : goal.put_kept-to-requires
put_kept-to-requires c =
    let a = c.args in
    filling_room a.image.now a.base a.size a.n a.pos a.out.now a.place _ _ _ _ c.loop-i.invariant c.loop-i-test.true c.requires.there.word c.offset_at-v.ensures

pub loop-i-preserved : goal.loop-i-preserved
loop-i-preserved c =
    let a = c.args in
    filling_step a.image.now a.base a.size a.n a.pos a.out.now a.place _ _ _ _ c.loop-i.invariant c.loop-i-test.true c.requires.there.word c.offset_at-v.ensures c.put_kept-to.ensures _ (omega (arith, times_next a.size c.loop-i.i))

pub shape_of-out : goal.shape_of-out
shape_of-out c = c.loop-i.invariant.going.ready.0

pub returns : goal.returns
returns c =
    let a = c.args in
    filling_end a.image.now a.base a.size a.n a.pos a.out.now a.place _ _ _ _ c.loop-i.invariant c.loop-i-test.false
