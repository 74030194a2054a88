use Rattle.sub_key_walk.proofs.fill_kept.Goals.{then-fits, else-fits}
use native.Mathlib.Omega.{arith}
use Rattle.sub_key_walk.proofs.Entries.{pieces-start, pieces_there, pieces_room, pieces_next, pieces_end, pieces_long, filled_as}
use borrow.Author.Rules.{rules}
use Rattle.sub_key_walk.proofs.fill_kept.Goals as goal

pub loop-left-init : goal.loop-left-init
loop-left-init c =
    let a = c.args in
    pieces-start a.image.now a.base a.size a.n a.pos a.out.now a.place c.requires.there c.requires.room

pub fits-requires : goal.fits-requires
fits-requires c =
    let a = c.args in
    record { there = pieces_there a.image.now a.base a.size a.n a.pos a.out.now a.place c.requires.there _ _ _ _ c.loop-left.invariant 16 c.loop-left-test.true; sized = c.requires.sized }

pub fill_whole-to-requires : goal.fill_whole-to-requires
fill_whole-to-requires c =
    let a = c.args in
    let l = c.loop-left.invariant in
    let h = c.loop-left-test.true in
    record { there = pieces_there a.image.now a.base a.size a.n a.pos a.out.now a.place c.requires.there _ _ _ _ l 16 h; sized = c.requires.sized; none_dropped = c.fits.ensures c.if-fits.true; room = pieces_room a.image.now a.base a.size a.n a.pos a.out.now a.place c.requires.there _ _ _ _ l 16 h }

pub fill_each-to-requires : goal.fill_each-to-requires
fill_each-to-requires c =
    let a = c.args in
    let l = c.loop-left.invariant in
    let h = c.loop-left-test.true in
    record { there = pieces_there a.image.now a.base a.size a.n a.pos a.out.now a.place c.requires.there _ _ _ _ l 16 h; room = pieces_room a.image.now a.base a.size a.n a.pos a.out.now a.place c.requires.there _ _ _ _ l 16 h }

pub overflow_mul-at : goal.overflow_mul-at
overflow_mul-at c =
    let a = c.args in
    let l = (pieces_there a.image.now a.base a.size a.n a.pos a.out.now a.place c.requires.there _ _ _ _ c.loop-left.invariant 16 c.loop-left-test.true).inside in
    search rules

pub overflow_add-at : goal.overflow_add-at
overflow_add-at c =
    let a = c.args in
    let l = (pieces_there a.image.now a.base a.size a.n a.pos a.out.now a.place c.requires.there _ _ _ _ c.loop-left.invariant 16 c.loop-left-test.true).inside in
    search rules

pub loop-left-preserved : goal.loop-left-preserved
loop-left-preserved c =
    let a = c.args in
    pieces_next a.image.now a.base a.size a.n a.pos a.out.now a.place c.requires.there _ _ _ _ c.loop-left.invariant 16 c.loop-left-test.true
    (elim c.if-fits.branch [ then-fits w ↦ filled_as w.out-is w.to-is w.fill_whole-to.ensures | else-fits w ↦ filled_as w.out-is w.to-is w.fill_each-to.ensures ])

pub fill_each-requires : goal.fill_each-requires
fill_each-requires c =
    let a = c.args in
    let l = c.loop-left.invariant in
    record { there = pieces_there a.image.now a.base a.size a.n a.pos a.out.now a.place c.requires.there _ _ _ _ l _ (omega arith); room = pieces_room a.image.now a.base a.size a.n a.pos a.out.now a.place c.requires.there _ _ _ _ l _ (omega arith) }

pub shape_of-out : goal.shape_of-out
shape_of-out c =
    let a = c.args in
    pieces_long a.image.now a.base a.size a.n a.pos a.out.now a.place c.requires.there _ _ _ _ c.loop-left.invariant c.fill_each.ensures

pub returns : goal.returns
returns c =
    let a = c.args in
    pieces_end a.image.now a.base a.size a.n a.pos a.out.now a.place c.requires.there _ _ _ _ c.loop-left.invariant c.fill_each.ensures
