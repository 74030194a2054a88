use mathlib.Core.Path.{◌∙◌}
use native.Mathlib.Omega.{arith}
use Rattle.sub_key_walk.proofs.Pieces.{leaving_start, piece_there, leaving_next}
use borrow.Author.Rules.{rules}
use Rattle.sub_key_walk.proofs.dropped_wide.Goals as goal

pub loop-left-init : goal.loop-left-init
loop-left-init c =
    let a = c.args in
    leaving_start a.image.now a.base a.size a.n a.pos c.requires.there

pub fits-requires : goal.fits-requires
fits-requires c =
    let a = c.args in
    let e = c.min-k.ensures in
    record { there = piece_there a.image.now a.base a.size a.n a.pos _ _ c.loop-left.invariant c.min-k.result (omega arith); sized = c.requires.sized }

pub count_dropped-requires : goal.count_dropped-requires
count_dropped-requires c =
    let l = c.loop-left.invariant in
    let m = l.some in
    let f = c.requires.few in
    record { there = l.there; sized = c.requires.sized; few = omega arith }

pub returns-then-not-fits : goal.returns-then-not-fits
returns-then-not-fits c =
    c.count_dropped.ensures ∙ c.loop-left.invariant.gives

pub overflow_mul-at : goal.overflow_mul-at
overflow_mul-at c =
    let a = c.args in
    let e = c.min-k.ensures in
    let l = (piece_there a.image.now a.base a.size a.n a.pos _ _ c.loop-left.invariant c.min-k.result (omega arith)).inside in
    search rules

pub overflow_add-at : goal.overflow_add-at
overflow_add-at c =
    let a = c.args in
    let e = c.min-k.ensures in
    let l = (piece_there a.image.now a.base a.size a.n a.pos _ _ c.loop-left.invariant c.min-k.result (omega arith)).inside in
    search rules

pub overflow_sub-left : goal.overflow_sub-left
overflow_sub-left c =
    let e = c.min-k.ensures in search rules

pub loop-left-smaller : goal.loop-left-smaller
loop-left-smaller c =
    let e = c.min-k.ensures in search rules

pub loop-left-preserved : goal.loop-left-preserved
loop-left-preserved c =
    let a = c.args in
    let e = c.min-k.ensures in
    leaving_next a.image.now a.base a.size a.n a.pos _ _ c.loop-left.invariant c.min-k.result (omega arith) (c.fits.ensures (c.if-not-fits.false))

pub count_dropped-requires-2 : goal.count_dropped-requires-2
count_dropped-requires-2 c =
    let l = c.loop-left.invariant in
    let m = l.some in
    let f = c.requires.few in
    record { there = l.there; sized = c.requires.sized; few = omega arith }

pub returns : goal.returns
returns c =
    c.count_dropped-2.ensures ∙ c.loop-left.invariant.gives
