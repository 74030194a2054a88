use mathlib.Core.Path.{sym}
use Prim.Native.Nat.{◌-◌}
use native.Mathlib.Omega.{arith}
use Rattle.sub_key_walk.specs.Trace.{trace, ordinary}
use Rattle.sub_key_walk.proofs.Traces.{entry_of_index}
use Rattle.sub_key_walk.proofs.Fills.{spread_start, spread_room, spread_step, spread_long, spread_end, fill_deep, fill_bad, leaf_room, leaf-whole, fill_leaf, index_room, fill_index}
use Rattle.sub_key_list.proofs.Papers.{read_as}
use Rattle.sub_key_walk.proofs.+fill.Goals as goal

pub returns-then-left-eq0 : goal.returns-then-left-eq0
returns-then-left-eq0 t c =
    let a = c.args in fill_deep (ordinary a.image.now) a.left a.image.now a.base a.offset c.if-left-eq0.true

pub fill_leaf-requires : goal.fill_leaf-requires
fill_leaf-requires t c =
    let a = c.args in
    let e = sym (read_as c.in-Ok-Leaf.field-0-is c.in-Ok-Leaf.ensures) in
    record { stands = e; kept_whole = leaf-whole (ordinary a.image.now) a.left a.image.now a.base a.offset c.if-left-eq0.false e c.requires; room = leaf_room (ordinary a.image.now) a.left a.image.now a.base a.offset c.if-left-eq0.false e c.requires }

pub loop-k-init : goal.loop-k-init
loop-k-init t c =
    let a = c.args in
    spread_start (trace (ordinary a.image.now) (a.left - 1) a.image.now a.base) a.image.now _ _ a.whole a.out.now a.place (index_room (ordinary a.image.now) a.left a.image.now a.base a.offset c.if-left-eq0.false (sym (read_as c.in-Ok-Index.field-0-is c.in-Ok-Index.ensures)) c.requires) _ (omega arith)

pub word-next-requires : goal.word-next-requires
word-next-requires t c =
    let a = c.args in
    entry_of_index a.image.now _ _ _ _ (sym (read_as c.in-Ok-Index.field-0-is c.in-Ok-Index.ensures)) c.loop-k-test.true c.loop-k.invariant.spreading.near

pub fill-to-requires : goal.fill-to-requires
fill-to-requires t c =
    let a = c.args in
    (omega (arith, c.if-left-eq0.false), spread_room (trace (ordinary a.image.now) (a.left - 1) a.image.now a.base) a.image.now _ _ a.whole a.out.now a.place _ _ _ _ c.loop-k.invariant c.loop-k-test.true _ c.word-next.ensures)

pub loop-k-preserved : goal.loop-k-preserved
loop-k-preserved t c =
    let a = c.args in
    spread_step (trace (ordinary a.image.now) (a.left - 1) a.image.now a.base) a.image.now _ _ a.whole a.out.now a.place _ _ _ _ c.loop-k.invariant c.loop-k-test.true _ c.word-next.ensures c.fill-to.ensures _ (omega arith)

pub returns-in-Err : goal.returns-in-Err
returns-in-Err t c =
    let a = c.args in fill_bad (ordinary a.image.now) a.left a.image.now a.base a.offset c.if-left-eq0.false _ (sym c.in-Err.ensures)

pub returns-in-Ok-Leaf : goal.returns-in-Ok-Leaf
returns-in-Ok-Leaf t c =
    let a = c.args in fill_leaf (ordinary a.image.now) a.left a.image.now a.base a.offset c.if-left-eq0.false (sym (read_as c.in-Ok-Leaf.field-0-is c.in-Ok-Leaf.ensures)) c.fill_leaf.ensures

pub shape_of-out-after-loop-k : goal.shape_of-out-after-loop-k
shape_of-out-after-loop-k t c =
    spread_long _ _ _ _ _ _ _ _ _ _ _ c.loop-k.invariant

pub returns-after-loop-k : goal.returns-after-loop-k
returns-after-loop-k t c =
    let a = c.args in
    fill_index (ordinary a.image.now) a.left a.image.now a.base a.offset c.if-left-eq0.false (sym (read_as c.in-Ok-Index.field-0-is c.in-Ok-Index.ensures)) (spread_end (trace (ordinary a.image.now) (a.left - 1) a.image.now a.base) a.image.now _ _ a.whole a.out.now a.place _ _ _ _ c.loop-k.invariant c.loop-k-test.false)
