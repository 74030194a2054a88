use mathlib.Core.Path.{sym}
use borrow.Author.Rules.{rules}
use native.Mathlib.Omega.{arith}
use Rattle.sub_key_list.proofs.Papers.{read_as}
use Rattle.sub_key_walk.specs.Trace.{ordinary}
use Rattle.sub_key_walk.proofs.Uses.{spreading_start, spreading_ready, spreading_step, spreading_end, kept_deep, kept_bad, kept_leaf, kept_index, ready_as, goes_as, goes_nowhere}
use Rattle.sub_key_listing.proofs.+take_walk.Goals as goal

pub returns-then-left-eq0 : goal.returns-then-left-eq0
returns-then-left-eq0 g t c =
    let a = c.args in
    goes_nowhere g.T.Takes.taking (a.from, a.out.now) (kept_deep (ordinary a.image.now) a.left a.image.now a.base a.offset c.if-left-eq0.true)

pub take_leaf-requires-clause-ready : goal.take_leaf-requires-clause-ready
take_leaf-requires-clause-ready g t c =
    let a = c.args in
    ready_as g.T.Takes.taking (kept_leaf (ordinary a.image.now) a.left a.image.now a.base a.offset c.if-left-eq0.false (sym (read_as c.in-Ok-Leaf.field-0-is c.in-Ok-Leaf.ensures))) c.requires

pub loop-i-init : goal.loop-i-init
loop-i-init g t c =
    let a = c.args in
    spreading_start _ _ _ _ _ _
    (ready_as g.T.Takes.taking (kept_index (ordinary a.image.now) a.left a.image.now a.base a.offset c.if-left-eq0.false (sym (read_as c.in-Ok-Index.field-0-is c.in-Ok-Index.ensures))) c.requires)

pub take_walk-to-requires : goal.take_walk-to-requires
take_walk-to-requires g t c =
    λ κs o. (omega (arith, c.if-left-eq0.false), (o, spreading_ready _ _ _ _ _ _ _ _ _ c.loop-i.invariant c.loop-i-test.true c.u32_at-next.ensures))

pub overflow_add-pos-in-loop-i : goal.overflow_add-pos-in-loop-i
overflow_add-pos-in-loop-i g t c =
    let n = c.loop-i.invariant.near in search rules

pub loop-i-preserved : goal.loop-i-preserved
loop-i-preserved g t c =
    spreading_step _ _ _ _ _ _ _ _ _ c.loop-i.invariant c.loop-i-test.true c.u32_at-next.ensures c.take_walk-to.ensures

pub returns-in-Err : goal.returns-in-Err
returns-in-Err g t c =
    let a = c.args in
    goes_nowhere g.T.Takes.taking (a.from, a.out.now) (kept_bad (ordinary a.image.now) a.left a.image.now a.base a.offset c.if-left-eq0.false _ (sym c.in-Err.ensures))

pub returns-in-Ok-Leaf : goal.returns-in-Ok-Leaf
returns-in-Ok-Leaf g t c =
    let a = c.args in
    goes_as g.T.Takes.taking (kept_leaf (ordinary a.image.now) a.left a.image.now a.base a.offset c.if-left-eq0.false (sym (read_as c.in-Ok-Leaf.field-0-is c.in-Ok-Leaf.ensures))) c.take_leaf.ensures

pub returns-after-loop-i : goal.returns-after-loop-i
returns-after-loop-i g t c =
    let a = c.args in
    goes_as g.T.Takes.taking (kept_index (ordinary a.image.now) a.left a.image.now a.base a.offset c.if-left-eq0.false (sym (read_as c.in-Ok-Index.field-0-is c.in-Ok-Index.ensures)))
    (spreading_end _ _ _ _ _ _ _ _ _ c.loop-i.invariant c.loop-i-test.false)
