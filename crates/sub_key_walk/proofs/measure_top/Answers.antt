use mathlib.Core.Path.{sym}
use native.Mathlib.Omega.{arith}
use borrow.Author.Rules.{rules}
use Rattle.sub_key_list.proofs.Papers.{read_as}
use Rattle.sub_key_walk.specs.Trace.{LEVELS}
use Rattle.sub_key_walk.specs.Walk.{reading_by}
use Rattle.sub_key_walk.proofs.Profiles.{reading_read}
use Rattle.sub_key_walk.proofs.Walks.{lost_few, top_leaf}
use Rattle.sub_key_walk.proofs.measure_top.Goals as goal

pub dropped_few-dropped-requires : goal.dropped_few-dropped-requires
dropped_few-dropped-requires c =
    let a = c.args in
    reading_read a.profile a.image.now LEVELS _ (sym (read_as c.in-Ok-Leaf.field-0-is c.in-Ok-Leaf.ensures))

pub overflow_sub-result : goal.overflow_sub-result
overflow_sub-result c =
    let a = c.args in
    let k = lost_few a.image.now a.base _ _ _ c.dropped_few-dropped.ensures in
    search rules

pub returns-then-leaf-le-FEW : goal.returns-then-leaf-le-FEW
returns-then-leaf-le-FEW c =
    let a = c.args in
    top_leaf (reading_by a.profile a.image.now) a.budget a.image.now a.base a.list _ _ _ (λ z. omega arith) (sym (read_as c.in-Ok-Leaf.field-0-is c.in-Ok-Leaf.ensures)) c.dropped_few-dropped.ensures

pub returns : goal.returns
returns c = c.measure.ensures.answer
