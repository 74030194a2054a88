use Prim.Native.Nat.{◌+◌}
use Rattle.sub_key_list.proofs.Leaves.{keep_or_drop}
use Rattle.sub_key_walk.proofs.Entries.{counting_start, counting_step, counting_end}
use borrow.Author.Rules.{rules}
use Rattle.sub_key_walk.proofs.dropped_of.Goals as goal

pub loop-i-init : goal.loop-i-init
loop-i-init c =
    let a = c.args in counting_start a.image.now a.base a.size a.n a.pos

pub overflow_add-dropped : goal.overflow_add-dropped
overflow_add-dropped c =
    let a = c.args in
    let k = keep_or_drop (c.offset_at-v.result + a.base) in
    let e = c.drop_one-dropped.ensures in
    search rules

pub loop-i-preserved : goal.loop-i-preserved
loop-i-preserved c =
    let a = c.args in
    counting_step a.image.now a.base a.size a.n a.pos _ _ c.loop-i.invariant c.loop-i-test.true c.offset_at-v.ensures c.drop_one-dropped.ensures

pub returns : goal.returns
returns c =
    let a = c.args in
    counting_end a.image.now a.base a.size a.n a.pos _ _ c.loop-i.invariant c.loop-i-test.false
