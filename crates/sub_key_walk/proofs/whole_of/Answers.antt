use Rattle.sub_key_walk.proofs.Entries.{whole_start, whole_next, whole_end}
use borrow.Author.Rules.{rules}
use Rattle.sub_key_walk.proofs.whole_of.Goals as goal

pub loop-i-init : goal.loop-i-init
loop-i-init c =
    let a = c.args in
    whole_start a.image.now a.base a.size a.n a.pos a.out.now a.place c.requires.there c.requires.none_dropped c.requires.room

pub overflow_add-out : goal.overflow_add-out
overflow_add-out c =
    let a = c.args in
    let w = whole_next a.image.now a.base a.size a.n a.pos a.out.now a.place _ _ _ c.loop-i.invariant c.loop-i-test.true c.offset_at-v.ensures c.requires.there.word in
    search rules

pub overflow_add-out-in-loop-i : goal.overflow_add-out-in-loop-i
overflow_add-out-in-loop-i c =
    let a = c.args in
    let w = whole_next a.image.now a.base a.size a.n a.pos a.out.now a.place _ _ _ c.loop-i.invariant c.loop-i-test.true c.offset_at-v.ensures c.requires.there.word in
    search rules

pub bounds-out-place : goal.bounds-out-place
bounds-out-place c =
    let a = c.args in
    let w = whole_next a.image.now a.base a.size a.n a.pos a.out.now a.place _ _ _ c.loop-i.invariant c.loop-i-test.true c.offset_at-v.ensures c.requires.there.word in
    search rules

pub loop-i-preserved : goal.loop-i-preserved
loop-i-preserved c =
    let a = c.args in
    (whole_next a.image.now a.base a.size a.n a.pos a.out.now a.place _ _ _ c.loop-i.invariant c.loop-i-test.true c.offset_at-v.ensures c.requires.there.word).next

pub returns : goal.returns
returns c =
    let a = c.args in
    whole_end a.image.now a.base a.size a.n a.pos a.out.now a.place _ _ c.loop-i.invariant c.loop-i-test.false
