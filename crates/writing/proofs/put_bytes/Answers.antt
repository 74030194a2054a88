use mathlib.Core.Path.{sym, ◌∙◌}
use Rattle.writing.proofs.Writing.{putting_start, putting_step, putting_done, put-nothing}
use Rattle.writing.proofs.put_bytes.Goals as goal

pub returns-then-not-has_room : goal.returns-then-not-has_room
returns-then-not-has_room c =
    let a = c.args in put-nothing a.out.now a.at a.n a.x (sym c.has_room.ensures ∙ c.if-not-has_room.true)

pub loop-i-init : goal.loop-i-init
loop-i-init c =
    let a = c.args in putting_start a.out.now a.at a.n a.x (sym c.has_room.ensures ∙ c.if-not-has_room.false)

pub loop-i-preserved : goal.loop-i-preserved
loop-i-preserved c =
    let a = c.args in putting_step a.out.now a.at a.n a.x _ _ _ c.loop-i-test.true c.loop-i.invariant

pub returns : goal.returns
returns c =
    let a = c.args in putting_done a.out.now a.at a.n a.x _ _ _ c.loop-i-test.false c.loop-i.invariant
