use mathlib.Core.Path.{sym, ◌∙◌}
use native.Mathlib.Omega.{arith}
use Prim.Native.Nat.{◌+◌}
use borrow.Author.Tests.{lt-leb}
use Rattle.writing.proofs.Writing.{room_test}
use Rattle.writing.proofs.has_room.Goals as goal

pub returns-then-at-room : goal.returns-then-at-room
returns-then-at-room c =
    let a = c.args in room_test a.at a.n a.room c.if-at-room.true

pub returns-else-at-room : goal.returns-else-at-room
returns-else-at-room c =
    let a = c.args in lt-leb a.at a.room c.if-at-room.false ∙ sym (lt-leb (a.at + a.n) a.room (omega arith))
