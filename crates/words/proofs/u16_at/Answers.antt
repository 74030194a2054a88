use mathlib.Core.Path.{sym, ◌∙◌}
use Prim.Native.Nat.{◌+◌}
use native.Mathlib.Omega.{arith}
use Rattle.words.proofs.Little.{little_2, byte_past}
use Rattle.words.proofs.u16_at.Goals as goal

pub returns-then-at-saturating_sub : goal.returns-then-at-saturating_sub
returns-then-at-saturating_sub c =
    let a = c.args in c.join2.ensures ∙ sym (little_2 a.s.now a.at)

pub returns : goal.returns
returns c =
    let a = c.args in
    omega (arith, c.join2-2.ensures, c.byte_at.ensures, little_2 a.s.now a.at, byte_past a.s.now (a.at + 1) (omega arith))
