use mathlib.Core.Path.{sym, ◌∙◌}
use native.Mathlib.Omega.{arith}
use Rattle.words.proofs.Little.{little_4, little_split, little-past}
use Rattle.words.proofs.u32_at.Goals as goal

pub returns-then-at-saturating_sub : goal.returns-then-at-saturating_sub
returns-then-at-saturating_sub c =
    let a = c.args in c.join4.ensures ∙ sym (little_4 a.s.now a.at)

pub returns-then-at-s : goal.returns-then-at-s
returns-then-at-s c =
    let a = c.args in
    omega (arith, little_split 2 2 a.s.now a.at, c.u16_at-low.ensures, c.u16_at-high.ensures)

pub returns : goal.returns
returns c =
    let a = c.args in sym (little-past 4 a.s.now a.at c.if-at-s.false)
