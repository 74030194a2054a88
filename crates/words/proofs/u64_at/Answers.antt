use mathlib.Core.Path.{sym, ◌∙◌}
use Prim.Native.Nat.{◌+◌, ◌*◌}
use native.Mathlib.Omega.{arith}
use Rattle.words.proofs.Little.{little_4, little_far_4, little_split, little-past}
use Rattle.words.proofs.u64_at.Goals as goal

pub returns-then-at-saturating_sub : goal.returns-then-at-saturating_sub
returns-then-at-saturating_sub c =
    let a = c.args in
    let low = c.join4-low.ensures ∙ sym (little_4 a.s.now a.at) in
    let high = c.join4-high.ensures ∙ sym (little_far_4 a.s.now a.at) in
    c.join8.ensures ∙ (λ i. low i + 4294967296 * high i) ∙ sym (little_split 4 4 a.s.now a.at)

pub returns-then-at-s : goal.returns-then-at-s
returns-then-at-s c =
    let a = c.args in
    omega (arith, c.join8-then-at-s.ensures, little_split 4 4 a.s.now a.at, c.u32_at-then-at-s.ensures, c.u32_at.ensures)

pub returns : goal.returns
returns c =
    let a = c.args in sym (little-past 8 a.s.now a.at c.if-at-s.false)
