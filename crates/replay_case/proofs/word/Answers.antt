use Rattle.std.proofs.Common.{eq-eqb, ne_eqb}
use Rattle.replay_case.specs.Case.{fresh}
use Rattle.replay_case.proofs.word.Goals as goal

pub returns-then-bit-eq1 : goal.returns-then-bit-eq1
unfolding fresh
returns-then-bit-eq1 c =
    simp (eq-eqb _ _ c.if-bit-eq1.true) c.u32_at.ensures

pub returns-else-bit-eq1 : goal.returns-else-bit-eq1
unfolding fresh
returns-else-bit-eq1 c =
    simp (ne_eqb _ _ c.if-bit-eq1.false)
