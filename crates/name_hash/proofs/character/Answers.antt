use Rattle.std.proofs.Common.{◌∙◌}
use Rattle.name_hash.proofs.Laws.{unit_at}
use Rattle.name_hash.proofs.character.Goals as goal

pub returns-then-units : goal.returns-then-units
returns-then-units c =
    simp c.if-units.true (rw c.from-rest.ensures.bytes at c.u16_at.ensures ∙ unit_at _ _)
