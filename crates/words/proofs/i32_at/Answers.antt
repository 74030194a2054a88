use mathlib.Core.Path.{ap, ◌∙◌}
use Rattle.words.specs.Words.{signed}
use Rattle.words.proofs.Signed.{held}
use Rattle.words.proofs.i32_at.Goals as goal

pub returns : goal.returns
unfolding signed
returns c =
    held c.cast_signed.type_inv (c.cast_signed.ensures ∙ ap signed c.u32_at.ensures)
