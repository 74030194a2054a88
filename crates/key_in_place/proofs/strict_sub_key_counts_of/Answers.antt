use mathlib.Core.Path.{refl}
use Rattle.key_in_place.proofs.Behind.{tested_elsewhere, tested_here}
use Rattle.key_in_place.proofs.strict_sub_key_counts_of.Goals as goal

pub returns-in_err-only_if : goal.returns-in_err-only_if
returns-in_err-only_if c =
    tested_elsewhere _ _ _ c.is_in_place.ensures _ _ c.from_residual.ensures c.in_err-only_if.ensures _ _ refl _

pub returns : goal.returns
returns c =
    tested_here _ _ _ c.is_in_place.ensures _ _ c.in_ok-only_if.ensures c.strict_sub_key_counts.ensures
