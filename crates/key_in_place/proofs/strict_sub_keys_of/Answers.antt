use mathlib.Core.Path.{refl}
use Rattle.key_in_place.proofs.Behind.{answered_elsewhere, answered_here}
use Rattle.key_in_place.proofs.strict_sub_keys_of.Goals as goal

pub returns-in_err-only_if : goal.returns-in_err-only_if
returns-in_err-only_if c =
    answered_elsewhere _ _ _ c.is_in_place.ensures _ _ c.from_residual.ensures c.in_err-only_if.ensures _ _ refl _ _ _

pub returns : goal.returns
returns c =
    answered_here _ _ _ c.is_in_place.ensures _ _ c.in_ok-only_if.ensures c.strict_sub_keys.ensures
