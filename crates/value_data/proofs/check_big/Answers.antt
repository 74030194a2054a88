use mathlib.Core.Path.{◌∙◌}
use Rattle.value_data.proofs.Big.{big_verdict}
use Rattle.value_data.proofs.check_big.Goals as goal

pub returns-in-Held : goal.returns-in-Held
returns-in-Held c =
    c.check_head.ensures ∙ big_verdict _ _ _ c.in_ok-cell_at.ensures c.in-Held.is

pub returns-in-TooSmall : goal.returns-in-TooSmall
returns-in-TooSmall c =
    c.check_head-in-TooSmall.ensures ∙ big_verdict _ _ _ c.in_ok-cell_at.ensures c.in-TooSmall.is
