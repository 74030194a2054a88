use mathlib.Core.Path.{sym, ap, ◌∙◌}
use Rattle.std.specs.Prelude.{Ok}
use Rattle.sub_key_list.proofs.Strict.{own_held, own_none, small_held}
use Rattle.words.proofs.Papers.{same-ok, ok-err}
use Rattle.sub_key_list.proofs.own_cell.Goals as goal

pub returns-in-Ok-Held : goal.returns-in-Ok-Held
returns-in-Ok-Held c =
    own_held _ _ _ c.cell_at.ensures (c.in-Ok-Held.is ∙ ap Ok c.in-Ok-Held.field-0-is)

pub returns-in-Ok-TooSmall : goal.returns-in-Ok-TooSmall
returns-in-Ok-TooSmall c =
    own_none _ _ _ c.cell_at.ensures c.requires (λ e. small_held (same-ok (sym (c.in-Ok-TooSmall.is ∙ ap Ok c.in-Ok-TooSmall.field-0-is) ∙ e)))

pub returns-in-Err : goal.returns-in-Err
returns-in-Err c =
    own_none _ _ _ c.cell_at.ensures c.requires (λ e. ok-err (sym e ∙ c.in-Err.is))
