use Rattle.std.proofs.Common.{ap, ◌∙◌}
use Rattle.key_totals.specs.Table.{refusing}
use Rattle.key_totals.proofs.Calls.{replace-nowhere, replace-refused, replace_kept}
use Rattle.key_totals.proofs.replace_here.Goals as goal

pub returns-in_default : goal.returns-in_default
returns-in_default c =
    c.refuse.ensures ∙ ap (refusing c.args.table) c.told.ensures ∙ replace-nowhere _ _ _ _ c.in_default.ensures.place

pub returns-in-Err : goal.returns-in-Err
returns-in-Err c =
    c.refuse-in-Err.ensures ∙ replace-refused _ _ _ _ c.in-Some.ensures.place _ c.in-Err.ensures

pub returns-in-Ok : goal.returns-in-Ok
returns-in-Ok c =
    c.keep.ensures ∙ replace_kept _ _ _ _ c.in-Some.ensures.place c.in-Ok.ensures
