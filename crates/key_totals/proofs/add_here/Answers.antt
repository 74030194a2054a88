use Rattle.std.proofs.Common.{ap, sym, ◌∙◌}
use Rattle.key_totals.specs.Table.{refusing}
use Rattle.key_totals.proofs.Calls.{add_there, add-refused, add-full, add_kept}
use Rattle.key_totals.proofs.add_here.Goals as goal

pub returns-then-is_some : goal.returns-then-is_some
returns-then-is_some c =
    c.refuse.ensures
    ∙ ap (refusing c.args.table) c.told.ensures
    ∙ add_there _ _ _ _ _ c.first.ensures.place (sym c.is_some.ensures ∙ c.if-is_some.true)

pub returns-in-Err : goal.returns-in-Err
returns-in-Err c =
    c.refuse-in-Err.ensures ∙ add-refused _ _ _ _ _ c.first.ensures.place (sym c.is_some.ensures ∙ c.if-is_some.false) _ c.in-Err.ensures

pub returns-in-None : goal.returns-in-None
returns-in-None c =
    c.refuse-in-None.ensures
    ∙ ap (refusing c.args.table) c.told-in-None.ensures
    ∙ add-full _ _ _ _ _ c.first.ensures.place (sym c.is_some.ensures ∙ c.if-is_some.false) c.in-Ok.ensures c.in-None.ensures.place

pub returns-in-Some : goal.returns-in-Some
returns-in-Some c =
    c.keep.ensures ∙ add_kept _ _ _ _ _ c.first.ensures.place (sym c.is_some.ensures ∙ c.if-is_some.false) c.in-Ok.ensures c.in-Some.ensures.place
