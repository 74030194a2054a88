use Rattle.std.proofs.Common.{get_or, ap, ◌∙◌}
use Rattle.words.specs.Paper.{success}
use Rattle.key_totals.specs.declared.Totals.{Totals}
use Rattle.key_totals.specs.Table.{free, outcome, refusing, laid}
use Rattle.key_totals.proofs.Calls.{remove-nowhere, removed}
use Rattle.key_totals.proofs.remove.Goals as goal

pub returns-in-None : goal.returns-in-None
returns-in-None c = c.refuse.ensures ∙ ap (refusing c.args.table) c.told.ensures ∙ remove-nowhere _ _ c.in-None.ensures.place

pub returns-in-Some : goal.returns-in-Some
returns-in-Some c =
    let a = c.args in
    let n = c.in-Some.at in
    ap (λ (t : Totals). outcome t (success (get_or a.table.places n free).kept)) (c.lay.ensures ∙ ap (laid a.table n) c.nothing.ensures)
    ∙ removed a.table a.position c.in-Some.ensures.place
