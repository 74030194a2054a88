use mathlib.Core.Path.{ap}
use mathlib.Core.Bool.{not}
use Rattle.std.proofs.Common.{◌∙◌}
use Rattle.key_totals.proofs.Calls.{add_elsewhere, add_in_place}
use Rattle.key_totals.proofs.add.Goals as goal

pub returns-then-not-stands : goal.returns-then-not-stands
returns-then-not-stands c =
    let a = c.args in
    c.elsewhere.ensures ∙ add_elsewhere a.table a.image.now a.key a.budget _ c.is_in_place-stands.ensures (ap not c.if-not-stands.true)

pub returns : goal.returns
returns c =
    let a = c.args in
    c.add_here.ensures ∙ add_in_place a.table a.image.now a.key a.budget _ c.is_in_place-stands.ensures (ap not c.if-not-stands.false)
