use mathlib.Core.Path.{ap}
use mathlib.Core.Bool.{not}
use Rattle.std.proofs.Common.{◌∙◌}
use Rattle.key_totals.proofs.Calls.{replace_elsewhere, replace_in_place}
use Rattle.key_totals.proofs.replace.Goals as goal

pub returns-then-not-there : goal.returns-then-not-there
returns-then-not-there c =
    let a = c.args in
    c.elsewhere.ensures ∙ replace_elsewhere a.table a.image.now a.key a.budget _ c.is_in_place-there.ensures (ap not c.if-not-there.true)

pub returns : goal.returns
returns c =
    let a = c.args in
    c.replace_here.ensures ∙ replace_in_place a.table a.image.now a.key a.budget _ c.is_in_place-there.ensures (ap not c.if-not-there.false)
