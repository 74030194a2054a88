use Rattle.std.proofs.Common.{ap, refl, ◌∙◌}
use Rattle.words.specs.Paper.{refused}
use Rattle.key_totals.proofs.Places.{found_none, found_some}
use Rattle.key_totals.proofs.Calls.{number_nowhere, number_there}
use Rattle.key_totals.proofs.kept_of.Goals as goal

pub returns-in-None : goal.returns-in-None
returns-in-None c = ap refused c.told.ensures ∙ number_nowhere _ _ refl (found_none _ c.in-None.ensures.place)

pub returns-in-Some : goal.returns-in-Some
returns-in-Some c = let k = found_some _ c.in-Some.ensures.place in number_there _ _ k.0 k.1
