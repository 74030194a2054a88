use Rattle.std.proofs.Common.{replicate, ap}
use Rattle.key_totals.specs.declared.Place.{Place}
use Rattle.key_totals.specs.Table.{PLACES, totals}
use Rattle.key_totals.proofs.empty.Goals as goal

pub returns : goal.returns
returns c =
    ap (λ (e : Place). totals (replicate PLACES e) 0) c.nothing-place.ensures
