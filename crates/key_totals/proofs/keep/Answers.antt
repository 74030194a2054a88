use Rattle.std.proofs.Common.{ap}
use Rattle.words.specs.Paper.{success}
use Rattle.key_totals.specs.declared.Totals.{Totals}
use Rattle.key_totals.specs.Table.{outcome}
use Rattle.key_totals.proofs.keep.Goals as goal

pub returns : goal.returns
returns c =
    ap (λ (t : Totals). outcome t (success c.args.kept)) c.lay.ensures
