use Rattle.std.proofs.Common.{ap, ◌∙◌}
use Rattle.key_totals.specs.Table.{refusing}
use Rattle.key_totals.proofs.elsewhere.Goals as goal

pub returns : goal.returns
returns c =
    c.refuse.ensures ∙ ap (refusing c.args.table) c.told.ensures
