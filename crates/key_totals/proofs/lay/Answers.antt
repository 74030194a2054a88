use Rattle.std.proofs.Common.{set, ap}
use Rattle.key_totals.specs.Table.{totals, laid}
use Rattle.key_totals.proofs.Sums.{exchanged}
use Rattle.key_totals.proofs.lay.Goals as goal

pub returns : goal.returns
unfolding laid
returns c =
    let a = c.args in
    ap (totals (set a.table.places a.at a.place)) (exchanged a.table.total c.counted-before.ensures c.counted-after.ensures)
