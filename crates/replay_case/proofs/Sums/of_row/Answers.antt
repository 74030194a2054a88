use Rattle.std.proofs.Common.{rules}
use Rattle.replay_case.specs.Sums.{sums_of}
use Rattle.replay_case.proofs.Laws.{sums_more}
use Rattle.replay_case.proofs.Sums.of_row.Goals as goal

pub loop-x-init : goal.loop-x-init
unfolding sums_of
loop-x-init g c =
    search rules

pub loop-x-preserved : goal.loop-x-preserved
loop-x-preserved g c =
    cc (sums_more g.T.Number.number c.args.row.now c.loop-x.x-index c.x-item.result (search rules) (search rules))
