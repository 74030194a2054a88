use Rattle.std.proofs.Common.{◌≡◌, map}
use Rattle.replay_case.specs.Sums.{sums_of, place_at}
use Rattle.replay_case.proofs.Sums.of_row.Given as goal

abbrev pub invariant-loop-x : goal.invariant-loop-x
invariant-loop-x g l =
    l.sums ≡ sums_of (place_at (map g.T.Number.number l.row)) l.x-index
