use Rattle.key_totals.specs.Table.{suits}
use Rattle.key_totals.proofs.Places.{Left}
use Rattle.key_totals.proofs.first.Given as goal

abbrev pub invariant-loop-i : goal.invariant-loop-i
invariant-loop-i l =
    Left (suits l.wanted) l.table.places l.i
