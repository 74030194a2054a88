use Rattle.list_conversion.proofs.Rows.{Filling}
use Rattle.list_conversion.proofs.put_entries.Given as goal

abbrev pub invariant-loop-i : goal.invariant-loop-i
invariant-loop-i g l =
    Filling g.E.Row.size (g.E.Row.entry l.row) l.count l.initial.out l.out l.i
