use Rattle.base_block.specs.Sheets.{Written, laid}
use Rattle.base_block.proofs.fold.Given as goal

abbrev pub invariant-loop-i : goal.invariant-loop-i
invariant-loop-i l =
    Written l.i (laid l.initial.sheet l.half) l.initial.sheet l.sheet
