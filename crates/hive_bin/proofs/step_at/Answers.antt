use Rattle.std.proofs.lemmas.Bool.Decides.{nat_tests}
use Rattle.std.proofs.lemmas.Result.{err_from_is_err_and}
use native.Mathlib.Omega.{arith}
use Rattle.hive_bin.proofs.Pieces.{bin_told}
use Rattle.hive_bin.proofs.Steps.{ends_there, no_bin_there, in_bin}
use Rattle.hive_bin.proofs.step_at.Goals as goal
use Rattle.hive_bin.proofs.step_at.Goals.{then-spot-bin, else-spot-bin}

pub returns-then-at_end : goal.returns-then-at_end
returns-then-at_end c = ends_there _ _ c.if-at_end.ensures

pub returns-in_default : goal.returns-in_default
returns-in_default c = no_bin_there _ _ c.if-at_end.ensures c.in_default.ensures

pub overflow_add-place : goal.overflow_add-place
overflow_add-place c = let f = bin_told _ _ _ c.in-Some.ensures in omega arith

pub overflow_add-bin : goal.overflow_add-bin
overflow_add-bin c = let f = bin_told _ _ _ c.in-Some.ensures in omega arith

pub cell_in-requires : goal.cell_in-requires
cell_in-requires c = let f = bin_told _ _ _ c.in-Some.ensures in omega arith

pub returns-in_err-cell : goal.returns-in_err-cell
returns-in_err-cell c =
    let p = err_from_is_err_and c.from_residual.result c.from_residual.ensures.1 in
    rw (p.1, p.2) (in_bin _ _ c.if-at_end.ensures c.in-Some.ensures (elim c.if-spot-bin.branch [ then-spot-bin w ↦ grind (arith, nat_tests, w.place-is) | else-spot-bin w ↦ grind (arith, nat_tests, w.place-is) ]) c.in_err-cell.ensures)

pub returns : goal.returns
returns c = in_bin _ _ c.if-at_end.ensures c.in-Some.ensures (elim c.if-spot-bin.branch [ then-spot-bin w ↦ grind (arith, nat_tests, w.place-is) | else-spot-bin w ↦ grind (arith, nat_tests, w.place-is) ]) c.in_ok-cell.ensures
