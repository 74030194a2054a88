use Rattle.std.proofs.Common.{rules}
use Rattle.std.proofs.lemmas.Result.{err_from_is_err_and}
use native.Mathlib.Omega.{arith}
use Rattle.hive_bin.specs.Walk.{bins_in}
use Rattle.hive_bin.proofs.Pieces.{bins_sound, bin_told, bin_room, bins_stop, bins_fail, bins_room, bins_go}
use Rattle.hive_bin.proofs.Sums.{starts, ends}
use Rattle.hive_bin.proofs.check_row.Goals as goal

pub loop-left-init : goal.loop-left-init
loop-left-init c = starts _ _ _ (search rules)

pub returns-in_default : goal.returns-in_default
unfolding bins_in
returns-in_default c = bins_stop _ c.loop-left.invariant c.loop-left-test.true c.in_default.ensures

pub overflow_sub-size : goal.overflow_sub-size
overflow_sub-size c = (bin_told _ _ _ c.in-Some.ensures).0

pub check_cells-requires : goal.check_cells-requires
check_cells-requires c = let k = bin_told _ _ _ c.in-Some.ensures in omega arith

pub returns-in_err-cells : goal.returns-in_err-cells
unfolding bins_in
returns-in_err-cells c =
    let p = err_from_is_err_and c.from_residual.result c.from_residual.ensures.1 in
    rw (p.1, p.2) (bins_fail _ c.loop-left.invariant c.in-Some.ensures c.check_cells.ensures c.in_err-cells.was)

pub plus-requires : goal.plus-requires
plus-requires c = bin_room _ _ _ c.in-Some.ensures _ c.check_cells.ensures c.in_ok-cells.was c.one_bin.ensures (omega arith)

pub plus-totals-requires : goal.plus-totals-requires
plus-totals-requires c =
    bins_room _ c.loop-left.invariant c.in-Some.ensures c.check_cells.ensures c.in_ok-cells.was c.one_bin.ensures c.plus.ensures (omega arith)

pub overflow_add-at-in-loop-left : goal.overflow_add-at-in-loop-left
overflow_add-at-in-loop-left c = let k = bin_told _ _ _ c.in-Some.ensures in omega arith

pub overflow_sub-left : goal.overflow_sub-left
overflow_sub-left c = (bin_told _ _ _ c.in-Some.ensures).1

pub loop-left-preserved : goal.loop-left-preserved
loop-left-preserved c =
    bins_go _ c.loop-left.invariant c.in-Some.ensures c.check_cells.ensures c.in_ok-cells.was c.one_bin.ensures c.plus.ensures c.plus-totals.ensures

pub returns : goal.returns
unfolding bins_in
returns c = ends c.loop-left.invariant (bins_sound _) c.loop-left-test.false
