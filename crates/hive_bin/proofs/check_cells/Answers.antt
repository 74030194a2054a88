use Rattle.std.proofs.Common.{rules}
use native.Mathlib.Omega.{arith}
use Rattle.hive_bin.proofs.Pieces.{cells_sound, cells_stop, cells_fit, cells_room, cells_go}
use Rattle.hive_bin.proofs.Sums.{starts, ends}
use Rattle.hive_bin.proofs.check_cells.Goals as goal

pub loop-rest-init : goal.loop-rest-init
loop-rest-init c = starts _ _ _ (search rules)

pub returns-in_default : goal.returns-in_default
returns-in_default c = cells_stop _ c.loop-rest.invariant c.i32_at-word.type_inv c.i32_at-word.ensures c.loop-rest-test.true c.in_default.ensures

pub plus-totals-requires : goal.plus-totals-requires
plus-totals-requires c =
    cells_room _ c.loop-rest.invariant c.i32_at-word.type_inv c.i32_at-word.ensures c.in-Some.ensures c.cell_totals.ensures (omega arith)

pub overflow_add-here : goal.overflow_add-here
overflow_add-here c =
    let f = cells_fit _ c.loop-rest.invariant c.i32_at-word.type_inv c.i32_at-word.ensures c.in-Some.ensures in omega arith

pub overflow_sub-rest : goal.overflow_sub-rest
overflow_sub-rest c =
    let f = cells_fit _ c.loop-rest.invariant c.i32_at-word.type_inv c.i32_at-word.ensures c.in-Some.ensures in omega arith

pub loop-rest-preserved : goal.loop-rest-preserved
loop-rest-preserved c =
    cells_go _ c.loop-rest.invariant c.i32_at-word.type_inv c.i32_at-word.ensures c.in-Some.ensures c.cell_totals.ensures c.plus-totals.ensures

pub returns : goal.returns
returns c = ends c.loop-rest.invariant (cells_sound _) c.loop-rest-test.false
