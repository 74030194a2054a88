use native.Mathlib.Omega.{arith}
use Rattle.hive_bin.proofs.Steps.{no_cell_in, cell_fits, a_cell_in}
use Rattle.hive_bin.proofs.cell_in.Goals as goal

pub returns-in_default : goal.returns-in_default
returns-in_default c = no_cell_in _ _ _ _ c.i32_at-word.type_inv c.i32_at-word.ensures c.in_default.ensures

pub overflow_add-place : goal.overflow_add-place
overflow_add-place c =
    let f = cell_fits _ _ _ _ c.i32_at-word.type_inv c.i32_at-word.ensures c.in-Some.ensures in omega arith

pub returns : goal.returns
returns c = a_cell_in _ _ _ _ c.i32_at-word.type_inv c.i32_at-word.ensures c.in-Some.ensures c.next_of-next.ensures
