use mathlib.Core.Path.{◌∙◌}
use native.Mathlib.Omega.{arith}
use Rattle.sub_key_list.proofs.Cases.{entries_fit}
use Rattle.sub_key_list.proofs.in_own_cell.Goals as goal

pub overflow_mul-entries : goal.overflow_mul-entries
overflow_mul-entries c =
    omega (arith, entries_fit c.entry_size-size.result c.half-number.result c.entry_size-size.type_inv c.half-number.type_inv)

pub overflow_add-entries : goal.overflow_add-entries
overflow_add-entries c =
    omega (arith, entries_fit c.entry_size-size.result c.half-number.result c.entry_size-size.type_inv c.half-number.type_inv)

pub returns : goal.returns
returns c =
    c.own_cell.ensures ∙ rw (c.entry_size-size.ensures, c.half-number.ensures)
