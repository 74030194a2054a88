use Rattle.words.proofs.Signed.{back}
use borrow.Author.Rules.{rules}
use mathlib.Core.Path.{refl, sym, ap, ◌∙◌}
use native.Mathlib.Omega.{arith}
use Rattle.hive_bin.specs.Steps.{step_paper}
use Rattle.deleted_keys.proofs.Scans.{told_as, starts, further, goes, ends, fault_in, fails}
use Rattle.deleted_keys.proofs.scan.Goals as goal

pub loop-cell-init : goal.loop-cell-init
loop-cell-init c =
    starts _ _ _ _ _

pub overflow_add-position : goal.overflow_add-position
overflow_add-position c =
    let w = c in
    let is = told_as c.in-Ok-Some.is c.in-Ok-Some.field-0-is w.tell.ensures in
    let k = further _ _ _ _ _ _ _ _ w.loop-cell.invariant _ is in
    omega arith

pub note-n-requires : goal.note-n-requires
note-n-requires c =
    let w = c in
    let is = told_as c.in-Ok-Some.is c.in-Ok-Some.field-0-is w.tell.ensures in
    let k = further _ _ _ _ _ _ _ _ w.loop-cell.invariant _ is in
    let so = w.loop-cell.invariant in
    (omega arith, omega arith)

pub loop-cell-smaller : goal.loop-cell-smaller
loop-cell-smaller c =
    let w = c in
    let is = told_as c.in-Ok-Some.is c.in-Ok-Some.field-0-is w.tell.ensures in
    let k = further _ _ _ _ _ _ _ _ w.loop-cell.invariant _ is in
    omega arith

pub loop-cell-preserved : goal.loop-cell-preserved
loop-cell-preserved c =
    let w = c in
    let is = told_as c.in-Ok-Some.is c.in-Ok-Some.field-0-is w.tell.ensures in
    goes _ _ _ _ _ _ _ _ w.loop-cell.invariant _ is _ (rw (back c.in-Ok-Some.cell.size (search rules)) at c.is_deleted-listed.ensures) (omega arith) c.note-n.ensures

pub returns-in-Ok-None : goal.returns-in-Ok-None
returns-in-Ok-None c =
    let w = c in
    ends _ _ _ _ _ _ _ _ w.loop-cell.invariant (told_as c.in-Ok-None.is c.in-Ok-None.field-0-is w.tell.ensures)

pub overflow_add-result : goal.overflow_add-result
overflow_add-result c =
    let w = c in
    let k = fault_in _ _ _ _ _ _ _ _ w.loop-cell.invariant _ (ap step_paper (sym c.in-Err.is) ∙ w.tell.ensures) in
    omega arith

pub returns-in-Err : goal.returns-in-Err
returns-in-Err c =
    let w = c in
    fails _ _ _ _ _ _ _ _ w.loop-cell.invariant _ (ap step_paper (sym c.in-Err.is) ∙ w.tell.ensures) refl
