use mathlib.Core.Path.{sym, ap, ◌∙◌}
use Prim.Native.Nat.{◌+◌}
use Rattle.words.proofs.Papers.{handed_on}
use Rattle.value_data.specs.Pieces.{piece}
use Rattle.value_data.specs.Answers.{find_paper}
use Rattle.value_data.proofs.Places.{one-whole, one-refused, in_cell}
use Rattle.value_data.proofs.find_data.Goals as goal

pub returns-in_err-check_cell : goal.returns-in_err-check_cell
returns-in_err-check_cell c =
    let a = c.args in
    ap (find_paper a.image.now a.base a.size) (handed_on _ c.from_residual.ensures)
    ∙ one-refused a.image.now (piece (a.offset + a.base) a.size) (sym c.in_err-check_cell.ensures) ∙ in_cell _ _ _ _ _ _ c.if-resident.false c.if-size-eq0.false (sym c.is_big.ensures ∙ c.if-is_big.false)

pub returns : goal.returns
returns c =
    let a = c.args in
    one-whole a.image.now (piece (a.offset + a.base) a.size) (sym c.in_ok-check_cell.ensures) ∙ in_cell _ _ _ _ _ _ c.if-resident.false c.if-size-eq0.false (sym c.is_big.ensures ∙ c.if-is_big.false)
