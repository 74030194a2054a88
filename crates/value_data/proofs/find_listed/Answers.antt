use mathlib.Core.Path.{sym, ap, ◌∙◌}
use Rattle.words.proofs.Papers.{handed_on}
use Rattle.value_data.specs.Answers.{find_paper}
use Rattle.value_data.proofs.Sizes.{needed_fits}
use Rattle.value_data.proofs.Places.{list-refused, segments-refused, segments-whole}
use Rattle.value_data.proofs.find_listed.Goals as goal

pub overflow_mul-entries : goal.overflow_mul-entries
overflow_mul-entries c =
    rw c.requires (needed_fits c.args.size c.ranges.size)

pub returns-in_err-check_cell : goal.returns-in_err-check_cell
returns-in_err-check_cell c =
    let a = c.args in
    ap (find_paper a.image.now a.base a.size) (handed_on _ c.from_residual.ensures) ∙ list-refused _ _ _ _ c.requires (sym c.in_err-check_cell.ensures)

pub returns-in_err-check_segments : goal.returns-in_err-check_segments
returns-in_err-check_segments c =
    let a = c.args in
    ap (find_paper a.image.now a.base a.size) (handed_on _ c.from_residual-in_err-check_segments.ensures)
    ∙ segments-refused _ _ _ _ c.requires c.from-list.ensures.bytes (sym c.in_ok-check_cell.ensures) (sym c.in_err-check_segments.ensures)

pub returns : goal.returns
returns c =
    segments-whole _ _ _ _ c.requires c.from-list.ensures.bytes (sym c.in_ok-check_cell.ensures) (sym c.in_ok-check_segments.ensures)
