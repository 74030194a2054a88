use mathlib.Core.Path.{◌∙◌}
use Rattle.cell.proofs.Cells.{cell_outside, cell_no_word, cell_passes, cell_small, cell-held}
use Rattle.cell.proofs.cell_at.Goals as goal

pub returns-then-image-position : goal.returns-then-image-position
returns-then-image-position c =
    let a = c.args in c.refuse.ensures ∙ cell_outside a.image.now a.position a.least c.if-image-position.true

pub returns-then-left-lt-SIZE_WORD : goal.returns-then-left-lt-SIZE_WORD
returns-then-left-lt-SIZE_WORD c =
    let a = c.args in c.refuse-then-left-lt-SIZE_WORD.ensures ∙ cell_no_word a.image.now a.position a.least c.if-image-position.false c.if-left-lt-SIZE_WORD.true

pub returns-then-left-size : goal.returns-then-left-size
returns-then-left-size c =
    let a = c.args in c.refuse-then-left-size.ensures ∙ cell_passes a.image.now a.position a.least c.if-image-position.false c.if-left-lt-SIZE_WORD.false c.size_at-cell.ensures c.if-left-size.true

pub returns-then-size-least : goal.returns-then-size-least
returns-then-size-least c =
    let a = c.args in cell_small a.image.now a.position a.least c.if-image-position.false c.if-left-lt-SIZE_WORD.false c.size_at-cell.ensures c.if-left-size.false c.if-size-least.true

pub returns : goal.returns
returns c =
    let a = c.args in cell-held a.image.now a.position a.least c.if-image-position.false c.if-left-lt-SIZE_WORD.false c.size_at-cell.ensures c.if-left-size.false c.if-size-least.false
