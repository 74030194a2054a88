use mathlib.Core.Path.{sym, ap, ◌∙◌}
use Rattle.words.specs.Paper.{verdict_paper}
use Rattle.words.proofs.Papers.{handed_on}
use Rattle.cell_key_node.specs.ValueList.{entry_of}
use Rattle.value_data.proofs.Pieces.{judged-on, judged-refused, judged-end}
use Rattle.value_data.proofs.check_segments.Goals as goal

pub returns-in_err-check_cell : goal.returns-in_err-check_cell
returns-in_err-check_cell c =
    let a = c.args in
    let l = c.loop-i in
    ap verdict_paper (handed_on _ c.from_residual.ensures)
    ∙ sym (judged-refused a.base (entry_of a.list.now) a.count a.image.now l.i l.left c.loop-i-test.true _ c.entry_position-position.ensures _ c.min-bytes.ensures (sym c.in_err-check_cell.ensures))
    ∙ l.invariant

pub loop-i-preserved : goal.loop-i-preserved
loop-i-preserved c =
    let a = c.args in
    let l = c.loop-i in
    sym (judged-on a.base (entry_of a.list.now) a.count a.image.now l.i l.left c.loop-i-test.true _ c.entry_position-position.ensures _ c.min-bytes.ensures (sym c.in_ok-check_cell.ensures)) ∙ l.invariant

pub returns : goal.returns
returns c =
    let a = c.args in
    let l = c.loop-i in
    sym (judged-end a.base (entry_of a.list.now) a.count a.image.now l.i l.left c.loop-i-test.false) ∙ l.invariant
