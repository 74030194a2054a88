use mathlib.Core.Path.{ap, ◌∙◌}
use Rattle.words.proofs.Papers.{handed_on}
use Rattle.list_conversion.specs.Entries.{count_paper}
use Rattle.list_conversion.proofs.Entries.{judge_uncounted, judge-refused, judge-whole}
use Rattle.list_conversion.proofs.judge_lh.Goals as goal

pub returns-in_err-count : goal.returns-in_err-count
returns-in_err-count c =
    let a = c.args in
    ap count_paper (handed_on _ c.from_residual.ensures) ∙ judge_uncounted a.list.now a.position a.image.now a.base c.in_err-count.ensures

pub returns-in_err-check_keys : goal.returns-in_err-check_keys
returns-in_err-check_keys c =
    let a = c.args in
    ap count_paper (handed_on _ c.from_residual-in_err-check_keys.ensures)
    ∙ judge-refused a.list.now a.position a.image.now a.base c.in_ok-count.ensures c.from-entries.ensures.bytes c.in_err-check_keys.ensures

pub returns : goal.returns
returns c =
    let a = c.args in
    judge-whole a.list.now a.position a.image.now a.base c.in_ok-count.ensures c.from-entries.ensures.bytes c.in_ok-check_keys.ensures
