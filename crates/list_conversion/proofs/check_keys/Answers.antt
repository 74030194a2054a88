use mathlib.Core.Path.{sym, ap, ◌∙◌}
use Rattle.words.specs.Paper.{verdict_paper}
use Rattle.words.proofs.Papers.{handed_on}
use Rattle.list_conversion.specs.Entries.{offset_in}
use Rattle.list_conversion.proofs.Entries.{judging_on, judging_refused, judging_end}
use Rattle.list_conversion.proofs.check_keys.Goals as goal

pub returns-in_err-key_hash : goal.returns-in_err-key_hash
returns-in_err-key_hash c =
    let a = c.args in
    let l = c.loop-i in
    ap verdict_paper (handed_on _ c.from_residual.ensures)
    ∙ sym (judging_refused a.image.now a.base (offset_in a.list.now 4) a.count l.i c.loop-i-test.true c.place_of-key.ensures c.in_err-key_hash.ensures) ∙ l.invariant

pub loop-i-preserved : goal.loop-i-preserved
loop-i-preserved c =
    let a = c.args in
    let l = c.loop-i in
    sym (judging_on a.image.now a.base (offset_in a.list.now 4) a.count l.i c.loop-i-test.true c.place_of-key.ensures c.in_ok-key_hash.ensures) ∙ l.invariant

pub returns : goal.returns
returns c =
    let a = c.args in
    let l = c.loop-i in
    sym (judging_end a.image.now a.base (offset_in a.list.now 4) a.count l.i c.loop-i-test.false) ∙ l.invariant
