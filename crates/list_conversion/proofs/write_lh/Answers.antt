use Rattle.list_conversion.proofs.Answers.{lh_answered}
use Rattle.list_conversion.proofs.write_lh.Goals as goal

pub returns : goal.returns
returns c =
    let a = c.args in
    lh_answered a.list.now a.position a.out.now _ _ c.from-list.ensures.bytes c.judge_lh-judged.result a.image.now a.base c.judge_lh-judged.ensures c.lay.ensures
