use Rattle.list_conversion.proofs.Answers.{li_answered}
use Rattle.list_conversion.proofs.write_li.Goals as goal

pub returns : goal.returns
returns c =
    let a = c.args in
    li_answered a.list.now a.position a.out.now _ _ c.from-list.ensures.bytes c.count_of-judged.result c.count_of-judged.ensures c.lay.ensures
