use mathlib.Core.Path.{sym, ◌∙◌}
use Rattle.words.proofs.Little.{little_2}
use Rattle.sub_key_list.proofs.half.Goals as goal

pub returns : goal.returns
returns c =
    let a = c.args in
    c.join2.ensures ∙ sym (little_2 a.image.now a.at)
