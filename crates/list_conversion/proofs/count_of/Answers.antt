use mathlib.Core.Path.{ap, sym, ◌∙◌}
use Rattle.words.proofs.Papers.{handed_on}
use Rattle.list_conversion.specs.Entries.{count_paper}
use Rattle.list_conversion.proofs.Entries.{count-refused, count_index, count_other, count_known}
use Rattle.sub_key_list.proofs.Papers.{read_as}
use Rattle.sub_key_list.specs.Lists.{word_of}
use Rattle.list_conversion.proofs.count_of.Goals as goal

pub returns-in_err-leaf : goal.returns-in_err-leaf
returns-in_err-leaf c =
    let a = c.args in
    ap count_paper (handed_on _ c.from_residual.ensures) ∙ count-refused (word_of a.kind) a.list.now a.position c.in_err-leaf.ensures

pub returns-in-Leaf : goal.returns-in-Leaf
returns-in-Leaf c =
    let a = c.args in
    count_known (word_of a.kind) a.list.now a.position (read_as c.in-Leaf.is c.in_ok-leaf.ensures) (sym c.word.ensures ∙ c.if-word.true ∙ c.word-word.ensures)

pub returns-in_default : goal.returns-in_default
returns-in_default c =
    let a = c.args in
    count_other (word_of a.kind) a.list.now a.position (read_as c.in-Leaf.is c.in_ok-leaf.ensures) (λ q. c.if-word.false (c.word.ensures ∙ q ∙ sym c.word-word.ensures))

pub returns-in_default-2 : goal.returns-in_default-2
returns-in_default-2 c =
    let a = c.args in
    count_index (word_of a.kind) a.list.now a.position (read_as c.in_default.is c.in_ok-leaf.ensures)
