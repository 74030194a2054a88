use borrow.Author.Rules.{rules}
use mathlib.Core.Path.{ap, ◌∙◌}
use mathlib.Core.Bool.{not}
use Rattle.sub_key_list.proofs.Strict.{checks_barred, checks_cell, checks_whole}
use Rattle.sub_key_list.proofs.strict_checks.Goals as goal

pub returns-then-barred : goal.returns-then-barred
returns-then-barred c =
    (search rules) ∙ checks_barred _ _ _ _ c.requires.1 c.bars-barred.ensures c.if-barred.true

pub returns-then-not-whole : goal.returns-then-not-whole
returns-then-not-whole c =
    (search rules) ∙ checks_cell _ _ _ _ c.requires.1 c.bars-barred.ensures (search rules) c.in_own_cell-whole.ensures (ap not c.if-not-whole.true)

pub returns : goal.returns
returns c =
    checks_whole _ _ _ _ c.requires.1 c.bars-barred.ensures c.if-barred.false c.in_own_cell-whole.ensures (ap not c.if-not-whole.false)
