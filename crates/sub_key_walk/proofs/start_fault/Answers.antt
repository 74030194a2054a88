use borrow.Author.Tests.{lt-ltb, le-ltb}
use Rattle.sub_key_walk.specs.Answers.{BUDGET_LIMIT, COUNT_LIMIT}
use Rattle.sub_key_walk.specs.Walk.{start_fault}
use Rattle.sub_key_walk.proofs.start_fault.Goals as goal

pub returns-then-budget-gt-BUDGET_LIMIT : goal.returns-then-budget-gt-BUDGET_LIMIT
unfolding start_fault
returns-then-budget-gt-BUDGET_LIMIT c =
    rw (lt-ltb BUDGET_LIMIT _ c.if-budget-gt-BUDGET_LIMIT.true)

pub returns-then-count-gt-COUNT_LIMIT : goal.returns-then-count-gt-COUNT_LIMIT
unfolding start_fault
returns-then-count-gt-COUNT_LIMIT c =
    rw (le-ltb BUDGET_LIMIT _ c.if-budget-gt-BUDGET_LIMIT.false, lt-ltb COUNT_LIMIT _ c.if-count-gt-COUNT_LIMIT.true)

pub returns : goal.returns
unfolding start_fault
returns c =
    rw (le-ltb BUDGET_LIMIT _ c.if-budget-gt-BUDGET_LIMIT.false, le-ltb COUNT_LIMIT _ c.if-count-gt-COUNT_LIMIT.false)
