use Rattle.std.proofs.Common.{rules}
use Rattle.key_totals.specs.Table.{suits}
use Rattle.key_totals.proofs.is_wanted.Goals as goal

pub returns-in-Free : goal.returns-in-Free
unfolding suits
returns-in-Free c =
    search rules

pub returns-then-place : goal.returns-then-place
unfolding suits
returns-then-place c =
    simp (c.in-Key.is, c.if-place.true)

pub returns-else-place : goal.returns-else-place
unfolding suits
returns-else-place c =
    search rules
