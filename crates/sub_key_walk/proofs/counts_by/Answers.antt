use mathlib.Core.Path.{refl, ap, ◌∙◌}
use Rattle.words.specs.Paper.{refused}
use Rattle.words.proofs.Papers.{numbered}
use Rattle.sub_key_walk.specs.Walk.{walk_by}
use Rattle.sub_key_walk.proofs.Answers.{measured-fault, measured-none, measured-judge, fault-none}
use Rattle.sub_key_walk.proofs.counts_by.Goals as goal

pub returns-in-Some : goal.returns-in-Some
returns-in-Some c =
    let a = c.args in
    ap refused c.refusal.ensures ∙ measured-fault a.count a.budget (walk_by a.profile a.image.now a.base a.list) c.in-Some.ensures (numbered c.in-Some.reason)

pub returns-then-count-eq0 : goal.returns-then-count-eq0
returns-then-count-eq0 c =
    let a = c.args in
    measured-none a.count a.budget (walk_by a.profile a.image.now a.base a.list) c.in_default.ensures refl c.if-count-eq0.true

pub measure_top-requires : goal.measure_top-requires
measure_top-requires c =
    let a = c.args in
    (fault-none a.count a.budget (walk_by a.profile a.image.now a.base a.list) c.in_default.ensures refl).0

pub returns : goal.returns
returns c =
    let a = c.args in
    measured-judge a.count a.budget (walk_by a.profile a.image.now a.base a.list) c.in_default.ensures refl c.if-count-eq0.false c.measure_top.ensures
