use mathlib.Core.Path.{refl}
use Rattle.words.proofs.Papers.{handed_on}
use Rattle.sub_key_walk.proofs.Answers.{walk_refused, walk_full, walk_empty, walk_roomy, walk_filled}
use Rattle.sub_key_walk.proofs.Profiles.{reached_alike}
use Rattle.sub_key_walk.proofs.sub_keys_by.Goals as goal

pub returns-in_err-sum : goal.returns-in_err-sum
returns-in_err-sum c =
    let a = c.args in
    walk_refused a.image.now a.base a.count a.list a.budget _ (reached_alike a.profile a.image.now a.base a.count a.list a.budget) a.out.now _ c.in_err-sum.ensures refl (handed_on _ c.from_residual.ensures)

pub returns-then-out-sum : goal.returns-then-out-sum
returns-then-out-sum c =
    let a = c.args in
    walk_full a.image.now a.base a.count a.list a.budget _ (reached_alike a.profile a.image.now a.base a.count a.list a.budget) a.out.now _ c.in_ok-sum.ensures refl c.if-out-sum.true _ c.full.ensures

pub fill_top-requires : goal.fill_top-requires
fill_top-requires c =
    let a = c.args in
    walk_roomy a.image.now a.base a.count a.list a.budget _ (reached_alike a.profile a.image.now a.base a.count a.list a.budget) a.out.now _ c.in_ok-sum.ensures refl c.if-out-sum.false c.if-sum-gt0.true refl

pub returns-then-sum-gt0 : goal.returns-then-sum-gt0
returns-then-sum-gt0 c =
    let a = c.args in
    walk_filled a.image.now a.base a.count a.list a.budget _ (reached_alike a.profile a.image.now a.base a.count a.list a.budget) a.out.now _ c.in_ok-sum.ensures refl c.if-out-sum.false c.if-sum-gt0.true c.fill_top.ensures

pub returns-else-sum-gt0 : goal.returns-else-sum-gt0
returns-else-sum-gt0 c =
    let a = c.args in
    walk_empty a.image.now a.base a.count a.list a.budget _ (reached_alike a.profile a.image.now a.base a.count a.list a.budget) a.out.now _ c.in_ok-sum.ensures refl c.if-out-sum.false c.if-sum-gt0.false
