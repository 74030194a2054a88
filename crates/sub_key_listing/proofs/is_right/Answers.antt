use mathlib.Core.Path.{sym, ap, ◌∙◌}
use mathlib.Core.Bool.{Bool, ◌&&◌}
use native.Mathlib.Omega.{arith}
use Rattle.sub_key_listing.proofs.Right.{offsets_fit, right_never, right_test}
use Rattle.sub_key_listing.specs.Answers.{offsets_of}
use Rattle.sub_key_listing.specs.Steps.{agrees}
use Rattle.sub_key_listing.proofs.is_right.Goals as goal

pub returns-then-listing-needed : goal.returns-then-listing-needed
returns-then-listing-needed c =
    let a = c.args in let l = c.if-listing-needed.true in right_never a.listing.now a.key.base a.key.position (offsets_of a.image.now a.key) (λ e. omega (arith, c.requires.counted, e))

pub returns-then-opens_with : goal.returns-then-opens_with
returns-then-opens_with c =
    let a = c.args in
    let l = c.if-listing-needed.false in
    c.offsets_agree.ensures ∙ ap (λ (q : Bool). q && agrees a.listing.now (offsets_of a.image.now a.key)) (sym c.if-opens_with.true)
    ∙ right_test a.listing.now c.requires.formed a.key.base a.key.position (offsets_of a.image.now a.key) (omega (arith, c.requires.counted)) (offsets_fit a.image.now a.key) c.opens_with.ensures

pub returns-else-opens_with : goal.returns-else-opens_with
returns-else-opens_with c =
    let a = c.args in
    let l = c.if-listing-needed.false in
    c.if-opens_with.false ∙ ap (λ (q : Bool). q && agrees a.listing.now (offsets_of a.image.now a.key)) (sym c.if-opens_with.false)
    ∙ right_test a.listing.now c.requires.formed a.key.base a.key.position (offsets_of a.image.now a.key) (omega (arith, c.requires.counted)) (offsets_fit a.image.now a.key) c.opens_with.ensures
