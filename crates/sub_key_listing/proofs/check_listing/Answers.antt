use mathlib.Core.Path.{sym, ap, ◌∙◌}
use Rattle.words.specs.Paper.{refused}
use Rattle.words.proofs.Papers.{handed_on}
use Rattle.sub_key_listing.specs.Answers.{check_paper}
use Rattle.sub_key_listing.proofs.Answers.{kept_number, check_bad, check_refused, check_other, check_accepted}
use Rattle.sub_key_listing.proofs.check_listing.Goals as goal

pub returns-then-not-is_listing : goal.returns-then-not-is_listing
returns-then-not-is_listing c =
    let a = c.args in
    ap refused c.refusal.ensures ∙ check_bad a.image.now a.key a.budget a.listing.now c.is_listing.ensures c.if-not-is_listing.true

pub returns-in_err-counts : goal.returns-in_err-counts
returns-in_err-counts c =
    let a = c.args in
    ap check_paper (handed_on _ c.from_residual.ensures) ∙ check_refused a.image.now a.key a.budget a.listing.now c.is_listing.ensures c.if-not-is_listing.false c.in_err-counts.ensures

pub is_right-requires-clause-counted : goal.is_right-requires-clause-counted
is_right-requires-clause-counted c =
    kept_number c.args.image.now c.args.key c.args.budget _ (sym c.in_ok-counts.ensures)

pub returns-then-not-is_right : goal.returns-then-not-is_right
returns-then-not-is_right c =
    let a = c.args in
    ap refused c.refusal-then-not-is_right.ensures
    ∙ check_other a.image.now a.key a.budget a.listing.now c.is_listing.ensures c.if-not-is_listing.false c.in_ok-counts.ensures c.is_right.ensures c.if-not-is_right.true

pub returns : goal.returns
returns c =
    let a = c.args in
    check_accepted a.image.now a.key a.budget a.listing.now c.is_listing.ensures c.if-not-is_listing.false c.in_ok-counts.ensures c.is_right.ensures c.if-not-is_right.false
