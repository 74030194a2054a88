use mathlib.Core.Path.{refl, sym, ◌∙◌}
use Rattle.sub_key_listing.proofs.Comparing.{agreed_next, agreed_other, agreed_none}
use Rattle.sub_key_listing.proofs.ComparerTakes.take.Goals as goal
use Rattle.sub_key_listing.proofs.ComparerTakes.take.Goals.{in-Some, in_default-2, in_default}

pub returns : goal.returns
returns c =
    let a = c.args in (
      refl,
      elim c.match-self.branch [
        | in-Some w ↦ agreed_next a.self.listing.now a.k w.in-Some.is (sym w.u32_at.ensures ∙ w.if-u32_at-k.true) w.place-is
        | in_default-2 w ↦ agreed_other a.self.listing.now a.k w.in-Some.is (λ e. w.if-u32_at-k.false (w.u32_at.ensures ∙ e)) w.place-is
        | in_default w ↦ agreed_none a.self.listing.now a.k w.in_default.is w.place-is
      ],
    )
