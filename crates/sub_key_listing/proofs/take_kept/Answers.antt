use mathlib.Core.Path.{sym, ap, ◌∙◌}
use mathlib.Core.List.{[], ◌∷◌}
use Prim.Native.Nat.{ℕ, ◌+◌}
use native.Mathlib.Omega.{arith}
use Rattle.sub_key_list.proofs.Leaves.{keep_kept, keep_dropped}
use Rattle.sub_key_walk.proofs.Uses.{ready_as, goes_as, goes_nowhere}
use Rattle.sub_key_listing.proofs.take_kept.Goals as goal

pub take-requires : goal.take-requires
take-requires g c =
    let e = c.in-Some.ensures in
    ready_as g.T.Takes.taking (keep_kept (c.args.v + c.args.base) e.0 ∙ ap (λ (k : ℕ). k ∷ []) (sym e.1)) c.requires

pub returns-in-Some : goal.returns-in-Some
returns-in-Some g c =
    let e = c.in-Some.ensures in
    goes_as g.T.Takes.taking (keep_kept (c.args.v + c.args.base) e.0 ∙ ap (λ (k : ℕ). k ∷ []) (sym e.1)) c.take.ensures

pub returns-in-None : goal.returns-in-None
returns-in-None g c =
    let e = c.in-None.ensures in
    goes_nowhere g.T.Takes.taking (c.args.from, c.args.out.now) (keep_dropped (c.args.v + c.args.base) (omega (arith, e)))
