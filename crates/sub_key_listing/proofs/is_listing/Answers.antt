use native.Mathlib.Omega.{arith}
use mathlib.Core.Path.{sym, ◌∙◌}
use Rattle.sub_key_listing.proofs.Wellformed.{formed_never, formed_test}
use Rattle.sub_key_listing.proofs.is_listing.Goals as goal

pub returns-then-bytes-lt-FRAME : goal.returns-then-bytes-lt-FRAME
returns-then-bytes-lt-FRAME c =
    let l = c.if-bytes-lt-FRAME.true in sym (formed_never c.args.listing.now (λ e. omega (arith, e)))

pub returns-then-n-bytes : goal.returns-then-n-bytes
returns-then-n-bytes c =
    let l = c.if-n-bytes.true in sym (formed_never c.args.listing.now (λ e. omega (arith, e)))

pub returns : goal.returns
returns c =
    let l = c.if-n-bytes.false in c.is_framed.ensures ∙ formed_test c.args.listing.now (λ i. (c.type_inv.listing i).fits) _ (omega arith)
