use mathlib.Core.Path.{◌∙◌, ap}
use Prim.Native.Nat.{ℕ}
use Rattle.writing.specs.Writing.{with_bytes}
use Rattle.sub_key_listing.specs.Listing.{plain}
use Rattle.sub_key_listing.proofs.Records.{plain-put}
use Rattle.sub_key_listing.proofs.put_plain.Goals as goal

pub returns : goal.returns
returns c =
    let a = c.args in
    plain-put a.out.now a.at c.number.result a.x c.requires c.put_u32.ensures c.put_u16.ensures c.put_u32-2.ensures
    ∙ ap (λ (k : ℕ). with_bytes a.out.now a.at (plain k a.x)) c.number.ensures
