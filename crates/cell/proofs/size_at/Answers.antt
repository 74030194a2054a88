use mathlib.Core.Path.{ap, ◌∙◌}
use lib.IntN.{pos, nat_abs}
use lib.Signed.{lt_z}
use Rattle.words.proofs.Signed.{held}
use Rattle.cell.specs.Cells.{magnitude_at, allocated_at}
use Rattle.cell.proofs.size_at.Goals as goal

pub returns : goal.returns
unfolding magnitude_at allocated_at
returns c =
    let e = held c.i32_at-word.type_inv c.i32_at-word.ensures in
    λ i. record { magnitude = (c.magnitude-magnitude.ensures ∙ ap nat_abs e) i; allocated = lt_z (e i) (pos 0) }
