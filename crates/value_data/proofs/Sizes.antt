-- The number of segments that a size needs: enough, and the least that is. Assumes nothing.
use mathlib.Core.Path.{◌≡◌}
use Prim.Native.Nat.{ℕ, ◌+◌, ◌*◌, ◌/◌, ◌%◌, ◌≤◌, min}
use native.Mathlib.Omega.{arith}
use mir.Syntax.{w32}
use mir.Val.{Fits}
use Rattle.value_data.specs.Pieces.{SEGMENT}
use Rattle.value_data.specs.Data.{segments_needed}

pub needed_enough : (size : ℕ) → size ≤ segments_needed size * SEGMENT
unfolding segments_needed
needed_enough size = omega arith

pub needed-least : (size n : ℕ) → size ≤ n * SEGMENT → segments_needed size ≤ n
unfolding segments_needed
needed-least size n h = omega arith

-- by a division, rounded up
pub needed_ceil : (size : ℕ) → size / SEGMENT + min 1 (size % SEGMENT) ≡ segments_needed size
unfolding segments_needed
needed_ceil size = omega arith

-- 4 bytes a segment fit in 32 bits
pub needed_fits : (size : ℕ) → Fits w32 size → Fits w32 (4 * segments_needed size)
unfolding segments_needed
needed_fits size h =
    let k = h.fits in
    record { fits = omega arith }
