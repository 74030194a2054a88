-- Laws of signed words. A signed local of the code holds bits: `read z` is the number that is read back from them.
-- Assumes nothing.
use mathlib.Core.Path.{◌≡◌, refl, ◌∙◌}
use Prim.Native.Nat.{ℕ, suc, ◌-◌, ◌^◌, ◌<◌}
use native.Mathlib.Omega.{arith}
use mathlib.Core.Bool.{Bool, true, false, cond}
use lib.Dec.{ltb}
use lib.IntN.{ℤ, pos, negsuc, nat_abs}
use lib.Signed.{mag}
use mir.Syntax.{w32}
use mir.Val.{to_z, of_z, sel, SFits}
use mir.Facts.{to_z-of_z}
use Rattle.words.specs.Words.{signed}

abbrev pub read : ℤ → ℤ
read z = to_z w32 (of_z w32 z)

-- a number that fits is read back as it was
pub back : (z : ℤ) → SFits w32 z → read z ≡ z
back z f = to_z-of_z f

-- the same, where the number is known to be another
pub held : {z y : ℤ} → mag z < 2 ^ 31 → z ≡ y → read z ≡ y
held f e = to_z-of_z {w = w32} (record { sfits = f }) ∙ e

-- the magnitude of the number that bits are, by the bits alone
pub magnitude_is : (x : ℕ) → x < 4294967296 → nat_abs (signed x) ≡ cond (ltb x 2147483648) x (4294967296 - x)
unfolding signed
magnitude_is x h = go (ltb x 2147483648) refl
  where
    go : (b : Bool) → ltb x 2147483648 ≡ b → nat_abs (sel (ltb x 2147483648) (pos x) (negsuc (4294967296 - suc x))) ≡ cond (ltb x 2147483648) x (4294967296 - x)
    go true e = simp e
    go false e = simp e (omega arith)
