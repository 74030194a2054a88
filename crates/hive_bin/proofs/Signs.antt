-- Laws of a size word that the code holds: its magnitude, and its sign. Assumes nothing.
use Prim.Native.Nat.{◌<◌}
use mathlib.Core.Path.{◌≡◌, refl}
use mathlib.Core.Bool.{true, false, true≢false}
use native.Mathlib.Omega.{arith}
use lib.IntN.{ℤ, pos, negsuc}
use lib.Signed.{lt_z}
use mir.Syntax.{w32}
use mir.Val.{SFits}
use borrow.Author.Tests.{ltb-true}
use Rattle.words.proofs.Signed.{read, back}
use Rattle.hive_bin.specs.Totals.{negative}

module _ (z : ℤ) (held : SFits w32 z) where
  pub negative_read : lt_z (read z) (pos 0) ≡ true → negative z ≡ true
  unfolding negative
  negative_read e = go z (rw (back z held) at e)
    where
      go : (y : ℤ) → lt_z y (pos 0) ≡ true → negative y ≡ true
      go (pos n) h = let l : n < 0 = ltb-true n 0 h in absurd (omega arith)
      go (negsuc n) h = refl

  pub positive_read : lt_z (read z) (pos 0) ≡ false → negative z ≡ false
  unfolding negative
  positive_read e = go z (rw (back z held) at e)
    where
      go : (y : ℤ) → lt_z y (pos 0) ≡ false → negative y ≡ false
      go (pos n) h = refl
      go (negsuc n) h = absurd (true≢false h)
