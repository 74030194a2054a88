-- Laws of the deleted keys: of one cell, and of an image by its bins. Assumes nothing.
use Prim.Native.Nat.{ℕ, ◌+◌, ◌≤◌, ◌<◌}
use mathlib.Core.Path.{◌≡◌, refl, sym, ap, ◌∙◌}
use mathlib.Core.List.{List}
use mathlib.Core.Bool.{Bool, true, false, not}
use native.Mathlib.Omega.{arith}
use lib.ListN.{length, take, drop, length-take, length-drop}
use lib.IntN.{ℤ, pos, negsuc}
use lib.Signed.{le_z}
use mir.Syntax.{w32}
use mir.Val.{SFits}
use Rattle.std.proofs.Common.{le-leb}
use borrow.Author.Tests.{lt-ltb, le-ltb}
use Rattle.words.specs.Refusals.{CUT_SHORT}
use Rattle.words.specs.Paper.{refused, by, on_success}
use Rattle.words.proofs.Signed.{read, back}
use Rattle.hive_bin.specs.Walk.{Walk, found, fault, shift, bins_in, bins_at}
use Rattle.hive_bin.specs.Steps.{cells_of}
use Rattle.hive_bin.specs.Totals.{negative}
use Rattle.cell_key_node.specs.Key.{key_at, key_paper}
use Rattle.cell_key_node.specs.declared.KeyNode.{KeyNode}
use Rattle.words.specs.declared.Refusal.{Refusal}
use Rattle.deleted_keys.specs.Deleted.{succeeds, is_deleted, positions_of, deleted_of}
use Rattle.deleted_keys.specs.Scan.{keys_of, keys_in}
use Rattle.std.specs.Prelude.{Ok, Err, is_ok}
use Rattle.std.specs.declared.result.Result.{Result}

-- ---- one cell, by what the code has read: its size word, and the key record at its position

module _ (image : List ℕ) (position : ℕ) (z : ℤ) (fits : SFits w32 z) where
  free_or_not : (b : Bool) → le_z (pos 0) (read z) ≡ b → not (negative z) ≡ b
  unfolding negative
  free_or_not b e = go z (rw (back z fits) at e)
    where
      go : (y : ℤ) → le_z (pos 0) y ≡ b → not (negative y) ≡ b
      go (pos n) h = sym (le-leb 0 n (omega arith)) ∙ h
      go (negsuc n) h = h

  pub allocated : le_z (pos 0) (read z) ≡ false → le_z (pos 0) (read z) ≡ is_deleted image (record { place = position; size = z })
  unfolding is_deleted
  allocated e = e ∙ simp (free_or_not false e)

  pub a_free_one : le_z (pos 0) (read z) ≡ true → (r : Result KeyNode Refusal) → key_paper r ≡ key_at image position 0
      → is_ok r ≡ is_deleted image (record { place = position; size = z })
  unfolding is_deleted
  a_free_one e r is = simp (free_or_not true e, ← is) (reads r)
    where
      reads : (x : Result KeyNode Refusal) → is_ok x ≡ succeeds (key_paper x)
      reads (Ok k) = refl
      reads (Err f) = refl

-- ---- the image, by its bins

shifted : (image : List ℕ) (base : ℕ) (w : Walk) → on_success (positions_of image) (cells_of (shift base w)) ≡ keys_of image base (cells_of w)
unfolding on_success cells_of shift
shifted image base (found n cs) = refl
shifted image base (fault n p) = refl

module _ (image : List ℕ) (base size : ℕ) where
  pub cut_short : length image < base + size → deleted_of image base size ≡ refused (by CUT_SHORT base)
  unfolding deleted_of on_success cells_of bins_at
  cut_short h = simp (lt-ltb _ _ h)

  pub in_bins : base + size ≤ length image → (b : List ℕ) → b ≡ take size (drop base image) → deleted_of image base size ≡ keys_in image base b
  unfolding deleted_of bins_at
  in_bins h b e =
      simp (le-ltb _ _ h) (shifted image base (bins_in (take size (drop base image)))) ∙ ap (keys_in image base) (sym e)

-- the bins are no longer than their size
pub part_fits : (image b : List ℕ) (base size : ℕ) → b ≡ take size (drop base image) → base + size ≤ length image → base + length b ≤ length image
part_fits image b base size e h = omega (arith, ap length e, length-take size (drop base image), length-drop base image)
