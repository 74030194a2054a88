-- What holds of every answer to the bins of an image. Assumes nothing.
use Prim.Native.Nat.{ℕ, ◌+◌, ◌*◌, ◌≤◌, ◌<◌}
use mathlib.Core.Path.{◌≡◌, refl, sym, ap, subst, ◌∙◌}
use mathlib.Core.Logic.{◌⊎◌, inl, inr}
use mathlib.Core.List.{List}
use mathlib.Core.Bool.{Bool, true, false}
use native.Mathlib.Omega.{arith}
use lib.ListN.{length}
use lib.Dec.{ltb}
use borrow.Author.Tests.{ltb-true, ltb-false}
use Rattle.words.specs.Refusals.{OUTSIDE, CUT_SHORT, BAD_BIN, BAD_CELL}
use Rattle.words.specs.Paper.{Told, success, refused, by, told}
use Rattle.words.specs.declared.Refusal.{Refusal}
use Rattle.words.proofs.Papers.{success-refused, same-told}
use Rattle.hive_bin.specs.declared.BinTotals.{BinTotals}
use Rattle.hive_bin.specs.Answers.{bins_paper}
use Rattle.hive_bin.specs.Walk.{Found, found, bins_at}
use Rattle.hive_bin.specs.Totals.{allocated_size, free_size, sum_over, answer_of, bins_of}
use Rattle.hive_bin.proofs.Sums.{Fills}
use Rattle.hive_bin.proofs.Image.{cut_short, image_fills}
use Rattle.std.specs.Prelude.{Ok, Err}
use Rattle.std.specs.declared.result.Result.{Result}

-- the numbers that bins are refused by: 8, 10 and 11
abbrev pub OfBins : ℕ → Type 0
OfBins n = (n ≡ CUT_SHORT) ⊎ ((BAD_BIN ≤ n) × (n ≤ BAD_CELL))

module _ (s : List ℕ) (base size : ℕ) where
  -- "Base plus size past the image: 8, never 2", at the base
  pub past : length s < base + size → (u : Told) → bins_of s base size ≡ refused u → u ≡ by CUT_SHORT base
  past h u e = same-told (sym e ∙ sym (cut_short s base size h))

  -- else a fault lies within the bins, and is that of a bin or of a cell
  pub within : base + size ≤ length s → (u : Told) → bins_of s base size ≡ refused u
      → (base ≤ u.position) × (u.position < base + size) × ((BAD_BIN ≤ u.number) × (u.number ≤ BAD_CELL))
  within h u e = subst (Fills base size) e (image_fills s base size h)

  pub given : (u : Told) → bins_of s base size ≡ refused u → OfBins u.number
  given u e = go (ltb (length s) (base + size)) refl
    where
      go : (b : Bool) → ltb (length s) (base + size) ≡ b → OfBins u.number
      go true t = inl (ap (λ (v : Told). v.number) (past (ltb-true _ _ t) u e))
      go false t = inr (within (ltb-false _ _ t) u e).2

  pub never_outside : (u : Told) → bins_of s base size ≡ refused u → u.number ≡ OUTSIDE → ⊥
  never_outside u e n = go (given u e)
    where
      go : OfBins u.number → ⊥
      go (inl k) = omega arith
      go (inr k) = omega arith

  success_fills : (t : BinTotals) → bins_of s base size ≡ success t → t.allocated_bytes + t.free_bytes + 32 * t.bins ≡ size
  success_fills t e = go (ltb (length s) (base + size)) refl
    where
      go : (b : Bool) → ltb (length s) (base + size) ≡ b → t.allocated_bytes + t.free_bytes + 32 * t.bins ≡ size
      go true h = absurd (success-refused (sym e ∙ sym (cut_short s base size (ltb-true _ _ h))))
      go false h = (subst (Fills base size) e (image_fills s base size (ltb-false _ _ h))).0

  -- "Allocated plus free bytes plus 32 per bin equal the bins size": of the cells that are found, by their size words
  pub totals : (n : ℕ) (cs : List Found) → bins_at s base size ≡ found n cs → sum_over allocated_size cs + sum_over free_size cs + 32 * n ≡ size
  unfolding bins_of answer_of
  totals n cs e = success_fills _ (ap answer_of e)

  -- and of the answer itself: of every answer that the promise of `check_bins` allows
  pub answer_totals : (r : Result BinTotals Refusal) → bins_paper r ≡ bins_of s base size
      → (t : BinTotals) → r ≡ Ok t → t.allocated_bytes + t.free_bytes + 32 * t.bins ≡ size
  answer_totals r e t h = success_fills t (sym e ∙ ap bins_paper h)

  pub answer_within : base + size ≤ length s → (r : Result BinTotals Refusal) → bins_paper r ≡ bins_of s base size
      → (f : Refusal) → r ≡ Err f → (base ≤ f.position) × (f.position < base + size)
  answer_within h r e f g = let k = within h (told f) (sym e ∙ ap bins_paper g) in (k.0, k.1)
