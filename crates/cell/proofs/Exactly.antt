-- Each answer of `cell_at` is given exactly when its sentence holds, and what a reader may do with the cell then. Assumes nothing.
use mathlib.Core.Path.{◌≡◌, refl, ap, sym, ◌∙◌}
use mathlib.Core.Logic.{◌⊎◌, inl, inr}
use mathlib.Core.List.{List}
use Prim.Native.Nat.{ℕ, ◌+◌, ◌≤◌, ◌<◌}
use native.Mathlib.Decide.{dec_le}
use native.Mathlib.Omega.{arith}
use lib.ListN.{length}
use Rattle.words.specs.declared.Reason.TheVariants.{Outside, CutShort}
use Rattle.cell.specs.Cells.{magnitude_at, size_at, cell_at, cell_paper}
use Rattle.cell.specs.Exactly.{refusal_at, Whole, Cut, Exactly, Reads}
use Rattle.cell.specs.declared.CellSize.{CellSize}
use Rattle.cell.specs.declared.Fit.TheVariants.{Held, TooSmall}
use Rattle.cell.proofs.Cells.{cell_outside, cell_no_word, cell_passes, cell_small, cell-held}
use Rattle.cell.proofs.Papers.{paper_injective}
use Rattle.std.specs.Prelude.{Ok, Err}
use Rattle.std.specs.declared.result.Result.{Result}
use Rattle.cell.specs.declared.Fit.{Fit}
use Rattle.words.specs.declared.Refusal.{Refusal}
use Rattle.words.specs.Paper.{number_of}

-- the four answers by a number, which tells them apart
abbrev rank : (Result Fit Refusal) → ℕ
rank (Ok (Held z)) = 0
rank (Ok (TooSmall z)) = 1
rank (Err f) = number_of f.reason

module _ (image : List ℕ) (p least : ℕ) where
  -- one of four holds of any input
  data Which : Type 0 where
    is_outside : length image < p → Which
    is_cut : Cut image p → Which
    is_small : Whole image p × (magnitude_at image p < least) → Which
    is_held : Whole image p × (least ≤ magnitude_at image p) → Which

  which : Which
  which = go (dec_le p (length image)) (dec_le (p + 4) (length image)) (dec_le (p + magnitude_at image p) (length image)) (dec_le least (magnitude_at image p))
    where
      go : Dec (p ≤ length image) → Dec (p + 4 ≤ length image) → Dec (p + magnitude_at image p ≤ length image) → Dec (least ≤ magnitude_at image p) → Which
      go (no i) w m l = is_outside (omega arith)
      go (yes i) (no w) m l = is_cut (i, inl (omega arith))
      go (yes i) (yes w) (no m) l = is_cut (i, inr (omega arith))
      go (yes i) (yes w) (yes m) (no l) = is_small ((w, m), omega arith)
      go (yes i) (yes w) (yes m) (yes l) = is_held ((w, m), l)

  abbrev answer_of : Which → (Result Fit Refusal)
  answer_of (is_outside h) = refusal_at Outside p
  answer_of (is_cut h) = refusal_at CutShort p
  answer_of (is_small h) = Ok (TooSmall (size_at image p))
  answer_of (is_held h) = Ok (Held (size_at image p))

  module _ (a : (Result Fit Refusal)) (q : cell_paper a ≡ cell_at image p least) where
    -- its answer is given
    cut_given : Cut image p → a ≡ refusal_at CutShort p
    cut_given (i, inl w) = paper_injective a (refusal_at CutShort p) (q ∙ sym (cell_no_word image p least i (omega arith)))
    cut_given (i, inr m) = go (dec_le (p + 4) (length image))
      where
        go : Dec (p + 4 ≤ length image) → a ≡ refusal_at CutShort p
        go (no w) = paper_injective a (refusal_at CutShort p) (q ∙ sym (cell_no_word image p least i (omega arith)))
        go (yes w) = paper_injective a (refusal_at CutShort p) (q ∙ sym (cell_passes image p least i (omega arith) refl (omega arith)))

    given : (w : Which) → a ≡ answer_of w
    given (is_outside h) = paper_injective a (refusal_at Outside p) (q ∙ sym (cell_outside image p least h))
    given (is_cut h) = cut_given h
    given (is_small ((w, m), l)) =
        paper_injective a (Ok (TooSmall (size_at image p)))
        (q ∙ sym (cell_small image p least (omega arith) (omega arith) refl (omega arith) l))
    given (is_held ((w, m), l)) =
        paper_injective a (Ok (Held (size_at image p)))
        (q ∙ sym (cell-held image p least (omega arith) (omega arith) refl (omega arith) l))

    -- and its sentence holds where it is given
    told : (w : Which) {b : (Result Fit Refusal)} → a ≡ b → rank (answer_of w) ≡ rank b
    told w e = ap rank (sym (given w) ∙ e)

    of_outside : Which → a ≡ refusal_at Outside p → length image < p
    of_outside (is_outside h) e = h
    of_outside (is_cut h) e = absurd (omega (arith, told (is_cut h) e))
    of_outside (is_small h) e = absurd (omega (arith, told (is_small h) e))
    of_outside (is_held h) e = absurd (omega (arith, told (is_held h) e))

    of_cut : Which → a ≡ refusal_at CutShort p → Cut image p
    of_cut (is_outside h) e = absurd (omega (arith, told (is_outside h) e))
    of_cut (is_cut h) e = h
    of_cut (is_small h) e = absurd (omega (arith, told (is_small h) e))
    of_cut (is_held h) e = absurd (omega (arith, told (is_held h) e))

    of_small : {z : CellSize} → Which → a ≡ Ok (TooSmall z) → Whole image p × (magnitude_at image p < least)
    of_small (is_outside h) e = absurd (omega (arith, told (is_outside h) e))
    of_small (is_cut h) e = absurd (omega (arith, told (is_cut h) e))
    of_small (is_small h) e = h
    of_small (is_held h) e = absurd (omega (arith, told (is_held h) e))

    of_held : {z : CellSize} → Which → a ≡ Ok (Held z) → Whole image p × (least ≤ magnitude_at image p)
    of_held (is_outside h) e = absurd (omega (arith, told (is_outside h) e))
    of_held (is_cut h) e = absurd (omega (arith, told (is_cut h) e))
    of_held (is_small h) e = absurd (omega (arith, told (is_small h) e))
    of_held (is_held h) e = h

    one_of : (w : Which) → (a ≡ refusal_at Outside p) ⊎ (a ≡ refusal_at CutShort p) ⊎ (a ≡ Ok (TooSmall (size_at image p))) ⊎ (a ≡ Ok (Held (size_at image p)))
    one_of (is_outside h) = inl (given (is_outside h))
    one_of (is_cut h) = inr (inl (given (is_cut h)))
    one_of (is_small h) = inr (inr (inl (given (is_small h))))
    one_of (is_held h) = inr (inr (inr (given (is_held h))))

    pub exactly : Exactly image p least a
    exactly =
        record {
          outside = (of_outside which, λ h. given (is_outside h));
          cut_short = (of_cut which, λ h. given (is_cut h));
          too_small = (of_small which, λ h. given (is_small h));
          held = (of_held which, λ h. given (is_held h));
          no_other = one_of which;
        }

    -- ---- for a reader of the cell

    pub held_reads : {z : CellSize} → a ≡ Ok (Held z) → Reads image p least z
    held_reads {z} e =
        let h = of_held which e in
        let s : z ≡ size_at image p = same (sym e ∙ given (is_held h)) in
        let m : z.magnitude ≡ magnitude_at image p = ap (λ (y : CellSize). y.magnitude) s in
        let w = h.0.1 in
        let l = h.1 in
        record { size = s; enough = omega arith; inside = omega arith; readable = omega arith }
      where
        same : {y : CellSize} → ◌≡◌ {A = Result Fit Refusal} (Ok (Held z)) (Ok (Held y)) → z ≡ y
        same x = cc

    pub small_whole : {z : CellSize} → a ≡ Ok (TooSmall z) → (z ≡ size_at image p) × Whole image p × (z.magnitude < least)
    small_whole {z} e =
        let h = of_small which e in
        let s : z ≡ size_at image p = same (sym e ∙ given (is_small h)) in
        let m : z.magnitude ≡ magnitude_at image p = ap (λ (y : CellSize). y.magnitude) s in
        let l = h.1 in
        (s, h.0, omega arith)
      where
        same : {y : CellSize} → ◌≡◌ {A = Result Fit Refusal} (Ok (TooSmall z)) (Ok (TooSmall y)) → z ≡ y
        same x = cc
