-- Laws of the bins of an image: what is read of the bins' own bytes, with the base added to each place. Assumes nothing.
use Prim.Native.Nat.{ℕ, ◌+◌, ◌≤◌, ◌<◌}
use mathlib.Core.Path.{◌≡◌, sym, ap, subst, ◌∙◌}
use mathlib.Core.List.{List}
use native.Mathlib.Omega.{arith}
use lib.ListN.{length, take, drop, length-take, length-drop}
use borrow.Author.Tests.{lt-ltb, le-ltb}
use Rattle.words.specs.Refusals.{CUT_SHORT}
use Rattle.words.specs.Paper.{Paper, success, refused, by, told}
use Rattle.words.specs.declared.Refusal.{Refusal}
use Rattle.hive_bin.specs.declared.BinTotals.{BinTotals}
use Rattle.hive_bin.specs.Answers.{bins_paper}
use Rattle.hive_bin.specs.Walk.{bins_in, bins_at}
use Rattle.hive_bin.specs.Totals.{answer_of, bins_of}
use Rattle.hive_bin.proofs.Sums.{later, answer_shift, Fills}
use Rattle.hive_bin.proofs.Pieces.{bins_fill}
use Rattle.std.specs.Prelude.{Ok, Err}
use Rattle.std.specs.declared.result.Result.{Result}

later_fills : (k n : ℕ) (a : Paper BinTotals) → Fills 0 n a → Fills k n (later k a)
unfolding later
later_fills k n (success t) h = h
later_fills k n (refused t) h = (omega arith, omega arith, h.2)

module _ (s : List ℕ) (base size : ℕ) where
  -- "Base plus size past the image"
  pub cut_short : length s < base + size → refused (by CUT_SHORT base) ≡ bins_of s base size
  unfolding bins_of bins_at answer_of
  cut_short h = simp (lt-ltb _ _ h)

  module _ (room : base + size ≤ length s) where
    pub inside : bins_of s base size ≡ later base (answer_of (bins_in (take size (drop base s))))
    unfolding bins_of bins_at
    inside = simp (le-ltb _ _ room) (answer_shift base _)

    part_fills : Fills 0 size (answer_of (bins_in (take size (drop base s))))
    unfolding bins_in
    part_fills =
        let b : List ℕ = take size (drop base s) in
        let n : length b ≡ size = omega (arith, length-take size (drop base s), length-drop base s) in
        subst (λ (m : ℕ). Fills 0 m (answer_of (bins_in b))) n (bins_fill b 0 (length b))

    -- the answer to an image accounts for each byte of its bins
    pub image_fills : Fills base size (bins_of s base size)
    image_fills = rw inside (later_fills base size _ part_fills)

    -- what the code's answer r on the part b of the image makes of the image
    module _ (b : List ℕ) (part : b ≡ take size (drop base s)) (r : Result BinTotals Refusal) (e : bins_paper r ≡ answer_of (bins_in b)) where
      on_part : answer_of (bins_in (take size (drop base s))) ≡ bins_paper r
      on_part = sym (e ∙ ap (λ (x : List ℕ). answer_of (bins_in x)) part)

      pub of_totals : {t : BinTotals} → r ≡ Ok t → success t ≡ bins_of s base size
      unfolding later
      of_totals h = sym (inside ∙ ap (later base) (on_part ∙ ap bins_paper h))

      abbrev moved : Refusal → Refusal
      moved f = record f { position = base + f.position }

      pub of_refusal : {f : Refusal} → r ≡ Err f → refused (told (moved f)) ≡ bins_of s base size
      unfolding later
      of_refusal h = sym (inside ∙ ap (later base) (on_part ∙ ap bins_paper h))

      pub of_place : {f : Refusal} → r ≡ Err f → f.position < size
      of_place h = let k = subst (Fills 0 size) (on_part ∙ ap bins_paper h) part_fills in omega arith

      pub of_part : (m : Result BinTotals Refusal) → ((t : BinTotals) → r ≡ Ok t → m ≡ Ok t) → ((f : Refusal) → r ≡ Err f → m ≡ Err (moved f))
          → bins_paper m ≡ bins_of s base size
      of_part m good bad = go r (λ i. r)
        where
          go : (a : Result BinTotals Refusal) → r ≡ a → bins_paper m ≡ bins_of s base size
          go (Ok t) k = ap bins_paper (good t k) ∙ of_totals k
          go (Err f) k = ap bins_paper (bad f k) ∙ of_refusal k
