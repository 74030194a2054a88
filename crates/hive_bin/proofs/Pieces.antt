-- Laws of cells and of bins. Assumes nothing.
use Prim.Native.Nat.{ℕ, zero, suc, ◌+◌, ◌-◌, ◌*◌, ◌%◌, ◌^◌, ◌≤◌, ◌<◌}
use mathlib.Core.Path.{◌≡◌, refl, sym, ap, subst, ◌∙◌}
use mathlib.Core.List.{List}
use mathlib.Core.Bool.{Bool, true, false, cond, ◌&&◌, false≢true}
use native.Mathlib.Nat.{add-zero}
use native.Mathlib.Omega.{arith}
use lib.Dec.{ltb, leb, eqb}
use lib.IntN.{ℤ, nat_abs}
use lib.Signed.{mag}
use borrow.Author.Tests.{ltb-true, leb-true, eqb-true, lt-ltb, le-leb, eq-eqb}
use Rattle.words.specs.Refusals.{BAD_BIN, BAD_CELL}
use Rattle.words.specs.Words.{word32}
use Rattle.words.specs.Paper.{success, refused, by, told}
use Rattle.words.specs.declared.Refusal.{Refusal}
use Rattle.words.proofs.Signed.{read, held as read_held}
use Rattle.words.proofs.Tests.{both}
use Rattle.hive_bin.specs.declared.BinTotals.{BinTotals}
use Rattle.hive_bin.specs.Answers.{bins_paper}
use Rattle.hive_bin.specs.Walk.{row, size_word, good_cell, cell_row, hbin, good_header, good_bin, bin_row, cell_size, header_size, bin_size, sized}
use Rattle.hive_bin.specs.Totals.{negative, allocated_one, free_one, allocated_size, free_size, sum_over, answer_of, one_bin, cell_totals, together, Room}
use Rattle.hive_bin.proofs.Rows.{Sound, size_at, some_size, sized_some, sized-none}
use Rattle.hive_bin.proofs.Sums.{plus, answer_join, Fills, plus_fills, Whole, row_fills, SoFar, stops, fits, fails, room, goes}
use Rattle.std.specs.Prelude.{Ok, Err}
use Rattle.std.specs.declared.result.Result.{Result}
use Rattle.std.specs.declared.option.Option.TheVariants.{Some, None}

zero_is : (g : Bool) (m : ℕ) → (g ≡ true → ⊥) → 0 ≡ cond g m 0
zero_is true m h = absurd (h refl)
zero_is false m h = refl

whole_or_none : (g : Bool) (m n : ℕ) → n ≡ m → (0 < n → g ≡ true) → n ≡ cond g m 0
whole_or_none true m n e h = e
whole_or_none false m zero e h = refl
whole_or_none false m (suc n) e h = absurd (false≢true (h (omega arith)))

-- ---- cells

module _ (z : ℤ) (left : ℕ) where
  pub cell_facts : good_cell z left ≡ true → (0 < nat_abs z) × (nat_abs z % 8 ≡ 0) × (nat_abs z ≤ left)
  unfolding good_cell
  cell_facts h =
      let p = both (ltb 0 (nat_abs z) && eqb (nat_abs z % 8) 0) (leb (nat_abs z) left) h in
      let q = both (ltb 0 (nat_abs z)) (eqb (nat_abs z % 8) 0) p.0 in
      (ltb-true _ _ q.0, eqb-true _ _ q.1, leb-true _ _ p.1)

pub cells_sound : (b : List ℕ) → Sound (cell_row b)
unfolding cell_row
cells_sound b at left e = let k = cell_facts (size_word b at) left e in (k.0, k.2)

-- what a cell adds, and that it is its own bytes
pub cell_adds : (b : List ℕ) (at : ℕ) → answer_of ((cell_row b).piece at) ≡ success (cell_totals (size_word b at))
unfolding answer_of sum_over cell_row cell_totals
cell_adds b at = simp add-zero

pub cell_fills : (z : ℤ) (at : ℕ) → 0 < nat_abs z → Fills at (nat_abs z) (success (cell_totals z))
unfolding cell_totals allocated_one free_one allocated_size free_size
cell_fills z at h = go (negative z)
  where
    go : (g : Bool) → (cond g (nat_abs z) 0 + cond g 0 (nat_abs z) + 32 * 0 ≡ nat_abs z) × (0 + cond g 1 0 + cond g 0 1 ≤ nat_abs z)
    go true = (omega arith, omega arith)
    go false = (omega arith, omega arith)

pub cells_whole : (b : List ℕ) → Whole (cell_row b)
unfolding cell_row
cells_whole b =
    record {
      number = (omega arith, omega arith);
      pieces = λ at left e. rw (cell_adds b at) (cell_fills (size_word b at) at (cell_facts (size_word b at) left e).0);
    }

pub cells_fill : (b : List ℕ) (at left : ℕ) → Fills at left (answer_of (row (cell_row b) at left))
cells_fill b = row_fills (cell_row b) (cells_sound b) (cells_whole b)

-- the same from the size word that the code holds
module _ (b : List ℕ) (at : ℕ) {z : ℤ} (held : mag z < 2 ^ 31) (word : z ≡ size_word b at) where
  pub cell_size_held : (left : ℕ) → cell_size (read z) left ≡ size_at (cell_row b) at left
  unfolding cell_size cell_row
  cell_size_held left = rw (read_held held word) refl

  pub cell_adds_held : {t : BinTotals} → t ≡ cell_totals (read z) → answer_of ((cell_row b).piece at) ≡ success t
  cell_adds_held e = cell_adds b at ∙ sym (ap success (rw (read_held held word) at e))

-- in a loop over cells
module _ (b : List ℕ) {from all at left : ℕ} {t : BinTotals} (so : SoFar (cell_row b) from all at left t) {z : ℤ} (held : mag z < 2 ^ 31) (word : z ≡ size_word b at) where
  pub cells_stop : 0 < left → None ≡ sized (cell_size (read z) left) → refused (by BAD_CELL at) ≡ answer_of (row (cell_row b) from all)
  unfolding cell_row
  cells_stop h e = stops so (cells_sound b) h (sym (cell_size_held b at held word left) ∙ sized-none e)

  module _ {n : ℕ} (size : Some n ≡ sized (cell_size (read z) left)) where
    size_is : size_at (cell_row b) at left ≡ n
    size_is = sym (cell_size_held b at held word left) ∙ (sized_some size).0

    pub cells_fit : (0 < n) × (n ≤ left)
    cells_fit = ((sized_some size).1, fits so (cells_sound b) size_is (sized_some size).1)

    module _ {u : BinTotals} (e : u ≡ cell_totals (read z)) where
      pub cells_room : all < 2 ^ 64 → Room t u
      cells_room = room so (cells_sound b) size_is (sized_some size).1 (cells_whole b) (cell_adds_held b at held word e)

      pub cells_go : {v : BinTotals} → v ≡ together t u → SoFar (cell_row b) from all (at + n) (left - n) v
      cells_go = goes so (cells_sound b) size_is (sized_some size).1 (cells_whole b) (cell_adds_held b at held word e)

-- ---- bins

module _ (sign own size at left : ℕ) where
  pub header_facts : good_header sign own size at left ≡ true
      → (32 ≤ left) × (sign ≡ hbin) × (own ≡ at) × (0 < size) × (size % 4096 ≡ 0) × (size ≤ left)
  unfolding good_header
  header_facts h =
      let t₁ = leb 32 left in
      let t₂ = eqb sign hbin in
      let t₃ = eqb own at in
      let t₄ = ltb 0 size in
      let t₅ = eqb (size % 4096) 0 in
      let p₆ = both (t₁ && t₂ && t₃ && t₄ && t₅) (leb size left) h in
      let p₅ = both (t₁ && t₂ && t₃ && t₄) t₅ p₆.0 in
      let p₄ = both (t₁ && t₂ && t₃) t₄ p₅.0 in
      let p₃ = both (t₁ && t₂) t₃ p₄.0 in
      let p₂ = both t₁ t₂ p₃.0 in
      (leb-true _ _ p₂.0, eqb-true _ _ p₂.1, eqb-true _ _ p₃.1, ltb-true _ _ p₄.1, eqb-true _ _ p₅.1, leb-true _ _ p₆.1)

  pub no_header : (good_header sign own size at left ≡ true → ⊥) → 0 ≡ header_size sign own size at left
  unfolding header_size
  no_header h = zero_is (good_header sign own size at left) size h

  pub a_header : (n : ℕ) → n ≡ size → 32 ≤ left → sign ≡ hbin → own ≡ at → n % 4096 ≡ 0 → n ≤ left → n ≡ header_size sign own size at left
  unfolding header_size good_header
  a_header n e h₁ h₂ h₃ h₄ h₅ =
      whole_or_none (good_header sign own size at left) size n e
      (λ h.
      let h₆ : 0 < size = omega arith in
      let h₇ : size ≤ left = omega arith in
      simp (le-leb _ _ h₁, eq-eqb _ _ h₂, eq-eqb _ _ h₃, lt-ltb _ _ h₆, eq-eqb (size % 4096) 0 (rw e at h₄), le-leb _ _ h₇))

module _ (b : List ℕ) (at left : ℕ) where
  pub bin_facts : good_bin b at left ≡ true
      → (32 ≤ left) × (word32 b at ≡ hbin) × (word32 b (at + 4) ≡ at)
      × (0 < word32 b (at + 8)) × (word32 b (at + 8) % 4096 ≡ 0) × (word32 b (at + 8) ≤ left)
  unfolding good_bin
  bin_facts = header_facts (word32 b at) (word32 b (at + 4)) (word32 b (at + 8)) at left

pub bins_sound : (b : List ℕ) → Sound (bin_row b)
unfolding bin_row
bins_sound b at left e = let k = bin_facts b at left e in (k.3, k.5)

-- what a bin adds: itself, and its cells
pub bin_adds : (b : List ℕ) (at : ℕ)
    → answer_of ((bin_row b).piece at) ≡ plus (success one_bin) (answer_of (row (cell_row b) (at + 32) (word32 b (at + 8) - 32)))
unfolding bin_row answer_of sum_over
bin_adds b at = answer_join _ _

bin_fills : (b : List ℕ) (at left : ℕ) → good_bin b at left ≡ true → Fills at (word32 b (at + 8)) (answer_of ((bin_row b).piece at))
bin_fills b at left e =
    let k = bin_facts b at left e in
    rw (bin_adds b at)
    (plus_fills at 32 (word32 b (at + 8) - 32) (word32 b (at + 8)) _ _ (omega arith) (omega arith, omega arith) (cells_fill b _ _))

pub bins_whole : (b : List ℕ) → Whole (bin_row b)
unfolding bin_row
bins_whole b = record { number = (omega arith, omega arith); pieces = bin_fills b }

pub bins_fill : (b : List ℕ) (at left : ℕ) → Fills at left (answer_of (row (bin_row b) at left))
bins_fill b = row_fills (bin_row b) (bins_sound b) (bins_whole b)

-- the same from what the code holds: n is the size that it read
module _ (b : List ℕ) (at left : ℕ) where
  pub bin_size_held : bin_size b at left ≡ size_at (bin_row b) at left
  unfolding bin_size header_size good_bin bin_row
  bin_size_held = refl

  module _ {n : ℕ} (size : Some n ≡ sized (bin_size b at left)) where
    pub bin_size_is : size_at (bin_row b) at left ≡ n
    bin_size_is = sym bin_size_held ∙ (sized_some size).0

    pub bin_told : (32 ≤ n) × (n ≤ left) × (word32 b (at + 8) ≡ n)
    unfolding bin_row
    bin_told =
        let k = some_size (bin_row b) (bins_sound b) at left n bin_size_is (sized_some size).1 in
        let f = bin_facts b at left k.0 in
        let z : word32 b (at + 8) ≡ n = k.1 in
        let m : n % 4096 ≡ 0 = rw z at f.4 in
        (omega arith, k.2, z)

    -- and r the answer of its cells
    module _ (r : Result BinTotals Refusal) (cells : bins_paper r ≡ answer_of (row (cell_row b) (at + 32) (n - 32))) where
      bin_is : answer_of ((bin_row b).piece at) ≡ plus (success one_bin) (bins_paper r)
      bin_is =
          bin_adds b at
          ∙ ap (λ (m : ℕ). plus (success one_bin) (answer_of (row (cell_row b) (at + 32) (m - 32)))) bin_told.2
          ∙ ap (plus (success one_bin)) (sym cells)

      pub bin_fails : {f : Refusal} → r ≡ Err f → answer_of ((bin_row b).piece at) ≡ refused (told f)
      unfolding plus
      bin_fails e = bin_is ∙ ap (λ (a : Result BinTotals Refusal). plus (success one_bin) (bins_paper a)) e

      module _ {u : BinTotals} (e : r ≡ Ok u) {o : BinTotals} (one : o ≡ one_bin) where
        pub bin_room : n < 2 ^ 64 → Room o u
        bin_room l =
            let f = subst (Fills (at + 32) (n - 32)) (sym cells ∙ ap bins_paper e) (cells_fill b (at + 32) (n - 32)) in
            let k = bin_told in
            rw one (record { pieces = omega arith; bytes = omega arith })

        pub bin_adds_held : {v : BinTotals} → v ≡ together o u → answer_of ((bin_row b).piece at) ≡ success v
        unfolding plus
        bin_adds_held q =
            bin_is ∙ ap (λ (a : Result BinTotals Refusal). plus (success one_bin) (bins_paper a)) e
            ∙ ap success (sym (q ∙ ap (λ (w : BinTotals). together w u) one))

-- in a loop over bins
module _ (b : List ℕ) {from all at left : ℕ} {t : BinTotals} (so : SoFar (bin_row b) from all at left t) where
  pub bins_stop : 0 < left → None ≡ sized (bin_size b at left) → refused (by BAD_BIN at) ≡ answer_of (row (bin_row b) from all)
  unfolding bin_row
  bins_stop h e = stops so (bins_sound b) h (sym (bin_size_held b at left) ∙ sized-none e)

  module _ {n : ℕ} (size : Some n ≡ sized (bin_size b at left)) {r : Result BinTotals Refusal}
      (cells : bins_paper r ≡ answer_of (row (cell_row b) (at + 32) (n - 32))) where
    pub bins_fail : {f : Refusal} → r ≡ Err f → refused (told f) ≡ answer_of (row (bin_row b) from all)
    bins_fail e = fails so (bins_sound b) (bin_size_is b at left size) (sized_some size).1 (bin_fails b at left size r cells e)

    module _ {u : BinTotals} (e : r ≡ Ok u) {o : BinTotals} (one : o ≡ one_bin) {v : BinTotals} (q : v ≡ together o u) where
      pub bins_room : all < 2 ^ 64 → Room t v
      bins_room = room so (bins_sound b) (bin_size_is b at left size) (sized_some size).1 (bins_whole b) (bin_adds_held b at left size r cells e one q)

      pub bins_go : {w : BinTotals} → w ≡ together t v → SoFar (bin_row b) from all (at + n) (left - n) w
      bins_go = goes so (bins_sound b) (bin_size_is b at left size) (sized_some size).1 (bins_whole b) (bin_adds_held b at left size r cells e one q)
