-- Laws of one step of a reader of cells, by what the code has read. Assumes nothing.
use Prim.Native.Nat.{ℕ, ◌+◌, ◌-◌, ◌%◌, ◌^◌, ◌≤◌, ◌<◌}
use mathlib.Core.Path.{◌≡◌, refl, sym, ap, subst, ◌∙◌}
use mathlib.Core.List.{List}
use mathlib.Core.Bool.{Bool, true, false, cond}
use native.Mathlib.Omega.{arith}
use lib.ListN.{length}
use lib.Dec.{ltb, eqb}
use lib.IntN.{ℤ, nat_abs}
use lib.Signed.{mag}
use borrow.Author.Tests.{ltb-false, eq-eqb, ne_eqb, le-ltb}
use Rattle.words.specs.Refusals.{BAD_BIN, BAD_CELL}
use Rattle.words.specs.Words.{word32}
use Rattle.words.specs.Paper.{Paper, success, refused, by}
use Rattle.words.proofs.Papers.{refused-success, same-success}
use Rattle.words.proofs.Signed.{read, held as read_held}
use Rattle.hive_bin.specs.declared.Spot.{Spot}
use Rattle.hive_bin.specs.declared.CellStep.{CellStep}
use Rattle.hive_bin.specs.Walk.{Found, size_word, good_cell, cell_row, good_bin, bin_row, cell_size, bin_size, sized}
use Rattle.hive_bin.specs.Steps.{spot, Stepped, cell, end, next_of, left_in, cell_in, place_of, at_end, step_at, found_in, step_paper, InBin}
use Rattle.hive_bin.proofs.Rows.{no_size, some_size, sized_some, sized-none}
use Rattle.hive_bin.proofs.Pieces.{cell_facts, cells_sound, bins_sound, cell_size_held, bin_size_held, bin_size_is}
use Rattle.std.specs.Prelude.{Ok}
use Rattle.std.specs.declared.option.Option.TheVariants.{Some, None}

-- ---- the next place, and the bytes for a cell

module _ (bin over place : ℕ) where
  pub next_bin : place ≡ over → spot over over ≡ next_of bin over place
  unfolding next_of
  next_bin e = simp (eq-eqb place over e)

  pub next_cell : (place ≡ over → ⊥) → spot bin place ≡ next_of bin over place
  unfolding next_of
  next_cell e = simp (ne_eqb place over e)

  pub behind-header : bin + 32 ≤ place → {n : ℕ} → n ≡ over - place → n ≡ left_in bin over place
  unfolding left_in
  behind-header h e = simp (le-ltb place (bin + 32) h) e

  pub left_fits : {n : ℕ} → n ≤ left_in bin over place → 0 < n → (bin + 32 ≤ place) × (place + n ≤ over)
  unfolding left_in
  left_fits {n} l h = go (ltb place (bin + 32)) refl l
    where
      go : (t : Bool) → ltb place (bin + 32) ≡ t → n ≤ cond t 0 (over - place) → (bin + 32 ≤ place) × (place + n ≤ over)
      go true e k = absurd (omega arith)
      go false e k = let f = ltb-false place (bin + 32) e in (omega arith, omega arith)

-- ---- the cell at a place, by the size word that the code holds

module _ (b : List ℕ) (bin over place : ℕ) {z : ℤ} (held : mag z < 2 ^ 31) (word : z ≡ size_word b place) where
  abbrev read_size : ℕ
  read_size = cell_size (read z) (left_in bin over place)

  pub no_cell_in : None ≡ sized read_size → refused (by BAD_CELL place) ≡ cell_in b bin over place
  unfolding cell_in cell_row
  no_cell_in e =
      let g = no_size (cell_row b) (cells_sound b) place (left_in bin over place) (sym (cell_size_held b place held word (left_in bin over place)) ∙ sized-none e) in
      let k : good_cell (size_word b place) (left_in bin over place) ≡ false = g in
      simp k

  module _ {n : ℕ} (size : Some n ≡ sized read_size) where
    read_cell : (good_cell (size_word b place) (left_in bin over place) ≡ true) × (nat_abs (size_word b place) ≡ n) × (n ≤ left_in bin over place)
    unfolding cell_row
    read_cell =
        let k = sized_some size in
        some_size (cell_row b) (cells_sound b) place (left_in bin over place) n (sym (cell_size_held b place held word (left_in bin over place)) ∙ k.0) k.1

    pub cell_fits : (8 ≤ n) × (place + n ≤ over)
    cell_fits =
        let h = (sized_some size).1 in
        let k = cell_facts (size_word b place) (left_in bin over place) read_cell.0 in
        let m : n % 8 ≡ 0 = rw read_cell.1 at k.1 in
        (omega arith, (left_fits bin over place read_cell.2 h).1)

    pub a_cell_in : {s : Spot} → s ≡ next_of bin over (place + n)
        → success (cell (record { place = place; size = read z }) s) ≡ cell_in b bin over place
    unfolding cell_in
    a_cell_in e = simp (read_cell.0, read_cell.1) (rw (e, read_held held word) refl)

-- ---- a step, by the size of the bin that the code read

module _ (b : List ℕ) (s : Spot) where
  pub not_at_start : (s.place ≡ s.bin → ⊥) → false ≡ at_end b s
  unfolding at_end
  not_at_start h = simp (ne_eqb s.place s.bin h)

  pub at-start : s.place ≡ s.bin → eqb s.bin (length b) ≡ at_end b s
  unfolding at_end
  at-start h = simp (eq-eqb s.place s.bin h)

  pub ends_there : true ≡ at_end b s → success end ≡ step_at b s
  unfolding step_at
  ends_there e = simp (sym e)

  module _ (on : false ≡ at_end b s) where
    pub no_bin_there : None ≡ sized (bin_size b s.bin (length b - s.bin)) → refused (by BAD_BIN s.bin) ≡ step_at b s
    unfolding step_at bin_row
    no_bin_there e =
        let g = no_size (bin_row b) (bins_sound b) s.bin (length b - s.bin) (sym (bin_size_held b s.bin (length b - s.bin)) ∙ sized-none e) in
        simp (sym on, g)

    pub in_bin : {n : ℕ} → Some n ≡ sized (bin_size b s.bin (length b - s.bin)) → {place : ℕ} → place ≡ place_of s
        → {a : Paper Stepped} → a ≡ cell_in b s.bin (s.bin + n) place → a ≡ step_at b s
    unfolding step_at bin_row
    in_bin {n} size p e =
        let k = some_size (bin_row b) (bins_sound b) s.bin (length b - s.bin) n (bin_size_is b s.bin (length b - s.bin) size) (sized_some size).1 in
        simp (sym on, k.0, k.1) (e ∙ ap (cell_in b s.bin (s.bin + n)) p)

-- ---- a cell that is told from any spot

pub same-cell : {c d : Found} {t u : Spot} → cell c t ≡ cell d u → (c ≡ d) × (t ≡ u)
same-cell e = (cc, cc)

pub cell-end : {c : Found} {t : Spot} → cell c t ≡ end → ⊥
cell-end e = let z : ◌≡◌ {A = ℕ} 0 1 = cc in omega arith

module _ (b : List ℕ) (s : Spot) (c : Found) (t : Spot) where
  abbrev over : ℕ
  over = s.bin + word32 b (s.bin + 8)

  cell_in_bin : step_at b s ≡ success (cell c t) → InBin b s c
  unfolding step_at cell_in
  cell_in_bin e = go (at_end b s) (good_bin b s.bin (length b - s.bin)) refl e
    where
      at : ℕ
      at = place_of s

      in_cell : (k : Bool) → good_bin b s.bin (length b - s.bin) ≡ true → good_cell (size_word b at) (left_in s.bin over at) ≡ k
          → cond k (success (cell (record { place = at; size = size_word b at }) (next_of s.bin over (at + nat_abs (size_word b at))))) (refused (by BAD_CELL at)) ≡ success (cell c t)
          → InBin b s c
      in_cell true g h f =
          let k = cell_facts (size_word b at) (left_in s.bin over at) h in
          let l = left_fits s.bin over at k.2 k.0 in
          record {
            bin = g;
            place = ap (λ (d : Found). d.place) (sym (same-cell (same-success f)).0);
            word = ap (λ (d : Found). d.size) (sym (same-cell (same-success f)).0);
            behind = l.0;
            cell = subst (λ (n : ℕ). good_cell (size_word b at) n ≡ true) (sym (behind-header s.bin over at l.0 refl)) h;
          }
      in_cell false g h f = absurd (refused-success f)

      go : (z g : Bool) → good_bin b s.bin (length b - s.bin) ≡ g
          → cond z (success end) (cond g (cell_in b s.bin over at) (refused (by BAD_BIN s.bin))) ≡ success (cell c t) → InBin b s c
      go true g h f = absurd (cell-end (sym (same-success f)))
      go false true h f = in_cell (good_cell (size_word b at) (left_in s.bin over at)) h refl f
      go false false h f = absurd (refused-success f)

-- of an answer that the promise of `step_at` allows
pub told_in_bin : (b : List ℕ) (s : Spot) (c : CellStep) → step_paper (Ok (Some c)) ≡ step_at b s → InBin b s (found_in c)
told_in_bin b s c e = cell_in_bin b s _ c.next (sym e)
