-- What is left of the whole check's answer, from a header that is awaited on. Assumes nothing.
use Prim.Native.Nat.{ℕ, ◌+◌, ◌-◌, ◌≤◌, ◌<◌}
use mathlib.Core.Path.{◌≡◌, refl, sym, ap, ◌∙◌}
use mathlib.Core.List.{List}
use mathlib.Core.Bool.{true, false}
use native.Mathlib.Omega.{arith}
use lib.ListN.{length}
use lib.IntN.{nat_abs}
use Rattle.words.specs.Refusals.{BAD_BIN, BAD_CELL}
use Rattle.words.specs.Words.{word32}
use Rattle.words.specs.Paper.{Paper, success, refused, by}
use Rattle.hive_bin.specs.declared.BinTotals.{BinTotals}
use Rattle.hive_bin.specs.Walk.{Walk, row, size_word, good_cell, cell_row, good_bin, bin_row, bins_in}
use Rattle.hive_bin.specs.Totals.{sum_over, answer_of, no_totals, one_bin, cell_totals}
use Rattle.hive_bin.proofs.Rows.{row-end, row-bad, row_more}
use Rattle.hive_bin.proofs.Sums.{plus, plus_plus, none_plus, answer_join}
use Rattle.hive_bin.proofs.Pieces.{cell_facts, cells_sound, cell_adds, bin_facts, bins_sound, bin_adds}

-- from a place of a bin that ends at `over` on: the answer of its further cells, and that of the bins behind it
unfoldable pub left : List ℕ → ℕ → ℕ → Paper BinTotals
left c place over = plus (answer_of (row (cell_row c) place (over - place))) (answer_of (row (bin_row c) over (length c - over)))

plus_assoc : (t : BinTotals) (a b : Paper BinTotals) → plus (plus (success t) a) b ≡ plus (success t) (plus a b)
unfolding plus
plus_assoc t (success u) b = sym (plus_plus t u b)
plus_assoc t (refused f) b = refl

refused_plus : (n p : ℕ) (a : Paper BinTotals) → plus (refused (by n p)) a ≡ refused (by n p)
unfolding plus
refused_plus n p a = refl

module _ (c : List ℕ) where
  -- a cell, and what is left behind it; where none stands
  module _ (place over : ℕ) where
    abbrev bins_behind : Paper BinTotals
    bins_behind = answer_of (row (bin_row c) over (length c - over))

    pub left_cell : good_cell (size_word c place) (over - place) ≡ true
        → left c place over ≡ plus (success (cell_totals (size_word c place))) (left c (place + nat_abs (size_word c place)) over)
    unfolding left cell_row
    left_cell g =
        let n = nat_abs (size_word c place) in
        let k = cell_facts (size_word c place) (over - place) g in
        let z : over - place - n ≡ over - (place + n) = omega arith in
        ap (λ (w : Walk). plus (answer_of w) bins_behind) (row_more (cell_row c) (cells_sound c) place (over - place) g)
        ∙ ap (λ (a : Paper BinTotals). plus a bins_behind) (answer_join _ _)
        ∙ ap (λ (a : Paper BinTotals). plus (plus a (answer_of (row (cell_row c) (place + n) (over - place - n)))) bins_behind) (cell_adds c place)
        ∙ plus_assoc _ _ _
        ∙ ap (λ (m : ℕ). plus (success (cell_totals (size_word c place))) (plus (answer_of (row (cell_row c) (place + n) m)) bins_behind)) z

    pub left_no_cell : place < over → good_cell (size_word c place) (over - place) ≡ false → left c place over ≡ refused (by BAD_CELL place)
    unfolding left cell_row answer_of
    left_no_cell h g =
        ap (λ (w : Walk). plus (answer_of w) bins_behind) (row-bad (cell_row c) (cells_sound c) place (over - place) (omega arith) g)
        ∙ refused_plus BAD_CELL place bins_behind

  -- at the end of a bin: a bin, and what is left behind its header; where none stands; the end
  module _ (over : ℕ) where
    left_bins : left c over over ≡ answer_of (row (bin_row c) over (length c - over))
    unfolding left answer_of sum_over
    left_bins =
        ap (λ (w : Walk). plus (answer_of w) (answer_of (row (bin_row c) over (length c - over)))) (row-end (cell_row c) (cells_sound c) over (over - over) (omega arith))
        ∙ none_plus _

    pub left_bin : good_bin c over (length c - over) ≡ true → left c over over ≡ plus (success one_bin) (left c (over + 32) (over + word32 c (over + 8)))
    unfolding left bin_row
    left_bin g =
        let n = word32 c (over + 8) in
        let k = bin_facts c over (length c - over) g in
        let y : n - 32 ≡ over + n - (over + 32) = omega arith in
        let z : length c - over - n ≡ length c - (over + n) = omega arith in
        left_bins
        ∙ ap answer_of (row_more (bin_row c) (bins_sound c) over (length c - over) g)
        ∙ answer_join _ _
        ∙ ap (λ (a : Paper BinTotals). plus a (answer_of (row (bin_row c) (over + n) (length c - over - n)))) (bin_adds c over)
        ∙ plus_assoc _ _ _
        ∙ ap (λ (m : ℕ). plus (success one_bin) (plus (answer_of (row (cell_row c) (over + 32) m)) (answer_of (row (bin_row c) (over + n) (length c - over - n))))) y
        ∙ ap (λ (m : ℕ). plus (success one_bin) (plus (answer_of (row (cell_row c) (over + 32) (over + n - (over + 32)))) (answer_of (row (bin_row c) (over + n) m)))) z

    pub left_no_bin : over < length c → good_bin c over (length c - over) ≡ false → left c over over ≡ refused (by BAD_BIN over)
    unfolding bin_row answer_of
    left_no_bin h g = left_bins ∙ ap answer_of (row-bad (bin_row c) (bins_sound c) over (length c - over) (omega arith) g)

    pub left_nothing : length c ≤ over → left c over over ≡ success no_totals
    unfolding answer_of sum_over
    left_nothing h = left_bins ∙ ap answer_of (row-end (bin_row c) (bins_sound c) over (length c - over) (omega arith))

  pub left_all : left c 0 0 ≡ answer_of (bins_in c)
  unfolding bins_in
  left_all = left_bins 0 ∙ ap (λ (n : ℕ). answer_of (row (bin_row c) 0 n)) (omega arith)
