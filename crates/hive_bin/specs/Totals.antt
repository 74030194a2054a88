-- Document 01, "Bins and cells": the answers, made of what was found.
use Rattle.std.specs.Prelude.{ℕ, ◌+◌, ◌<◌, ◌^◌, List, [], ◌∷◌, Bool, true, false, cond, ℤ, pos, negsuc, nat_abs}
use Rattle.words.specs.Paper.{Paper, success, refused, by}
use Rattle.hive_bin.specs.declared.BinTotals.{BinTotals}
use Rattle.hive_bin.specs.Walk.{Found, Walk, found, fault, bins_at}

-- "A negative size means allocated, a positive one free"
unfoldable pub negative : ℤ → Bool
negative (pos n) = false
negative (negsuc n) = true

-- what a size word adds to each total
unfoldable pub allocated_one : ℤ → ℕ
allocated_one z = cond (negative z) 1 0

unfoldable pub free_one : ℤ → ℕ
free_one z = cond (negative z) 0 1

unfoldable pub allocated_size : ℤ → ℕ
allocated_size z = cond (negative z) (nat_abs z) 0

unfoldable pub free_size : ℤ → ℕ
free_size z = cond (negative z) 0 (nat_abs z)

-- "each total defined as a sum over size words"
unfoldable pub sum_over : (ℤ → ℕ) → List Found → ℕ
sum_over f [] = 0
sum_over f (c ∷ cs) = f c.size + sum_over f cs

-- "Answers: bins, allocated and free cells and bytes"; or the refusal
unfoldable pub answer_of : Walk → Paper BinTotals
answer_of (found n cs) =
    success
    (record {
      bins = n;
      allocated_cells = sum_over allocated_one cs;
      free_cells = sum_over free_one cs;
      allocated_bytes = sum_over allocated_size cs;
      free_bytes = sum_over free_size cs;
    })
answer_of (fault n p) = refused (by n p)

-- the answer to an image, a base and a bins size
unfoldable pub bins_of : List ℕ → ℕ → ℕ → Paper BinTotals
bins_of s base size = answer_of (bins_at s base size)

-- ---- what the code adds up

abbrev pub no_totals : BinTotals
no_totals = record { bins = 0; allocated_cells = 0; free_cells = 0; allocated_bytes = 0; free_bytes = 0 }

abbrev pub one_bin : BinTotals
one_bin = record { bins = 1; allocated_cells = 0; free_cells = 0; allocated_bytes = 0; free_bytes = 0 }

-- those of a cell alone
unfoldable pub cell_totals : ℤ → BinTotals
cell_totals z =
    record {
      bins = 0;
      allocated_cells = allocated_one z;
      free_cells = free_one z;
      allocated_bytes = allocated_size z;
      free_bytes = free_size z;
    }

-- those of two stretches together
abbrev pub together : BinTotals → BinTotals → BinTotals
together a b =
    record {
      bins = a.bins + b.bins;
      allocated_cells = a.allocated_cells + b.allocated_cells;
      free_cells = a.free_cells + b.free_cells;
      allocated_bytes = a.allocated_bytes + b.allocated_bytes;
      free_bytes = a.free_bytes + b.free_bytes;
    }

-- each sum of the two fits 64 bits
pub record Room (a b : BinTotals) : Type 0 where
  pub pieces : a.bins + a.allocated_cells + a.free_cells + b.bins + b.allocated_cells + b.free_cells < 2 ^ 64
  pub bytes : a.allocated_bytes + a.free_bytes + b.allocated_bytes + b.free_bytes < 2 ^ 64
