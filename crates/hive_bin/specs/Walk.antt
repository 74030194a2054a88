-- Document 01, "Bins and cells": what stands in the bins. Up to the part on the image, all is said of the bins' own bytes, with places
-- that count from the first of them.
use Rattle.std.specs.Prelude.{ℕ, zero, suc, ◌+◌, ◌-◌, ◌%◌, List, [], ◌∷◌, ◌++◌, map, Bool, cond, ◌&&◌, length, take, drop, ltb, leb, eqb, ℤ, nat_abs}
use Rattle.std.specs.declared.option.Option.{Option}
use Rattle.std.specs.declared.option.Option.TheVariants.{Some, None}
use Rattle.words.specs.Words.{word32, signed}
use Rattle.words.specs.Refusals.{CUT_SHORT, BAD_BIN, BAD_CELL}

-- a cell that was found: its place, and its size word ("size 0 (signed)")
pub record Found : Type 0 where
  pub place : ℕ
  pub size : ℤ

-- what is found: the number of bins and the cells, in order; or "its number, the position of the .. bin, cell .. at fault"
pub data Walk : Type 0 where
  found : ℕ → List Found → Walk
  fault : ℕ → ℕ → Walk

-- one stretch of bytes after another, "judged .. before the next": the first fault decides
unfoldable pub join : Walk → Walk → Walk
join (fault n p) w = fault n p
join (found b cs) (found c ds) = found (b + c) (cs ++ ds)
join (found b cs) (fault n p) = fault n p

abbrev pub nothing : Walk
nothing = found 0 []

-- ---- pieces that "fill .. exactly" a stretch of bytes, each with a size of its own: the bins do, and the cells of a bin

pub record Row : Type 0 where
  -- whether a piece stands at a place with so many bytes to the end of the stretch
  pub good : ℕ → ℕ → Bool
  -- its size
  pub size : ℕ → ℕ
  -- what is found in it
  pub piece : ℕ → Walk
  -- the refusal where there is none
  pub number : ℕ

-- The pieces that fill the `left` bytes from `at` on. The second argument bounds their number: as each takes a byte or more, `left` is
-- enough, and the laws `row-end`, `row-bad` and `row_more` say what is found without it.
unfoldable pub row_go : Row → ℕ → ℕ → ℕ → Walk
row_go r zero at left = nothing
row_go r (suc f) at left =
    let rest = row_go r f (at + r.size at) (left - r.size at) in
    cond (eqb left 0) nothing (cond (r.good at left) (join (r.piece at) rest) (fault r.number at))

unfoldable pub row : Row → ℕ → ℕ → Walk
row r at left = row_go r left at left

-- ---- cells

-- a cell's size word, "signed"
abbrev pub size_word : List ℕ → ℕ → ℤ
size_word b at = signed (word32 b at)

-- "size magnitude a nonzero multiple of 8 within the bin": a size word with `left` bytes to the end of the bin
unfoldable pub good_cell : ℤ → ℕ → Bool
good_cell z left = ltb 0 (nat_abs z) && eqb (nat_abs z % 8) 0 && leb (nat_abs z) left

-- "cells fill it .. else 11"
unfoldable pub cell_row : List ℕ → Row
cell_row b =
    record {
      good = λ at left. good_cell (size_word b at) left;
      size = λ at. nat_abs (size_word b at);
      piece = λ at. found 0 (record { place = at; size = size_word b at } ∷ []);
      number = BAD_CELL;
    }

-- ---- bins

-- the word of the bytes "hbin"
abbrev pub hbin : ℕ
hbin = 0x6E69_6268

-- "A bin has "hbin", its own relative offset at 4, its size at 8, a nonzero multiple of 4,096 within the rest; .. also where the rest
-- is too short for a header": the three words of a header, at a place with `left` bytes to the end of the bins
unfoldable pub good_header : ℕ → ℕ → ℕ → ℕ → ℕ → Bool
good_header sign own size at left =
    leb 32 left && eqb sign hbin && eqb own at && ltb 0 size && eqb (size % 4096) 0 && leb size left

unfoldable pub good_bin : List ℕ → ℕ → ℕ → Bool
good_bin b at left = good_header (word32 b at) (word32 b (at + 4)) (word32 b (at + 8)) at left

-- "else 10"; "From its byte 32 cells fill it"; "Each bin is judged with its cells before the next"
unfoldable pub bin_row : List ℕ → Row
bin_row b =
    record {
      good = good_bin b;
      size = λ at. word32 b (at + 8);
      piece = λ at. join (found 1 []) (row (cell_row b) (at + 32) (word32 b (at + 8) - 32));
      number = BAD_BIN;
    }

-- "Bins fill the bins size exactly"; "A bins size of 0 then succeeds with no bin"
unfoldable pub bins_in : List ℕ → Walk
bins_in b = row (bin_row b) 0 (length b)

-- ---- the bins of an image

-- "counted from the start of the image": places that count from k bytes further back
abbrev pub moved : ℕ → Found → Found
moved k c = record { place = k + c.place; size = c.size }

unfoldable pub shift : ℕ → Walk → Walk
shift k (found n cs) = found n (map (moved k) cs)
shift k (fault n p) = fault n (k + p)

-- "Bins fill the bins size exactly from the base. Base plus size past the image: 8, never 2", and the position is "the base for 8 on
-- the bins"
unfoldable pub bins_at : List ℕ → ℕ → ℕ → Walk
bins_at s base size = cond (ltb (length s) (base + size)) (fault CUT_SHORT base) (shift base (bins_in (take size (drop base s))))

-- ---- what the code reads

-- a size, where there is one
abbrev pub sized : ℕ → Option ℕ
sized n = cond (eqb n 0) None (Some n)

-- the size of a cell, by its size word, and of a bin, by its header; 0 where there is none
unfoldable pub cell_size : ℤ → ℕ → ℕ
cell_size z left = cond (good_cell z left) (nat_abs z) 0

unfoldable pub header_size : ℕ → ℕ → ℕ → ℕ → ℕ → ℕ
header_size sign own size at left = cond (good_header sign own size at left) size 0

unfoldable pub bin_size : List ℕ → ℕ → ℕ → ℕ
bin_size b at left = header_size (word32 b at) (word32 b (at + 4)) (word32 b (at + 8)) at left
