-- A cell at a position of an image, from document 01, "Refusal numbers" and "Bins and cells", and document 02, order 1: "Refusals,
-- cell by cell in reading order: 2, 8 (size word .. not there, or a cell past the image) .. 17 BAD DATA for a cell too small".
use Rattle.std.specs.Prelude.{ℕ, ◌-◌, List, Bool, cond, ltb, pos, nat_abs, length}
use Rattle.std.specs.Int.Signed.{lt_z}
use Rattle.words.specs.Words.{word32, signed}
use Rattle.words.specs.Refusals.{OUTSIDE, CUT_SHORT}
use Rattle.words.specs.Paper.{Paper, success, refused, by, told, paper_of}
use Rattle.cell.specs.declared.CellSize.{CellSize}
use Rattle.cell.specs.declared.Fit.TheVariants.{Held, TooSmall}
use Rattle.std.specs.declared.result.Result.{Result}
use Rattle.cell.specs.declared.Fit.{Fit}
use Rattle.words.specs.declared.Refusal.{Refusal}

-- ---- the size word that a cell begins with (the specification: "size 0 (signed)")

-- its magnitude, which counts the size word itself
unfoldable pub magnitude_at : List ℕ → ℕ → ℕ
magnitude_at image p = nat_abs (signed (word32 image p))

-- "A negative size means allocated, a positive one free; both read."
unfoldable pub allocated_at : List ℕ → ℕ → Bool
allocated_at image p = lt_z (signed (word32 image p)) (pos 0)

abbrev pub size_at : List ℕ → ℕ → CellSize
size_at image p = record { magnitude = magnitude_at image p; allocated = allocated_at image p }

-- ---- the cell, for a reader that needs the first `least` bytes of it, its size word among them

-- A cell that is too small is no refusal yet: which number it is, and what comes before it, is the reader's.
pub data Cell : Type 0 where
  held : CellSize → Cell
  too_small : CellSize → Cell

abbrev pub bytes_left : List ℕ → ℕ → ℕ
bytes_left image p = length image - p

-- "2 OUTSIDE: a position is greater than the image length"; "8": "size word .. not there", "or a cell past the image"; then "a cell
-- too small". A refusal tells "the position of the .. cell".
unfoldable pub cell_at : List ℕ → ℕ → ℕ → Paper Cell
cell_at image p least =
    cond (ltb (length image) p) (refused (by OUTSIDE p))
    (cond (ltb (bytes_left image p) 4) (refused (by CUT_SHORT p))
    (cond (ltb (bytes_left image p) (magnitude_at image p)) (refused (by CUT_SHORT p))
    (cond (ltb (magnitude_at image p) least) (success (too_small (size_at image p)))
    (success (held (size_at image p))))))

-- what the code's answer says
abbrev pub fit_of : Fit → Cell
fit_of (Held z) = held z
fit_of (TooSmall z) = too_small z

abbrev pub cell_paper : Result Fit Refusal → Paper Cell
cell_paper = paper_of fit_of told
