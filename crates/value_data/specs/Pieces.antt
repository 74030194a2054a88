-- Document 02, order 1: the pieces of the image that a value's data is made of, and the cells that hold them.
use Prim.{Unit, tt}
use Rattle.std.specs.Prelude.{ℕ, ◌+◌, ◌-◌, min, List, [], ◌∷◌, ◌++◌, take, drop}
use Rattle.words.specs.Paper.{Paper, success, refused, by, and_then}
use Rattle.words.specs.Refusals.{BAD_DATA}
use Rattle.cell.specs.Cells.{Cell, held, too_small, cell_at}

-- "in a cell after the size word": where the cell begins, and how many bytes are wanted of it
pub record Piece : Type 0 where
  pub cell : ℕ
  pub long : ℕ

abbrev pub piece : ℕ → ℕ → Piece
piece p n = record { cell = p; long = n }

-- its bytes, and those of a row, one piece behind another
abbrev pub bytes_in : List ℕ → Piece → List ℕ
bytes_in image q = take q.long (drop 4 (drop q.cell image))

unfoldable pub joined : List ℕ → List Piece → List ℕ
joined image [] = []
joined image (q ∷ qs) = bytes_in image q ++ joined image qs

-- ---- the cells' checks

-- "2, 8 (size word .. not there, or a cell past the image)", then "17 BAD DATA for a cell too small": by a cell's answer
abbrev pub sized : Paper Cell → Paper (Unit {0})
sized (success (held z)) = success tt
sized (success (too_small z)) = refused (by BAD_DATA 0)
sized (refused t) = refused t

-- one cell: it lies in the image and holds the size word and the bytes behind it
unfoldable pub holds : List ℕ → Piece → Paper (Unit {0})
holds image q = sized (cell_at image q.cell (4 + q.long))

-- a row of them, "cell by cell in reading order": the first fault decides
unfoldable pub judged : List ℕ → List Piece → Paper (Unit {0})
judged image [] = success tt
judged image (q ∷ qs) = and_then (holds image q) (judged image qs)

-- ---- the segments of a `db` cell

-- the bytes of a segment
abbrev pub SEGMENT : ℕ
SEGMENT = 16344

-- "every segment but the last giving 16,344 bytes", the last one the rest: by the list's entries, each relative to the base
unfoldable pub segments : ℕ → List ℕ → ℕ → List Piece
segments base [] left = []
segments base (e ∷ es) left = piece (e + base) (min left SEGMENT) ∷ segments base es (left - SEGMENT)
