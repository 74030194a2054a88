-- Document 02, order 1: where a value's data is. "Refusals, cell by cell in reading order".
use Prim.{Unit, tt}
use Rattle.std.specs.Prelude.{ℕ, ◌+◌, ◌*◌, ◌/◌, ◌%◌, List, [], ◌∷◌, Bool, true, false, cond, not, length, drop, ltb, leb, eqb}
use Rattle.words.specs.Words.{word16, word32}
use Rattle.words.specs.Paper.{Paper, success, refused, by, on_success, and_then}
use Rattle.words.specs.Refusals.{BAD_SIGN, CUT_SHORT, BAD_DATA}
use Rattle.cell.specs.Cells.{Cell, held, too_small, cell_at}
use Rattle.cell_big_data.specs.Big.{is_big_data_block}
use Rattle.cell_key_node.specs.ValueList.{up_to, entry_of}
use Rattle.value_data.specs.Pieces.{Piece, piece, holds, judged, SEGMENT, segments}

-- ---- the record's data size

abbrev pub TOP_BIT : ℕ
TOP_BIT = 2147483648

-- "with the top bit of the data size set"
abbrev pub is_resident : ℕ → Bool
is_resident raw = leb TOP_BIT raw

-- and the size is what is left of it
abbrev pub size_of : ℕ → ℕ
size_of raw = raw % TOP_BIT

-- ---- what the data is made of: the record's offset field, or pieces of the image

pub data Source : Type 0 where
  field : Source
  pieces : List Piece → Source

-- a row of pieces, where every cell of it passes
abbrev pub whole : List ℕ → List Piece → Paper Source
whole image qs = on_success (λ u. pieces qs) (judged image qs)

-- ---- a `db` cell

-- "the segments exactly as many as needed": the least number of them that holds the size (`needed_enough`, `needed-least` in
-- proofs/Sizes.antt)
unfoldable pub segments_needed : ℕ → ℕ
segments_needed size = (size + 16343) / SEGMENT

-- behind the cell's own refusals, where it is large enough or is not: "8 (.. for `db`, 12 bytes not there ..)", "4 for `db`",
-- "17 BAD DATA for a cell too small or, on the `db` cell, a wrong segment count" ("number of segments at 6")
unfoldable pub big_head : List ℕ → ℕ → ℕ → Bool → Paper (Unit {0})
big_head image p n large =
    cond (ltb (length (drop p image)) 12) (refused (by CUT_SHORT p))
    (cond (not (is_big_data_block (drop p image))) (refused (by BAD_SIGN p))
    (cond (not large) (refused (by BAD_DATA 0))
    (cond (not (eqb (word16 (drop p image) 6) n)) (refused (by BAD_DATA 0))
    (success tt))))

-- by the answer of a cell of 12 bytes
abbrev pub big_in : List ℕ → ℕ → ℕ → Paper Cell → Paper (Unit {0})
big_in image p n (success (held z)) = big_head image p n true
big_in image p n (success (too_small z)) = big_head image p n false
big_in image p n (refused t) = refused t

unfoldable pub big_at : List ℕ → ℕ → ℕ → Paper (Unit {0})
big_at image p n = big_in image p n (cell_at image p 12)

-- "offset of the segment list at 8"
abbrev pub list_of : List ℕ → ℕ → ℕ → ℕ
list_of image base p = word32 (drop p image) 8 + base

-- the list's cell holds 4 bytes a segment; and the segments whose list stands at l
abbrev pub list_piece : ℕ → ℕ → Piece
list_piece l size = piece l (4 * segments_needed size)

unfoldable pub segments_at : List ℕ → ℕ → ℕ → ℕ → List Piece
segments_at image base l size = segments base (up_to (entry_of (drop l image)) (segments_needed size)) size

-- the `db` cell, then the segment list's, then the segments'
unfoldable pub from_list : List ℕ → ℕ → ℕ → ℕ → Paper Source
from_list image base l size = and_then (holds image (list_piece l size)) (whole image (segments_at image base l size))

unfoldable pub in_segments : List ℕ → ℕ → ℕ → ℕ → Paper Source
in_segments image base p size = and_then (big_at image p (segments_needed size)) (from_list image base (list_of image base p) size)

-- ---- all of it

-- "When the minor version is above 3 and the size above 16,344 it is a `db` cell"
unfoldable pub is_big : ℕ → ℕ → Bool
is_big minor size = cond (ltb 3 minor) (ltb SEGMENT size) false

-- "with the top bit of the data size set, the data is the first bytes of the offset field, at most 4": "also 17 for a resident size
-- above 4". "Otherwise it is in a cell after the size word; a data size of 0 gives no bytes and no cell is read."
unfoldable pub source_of : List ℕ → ℕ → ℕ → Bool → ℕ → ℕ → Paper Source
source_of image base minor resident size offset =
    cond resident (cond (ltb 4 size) (refused (by BAD_DATA 0)) (success field))
    (cond (eqb size 0) (success (pieces []))
    (cond (is_big minor size) (in_segments image base (offset + base) size)
    (whole image (piece (offset + base) size ∷ []))))
