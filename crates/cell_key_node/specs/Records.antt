-- Document 01, "Key and value records": the checks of both. A record is read from its cell, which is what of the image stands
-- from the record's size word on.
use Prim.{Unit, tt}
use Rattle.std.specs.Prelude.{ℕ, ◌+◌, List, cond, not, length, drop, ltb, eqb, nat_abs}
use Rattle.words.specs.Words.{word16, word32, signed}
use Rattle.words.specs.Refusals.{SHORT, OUTSIDE, BAD_SIZE, BAD_SIGN, BAD_NAME}
use Rattle.words.specs.Paper.{Paper, checked}

-- "size 0 (signed)": its magnitude
unfoldable pub size_of : List ℕ → ℕ
size_of cell = nat_abs (signed (word32 cell 0))

-- "Checks in order: 2, 1, 3, 4, 5", those on the cell, of a record with a fixed part, a signature and a place of its name's
-- length. By the table of refusals:
--   SHORT: less is left than the fixed part
--   BAD SIZE: "a record's size magnitude is below its fixed part (80 or 24) or above the bytes left"
--   BAD SIGN: "a signature is not one expected"
--   BAD NAME: "a name passes its cell's end"
-- 0: none of these
unfoldable pub cell_fault : List ℕ → ℕ → ℕ → ℕ → ℕ
cell_fault cell fixed sign name_at =
    cond (ltb (length cell) fixed) SHORT
    (cond (ltb (size_of cell) fixed) BAD_SIZE
    (cond (ltb (length cell) (size_of cell)) BAD_SIZE
    (cond (not (eqb (word16 cell 4) sign)) BAD_SIGN
    (cond (ltb (size_of cell) (fixed + word16 cell name_at)) BAD_NAME
    0))))

-- OUTSIDE: "a position is greater than the image length"
unfoldable pub fault_at : List ℕ → ℕ → ℕ → ℕ → ℕ → ℕ
fault_at image position fixed sign name_at =
    cond (ltb (length image) position) OUTSIDE
    (cell_fault (drop position image) fixed sign name_at)

-- "A refusal returns its number, the position of the .. record at fault"; of a record that passes the checks nothing is told
unfoldable pub record_at : List ℕ → ℕ → ℕ → ℕ → ℕ → Paper (Unit {0})
record_at image position fixed sign name_at = checked (fault_at image position fixed sign name_at) position tt
