-- Worked examples of the definitions, which antt computes.
use Prim.Native.Nat.{ℕ}
use mathlib.Core.Path.{◌≡◌, refl}
use mathlib.Core.Bool.{true}
use mathlib.Core.List.{List, [], ◌∷◌, ◌++◌}
use lib.ListN.{replicate}
use Rattle.words.specs.Words.{little, signed}
use Rattle.words.specs.Refusals.{CUT_SHORT, BAD_CELL, NO_ROOM}
use Rattle.words.specs.Paper.{success, refused, tell, by, checked, on_success}
use Rattle.words.specs.Buffers.{in_room}
use Rattle.hive_bin.specs.Walk.{join, row_go, row, good_cell, cell_row, good_header, good_bin, bin_row, bins_in, shift, bins_at}
use Rattle.hive_bin.specs.Totals.{negative}
use Rattle.hive_bin.specs.Steps.{cells_of}
use Rattle.cell_key_node.specs.Records.{size_of, cell_fault, fault_at}
use Rattle.cell_key_node.specs.Key.{key_fault, key_at}
use Rattle.deleted_keys.specs.Deleted.{succeeds, is_deleted, positions_of, deleted_of, listed_of}

-- the four bytes of a number below 65,536
abbrev small : ℕ → ℕ → List ℕ
small low high = low ∷ high ∷ 0 ∷ 0 ∷ []

-- a key record's bytes behind its size word, with a name of so many bytes, in a cell of 80: the fixed part alone
abbrev record80 : ℕ → List ℕ
record80 name = (110 ∷ 107 ∷ []) ++ replicate 70 0 ++ (name ∷ 0 ∷ 0 ∷ 0 ∷ [])

-- 16 bytes, and a bin of 4,096 behind them: what it holds from its byte 32 on
abbrev image : List ℕ → List ℕ
image cells = replicate 16 0 ++ (104 ∷ 98 ∷ 105 ∷ 110 ∷ []) ++ small 0 0 ++ small 0 16 ++ replicate 20 0 ++ cells

-- a cell of 80 by its size word and a record, and a free cell for the rest
abbrev eighty : List ℕ → ℕ → List ℕ
eighty size name = image (size ++ record80 name ++ small 144 15 ++ replicate 3980 0)

-- a free cell of 88 that is no key and holds one from its byte 8 on
abbrev holding : List ℕ
holding = image (small 88 0 ++ small 0 0 ++ small 80 0 ++ record80 0 ++ small 136 15 ++ replicate 3972 0)

-- A free cell that reads, at 32 of the bins and 48 of the image; the same allocated; with a name of one byte, which passes its cell; and
-- the free cell that holds a key: what stands at 56 would read, and is no cell of the bins.
pub listed :
    (deleted_of (eighty (small 80 0) 0) 16 4096 ≡ success (48 ∷ []))
    × (deleted_of (eighty (176 ∷ 255 ∷ 255 ∷ 255 ∷ []) 0) 16 4096 ≡ success [])
    × (deleted_of (eighty (small 80 0) 1) 16 4096 ≡ success [])
    × (deleted_of holding 16 4096 ≡ success [])
    × (succeeds (key_at holding 56 0) ≡ true)
unfolding deleted_of on_success cells_of bins_at shift bins_in row row_go bin_row good_bin good_header cell_row good_cell join little signed positions_of is_deleted negative key_at key_fault fault_at cell_fault size_of checked
listed = (refl, refl, refl, refl, refl)

-- no room for one; a cell of 76 bytes; bins that pass the image by a byte
pub not_listed :
    (listed_of (eighty (small 80 0) 0) 16 4096 0 ≡ refused (tell NO_ROOM 0 0 1 0 0))
    × (deleted_of (eighty (small 76 0) 0) 16 4096 ≡ refused (by BAD_CELL 48))
    × (deleted_of (eighty (small 80 0) 0) 17 4096 ≡ refused (by CUT_SHORT 17))
unfolding listed_of in_room deleted_of on_success cells_of bins_at shift bins_in row row_go bin_row good_bin good_header cell_row good_cell join little signed positions_of is_deleted negative key_at key_fault fault_at cell_fault size_of checked
not_listed = (refl, refl, refl)
