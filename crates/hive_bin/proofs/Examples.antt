-- Worked examples of the definitions, which antt computes.
use Prim.Native.Nat.{ℕ, ◌-◌}
use mathlib.Core.Path.{◌≡◌, refl}
use mathlib.Core.List.{List, [], ◌∷◌, ◌++◌}
use lib.ListN.{replicate}
use lib.IntN.{pos, negsuc}
use Rattle.words.specs.Words.{little, word32, signed}
use Rattle.words.specs.Refusals.{CUT_SHORT, BAD_BIN, BAD_CELL}
use Rattle.words.specs.Paper.{success, refused, by}
use Rattle.hive_bin.specs.Walk.{found, join, row_go, row, good_cell, cell_row, hbin, good_header, good_bin, bin_row, bins_in, shift, bins_at}
use Rattle.hive_bin.specs.Steps.{spot, start, cell, end, next_of, left_in, cell_in, at_end, step_at}
use Rattle.hive_bin.specs.Totals.{negative, allocated_one, free_one, allocated_size, free_size, sum_over, answer_of, bins_of}

-- the four bytes of a word below 65,536, and of one from -256 to -1
abbrev pub small : ℕ → ℕ → List ℕ
small low high = low ∷ high ∷ 0 ∷ 0 ∷ []

abbrev pub below : ℕ → List ℕ
below n = (256 - n) ∷ 255 ∷ 255 ∷ 255 ∷ []

-- the header of a bin of 4,096 bytes, with its offset's lowest byte
abbrev pub head : ℕ → List ℕ
head own = (104 ∷ 98 ∷ 105 ∷ 110 ∷ []) ++ small own 0 ++ small 0 16 ++ replicate 20 0

-- the cells of the listing example: -88 at 32, -24 at 120, -88 at 144 and at 232, and 3776 at 320
abbrev pub listing : List ℕ
listing =
    head 0
    ++ below 88 ++ replicate 84 0
    ++ below 24 ++ replicate 20 0
    ++ below 88 ++ replicate 84 0
    ++ below 88 ++ replicate 84 0
    ++ small 192 14 ++ replicate 3772 0

pub signature : word32 (104 ∷ 98 ∷ 105 ∷ 110 ∷ []) 0 ≡ hbin
unfolding little
signature = refl

pub cells_found : bins_in listing ≡ found 1
    (record { place = 32; size = negsuc 87 }
    ∷ record { place = 120; size = negsuc 23 }
    ∷ record { place = 144; size = negsuc 87 }
    ∷ record { place = 232; size = negsuc 87 }
    ∷ record { place = 320; size = pos 3776 }
    ∷ [])
unfolding bins_in row row_go bin_row good_bin good_header cell_row good_cell join little signed
cells_found = refl

-- "bins 1 4 1 288 3776": the bins of the example, behind its base block
pub example : bins_of (replicate 4096 0 ++ listing) 4096 4096
    ≡ success (record { bins = 1; allocated_cells = 4; free_cells = 1; allocated_bytes = 288; free_bytes = 3776 })
unfolding bins_of bins_at shift bins_in row row_go bin_row good_bin good_header cell_row good_cell join little signed answer_of sum_over negative allocated_one free_one allocated_size free_size
example = refl

-- "A bins size of 0 then succeeds with no bin", also where the base is the image's end; past it, 8 and never 2
pub no_bins : bins_of (replicate 16 0) 16 0
    ≡ success (record { bins = 0; allocated_cells = 0; free_cells = 0; allocated_bytes = 0; free_bytes = 0 })
unfolding bins_of bins_at shift bins_in row row_go answer_of sum_over
no_bins = refl

pub past_the_end : bins_of (replicate 16 0) 17 0 ≡ refused (by CUT_SHORT 17)
unfolding bins_of bins_at answer_of
past_the_end = refl

pub one_byte_short : bins_of (replicate 4095 0) 0 4096 ≡ refused (by CUT_SHORT 0)
unfolding bins_of bins_at answer_of
one_byte_short = refl

-- a bin whose own offset is another
pub other_offset : bins_of (replicate 16 0 ++ head 8 ++ small 224 15 ++ replicate 4060 0) 16 4096 ≡ refused (by BAD_BIN 16)
unfolding bins_of bins_at shift bins_in row row_go bin_row good_bin good_header cell_row good_cell join little signed answer_of
other_offset = refl

-- "also where the rest is too short for a header"
pub short_rest : bins_of (replicate 31 0) 0 31 ≡ refused (by BAD_BIN 0)
unfolding bins_of bins_at shift bins_in row row_go bin_row good_bin good_header little answer_of
short_rest = refl

-- a cell of magnitude 4
pub four_bytes : bins_of (head 0 ++ below 4 ++ replicate 4060 0) 0 4096 ≡ refused (by BAD_CELL 32)
unfolding bins_of bins_at shift bins_in row row_go bin_row good_bin good_header cell_row good_cell join little signed answer_of
four_bytes = refl

-- ---- steps over these bins: the first cell; the last, behind which no bin follows; the end
pub first_step : step_at listing start ≡ success (cell (record { place = 32; size = negsuc 87 }) (spot 0 120))
unfolding step_at at_end cell_in left_in next_of good_bin good_header good_cell little signed
first_step = refl

pub last_step : step_at listing (spot 0 320) ≡ success (cell (record { place = 320; size = pos 3776 }) (spot 4096 4096))
unfolding step_at at_end cell_in left_in next_of good_bin good_header good_cell little signed
last_step = refl

pub no_further : step_at listing (spot 4096 4096) ≡ success end
unfolding step_at at_end
no_further = refl

-- from spots that no step leads to: in the header, within a cell, at the bin's end, and where no bin stands
pub in_the_header : step_at listing (spot 0 16) ≡ refused (by BAD_CELL 16)
unfolding step_at at_end cell_in left_in good_bin good_header good_cell little signed
in_the_header = refl

pub within_a_cell : step_at listing (spot 0 40) ≡ refused (by BAD_CELL 40)
unfolding step_at at_end cell_in left_in good_bin good_header good_cell little signed
within_a_cell = refl

pub at_the_bins_end : step_at listing (spot 0 4096) ≡ refused (by BAD_CELL 4096)
unfolding step_at at_end cell_in left_in good_bin good_header good_cell little signed
at_the_bins_end = refl

pub no_bin_there : step_at listing (spot 8 40) ≡ refused (by BAD_BIN 8)
unfolding step_at at_end good_bin good_header little
no_bin_there = refl

-- a second bin: behind the last cell of the first stands its header, which is none of its cells
abbrev two : List ℕ
two = head 0 ++ small 224 15 ++ replicate 4060 0 ++ (104 ∷ 98 ∷ 105 ∷ 110 ∷ []) ++ small 0 16 ++ small 0 16 ++ replicate 20 0 ++ small 224 15 ++ replicate 4060 0

pub over_the_header : step_at two (spot 4096 4096) ≡ success (cell (record { place = 4128; size = pos 4064 }) (spot 8192 8192))
unfolding step_at at_end cell_in left_in next_of good_bin good_header good_cell little signed
over_the_header = refl
