-- Worked examples of the definitions, which antt computes: the bins of document 01's listing example, in parts.
use Prim.Native.Nat.{ℕ, ◌-◌}
use mathlib.Core.Path.{◌≡◌, refl}
use mathlib.Core.List.{List, [], ◌∷◌}
use lib.ListN.{replicate, take, drop}
use Rattle.words.specs.Words.{little, signed}
use Rattle.words.specs.Refusals.{CUT_SHORT, BAD_BIN, BAD_CELL, PAST_END}
use Rattle.words.specs.Paper.{Paper, success, refused, by}
use Rattle.hive_bin.specs.declared.BinTotals.{BinTotals}
use Rattle.hive_bin.specs.Walk.{good_cell, good_header}
use Rattle.hive_bin.specs.Totals.{negative, allocated_one, free_one, allocated_size, free_size, cell_totals}
use Rattle.hive_bin.proofs.Examples.{below, head, listing}
use Rattle.bins_arriving.specs.declared.BinsSoFar.{BinsSoFar}
use Rattle.bins_arriving.specs.Arriving.{up_to, begun, too_short, settle, put, judge_bin, judge_cell, header, eat, feed, part_taken, ended}

-- what the end gives behind a row of parts of bins at 4,096
abbrev after : BinsSoFar → List (List ℕ) → BinsSoFar
after s [] = s
after s (p ∷ ps) = after (part_taken s p) ps

abbrev answer : ℕ → List (List ℕ) → Paper BinTotals
answer size ps = ended (after (begun 4096 size) ps)

-- a stretch of the example's bins
abbrev cut : ℕ → ℕ → List ℕ
cut from to = take (to - from) (drop from listing)

-- "bins 1 4 1 288 3776": cut in the bin's header, behind it, in a cell's size word and in a cell, with parts of no bytes
pub example : answer 4096 ([] ∷ cut 0 31 ∷ cut 31 32 ∷ [] ∷ cut 32 122 ∷ cut 122 123 ∷ cut 123 300 ∷ cut 300 4096 ∷ [] ∷ [])
    ≡ success (record { bins = 1; allocated_cells = 4; free_cells = 1; allocated_bytes = 288; free_bytes = 3776 })
unfolding ended part_taken feed eat header judge_bin judge_cell put settle too_short up_to good_header good_cell cell_totals negative allocated_one free_one allocated_size free_size little signed
example = refl

-- "8 is given only when the end is declared early": behind no part, and one byte before the bins' end
pub no_part : answer 4096 [] ≡ refused (by CUT_SHORT 4096)
unfolding ended part_taken feed eat header judge_bin judge_cell put settle too_short up_to good_header good_cell cell_totals negative allocated_one free_one allocated_size free_size little signed
no_part = refl

pub one_byte_short : answer 4096 (cut 0 4095 ∷ []) ≡ refused (by CUT_SHORT 4096)
unfolding ended part_taken feed eat header judge_bin judge_cell put settle too_short up_to good_header good_cell cell_totals negative allocated_one free_one allocated_size free_size little signed
one_byte_short = refl

-- "A bin is judged once its 32 header bytes are in": one that is not "hbin", and an end behind 31 of them and behind 32
pub bad_sign_early : answer 4096 (replicate 31 0 ∷ []) ≡ refused (by CUT_SHORT 4096)
unfolding ended part_taken feed eat header judge_bin judge_cell put settle too_short up_to good_header good_cell cell_totals negative allocated_one free_one allocated_size free_size little signed
bad_sign_early = refl

pub bad_sign : answer 4096 (replicate 31 0 ∷ replicate 1 0 ∷ []) ≡ refused (by BAD_BIN 4096)
unfolding ended part_taken feed eat header judge_bin judge_cell put settle too_short up_to good_header good_cell cell_totals negative allocated_one free_one allocated_size free_size little signed
bad_sign = refl

-- "a cell once its 4": one of magnitude 4, behind three bytes and behind four
pub four_bytes_early : answer 4096 (head 0 ∷ take 3 (below 4) ∷ []) ≡ refused (by CUT_SHORT 4096)
unfolding ended part_taken feed eat header judge_bin judge_cell put settle too_short up_to good_header good_cell cell_totals negative allocated_one free_one allocated_size free_size little signed
four_bytes_early = refl

pub four_bytes : answer 4096 (head 0 ∷ take 3 (below 4) ∷ drop 3 (below 4) ∷ []) ≡ refused (by BAD_CELL 4128)
unfolding ended part_taken feed eat header judge_bin judge_cell put settle too_short up_to good_header good_cell cell_totals negative allocated_one free_one allocated_size free_size little signed
four_bytes = refl

-- "a rest too short for a header with the part that ends the bin before it or with the first part", which may have no bytes; behind no part
-- nothing is judged
pub short_rest : answer 4127 (listing ∷ []) ≡ refused (by BAD_BIN 8192)
unfolding ended part_taken feed eat header judge_bin judge_cell put settle too_short up_to good_header good_cell cell_totals negative allocated_one free_one allocated_size free_size little signed
short_rest = refl

pub short_bins : answer 31 ([] ∷ []) ≡ refused (by BAD_BIN 4096)
unfolding ended part_taken feed eat header judge_bin judge_cell put settle too_short up_to good_header good_cell cell_totals negative allocated_one free_one allocated_size free_size little signed
short_bins = refl

pub short_bins_unjudged : answer 31 [] ≡ refused (by CUT_SHORT 4096)
unfolding ended part_taken feed eat header judge_bin judge_cell put settle too_short up_to good_header good_cell cell_totals negative allocated_one free_one allocated_size free_size little signed
short_bins_unjudged = refl

pub no_bins : answer 0 [] ≡ success (record { bins = 0; allocated_cells = 0; free_cells = 0; allocated_bytes = 0; free_bytes = 0 })
unfolding ended part_taken feed eat header judge_bin judge_cell put settle too_short up_to good_header good_cell cell_totals negative allocated_one free_one allocated_size free_size little signed
no_bins = refl

-- "18 PAST END, where a part exceeds what remains, given before any byte of that part is looked at": a fault in it is not met, and bytes
-- behind good bins are no part of them
pub past_end : answer 4096 (cut 0 32 ∷ replicate 4065 0 ∷ []) ≡ refused (by PAST_END 0)
unfolding ended part_taken feed eat header judge_bin judge_cell put settle too_short up_to good_header good_cell cell_totals negative allocated_one free_one allocated_size free_size little signed
past_end = refl

pub behind_the_bins : answer 4096 (listing ∷ replicate 1 0 ∷ []) ≡ refused (by PAST_END 0)
unfolding ended part_taken feed eat header judge_bin judge_cell put settle too_short up_to good_header good_cell cell_totals negative allocated_one free_one allocated_size free_size little signed
behind_the_bins = refl

-- before the judgement of a rest too short for a header; behind a refusal that is kept
pub past_end_first : answer 31 (replicate 32 0 ∷ [] ∷ []) ≡ refused (by PAST_END 0)
unfolding ended part_taken feed eat header judge_bin judge_cell put settle too_short up_to good_header good_cell cell_totals negative allocated_one free_one allocated_size free_size little signed
past_end_first = refl

pub kept : answer 4096 (replicate 32 0 ∷ replicate 5000 0 ∷ listing ∷ []) ≡ refused (by BAD_BIN 4096)
unfolding ended part_taken feed eat header judge_bin judge_cell put settle too_short up_to good_header good_cell cell_totals negative allocated_one free_one allocated_size free_size little signed
kept = refl
