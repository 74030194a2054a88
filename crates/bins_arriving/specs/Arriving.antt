-- Document 02, order 6: "The bin and cell check is to take the bins in consecutive parts, a part of no bytes included, with base and bins
-- size given first." What a part does is said byte by byte, so that nothing here knows where a part is cut. Places count from the base.
use Rattle.std.specs.Prelude.{ℕ, ◌+◌, ◌-◌, ◌^◌, List, [], ◌∷◌, Bool, cond, ◌&&◌, length, replicate, set, ltb, leb, eqb, nat_abs}
use Rattle.words.specs.Refusals.{CUT_SHORT, BAD_BIN, BAD_CELL, PAST_END}
use Rattle.words.specs.Words.{word32}
use Rattle.words.specs.Paper.{Told, Paper, success, refused, by, paper_of}
use Rattle.hive_bin.specs.declared.BinTotals.{BinTotals}
use Rattle.hive_bin.specs.Walk.{size_word, good_cell, good_header}
use Rattle.hive_bin.specs.Totals.{no_totals, one_bin, cell_totals}
use Rattle.bins_arriving.specs.declared.BinsSoFar.{BinsSoFar}
use Rattle.std.specs.Prelude.{Ok, Err}
use Rattle.std.specs.declared.result.Result.{Result}
use Rattle.bins_arriving.specs.declared.Numbered.{Numbered}

-- ---- what an answer says

abbrev pub numbered : Numbered → Told
numbered f = by f.number f.position

abbrev pub arriving_paper : Result BinTotals Numbered → Paper BinTotals
arriving_paper = paper_of (λ t. t) numbered

-- ---- totals

-- a sum of 64 bits, which stays at the largest. The totals of bins that come are far below (`proofs/Reached.antt`); those of a record
-- that no call made need not be.
unfoldable pub up_to : ℕ → ℕ
up_to n = cond (ltb n (2 ^ 64)) n (2 ^ 64 - 1)

abbrev pub added : BinTotals → BinTotals → BinTotals
added a b =
    record {
      bins = up_to (a.bins + b.bins);
      allocated_cells = up_to (a.allocated_cells + b.allocated_cells);
      free_cells = up_to (a.free_cells + b.free_cells);
      allocated_bytes = up_to (a.allocated_bytes + b.allocated_bytes);
      free_bytes = up_to (a.free_bytes + b.free_bytes);
    }

-- ---- what is known after some parts

-- before the first part: nothing is judged, and a bin's header is awaited at the base
abbrev pub begun : ℕ → ℕ → BinsSoFar
begun base size = record { base = base; size = size; taken = 0; place = 0; over = 0; head = replicate 12 0; answer = Ok no_totals }

-- so many bytes more
abbrev pub on : BinsSoFar → ℕ → BinsSoFar
on s n = record { base = s.base; size = s.size; taken = s.taken + n; place = s.place; over = s.over; head = s.head; answer = s.answer }

-- another header awaited, in a bin that ends at a place; and other totals
abbrev pub await : BinsSoFar → ℕ → ℕ → BinTotals → BinsSoFar
await s place over t = record { base = s.base; size = s.size; taken = s.taken; place = place; over = over; head = s.head; answer = Ok t }

abbrev pub refuse : BinsSoFar → ℕ → ℕ → BinsSoFar
refuse s n p =
    record {
      base = s.base;
      size = s.size;
      taken = s.taken;
      place = s.place;
      over = s.over;
      head = s.head;
      answer = Err (record { number = n; position = p });
    }

-- ---- "a rest too short for a header with the part that ends the bin before it or with the first part"

unfoldable pub too_short : BinsSoFar → Bool
too_short s = eqb s.taken s.place && eqb s.place s.over && ltb 0 (s.size - s.place) && ltb (s.size - s.place) 32

unfoldable pub settle : BinsSoFar → BinsSoFar
settle s = cond (too_short s) (refuse s BAD_BIN (s.base + s.place)) s

-- ---- "A bin is judged once its 32 header bytes are in, a cell once its 4"

abbrev pub needed : BinsSoFar → ℕ
needed s = cond (eqb s.place s.over) 32 4

-- a byte of the header: kept where it is one of the first twelve, which hold all that is judged, and else counted
unfoldable pub put : BinsSoFar → ℕ → BinsSoFar
put s x =
    record {
      base = s.base;
      size = s.size;
      taken = s.taken + 1;
      place = s.place;
      over = s.over;
      head = cond (ltb (s.taken - s.place) 12) (set s.head (s.taken - s.place) x) s.head;
      answer = s.answer;
    }

-- the header of a bin, with document 01's judgement of one ("else 10")
unfoldable pub judge_bin : BinsSoFar → BinTotals → BinsSoFar
judge_bin s t =
    cond (good_header (word32 s.head 0) (word32 s.head 4) (word32 s.head 8) s.place (s.size - s.place))
    (await s (s.place + 32) (s.place + word32 s.head 8) (added t one_bin))
    (refuse s BAD_BIN (s.base + s.place))

-- that of a cell ("else 11")
unfoldable pub judge_cell : BinsSoFar → BinTotals → BinsSoFar
judge_cell s t =
    cond (good_cell (size_word s.head 0) (s.over - s.place))
    (await s (s.place + nat_abs (size_word s.head 0)) s.over (added t (cell_totals (size_word s.head 0))))
    (refuse s BAD_CELL (s.base + s.place))

unfoldable pub header : BinsSoFar → BinTotals → BinsSoFar
header s t = cond (leb (needed s) (s.taken - s.place)) (cond (eqb s.place s.over) (judge_bin s t) (judge_cell s t)) s

-- ---- one byte, and one after another

-- a byte inside a cell is passed over, one of a header is kept; "After a refusal every later part gives the same refusal"
abbrev pub eaten : Result BinTotals Numbered → BinsSoFar → ℕ → BinsSoFar
eaten (Err f) s x = s
eaten (Ok t) s x = settle (cond (ltb s.taken s.place) (on s 1) (header (put s x) t))

unfoldable pub eat : BinsSoFar → ℕ → BinsSoFar
eat s x = eaten s.answer s x

unfoldable pub feed : BinsSoFar → List ℕ → BinsSoFar
feed s [] = s
feed s (x ∷ xs) = feed (eat s x) xs

-- ---- a part, and the end

-- "18 PAST END, where a part exceeds what remains, given before any byte of that part is looked at", at position 0; behind a refusal that
-- is kept, and before the judgement of a rest too short for a header
abbrev pub part_on : Result BinTotals Numbered → BinsSoFar → List ℕ → BinsSoFar
part_on (Err f) s xs = s
part_on (Ok t) s xs = cond (ltb (s.size - s.taken) (length xs)) (refuse s PAST_END 0) (feed (settle s) xs)

unfoldable pub part_taken : BinsSoFar → List ℕ → BinsSoFar
part_taken s xs = part_on s.answer s xs

-- "8 is given only when the end is declared early", at the base
abbrev pub end_of : Result BinTotals Numbered → BinsSoFar → Paper BinTotals
end_of (Err f) s = refused (numbered f)
end_of (Ok t) s = cond (ltb s.taken s.size) (refused (by CUT_SHORT s.base)) (success t)

unfoldable pub ended : BinsSoFar → Paper BinTotals
ended s = end_of s.answer s

-- ---- what the code passes over at once

-- so many of `room` bytes: those inside a cell, and after a refusal all
abbrev pub passable_on : Result BinTotals Numbered → BinsSoFar → ℕ → ℕ
passable_on (Err f) s room = room
passable_on (Ok t) s room = cond (ltb (s.place - s.taken) room) (s.place - s.taken) room

unfoldable pub passable : BinsSoFar → ℕ → ℕ
passable s room = passable_on s.answer s room

abbrev pub pass_on : Result BinTotals Numbered → BinsSoFar → ℕ → BinsSoFar
pass_on (Err f) s n = s
pass_on (Ok t) s n = settle (on s n)

unfoldable pub pass : BinsSoFar → ℕ → BinsSoFar
pass s n = pass_on s.answer s n
