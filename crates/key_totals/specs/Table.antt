-- Document 02, order 7: "Keep a table of key position (lent with the key record) and kept number, with the grand total stored." Order 11:
-- "The table of order 7 stores the position from it", the key record.
use Rattle.std.specs.Prelude.{ℕ, suc, ◌+◌, ◌-◌, ◌%◌, ◌^◌, Bool, true, false, cond, not, ◌&&◌, List, [], ◌∷◌, get_or, replicate, ◌==◌, nat_le, nat_lt, slice_index_or, slice_set}
use Rattle.words.specs.Refusals.{NOT_FOUND, ALREADY_IN, OTHER_PLACE}
use Rattle.words.specs.Paper.{Told, Paper, success, refused, by, no_room_told, paper_of}
use Rattle.sub_key_walk.specs.declared.Counts.{Counts}
use Rattle.sub_key_walk.specs.Answers.{measured, walk_told}
use Rattle.cell_key_node.specs.declared.KeyNode.{KeyNode}
use Rattle.key_in_place.specs.Place.{is_in_place}
use Rattle.key_totals.specs.declared.Place.{Place}
use Rattle.key_totals.specs.declared.Totals.{Totals}
use Rattle.key_totals.specs.declared.Changed.{Changed}
use Rattle.key_totals.specs.declared.Wanted.{Wanted}
use Rattle.key_totals.specs.declared.Wanted.TheVariants.{Free, Key}
use Rattle.std.specs.declared.result.Result.{Result}
use Rattle.std.specs.declared.option.Option.{Option}
use Rattle.std.specs.declared.option.Option.TheVariants.{Some, None}
use Rattle.sub_key_walk.specs.declared.WalkRefusal.{WalkRefusal}

-- ---- places

-- "up to 256 chosen keys"
abbrev pub PLACES : ℕ
PLACES = 256

-- a place that is free, and one that is taken by the key at a position, with its number
abbrev pub free : Place
free = record { position = 0; kept = 0; taken = false }

abbrev pub entry : ℕ → ℕ → Place
entry p n = record { position = p; kept = n; taken = true }

-- a table of places and a total: the one place where they are put together
abbrev pub totals : List Place → ℕ → Totals
totals es n = record { places = es; total = n }

-- "a new image starts an empty table"
abbrev pub none : Totals
none = totals (replicate PLACES free) 0

-- a place is free, or it is that of the key at a position
unfoldable pub suits : Wanted → Place → Bool
suits Free e = not e.taken
suits (Key p) e = e.taken && e.position == p

-- the first place of which a test is true, counted from 0, and as many as there are where there is none
unfoldable pub first_of : (Place → Bool) → List Place → ℕ
first_of f [] = 0
first_of f (e ∷ es) = cond (f e) 0 (suc (first_of f es))

-- a place by its number, where there is such a place
unfoldable pub found : ℕ → Option ℕ
found i = cond (nat_lt i PLACES) (Some i) None

-- ---- the total

-- what a place has in the total
abbrev pub counted_in : Place → ℕ
counted_in e = cond e.taken e.kept 0

-- another content of a place: the total loses what was there and gets what is there now, modulo 2^64. In a table
-- that began empty it is never turned over (Rows.antt: `exact`, `fits`).
unfoldable pub laid : Totals → ℕ → Place → Totals
laid t at e = totals (slice_set t.places at e) ((t.total + (2 ^ 64 - counted_in (slice_index_or t.places at free)) + counted_in e) % 2 ^ 64)

-- ---- the calls

-- the table after a call, and what the call answers
pub record Outcome : Type 0 where
  pub table : Totals
  pub answer : Paper ℕ

abbrev pub outcome : Totals → Paper ℕ → Outcome
outcome t a = record { table = t; answer = a }

-- "A refused call changes nothing."
abbrev pub refusing : Totals → Told → Outcome
refusing t u = outcome t (refused u)

-- a key's place gets the number, and the number is the answer
abbrev pub keeping : Totals → ℕ → ℕ → ℕ → Outcome
keeping t at p n = outcome (laid t at (entry p n)) (success n)

-- the place of the key at a position, the first of them in a table that no call made; the first free place
abbrev pub place_of : Totals → ℕ → ℕ
place_of t p = first_of (suits (Key p)) t.places

abbrev pub free_of : Totals → ℕ
free_of t = first_of (suits Free) t.places

-- "21 OTHER PLACE, before all others, where the bytes at that position do not read as this same record": a call behind that check
abbrev pub only_here : Totals → List ℕ → KeyNode → Outcome → Outcome
only_here t s key o = cond (is_in_place s key) o (refusing t (by OTHER_PLACE 0))

-- "the walk's refusals without 9", and the number that the walk keeps; the base is the record's
abbrev pub walked : List ℕ → KeyNode → ℕ → Paper Counts
walked s key budget = measured s key.base key.number_of_sub_keys key.sub_keys_list_offset_relative budget

-- "9, with 257 places needed", every other field 0
abbrev pub full : Told
full = no_room_told 0 257 0 0

-- "Refusals, in order: 19 ALREADY IN on adding"; "on adding .. the walk's refusals without 9; on adding 9 .. when all 256 are taken".
-- "freed places are used again": the first of them
abbrev pub add_walked : Totals → ℕ → Paper Counts → Outcome
add_walked t p (refused u) = refusing t u
add_walked t p (success c) = cond (nat_le PLACES (free_of t)) (refusing t full) (keeping t (free_of t) p c.kept)

unfoldable pub add_here : Totals → List ℕ → KeyNode → ℕ → Outcome
add_here t s key budget =
    cond (nat_lt (place_of t key.position) PLACES) (refusing t (by ALREADY_IN 0)) (add_walked t key.position (walked s key budget))

unfoldable pub add_of : Totals → List ℕ → KeyNode → ℕ → Outcome
add_of t s key budget = only_here t s key (add_here t s key budget)

-- "or 16 on replacing and removing"; "on .. replacing the walk's refusals without 9"
abbrev pub replace_walked : Totals → ℕ → Paper Counts → Outcome
replace_walked t p (refused u) = refusing t u
replace_walked t p (success c) = keeping t (place_of t p) p c.kept

unfoldable pub replace_here : Totals → List ℕ → KeyNode → ℕ → Outcome
replace_here t s key budget =
    cond (nat_le PLACES (place_of t key.position)) (refusing t (by NOT_FOUND 0)) (replace_walked t key.position (walked s key budget))

unfoldable pub replace_of : Totals → List ℕ → KeyNode → ℕ → Outcome
replace_of t s key budget = only_here t s key (replace_here t s key budget)

-- the number in the place of a key
abbrev pub number_in : Totals → ℕ → ℕ
number_in t p = (get_or t.places (place_of t p) free).kept

-- the place is free, and the answer is the number that the key had
unfoldable pub remove_of : Totals → ℕ → Outcome
remove_of t p =
    cond (nat_le PLACES (place_of t p)) (refusing t (by NOT_FOUND 0)) (outcome (laid t (place_of t p) free) (success (number_in t p)))

-- reading an entry: refused by 16 too where there is none
unfoldable pub number_of : Totals → ℕ → Paper ℕ
number_of t p = cond (nat_le PLACES (place_of t p)) (refused (by NOT_FOUND 0)) (success (number_in t p))

-- ---- what the code's answers say

abbrev pub kept_paper : Result ℕ WalkRefusal → Paper ℕ
kept_paper = paper_of (λ n. n) walk_told

abbrev pub changed_paper : Changed → Outcome
changed_paper c = outcome c.table (kept_paper c.answer)
