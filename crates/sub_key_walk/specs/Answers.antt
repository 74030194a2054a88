-- The walk from a key record: its answer without regard to room, its answer, and what the buffer holds after it, for any input
-- (document 01, "The subkey walk").
use Rattle.std.specs.Prelude.{ℕ, List, [], cond, ltb, eqb, length}
use Rattle.words.specs.Refusals.{TOO_MANY, BAD_BUDGET}
use Rattle.words.specs.Paper.{Told, Paper, success, refused, by, tell, no_room_told, paper_of}
use Rattle.words.specs.Buffers.{in_room, Answered}
use Rattle.sub_key_walk.specs.Trace.{Event, walk_from, kept_of}
use Rattle.sub_key_walk.specs.Judge.{counts, judge}
use Rattle.sub_key_walk.specs.declared.Counts.{Counts}
use Rattle.sub_key_walk.specs.declared.WalkRefusal.{WalkRefusal}
use Rattle.std.specs.declared.result.Result.{Result}
use Rattle.words.specs.Paper.{number_of}

-- 13: "budget above 65,536"; 7: "subkey or value count above 1,048,576"
abbrev pub BUDGET_LIMIT : ℕ
BUDGET_LIMIT = 65536

abbrev pub COUNT_LIMIT : ℕ
COUNT_LIMIT = 1048576

-- no list is read yet
abbrev pub none : Counts
none = counts 0 0 0 0

-- "From a key record: 13, then 7; count 0 succeeds and reads nothing", then the walk, which reaches the lists `es`: all refusals but 9
unfoldable pub from_record : ℕ → ℕ → List Event → Paper Counts
from_record count budget es =
    cond (ltb BUDGET_LIMIT budget) (refused (by BAD_BUDGET 0))
    (cond (ltb COUNT_LIMIT count) (refused (by TOO_MANY 0))
    (cond (eqb count 0) (success none)
    (judge budget none es)))

abbrev pub measured : List ℕ → ℕ → ℕ → ℕ → ℕ → Paper Counts
measured s base count list budget = from_record count budget (walk_from s base list)

-- "NO ROOM also returns the places needed and the walk's entry count", the lists read and, "with 9, given too", the number dropped
abbrev pub full_of : Counts → Told
full_of st = no_room_told st.lists st.kept st.entries st.dropped

-- "9 comes after all others"
abbrev pub answer_of : List ℕ → ℕ → ℕ → ℕ → ℕ → ℕ → Paper Counts
answer_of s base count list budget room = in_room full_of room (measured s base count list budget)

-- the lists that are reached from a key record: "count 0 succeeds and reads nothing"
unfoldable pub reached_for : ℕ → List Event → List Event
reached_for count es = cond (eqb count 0) [] es

abbrev pub reached_by : List ℕ → ℕ → ℕ → ℕ → List Event
reached_by s base count list = reached_for count (walk_from s base list)

-- the offsets that a walk that succeeds keeps
abbrev pub kept_by : List ℕ → ℕ → ℕ → ℕ → List ℕ
kept_by s base count list = kept_of (reached_by s base count list)

-- what document 01 says of the code's answer
abbrev pub walk_told : WalkRefusal → Told
walk_told f = tell (number_of f.reason) f.position f.lists f.places f.entries f.dropped

abbrev pub walk_paper : Result Counts WalkRefusal → Paper Counts
walk_paper = paper_of (λ st. st) walk_told

-- what `sub_keys` promises of its answer `r` and of the buffer, which held `old` and then holds `new`
abbrev pub WalkAnswered : List ℕ → ℕ → ℕ → ℕ → ℕ → List ℕ → (Result Counts WalkRefusal) → List ℕ → Type 0
WalkAnswered s base count list budget old r new =
    Answered (walk_paper r) (answer_of s base count list budget (length old)) (kept_by s base count list) old new
