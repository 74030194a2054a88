-- The strict profile of the walk, from document 02, order 9, "Only what the version permits": each list that is reached is read
-- strictly. What is reached then, what a budget makes of it, and what the buffer holds are defined as for the ordinary reading.
use Rattle.std.specs.Prelude.{ℕ, List, false, ltb, length}
use Rattle.words.specs.Paper.{Paper}
use Rattle.words.specs.Buffers.{in_room, Answered}
use Rattle.sub_key_list.specs.Lists.{Listed}
use Rattle.sub_key_list.specs.Leaves.{Leaf, only_leaf}
use Rattle.sub_key_list.specs.Strict.{strict_at}
use Rattle.sub_key_walk.specs.Trace.{Event, trace, LEVELS, kept_of}
use Rattle.sub_key_walk.specs.Answers.{from_record, full_of, reached_for, walk_paper}
use Rattle.sub_key_walk.specs.Leaf.{LeafAnsweredAs}
use Rattle.sub_key_walk.specs.declared.Counts.{Counts}
use Rattle.std.specs.declared.result.Result.{Result}
use Rattle.sub_key_walk.specs.declared.WalkRefusal.{WalkRefusal}
use Rattle.sub_key_walk.specs.declared.LeafRead.{LeafRead}

-- how a list is read, by the levels left and the position: every list but the top one is named by an `ri` list
abbrev pub strict : List ℕ → ℕ → ℕ → ℕ → Paper Listed
strict s minor levels p = strict_at s minor (ltb levels LEVELS) p

-- the walk from a key record's list
abbrev pub strict_from : List ℕ → ℕ → ℕ → ℕ → List Event
strict_from s base list minor = trace (strict s minor) LEVELS s base list

-- its answer without regard to room, its answer, and the offsets that it keeps where it succeeds
abbrev pub strict_measured : List ℕ → ℕ → ℕ → ℕ → ℕ → ℕ → Paper Counts
strict_measured s base count list budget minor = from_record count budget (strict_from s base list minor)

abbrev pub strict_answer_of : List ℕ → ℕ → ℕ → ℕ → ℕ → ℕ → ℕ → Paper Counts
strict_answer_of s base count list budget minor room = in_room full_of room (strict_measured s base count list budget minor)

abbrev pub strict_kept_by : List ℕ → ℕ → ℕ → ℕ → ℕ → List ℕ
strict_kept_by s base count list minor = kept_of (reached_for count (strict_from s base list minor))

-- what `strict_sub_keys` promises of its answer `r` and of the buffer, which held `old` and then holds `new`
abbrev pub StrictAnswered : List ℕ → ℕ → ℕ → ℕ → ℕ → ℕ → List ℕ → (Result Counts WalkRefusal) → List ℕ → Type 0
StrictAnswered s base count list budget minor old r new =
    Answered (walk_paper r) (strict_answer_of s base count list budget minor (length old)) (strict_kept_by s base count list minor) old new

-- ---- one leaf list, which counts as not named by an `ri` list: the refusals of one list read strictly, BAD SIGN for an `ri` list, then 9

abbrev pub strict_leaf_at : List ℕ → ℕ → ℕ → ℕ → Paper Leaf
strict_leaf_at s base p minor = only_leaf s base p (strict_at s minor false p)

-- what `strict_leaf_sub_keys` promises
abbrev pub StrictLeafAnswered : List ℕ → ℕ → ℕ → ℕ → List ℕ → (Result LeafRead WalkRefusal) → List ℕ → Type 0
StrictLeafAnswered s base p minor old r new = LeafAnsweredAs (strict_leaf_at s base p minor) old r new
