-- The answer of one leaf list, and what the buffer holds after it, for any input (document 01, "The subkey walk": one list).
use Rattle.std.specs.Prelude.{ℕ, List, [], length}
use Rattle.words.specs.Paper.{Told, Paper, success, refused, no_room_told, on_success, paper_of}
use Rattle.words.specs.Buffers.{in_room, Answered}
use Rattle.sub_key_list.specs.Leaves.{Leaf, leaf_at}
use Rattle.sub_key_walk.specs.Answers.{walk_told}
use Rattle.sub_key_walk.specs.declared.LeafRead.{LeafRead}
use Rattle.std.specs.declared.result.Result.{Result}
use Rattle.sub_key_walk.specs.declared.WalkRefusal.{WalkRefusal}

-- "offsets kept .. and leaf entries, dropped ones included", and "the number dropped", as numbers
abbrev pub read_of : Leaf → LeafRead
read_of l = record { kept = length l.kept; entries = l.entries; dropped = l.dropped }

-- NO ROOM of one leaf list: the places needed, the entries and those dropped; no walk has read a list
abbrev pub full_leaf : LeafRead → Told
full_leaf r = no_room_told 0 r.kept r.entries r.dropped

-- the refusals of a leaf list that is read as `a`, then 9
abbrev pub leaf_in_room : Paper Leaf → ℕ → Paper LeafRead
leaf_in_room a room = in_room full_leaf room (on_success read_of a)

-- the refusals of one list, BAD SIGN for an `ri` list, then 9
abbrev pub leaf_answer_of : List ℕ → ℕ → ℕ → ℕ → Paper LeafRead
leaf_answer_of s base p room = leaf_in_room (leaf_at s base p) room

-- the offsets that a leaf list keeps
unfoldable pub kept_from : Paper Leaf → List ℕ
kept_from (success l) = l.kept
kept_from (refused t) = []

-- what document 01 says of the code's answer
abbrev pub leaf_paper : Result LeafRead WalkRefusal → Paper LeafRead
leaf_paper = paper_of (λ r. r) walk_told

-- the answer `r` of a leaf list that is read as `a`, and the buffer, which held `old` and then holds `new`
abbrev pub LeafAnsweredAs : Paper Leaf → List ℕ → (Result LeafRead WalkRefusal) → List ℕ → Type 0
LeafAnsweredAs a old r new = Answered (leaf_paper r) (leaf_in_room a (length old)) (kept_from a) old new

-- what `leaf_sub_keys` promises
abbrev pub LeafAnswered : List ℕ → ℕ → ℕ → List ℕ → (Result LeafRead WalkRefusal) → List ℕ → Type 0
LeafAnswered s base p old r new = LeafAnsweredAs (leaf_at s base p) old r new
