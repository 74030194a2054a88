-- What the two functions promise: document 02, order 12, with document 01's rules on a lent buffer.
use Rattle.std.specs.Prelude.{ℕ, List, cond, length}
use Rattle.words.specs.Refusals.{BAD_RECORD, NOT_THE_LIST}
use Rattle.words.specs.Paper.{Told, Paper, success, refused, by, tell, no_room_told, number_of, paper_of, on_success, then_by}
use Rattle.words.specs.Buffers.{in_room, Answered}
use Rattle.sub_key_walk.specs.declared.Counts.{Counts}
use Rattle.sub_key_walk.specs.Answers.{kept_by, walk_told}
use Rattle.cell_key_node.specs.declared.KeyNode.{KeyNode}
use Rattle.key_in_place.specs.Answers.{measured_of}
use Rattle.sub_key_listing.specs.Listing.{listing_of, same, listing_size, wellformed}
use Rattle.sub_key_listing.specs.declared.Written.{Written}
use Rattle.sub_key_listing.specs.declared.WriteRefusal.{WriteRefusal}
use Rattle.std.specs.declared.result.Result.{Result}
use Rattle.sub_key_walk.specs.declared.WalkRefusal.{WalkRefusal}

-- the offsets of the walk from a key record, dropped ones left out
abbrev pub offsets_of : List ℕ → KeyNode → List ℕ
offsets_of s key = kept_by s key.base key.number_of_sub_keys key.sub_keys_list_offset_relative

-- the listing of a key record in an image: "the opening agrees with the key record lent, and the offsets are the walk's in order"
abbrev pub right_listing : List ℕ → KeyNode → List ℕ
right_listing s key = listing_of key.base key.position (offsets_of s key)

-- ---- checking

-- "then 23 NOT THE LIST for another opening or other offsets"
unfoldable pub compared : List ℕ → List ℕ → Counts → Paper Counts
compared listing right counts = cond (same listing right) (success counts) (refused (by NOT_THE_LIST 0))

-- "22 BAD RECORD for a wrong length, kind, order, closing number or further bytes; the walk's own without 9; then 23"
unfoldable pub checked_of : List ℕ → KeyNode → ℕ → List ℕ → Paper Counts
checked_of s key budget listing =
    cond (wellformed listing)
    (then_by (measured_of s key budget) (compared listing (right_listing s key)))
    (refused (by BAD_RECORD 0))

abbrev pub check_paper : Result Counts WalkRefusal → Paper Counts
check_paper = paper_of (λ st. st) walk_told

-- ---- writing

-- the listing's length, and what the walk counts
abbrev pub written_of : Counts → Written
written_of st =
    record { bytes = listing_size st.kept; kept = st.kept; lists = st.lists; entries = st.entries; dropped = st.dropped }

-- "with 9 where the listing does not fit": the bytes needed are its places
abbrev pub full_listing : Written → Told
full_listing w = no_room_told w.lists w.bytes w.entries w.dropped

abbrev pub write_told : WriteRefusal → Told
write_told f = tell (number_of f.reason) f.position f.lists f.bytes f.entries f.dropped

abbrev pub write_paper : Result Written WriteRefusal → Paper Written
write_paper = paper_of (λ w. w) write_told

-- "On writing: the walk's own, with 9 where the listing does not fit"
abbrev pub writing_of : List ℕ → KeyNode → ℕ → ℕ → Paper Written
writing_of s key budget room = in_room full_listing room (on_success written_of (measured_of s key budget))

-- what `write_listing` promises of its answer `r` and of the buffer, which held `old` and then holds `new`
abbrev pub WriteAnswered : List ℕ → KeyNode → ℕ → List ℕ → Result Written WriteRefusal → List ℕ → Type 0
WriteAnswered s key budget old r new = Answered (write_paper r) (writing_of s key budget (length old)) (right_listing s key) old new
