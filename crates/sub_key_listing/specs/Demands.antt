-- Document 02, order 12, said of any answers that the promises allow: `w` is what `sub_key_counts_of` answers for the record, the walk
-- without regard to room. Proved in proofs/Demands.antt.
use Rattle.std.specs.Prelude.{ℕ, ◌≤◌, ◌<◌, ◌≡◌, ◌↔◌, List, ◌++◌, length, get_or, take, drop}
use Rattle.words.specs.Refusals.{BAD_RECORD, NOT_THE_LIST}
use Rattle.words.specs.Paper.{refused, by, no_room_told}
use Rattle.sub_key_walk.specs.declared.Counts.{Counts}
use Rattle.sub_key_walk.specs.declared.WalkRefusal.{WalkRefusal}
use Rattle.sub_key_walk.specs.Judge.{counts}
use Rattle.sub_key_walk.specs.Answers.{walk_told}
use Rattle.cell_key_node.specs.declared.KeyNode.{KeyNode}
use Rattle.key_in_place.specs.Answers.{WalkAnsweredOf}
use Rattle.sub_key_listing.specs.Listing.{listing_of, Wellformed, listing_size}
use Rattle.sub_key_listing.specs.Answers.{offsets_of, right_listing, check_paper, checked_of, written_of, write_paper}
use Rattle.sub_key_listing.specs.declared.Written.{Written}
use Rattle.sub_key_listing.specs.declared.WriteRefusal.{WriteRefusal}
use Rattle.std.specs.Prelude.{Ok, Err}
use Rattle.std.specs.declared.result.Result.{Result}

-- ---- "the offsets are the walk's in order": those that `sub_keys_of` writes, in a buffer of any length

abbrev pub TheWalks : List ℕ → KeyNode → Type 0
TheWalks s key =
    (budget : ℕ) (old new : List ℕ) (v : (Result Counts WalkRefusal)) (t : Counts) → WalkAnsweredOf s key budget old v new → v ≡ Ok t
    → take t.kept new ≡ offsets_of s key

-- ---- checking: `r` is what `check_listing` answers

pub record Checked (s : List ℕ) (key : KeyNode) (budget : ℕ) (listing : List ℕ) (w : (Result Counts WalkRefusal)) (r : (Result Counts WalkRefusal)) : Type 0 where
  -- "Accept exactly if": the listing is the one of the record's base and position and the walk's offsets, and the walk succeeds; the counts are its
  pub accepted : (t : Counts) → (r ≡ Ok t) ↔ ((w ≡ Ok t) × (listing ≡ right_listing s key))
  -- "22 BAD RECORD for a wrong length, kind, order, closing number or further bytes": exactly if the bytes are no listing with its true number
  pub bad_record : (check_paper r ≡ refused (by BAD_RECORD 0)) ↔ (Wellformed listing → ⊥)
  -- "the walk's own without 9": what refuses the walk refuses a listing, all that it tells
  pub walk_refused : Wellformed listing → (f : WalkRefusal) → w ≡ Err f → r ≡ Err f
  -- "then 23 NOT THE LIST for another opening or other offsets": exactly if it is a listing, the walk succeeds, and it is another listing
  pub not_the_list : (check_paper r ≡ refused (by NOT_THE_LIST 0)) ↔ (Wellformed listing × ((t : Counts) × (w ≡ Ok t)) × (listing ≡ right_listing s key → ⊥))

-- ---- writing: `r` is what `write_listing` answers, and the buffer held `old` and then holds `new`

pub record Wrote (s : List ℕ) (key : KeyNode) (budget : ℕ) (old : List ℕ) (w : (Result Counts WalkRefusal)) (r : (Result Written WriteRefusal)) (new : List ℕ) : Type 0 where
  -- "the walk's own, with 9 where the listing does not fit": with the bytes needed
  pub walk_refused : (f : WalkRefusal) → w ≡ Err f → write_paper r ≡ refused (walk_told f)
  pub no_room : (t : Counts) → w ≡ Ok t → length old < listing_size t.kept
      → write_paper r ≡ refused (no_room_told t.lists (listing_size t.kept) t.entries t.dropped)
  pub room : (t : Counts) → w ≡ Ok t → listing_size t.kept ≤ length old → r ≡ Ok (written_of t)
  -- a refusal changes no byte; a success writes the listing from the first byte on, and tells its length
  pub untouched : (f : WriteRefusal) → r ≡ Err f → new ≡ old
  pub written : (v : Written) → r ≡ Ok v → (v.bytes ≡ length (right_listing s key)) × (new ≡ right_listing s key ++ drop v.bytes old)
  -- "what it writes is accepted under the same budget": whatever `check_listing` answers for the bytes written
  pub accepted : (v : Written) → r ≡ Ok v → (c : (Result Counts WalkRefusal)) → check_paper c ≡ checked_of s key budget (take v.bytes new)
      → c ≡ Ok (counts v.kept v.lists v.entries v.dropped)

-- ---- two different lists of offsets have different listings, and so have two bases and two positions

abbrev pub Injective : Type 0
Injective =
    (base base' position position' : ℕ) (os os' : List ℕ) → base < 4294967296 → base' < 4294967296
    → position < 18446744073709551616 → position' < 18446744073709551616
    → ((i : ℕ) → get_or os i 0 < 4294967296) → ((i : ℕ) → get_or os' i 0 < 4294967296)
    → listing_of base position os ≡ listing_of base' position' os' → (base ≡ base') × (position ≡ position') × (os ≡ os')
