-- Document 02, order 12, in examples: listings byte by byte, and those of one key record. Proved in proofs/Examples.antt.
use Rattle.std.specs.Prelude.{ℕ, ◌≡◌, List, [], ◌∷◌, ◌++◌, true, false, replicate, take, set}
use Rattle.words.specs.Refusals.{BAD_BUDGET, OUT_OF_STEPS, OTHER_PLACE, BAD_RECORD, NOT_THE_LIST}
use Rattle.words.specs.Paper.{success, refused, by, no_room_told}
use Rattle.words.specs.Buffers.{buffer_after}
use Rattle.sub_key_walk.specs.Judge.{counts}
use Rattle.key_in_place.specs.Examples.{image, key, copy}
use Rattle.sub_key_listing.specs.Listing.{listing_of, wellformed}
use Rattle.sub_key_listing.specs.Answers.{right_listing, checked_of, written_of, writing_of}

-- base 4096 and position 16, as a record's opening has them
abbrev pub start : List ℕ
start = 14 ∷ 0 ∷ 0 ∷ 0 ∷ 1 ∷ 0 ∷ 0 ∷ 16 ∷ 0 ∷ 0 ∷ 16 ∷ 0 ∷ 0 ∷ 0 ∷ 0 ∷ 0 ∷ 0 ∷ 0 ∷ []

abbrev pub name : ℕ → List ℕ
name o = 6 ∷ 0 ∷ 0 ∷ 0 ∷ 2 ∷ 0 ∷ o ∷ 0 ∷ 0 ∷ 0 ∷ []

abbrev pub end : ℕ → List ℕ
end n = 6 ∷ 0 ∷ 0 ∷ 0 ∷ 3 ∷ 0 ∷ n ∷ 0 ∷ 0 ∷ 0 ∷ []

abbrev pub two : List ℕ
two = start ++ name 33 ++ name 34 ++ end 2

-- the listing of order 11's record: two offsets, base 0, position 16
abbrev pub right : List ℕ
right = right_listing image key

-- with another byte at a place
abbrev pub put : ℕ → ℕ → List ℕ
put place byte = set right place byte

pub record Examples : Type 0 where
  -- ---- which bytes are a listing
  pub none : listing_of 4096 16 [] ≡ start ++ end 0
  pub some : listing_of 4096 16 (33 ∷ 34 ∷ []) ≡ two
  pub formed : wellformed (start ++ end 0) ∷ wellformed two ∷ [] ≡ true ∷ true ∷ []
  -- a record cut short, the close left out, nothing, and further bytes: one, and a second close
  pub cut : wellformed (take 47 two) ∷ wellformed (take 38 two) ∷ wellformed (take 17 two) ∷ wellformed [] ∷ wellformed (two ++ (0 ∷ [])) ∷ wellformed (two ++ end 2) ∷ [] ≡ replicate 6 false
  -- another length, and another kind: of the opening, of an offset, of the close
  pub other_length : wellformed (set two 0 15) ∷ wellformed (set two 18 7) ∷ wellformed (set two 39 1) ∷ [] ≡ replicate 3 false
  pub other_kind : wellformed (set two 4 2) ∷ wellformed (set two 22 3) ∷ wellformed (set two 43 1) ∷ [] ≡ replicate 3 false
  -- another order: the close before an offset, no opening, two openings, an offset in front
  pub order :
      wellformed (start ++ name 33 ++ end 2 ++ name 34) ∷ wellformed (name 33 ++ name 34 ++ end 2) ∷ wellformed (start ++ start ++ name 33 ++ end 1)
      ∷ wellformed (name 33 ++ start ++ end 1) ∷ []
      ≡ replicate 4 false
  -- another closing number: one less, one more, and one that is the true one in its lowest byte
  pub number : wellformed (start ++ name 33 ++ name 34 ++ end 1) ∷ wellformed (start ++ name 33 ++ name 34 ++ end 3) ∷ wellformed (set two 47 1) ∷ [] ≡ replicate 3 false
  -- ---- a record's listing
  pub accepted : checked_of image key 8 right ≡ success (counts 2 1 2 0)
  -- another base, another position in its lowest and in its highest byte, another offset, the two in another order, one left out, one twice
  pub other_opening :
      checked_of image key 8 (put 6 1) ∷ checked_of image key 8 (put 10 17) ∷ checked_of image key 8 (put 17 1) ∷ []
      ≡ replicate 3 (refused (by NOT_THE_LIST 0))
  pub other_offsets :
      checked_of image key 8 (put 34 99) ∷ checked_of image key 8 (put 27 1) ∷ checked_of image key 8 (listing_of 0 16 (16 ∷ []))
      ∷ checked_of image key 8 (listing_of 0 16 (32 ∷ 16 ∷ [])) ∷ checked_of image key 8 (listing_of 0 16 (16 ∷ 32 ∷ 32 ∷ [])) ∷ []
      ≡ replicate 5 (refused (by NOT_THE_LIST 0))
  -- "22 ..; the walk's own ..; then 23": bad bytes with a bad budget, a bad budget with another list, a budget of no list
  pub first : checked_of image key 65537 (put 0 15) ≡ refused (by BAD_RECORD 0)
  pub second : checked_of image key 65537 (put 6 1) ≡ refused (by BAD_BUDGET 0)
  pub steps : checked_of image key 0 (put 6 1) ≡ refused (by OUT_OF_STEPS 0)
  -- a record that does not stand in the image: after 22, before all else
  pub elsewhere : (checked_of (copy 24 3) key 65537 (put 0 15) ≡ refused (by BAD_RECORD 0)) × (checked_of (copy 24 3) key 65537 right ≡ refused (by OTHER_PLACE 0))
  -- ---- written: 48 bytes, and where 47 are there, 9 with the bytes needed
  pub written : writing_of image key 8 48 ≡ success (written_of (counts 2 1 2 0))
  pub long : (written_of (counts 2 1 2 0)).bytes ≡ 48
  pub full : writing_of image key 8 47 ≡ refused (no_room_told 1 48 2 0)
  pub refused_first : writing_of image key 65537 47 ≡ refused (by BAD_BUDGET 0)
  -- later bytes as they were
  pub buffer : buffer_after (writing_of image key 8 50) right (replicate 50 7) ≡ right ++ (7 ∷ 7 ∷ [])
