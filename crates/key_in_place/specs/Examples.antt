-- Document 02, order 11, in examples: one image, and copies of it in which a byte of the key record is another. Proved in
-- proofs/Examples.antt.
use Rattle.std.specs.Prelude.{ℕ, ◌^◌, ◌+◌, ◌≡◌, List, [], ◌∷◌, ◌++◌, true, false, replicate, drop, set}
use Rattle.words.specs.Refusals.{BAD_SIGN, BAD_BUDGET, NOT_FOUND, OTHER_PLACE}
use Rattle.words.specs.Paper.{success, refused, by}
use Rattle.sub_key_walk.specs.Judge.{counts}
use Rattle.sub_key_walk.specs.Examples.{li}
use Rattle.cell_key_node.specs.Key.{key_of}
use Rattle.cell_key_node.specs.declared.KeyNode.{KeyNode}
use Rattle.key_in_place.specs.Place.{is_in_place}
use Rattle.key_in_place.specs.Answers.{measured_of, found_of}

-- an `li` list of two entries at 0, and at 16 a key record of 88 bytes: a name of two letters, and six bytes behind it. It has two subkeys, in
-- the list at offset 0, and no values.
abbrev pub image : List ℕ
image =
    li ++ (168 ∷ 255 ∷ 255 ∷ 255 ∷ 110 ∷ 107 ∷ 32 ∷ 0 ∷ replicate 16 0) ++ (2 ∷ 0 ∷ 0 ∷ 0 ∷ replicate 48 0) ++ (2 ∷ 0 ∷ 0 ∷ 0 ∷ [])
    ++ (68 ∷ 75 ∷ 1 ∷ 2 ∷ 3 ∷ 4 ∷ 5 ∷ 6 ∷ [])

abbrev pub key : KeyNode
key = key_of 16 0 (drop 16 image)

-- a copy of the image with another byte at a place of the record
abbrev pub copy : ℕ → ℕ → List ℕ
copy place byte = set image (16 + place) byte

-- the record, said to stand at a position, with a base
abbrev pub at : ℕ → ℕ → KeyNode
at p base = key_of p base (drop 16 image)

pub record Examples : Type 0 where
  pub itself : (is_in_place image key ≡ true) × (measured_of image key 8 ≡ success (counts 2 1 2 0))
  -- "other bytes in name or slack pass": a letter of the name, and a byte behind it
  pub other_name : (is_in_place (copy 80 90) key ≡ true) × (is_in_place (copy 82 90) key ≡ true)
  -- a byte of each number is another: size, letters, flags, time, access, parent, subkeys, volatile subkeys, subkey list, volatile list,
  -- values, value list, security, class, the four largest sizes, work, name length and class length
  pub other_bytes :
      is_in_place (copy 0 167) key ∷ is_in_place (copy 4 109) key ∷ is_in_place (copy 6 33) key ∷ is_in_place (copy 15 1) key ∷ is_in_place (copy 16 1) key
      ∷ is_in_place (copy 20 1) key ∷ is_in_place (copy 24 3) key ∷ is_in_place (copy 28 1) key ∷ is_in_place (copy 32 1) key ∷ is_in_place (copy 36 1) key
      ∷ is_in_place (copy 40 1) key ∷ is_in_place (copy 44 1) key ∷ is_in_place (copy 48 1) key ∷ is_in_place (copy 52 1) key ∷ is_in_place (copy 56 1) key
      ∷ is_in_place (copy 60 1) key ∷ is_in_place (copy 64 1) key ∷ is_in_place (copy 68 1) key ∷ is_in_place (copy 72 1) key ∷ is_in_place (copy 76 1) key
      ∷ is_in_place (copy 78 1) key ∷ []
      ≡ replicate 21 false
  -- another place: in the image, at its end, past it, and as far past it as 32 bits hold, where a position that is cut would be 16 again
  pub other_place : is_in_place image (at 0 0) ∷ is_in_place image (at 104 0) ∷ is_in_place image (at 105 0) ∷ is_in_place image (at (2 ^ 32 + 16) 0) ∷ [] ≡ replicate 4 false
  -- "The base is not in the bytes": another base passes, and the walk is done with it
  pub other_base : (is_in_place image (at 16 4096) ≡ true) × (measured_of image (at 16 1) 8 ≡ refused (by BAD_SIGN 1))
  -- 21 before 13, and for a count of 0
  pub first : (measured_of (copy 24 3) key 65537 ≡ refused (by OTHER_PLACE 0)) × (measured_of image key 65537 ≡ refused (by BAD_BUDGET 0))
  pub no_values : (found_of (copy 24 3) key [] ≡ refused (by OTHER_PLACE 0)) × (found_of image key [] ≡ refused (by NOT_FOUND 0))
