-- Document 02, order 12: "A listing is a row of house records: length of what follows (four bytes), kind (two bytes), content,
-- little-endian." What a listing is, and which bytes are one.
use Rattle.std.specs.Prelude.{ℕ, zero, suc, ◌+◌, ◌-◌, ◌*◌, ◌/◌, ◌<◌, ◌≡◌, List, [], ◌∷◌, ◌++◌, Bool, true, false, ◌&&◌, ltb, eqb, length, get_or}
use Rattle.words.specs.Words.{word32, word64}
use Rattle.writing.specs.Writing.{bytes_of}

-- ---- one record: "The length counts kind and content"

abbrev pub house : ℕ → List ℕ → List ℕ
house kind content = bytes_of 4 (2 + length content) ++ (bytes_of 2 kind ++ content)

abbrev pub OPENS : ℕ
OPENS = 1

abbrev pub NAMES : ℕ
NAMES = 2

abbrev pub CLOSES : ℕ
CLOSES = 3

-- "Kind 1 opens with the base (four bytes) and key position (eight)"
abbrev pub opening : ℕ → ℕ → List ℕ
opening base position = house OPENS (bytes_of 4 base ++ bytes_of 8 position)

-- "kind 2 is one offset (four)", "kind 3 closes with the number of offsets (four)": a kind and a number of four bytes
abbrev pub plain : ℕ → ℕ → List ℕ
plain kind x = house kind (bytes_of 4 x)

unfoldable pub named : List ℕ → List ℕ
named [] = []
named (o ∷ os) = plain NAMES o ++ named os

-- ---- a listing: "one opening, then offsets, one close and no further bytes, the close gives their true number"

unfoldable pub listing_of : ℕ → ℕ → List ℕ → List ℕ
listing_of base position offsets = opening base position ++ (named offsets ++ plain CLOSES (length offsets))

-- these bytes are a listing, of some base, position and offsets; each number is one that its bytes can hold
pub record Wellformed (bytes : List ℕ) : Type 0 where
  pub base : ℕ
  pub position : ℕ
  pub offsets : List ℕ
  pub base_fits : base < 4294967296
  pub position_fits : position < 18446744073709551616
  pub offsets_fit : (i : ℕ) → get_or offsets i 0 < 4294967296
  pub number_fits : length offsets < 4294967296
  pub is : bytes ≡ listing_of base position offsets

-- ---- the same as a test, which is true exactly then (`well_formed`, proofs/Wellformed.antt)

-- two rows are one
unfoldable pub same : List ℕ → List ℕ → Bool
same [] [] = true
same [] (y ∷ ys) = false
same (x ∷ xs) [] = false
same (x ∷ xs) (y ∷ ys) = eqb x y && same xs ys

-- an opening has 18 bytes, every other record 10; so many offsets a listing of so many bytes has room for
abbrev pub listing_size : ℕ → ℕ
listing_size n = 28 + 10 * n

abbrev pub number_in : ℕ → ℕ
number_in bytes = (bytes - 28) / 10

-- the numbers that `left` records hold, the first at `at`
unfoldable pub offsets_in : List ℕ → ℕ → ℕ → List ℕ
offsets_in bytes zero at = []
offsets_in bytes (suc left) at = word32 bytes (at + 6) ∷ offsets_in bytes left (at + 10)

-- the listing of what the bytes hold where a listing holds its numbers
abbrev pub made_of : List ℕ → List ℕ
made_of bytes = listing_of (word32 bytes 6) (word64 bytes 10) (offsets_in bytes (number_in (length bytes)) 18)

-- the bytes are the listing of what they hold, and its number is the true one and not cut to four bytes
unfoldable pub wellformed : List ℕ → Bool
wellformed bytes = same bytes (made_of bytes) && ltb (number_in (length bytes)) 4294967296
