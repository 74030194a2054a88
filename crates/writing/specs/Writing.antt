-- A number written into a lent buffer, little-endian ("All numbers are little-endian", document 01), over its width in bytes.
use Rattle.std.specs.Prelude.{ℕ, zero, suc, ◌+◌, ◌/◌, ◌%◌, ◌≡◌, Bool, cond, List, [], ◌∷◌, ◌++◌, leb, length, take, drop}

-- `n` bytes of a number, the lowest first: what `little n` of the crate `words` reads
unfoldable pub bytes_of : ℕ → ℕ → List ℕ
bytes_of zero x = []
bytes_of (suc n) x = x % 256 ∷ bytes_of n (x / 256)

-- a row with other bytes from a place on, and every other place as it was
abbrev pub with_bytes : List ℕ → ℕ → List ℕ → List ℕ
with_bytes old at bytes = take at old ++ (bytes ++ drop (at + length bytes) old)

-- `n` bytes of a number are written from a place on where all of them fit; where they do not, none is, and that is told. So is a
-- buffer with too few places in document 01: nothing in it changes.
pub record PutAt (n x at : ℕ) (old : List ℕ) (r : Bool) (new : List ℕ) : Type 0 where
  pub fits : r ≡ leb (at + n) (length old)
  pub buffer : new ≡ cond (leb (at + n) (length old)) (with_bytes old at (bytes_of n x)) old
