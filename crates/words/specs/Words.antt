-- Words of a row of bytes, little-endian ("All numbers are little-endian", document 01). A byte past the end counts as 0.
use Rattle.std.specs.Prelude.{ℕ, zero, suc, ◌+◌, ◌*◌, ◌^◌, ◌<◌, List, get_or, ℤ, pos, negsuc}
use Rattle.std.specs.Int.{w32}
use Rattle.std.proofs.Common.{to_z}

abbrev pub byte_at : List ℕ → ℕ → ℕ
byte_at s at = get_or s at 0

-- each is a byte: what a slice of bytes holds
abbrev pub Bytes : List ℕ → Type 0
Bytes s = (i : ℕ) → byte_at s i < 256

-- the number that `n` bytes are, the first of them at `at`, the lowest first
unfoldable pub little : ℕ → List ℕ → ℕ → ℕ
little zero s at = 0
little (suc n) s at = little n s at + byte_at s (at + n) * 256 ^ n

abbrev pub word16 : List ℕ → ℕ → ℕ
word16 s at = little 2 s at

abbrev pub word32 : List ℕ → ℕ → ℕ
word32 s at = little 4 s at

abbrev pub word64 : List ℕ → ℕ → ℕ
word64 s at = little 8 s at

-- the signed number that 32 bits are
unfoldable pub signed : ℕ → ℤ
signed x = to_z w32 x

-- a signed number as it is, or 0 for a negative one
abbrev pub above_zero : ℤ → ℕ
above_zero (pos n) = n
above_zero (negsuc n) = 0
