-- Document 01, "Base block", second paragraph: the checksum.
use Rattle.std.specs.Prelude.{ℕ, zero, suc, ◌*◌, List, cond, length, ltb, eqb}
use Rattle.std.specs.Int.Bits.{bit_xor}
use Rattle.words.specs.Words.{word32}
use Rattle.words.specs.Refusals.{SHORT}
use Rattle.words.specs.Paper.{Paper, success, refused, by}

-- the XOR of the first n words, folded from 0
unfoldable pub xor_of : List ℕ → ℕ → ℕ
xor_of s zero = 0
xor_of s (suc n) = bit_xor (xor_of s n) (word32 s (4 * n))

-- "0 becoming 1 and FFFFFFFF becoming FFFFFFFE"
unfoldable pub mended : ℕ → ℕ
mended x = cond (eqb x 0) 1 (cond (eqb x 0xFFFF_FFFF) 0xFFFF_FFFE x)

-- "the XOR of the 127 words of bytes 0 to 507"
unfoldable pub sum_of : List ℕ → ℕ
sum_of s = mended (xor_of s 127)

-- SHORT "under 508 bytes for a checksum", at position 0
unfoldable pub checksum_of : List ℕ → Paper ℕ
checksum_of s = cond (ltb (length s) 508) (refused (by SHORT 0)) (success (sum_of s))
