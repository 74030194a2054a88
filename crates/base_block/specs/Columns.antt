-- The checksum by columns. Document 02, order 3: "four byte columns, each folded by itself and joined at the end".
use Rattle.std.specs.Prelude.{ℕ, zero, suc, ◌+◌, ◌*◌, ◌≡◌, List, [], ◌∷◌}
use Rattle.std.specs.Int.Bits.{bit_xor}
use Rattle.words.specs.Words.{byte_at, word32}
use Rattle.base_block.specs.Checksum.{xor_of, mended, checksum_of}
use Rattle.base_block.specs.Block.{block_of}
use Rattle.base_block.specs.Answers.{sum_paper, block_paper}
use Rattle.base_block.specs.declared.BaseBlock.{BaseBlock}
use Rattle.std.specs.Prelude.{Ok}

-- a column: byte c of each of the first n rows of four bytes, folded from 0
unfoldable pub column_of : List ℕ → ℕ → ℕ → ℕ
column_of s c zero = 0
column_of s c (suc n) = bit_xor (column_of s c n) (byte_at s (4 * n + c))

-- the row that is left of n rows, a byte of each column. "Joined" it is a word like every other: `word32 (row_of s n) 0`
abbrev pub row_of : List ℕ → ℕ → List ℕ
row_of s n = column_of s 0 n ∷ column_of s 1 n ∷ column_of s 2 n ∷ column_of s 3 n ∷ []

-- What an auditor reads: the words' XOR is the four columns joined, and so is the checksum of each answer before it is mended. Of
-- every row of bytes; proved as `by_columns` in proofs/Columns.antt.
pub record ByColumns (s : List ℕ) : Type 0 where
  pub words : (n : ℕ) → xor_of s n ≡ word32 (row_of s n) 0
  pub checksum : (x : ℕ) → sum_paper (Ok x) ≡ checksum_of s → x ≡ mended (word32 (row_of s 127) 0)
  pub computed : (b : BaseBlock) → block_paper (Ok b) ≡ block_of s → b.computed_checksum ≡ mended (word32 (row_of s 127) 0)
