-- The sheet on which the code folds the columns: rows of four bytes. No promise to a caller speaks of it.
use Rattle.std.specs.Prelude.{ℕ, ◌+◌, ◌*◌, ◌≤◌, ◌<◌, ◌≡◌, List}
use Rattle.std.specs.Int.Bits.{bit_xor}
use Rattle.words.specs.Words.{byte_at}

-- its first n bytes are written by a rule, and the others are as they were
pub record Written (n : ℕ) (rule : ℕ → ℕ) (old new : List ℕ) : Type 0 where
  pub first : (i : ℕ) → i < n → byte_at new i ≡ rule i
  pub rest : (i : ℕ) → n ≤ i → byte_at new i ≡ byte_at old i

-- the first 508 bytes of s are copied
abbrev pub LaidOut : List ℕ → List ℕ → List ℕ → Type 0
LaidOut s old new = Written 508 (byte_at s) old new

-- byte i with the byte that stands n behind it laid upon it
abbrev pub laid : List ℕ → ℕ → ℕ → ℕ
laid s n i = bit_xor (byte_at s i) (byte_at s (n + i))

-- the first m rows have the next m laid upon them
abbrev pub Folded : ℕ → List ℕ → List ℕ → Type 0
Folded m old new = Written (4 * m) (laid old (4 * m)) old new
