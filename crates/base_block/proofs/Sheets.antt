-- The columns of the sheet on which the checksum is folded. Assumes nothing.
use mathlib.Core.Path.{◌≡◌, refl, sym, ap, ap₂, ◌∙◌}
use mathlib.Core.List.{List, ◌++◌}
use Prim.Native.Nat.{ℕ, zero, suc, ◌+◌, ◌*◌, ◌≤◌, ◌<◌}
use native.Mathlib.Nat.{add-zero, zero-add, add-suc}
use native.Mathlib.Decide.{dec_le}
use native.Mathlib.Omega.{arith}
use lib.Bits.{bit_xor, xor_zero_r}
use lib.ListN.{length, take, drop, set, replicate, get_or-replicate}
use lib.Seq.{get_or-set_same, get_or-set_other}
use Rattle.std.proofs.lemmas.Grind.{common_steps}
use Rattle.words.specs.Words.{byte_at}
use Rattle.words.proofs.Little.{Bytes, little_4, little-same}
use Rattle.base_block.specs.Checksum.{xor_of}
use Rattle.base_block.specs.Columns.{column_of, row_of}
use Rattle.base_block.specs.Sheets.{Written, LaidOut, Folded}
use Rattle.base_block.proofs.Xor.{xor_assoc, xor_four}
use Rattle.base_block.proofs.Columns.{row_at, words_by_columns}

-- bytes written by a rule: none, one more, and those of another list
module _ {rule : ℕ → ℕ} {old : List ℕ} where
  pub written_none : Written 0 rule old old
  written_none = record { first = λ j k. absurd (omega arith); rest = λ j k. refl }

  pub written_more : {new : List ℕ} {i : ℕ} (v : ℕ) → i < length new → v ≡ rule i → Written i rule old new → Written (i + 1) rule old (set new i v)
  written_more {new} {i} v room e f = record { first = first; rest = λ j k. get_or-set_other new i j v 0 (λ p. omega arith) ∙ f.rest j (omega arith) }
    where
      first : (j : ℕ) → j < i + 1 → byte_at (set new i v) j ≡ rule j
      first j k = go (dec_le i j)
        where
          go : Dec (i ≤ j) → byte_at (set new i v) j ≡ rule j
          go (yes q) = let same : j ≡ i = omega arith in rw same (get_or-set_same new i v 0 room ∙ e)
          go (no q) = get_or-set_other new i j v 0 (λ p. omega arith) ∙ f.first j (omega arith)

pub copied : (n : ℕ) (s old : List ℕ) → n ≤ length s → Written n (byte_at s) old (take n s ++ drop n old)
copied n s old h = record { first = λ i k. grind (arith, common_steps); rest = λ i k. grind (arith, common_steps) }

-- columns of the same bytes are the same
column_same : (s t : List ℕ) (c n : ℕ) → ((i : ℕ) → i < n → byte_at s (4 * i + c) ≡ byte_at t (4 * i + c)) → column_of s c n ≡ column_of t c n
unfolding column_of
column_same s t c zero h = refl
column_same s t c (suc n) h = ap₂ bit_xor (column_same s t c n (λ i k. h i (omega arith))) (h n (omega arith))

-- a column is its upper rows and its lower ones
column_split : (s : List ℕ) (c m n : ℕ) → column_of s c (m + n) ≡ bit_xor (column_of s c m) (column_of s (4 * m + c) n)
unfolding column_of
column_split s c m zero = rw add-zero (sym (xor_zero_r (column_of s c m)))
column_split s c m (suc n) =
    rw (add-suc m n)
    (ap₂ bit_xor (column_split s c m n) (ap (byte_at s) (omega arith))
    ∙ xor_assoc (column_of s c m) (column_of s (4 * m + c) n) (byte_at s (4 * n + (4 * m + c))))

-- two columns laid upon each other
column_two :
    (s t : List ℕ) (c d n : ℕ) → ((i : ℕ) → i < n → byte_at t (4 * i + c) ≡ bit_xor (byte_at s (4 * i + c)) (byte_at s (4 * i + d)))
    → column_of t c n ≡ bit_xor (column_of s c n) (column_of s d n)
unfolding column_of
column_two s t c d zero h = refl
column_two s t c d (suc n) h =
    ap₂ bit_xor (column_two s t c d n (λ i k. h i (omega arith))) (h n (omega arith))
    ∙ xor_four (column_of s c n) (column_of s d n) (byte_at s (4 * n + c)) (byte_at s (4 * n + d))

-- a fold keeps each column: so many rows have what twice as many had
pub fold_keeps : (m : ℕ) {s t : List ℕ} → Folded m s t → (c : ℕ) → c < 4 → column_of t c m ≡ column_of s c (m + m)
fold_keeps m {s} {t} w c h =
    column_two s t c (4 * m + c) m (λ i k. w.first (4 * i + c) (omega arith) ∙ ap (λ (j : ℕ). bit_xor (byte_at s (4 * i + c)) (byte_at s j)) (omega arith))
    ∙ sym (column_split s c m m)

-- a sheet of 128 rows, blank before, has the columns of the 127 rows that are laid out on it
pub laid_columns : (s t : List ℕ) → LaidOut s (replicate 512 0) t → (c : ℕ) → c < 4 → column_of t c 128 ≡ column_of s c 127
unfolding column_of
laid_columns s t w c h =
    ap₂ bit_xor (column_same t s c 127 (λ i k. w.first (4 * i + c) (omega arith))) (w.rest (508 + c) (omega arith) ∙ get_or-replicate 512 (508 + c) 0 0 (omega arith))
    ∙ xor_zero_r (column_of s c 127)

-- where one row is left with these columns, its word is the XOR of the words
pub row-joined :
    (s t : List ℕ) → Bytes s → (n : ℕ) → ((c : ℕ) → c < 4 → column_of t c 1 ≡ column_of s c n)
    → byte_at t 0 + 256 * byte_at t 1 + 65536 * byte_at t 2 + 16777216 * byte_at t 3 ≡ xor_of s n
unfolding column_of
row-joined s t b n k =
    sym (little_4 t 0)
    ∙ little-same 4 t (row_of s n) 0 0 (λ c h. k c h ∙ sym (row_at s n c h) ∙ ap (byte_at (row_of s n)) (sym (zero-add c)))
    ∙ sym (words_by_columns s b n)
