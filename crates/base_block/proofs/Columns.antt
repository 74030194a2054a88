-- The XOR of words is the join of their columns, and so is the checksum of every answer. Assumes nothing.
use mathlib.Core.Path.{◌≡◌, refl, sym, ap, ap₂, ◌∙◌}
use mathlib.Core.List.{List}
use mathlib.Core.Bool.{Bool, true, false, cond}
use Prim.Native.Nat.{ℕ, zero, suc, ◌+◌, ◌*◌, ◌^◌, ◌≤◌, ◌<◌}
use native.Mathlib.Nat.{zero-add, add_comm, pow-suc}
use native.Mathlib.Decide.{dec_le}
use native.Mathlib.Omega.{arith}
use lib.Dec.{ltb, eqb}
use lib.Bits.{bit_xor, xor_lt, xor_block}
use lib.Pow.{pow-add}
use lib.ListN.{length}
use Rattle.words.specs.Words.{byte_at, little, word32}
use Rattle.words.specs.Refusals.{SHORT}
use Rattle.words.specs.Paper.{success, refused, by, checked}
use Rattle.words.proofs.Little.{Bytes, byte_past, little_lt}
use Rattle.words.proofs.Papers.{success-refused, same-success}
use Rattle.base_block.specs.Checksum.{xor_of, mended, sum_of, checksum_of}
use Rattle.base_block.specs.Block.{fault_of, first_of, fields_of, block_of}
use Rattle.base_block.specs.Columns.{column_of, row_of, ByColumns}
use Rattle.base_block.specs.declared.BaseBlock.{BaseBlock}

-- so many bytes are eight times as many digits
bytes_digits : (k : ℕ) → 256 ^ k ≡ 2 ^ (8 * k)
bytes_digits zero = refl
bytes_digits (suc k) = pow-suc 256 k ∙ ap (λ (x : ℕ). x * 256) (bytes_digits k) ∙ sym (pow-add 2 (8 * k) 8) ∙ ap (λ (x : ℕ). 2 ^ x) (omega arith)

-- the XOR of two words is the word of the XORs of their bytes
xor_little :
    (k : ℕ) (s t u : List ℕ) → Bytes s → Bytes t → (a b c : ℕ)
    → ((i : ℕ) → i < k → byte_at u (c + i) ≡ bit_xor (byte_at s (a + i)) (byte_at t (b + i)))
    → bit_xor (little k s a) (little k t b) ≡ little k u c
unfolding little
xor_little zero s t u p q a b c h = refl
xor_little (suc k) s t u p q a b c h =
    let d : ℕ = 2 ^ (8 * k) in
    let e : 256 ^ k ≡ d = bytes_digits k in
    let x : ℕ = byte_at s (a + k) in
    let y : ℕ = byte_at t (b + k) in
    let upper : (z w : ℕ) → w + z * 256 ^ k ≡ z * d + w = λ z w. add_comm w (z * 256 ^ k) ∙ ap (λ (r : ℕ). z * r + w) e in
    ap₂ bit_xor (upper x (little k s a)) (upper y (little k t b))
    ∙ xor_block (8 * k) x y (little k s a) (little k t b) (rw (← e) (little_lt k s p a)) (rw (← e) (little_lt k t q b))
    ∙ ap₂ (λ (v w : ℕ). v * d + w) (sym (h k (omega arith))) (xor_little k s t u p q a b c (λ i j. h i (omega arith)))
    ∙ sym (upper (byte_at u (c + k)) (little k u c))

-- the bytes of the row are the columns
pub row_at : (s : List ℕ) (n c : ℕ) → c < 4 → byte_at (row_of s n) c ≡ column_of s c n
row_at s n zero h = refl
row_at s n (suc zero) h = refl
row_at s n (suc (suc zero)) h = refl
row_at s n (suc (suc (suc zero))) h = refl
row_at s n (suc (suc (suc (suc c)))) h = absurd (omega arith)

-- each is a byte, and so is what stands past the row's end
column_lt : (s : List ℕ) → Bytes s → (c n : ℕ) → column_of s c n < 2 ^ 8
unfolding column_of
column_lt s b c zero = omega arith
column_lt s b c (suc n) = xor_lt 8 (column_of s c n) (byte_at s (4 * n + c)) (column_lt s b c n) (b (4 * n + c))

pub row_bytes : (s : List ℕ) → Bytes s → (n : ℕ) → Bytes (row_of s n)
row_bytes s b n c = go (dec_le 4 c)
  where
    go : Dec (4 ≤ c) → byte_at (row_of s n) c < 256
    go (yes h) = rw (byte_past (row_of s n) c h) (omega arith)
    go (no h) = rw (row_at s n c (omega arith)) (column_lt s b c n)

-- the XOR of words is the join of their columns, by one row after another
pub words_by_columns : (s : List ℕ) → Bytes s → (n : ℕ) → xor_of s n ≡ word32 (row_of s n) 0
unfolding xor_of column_of little
words_by_columns s b zero = refl
words_by_columns s b (suc n) =
    ap (λ (x : ℕ). bit_xor x (word32 s (4 * n))) (words_by_columns s b n)
    ∙ xor_little 4 (row_of s n) s (row_of s (suc n)) (row_bytes s b n) b 0 (4 * n) 0
    (λ c h. rw (zero-add c) (row_at s (suc n) c h ∙ sym (ap (λ (x : ℕ). bit_xor x (byte_at s (4 * n + c))) (row_at s n c h))))

-- ---- and so of every answer

-- what the promises say of a success
by-sum : (s : List ℕ) (x : ℕ) → success x ≡ checksum_of s → x ≡ sum_of s
unfolding checksum_of
by-sum s x = go (ltb (length s) 508)
  where
    go : (p : Bool) → success x ≡ cond p (refused (by SHORT 0)) (success (sum_of s)) → x ≡ sum_of s
    go true e = absurd (success-refused e)
    go false e = same-success e

by_block : (s : List ℕ) (b : BaseBlock) → success b ≡ block_of s → b ≡ fields_of s
unfolding block_of checked
by_block s b = go (eqb (fault_of s) 0)
  where
    go : (p : Bool) → success b ≡ cond p (success (fields_of s)) (refused (by (fault_of s) 0)) → b ≡ fields_of s
    go true e = same-success e
    go false e = absurd (success-refused e)

pub by_columns : (s : List ℕ) → Bytes s → ByColumns s
unfolding sum_of fields_of first_of
by_columns s b =
    let sum : sum_of s ≡ mended (word32 (row_of s 127) 0) = ap mended (words_by_columns s b 127) in
    record {
      words = words_by_columns s b;
      checksum = λ x e. by-sum s x e ∙ sum;
      computed = λ k e. ap (λ (f : BaseBlock). f.computed_checksum) (by_block s k e) ∙ sum;
    }
