-- Laws of the checksum. Assumes nothing.
use mathlib.Core.Path.{◌≡◌, refl}
use mathlib.Core.List.{List}
use mathlib.Core.Bool.{Bool, true, false, cond}
use Prim.Native.Nat.{ℕ, ◌^◌, ◌≤◌, ◌<◌}
use native.Mathlib.Omega.{arith}
use lib.Dec.{eqb}
use borrow.Author.Tests.{eqb-false}
use Rattle.words.proofs.Little.{Bytes, little_lt}
use Rattle.base_block.specs.Checksum.{xor_of, mended, sum_of}
use Rattle.base_block.specs.Columns.{row_of}
use Rattle.base_block.proofs.Columns.{row_bytes, words_by_columns}

xor_range : (s : List ℕ) → Bytes s → (n : ℕ) → xor_of s n < 2 ^ 32
xor_range s b n = rw (words_by_columns s b n) (little_lt 4 (row_of s n) (row_bytes s b n) 0)

abbrev Between : ℕ → Type 0
Between x = (1 ≤ x) × (x ≤ 0xFFFF_FFFE)

mended_range : (x : ℕ) → x < 2 ^ 32 → Between (mended x)
unfolding mended
mended_range x h = go (eqb x 0) (eqb x 0xFFFF_FFFF) refl refl
  where
    go : (p q : Bool) → eqb x 0 ≡ p → eqb x 0xFFFF_FFFF ≡ q → Between (cond p 1 (cond q 0xFFFF_FFFE x))
    go true q e f = omega arith
    go false true e f = omega arith
    go false false e f =
        let a : x ≡ 0 → ⊥ = eqb-false x 0 e in
        let b : x ≡ 0xFFFF_FFFF → ⊥ = eqb-false x 0xFFFF_FFFF f in
        omega arith

-- "So the result lies between 1 and FFFFFFFE"
pub sum_range : (s : List ℕ) → Bytes s → (1 ≤ sum_of s) × (sum_of s ≤ 0xFFFF_FFFE)
unfolding sum_of
sum_range s b = mended_range (xor_of s 127) (xor_range s b 127)
