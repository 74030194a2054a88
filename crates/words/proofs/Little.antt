-- Laws of little-endian words, each over the width. Assumes nothing.
use mathlib.Core.Path.{◌≡◌, refl, sym, ap, ◌∙◌}
use mathlib.Core.List.{List}
use Prim.Native.Nat.{ℕ, zero, suc, ◌+◌, ◌*◌, ◌^◌, ◌≤◌, ◌<◌}
use native.Mathlib.Nat.{zero-mul, mul-zero, add-zero, add-suc, add_assoc, mul_assoc, mul_comm, mul-add, pow-suc, mul-le-mul_right}
use native.Mathlib.Omega.{arith}
use lib.Pow.{pow-add}
use lib.ListN.{length, drop, get_or-eq_default}
use lib.Seq.{get_or-drop}
use Rattle.words.specs.Words.{byte_at, little}
pub use Rattle.words.specs.Words.{Bytes}

-- past the end all is 0
pub byte_past : (s : List ℕ) (at : ℕ) → length s ≤ at → byte_at s at ≡ 0
byte_past s at h = get_or-eq_default s 0 h

pub little-past : (n : ℕ) (s : List ℕ) (at : ℕ) → length s ≤ at → little n s at ≡ 0
unfolding little
little-past zero s at h = refl
little-past (suc n) s at h = rw (little-past n s at h, byte_past s (at + n) (omega arith), zero-mul)

-- a word of n bytes is below the n-th power of 256
pub little_lt : (n : ℕ) (s : List ℕ) → Bytes s → (at : ℕ) → little n s at < 256 ^ n
unfolding little
little_lt zero s b at = omega arith
little_lt (suc n) s b at =
    let top : byte_at s (at + n) * 256 ^ n ≤ 255 * 256 ^ n = mul-le-mul_right (256 ^ n) (omega (arith, b (at + n))) in
    omega (arith, little_lt n s b at, pow-suc 256 n, top)

-- a word is its lower bytes and its upper ones
pub little_split : (m n : ℕ) (s : List ℕ) (at : ℕ) → little (m + n) s at ≡ little m s at + 256 ^ m * little n s (at + m)
unfolding little
little_split m zero s at = rw (add-zero, mul-zero) (sym (add-zero _))
little_split m (suc n) s at =
    let b : ℕ = byte_at s (at + m + n) in
    let swapped : b * (256 ^ m * 256 ^ n) ≡ 256 ^ m * (b * 256 ^ n) =
    sym (mul_assoc b (256 ^ m) (256 ^ n)) ∙ ap (λ (x : ℕ). x * 256 ^ n) (mul_comm b (256 ^ m)) ∙ mul_assoc (256 ^ m) b (256 ^ n) in
    rw (add-suc m n, little_split m n s at, ← add_assoc at m n, pow-add 256 m n, swapped)
    (omega (arith, mul-add (256 ^ m) (little n s (at + m)) (b * 256 ^ n)))

-- words of the same bytes are the same
pub little-same : (n : ℕ) (s t : List ℕ) (a b : ℕ) → ((i : ℕ) → i < n → byte_at s (a + i) ≡ byte_at t (b + i)) → little n s a ≡ little n t b
unfolding little
little-same zero s t a b h = refl
little-same (suc n) s t a b h = rw (little-same n s t a b (λ i k. h i (omega arith)), h n (omega arith))

-- what stands from a position on has the same words
pub little-drop : (n k : ℕ) (s : List ℕ) (at : ℕ) → little n (drop k s) at ≡ little n s (k + at)
unfolding little
little-drop zero k s at = refl
little-drop (suc n) k s at = rw (little-drop n k s at, get_or-drop, ← add_assoc)

-- the words of two, four and eight bytes, byte by byte
pub little_2 : (s : List ℕ) (at : ℕ) → little 2 s at ≡ byte_at s at + 256 * byte_at s (at + 1)
unfolding little
little_2 s at = omega (arith, ap (byte_at s) (add-zero at))

pub little_4 : (s : List ℕ) (at : ℕ) → little 4 s at ≡ byte_at s at + 256 * byte_at s (at + 1) + 65536 * byte_at s (at + 2) + 16777216 * byte_at s (at + 3)
unfolding little
little_4 s at = omega (arith, ap (byte_at s) (add-zero at))

-- and the upper four of eight
pub little_far_4 : (s : List ℕ) (at : ℕ) → little 4 s (at + 4) ≡ byte_at s (at + 4) + 256 * byte_at s (at + 5) + 65536 * byte_at s (at + 6) + 16777216 * byte_at s (at + 7)
little_far_4 s at =
    omega (arith, little_4 s (at + 4), ap (byte_at s) (add_assoc at 4 1), ap (byte_at s) (add_assoc at 4 2), ap (byte_at s) (add_assoc at 4 3))
