-- Laws of the hash, over any rule of upper case. Assumes nothing.
use Rattle.std.proofs.Common.{◌≡◌, ℕ, zero, suc, ◌+◌, ◌*◌, ◌/◌, ◌%◌, ◌^◌, ◌<◌, List, drop, sym, refl, ap, ◌∙◌, add-one, arith}
use native.Mathlib.Nat.{mul-add-mod_self_left, div-add-mod}
use Rattle.words.specs.Words.{word16, little}
use Rattle.words.proofs.Little.{little-drop}
use Rattle.name_hash.specs.Hash.{hash_of}
use Rattle.name_hash.specs.Case.{exact_of}

reduced : (x u : ℕ) → (x % 2 ^ 32 * 37 + u) % 2 ^ 32 ≡ (x * 37 + u) % 2 ^ 32
reduced x u =
    let e : x * 37 + u ≡ 2 ^ 32 * (x / 2 ^ 32 * 37) + (x % 2 ^ 32 * 37 + u) = omega (arith, div-add-mod x (2 ^ 32)) in
    sym (ap (λ (z : ℕ). z % 2 ^ 32) e ∙ mul-add-mod_self_left (2 ^ 32) (x / 2 ^ 32 * 37) (x % 2 ^ 32 * 37 + u))

module _ (upper f : ℕ → ℕ) where
  -- one character more
  pub hash_more : (n : ℕ) → hash_of upper f (n + 1) ≡ (hash_of upper f n * 37 + upper (f n)) % 2 ^ 32
  unfolding hash_of
  hash_more n = rw add-one

  -- the hash is the remainder of the exact sum
  pub hash_exact : (n : ℕ) → hash_of upper f n ≡ exact_of upper f n % 2 ^ 32
  unfolding hash_of exact_of
  hash_exact zero = refl
  hash_exact (suc n) = rw (hash_exact n) (reduced (exact_of upper f n) (upper (f n)))

-- two rules and two names whose characters have the same upper case, each by its rule, give one hash
pub hash_same : (upper upper' f f' : ℕ → ℕ) (n : ℕ) → ((i : ℕ) → i < n → upper (f i) ≡ upper' (f' i))
    → hash_of upper f n ≡ hash_of upper' f' n
unfolding hash_of
hash_same upper upper' f f' zero h = refl
hash_same upper upper' f f' (suc n) h = rw (hash_same upper upper' f f' n (λ i l. h i (omega arith)), h n (omega arith))

-- a unit stands at twice its number
pub unit_at : (name : List ℕ) (i : ℕ) → word16 (drop i name) i ≡ word16 name (2 * i)
unit_at name i = little-drop 2 i name i ∙ ap (little 2 name) (let e : i + i ≡ 2 * i = omega arith in e)
