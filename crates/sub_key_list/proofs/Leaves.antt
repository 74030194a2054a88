-- The entries of a leaf list, whatever their size, taken one by one. Assumes nothing.
use mathlib.Core.Path.{◌≡◌, refl, ap, ◌∙◌}
use mathlib.Core.List.{List, [], ◌∷◌, ◌++◌}
use mathlib.Core.Bool.{Bool, true, false, cond}
use Prim.Native.Nat.{ℕ, zero, suc, ◌+◌, ◌≤◌, ◌<◌}
use native.Mathlib.Nat.{add-zero, add-suc, suc-add}
use native.Mathlib.Omega.{arith}
use borrow.Author.Tests.{lt-ltb, le-ltb, ltb-true, ltb-false}
use lib.Dec.{ltb}
use lib.ListN.{length, length-append, set}
use lib.Seq.{sets}
use Rattle.words.specs.Words.{word32}
use Rattle.sub_key_list.specs.Leaves.{keep, leaf_kept, drop_one, leaf_dropped}

-- stores in a row
pub sets_append : (l : List ℕ) (i : ℕ) (xs ys : List ℕ) → sets l i (xs ++ ys) ≡ sets (sets l i xs) (i + length xs) ys
sets_append l i [] ys = rw add-zero
sets_append l i (x ∷ xs) ys = sets_append (set l i x) (suc i) xs ys ∙ rw (add-suc, suc-add)

keep_if : (b : Bool) (v : ℕ) (ks : List ℕ) → cond b (v ∷ ks) ks ≡ cond b (v ∷ []) [] ++ ks
keep_if true v ks = refl
keep_if false v ks = refl

keep_append : (v : ℕ) (ks : List ℕ) → keep v ks ≡ keep v [] ++ ks
unfolding keep
keep_append v ks = keep_if (ltb v 4294967296) v ks

-- an entry that is kept, and one that is dropped
pub keep_kept : (v : ℕ) → v < 4294967296 → keep v [] ≡ v ∷ []
unfolding keep
keep_kept v h = rw (lt-ltb v 4294967296 h)

pub keep_dropped : (v : ℕ) → 4294967296 ≤ v → keep v [] ≡ []
unfolding keep
keep_dropped v h = rw (le-ltb v 4294967296 h)

-- one entry is kept or dropped
keep_or_if : (b : Bool) (v : ℕ) → length (cond b (v ∷ []) []) + cond b 0 1 ≡ 1
keep_or_if true v = refl
keep_or_if false v = refl

pub keep_or_drop : (v : ℕ) → length (keep v []) + drop_one v ≡ 1
unfolding keep drop_one
keep_or_drop v = keep_or_if (ltb v 4294967296) v

-- and which of the two
pub drop_kept : (v : ℕ) → v < 4294967296 → drop_one v ≡ 0
unfolding drop_one
drop_kept v h = rw (lt-ltb v 4294967296 h)

pub drop_dropped : (v : ℕ) → 4294967296 ≤ v → drop_one v ≡ 1
unfolding drop_one
drop_dropped v h = rw (le-ltb v 4294967296 h)

pub kept_below : (v : ℕ) → drop_one v ≡ 0 → v < 4294967296
kept_below v h = go (ltb v 4294967296) refl
  where
    go : (b : Bool) → ltb v 4294967296 ≡ b → v < 4294967296
    go true e = ltb-true v 4294967296 e
    go false e = absurd (let z : ⊥ = omega (arith, drop_dropped v (ltb-false v 4294967296 e)) in z)

module _ (s : List ℕ) (base size : ℕ) where
  -- the entries that are dropped, one by one
  pub dropped_none : (k pos : ℕ) → k ≡ 0 → leaf_dropped s base size k pos ≡ 0
  unfolding leaf_dropped
  dropped_none k pos e = rw e

  pub dropped_next : (k j pos : ℕ) → k ≡ suc j → leaf_dropped s base size k pos ≡ drop_one (word32 s pos + base) + leaf_dropped s base size j (pos + size)
  unfolding leaf_dropped
  dropped_next k j pos e = rw e

  pub leaf_next : (k j pos : ℕ) → k ≡ suc j → leaf_kept s base size k pos ≡ keep (word32 s pos + base) [] ++ leaf_kept s base size j (pos + size)
  unfolding leaf_kept
  leaf_next k j pos e = rw e (keep_append (word32 s pos + base) (leaf_kept s base size j (pos + size)))

  pub leaf-none : (k pos : ℕ) → k ≡ 0 → leaf_kept s base size k pos ≡ []
  unfolding leaf_kept
  leaf-none k pos e = rw e

  -- every entry is kept or dropped
  pub leaf_all : (k pos : ℕ) → length (leaf_kept s base size k pos) + leaf_dropped s base size k pos ≡ k
  unfolding leaf_kept leaf_dropped
  leaf_all zero pos = refl
  leaf_all (suc k) pos =
      let v : ℕ = word32 s pos + base in
      let r : List ℕ = leaf_kept s base size k (pos + size) in
      omega (arith, ap length (keep_append v r), length-append (keep v []) r, keep_or_drop v, leaf_all k (pos + size))
