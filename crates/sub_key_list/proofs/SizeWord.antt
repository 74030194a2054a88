-- "The size word isn't used": what stands before byte 4 of a list, its size word among it, changes no answer of it. Assumes nothing.
use mathlib.Core.Path.{◌≡◌, refl, ap, ◌∙◌}
use mathlib.Core.List.{List}
use Prim.Native.Nat.{ℕ, zero, suc, ◌+◌, ◌≤◌}
use native.Mathlib.Omega.{arith}
use Rattle.words.specs.Paper.{Paper, success, refused}
use Rattle.words.proofs.Little.{little-same}
use Rattle.sub_key_list.specs.Lists.{Listed, leaf, index, list_at, SameBehind}
use Rattle.sub_key_list.specs.Leaves.{leaf_kept, leaf_dropped, only_leaf, leaf_at}

leaf-same : (s t : List ℕ) (p base size k pos : ℕ) → SameBehind s t p → p + 4 ≤ pos
    → (leaf_kept s base size k pos ≡ leaf_kept t base size k pos) × (leaf_dropped s base size k pos ≡ leaf_dropped t base size k pos)
unfolding leaf_kept leaf_dropped
leaf-same s t p base size zero pos h l = (refl, refl)
leaf-same s t p base size (suc k) pos h l =
    let w = little-same 4 s t pos pos (λ i k. h.bytes (pos + i) (omega arith)) in
    let r = leaf-same s t p base size k (pos + size) h (omega arith) in
    (rw (w, r.0), rw (w, r.1))

only_same : (s t : List ℕ) (base p : ℕ) (a : Paper Listed) → SameBehind s t p → only_leaf s base p a ≡ only_leaf t base p a
unfolding only_leaf
only_same s t base p (success (leaf kind size n)) h = let r = leaf-same s t p base size n (p + 8) h (omega arith) in rw (r.0, r.1)
only_same s t base p (success (index n)) h = refl
only_same s t base p (refused x) h = refl

module _ (s t : List ℕ) (p : ℕ) (h : SameBehind s t p) where
  -- the list at a position
  pub size_word_unused : list_at s p ≡ list_at t p
  unfolding list_at
  size_word_unused =
      rw (h.length, little-same 2 s t (p + 4) (p + 4) (λ i k. h.bytes (p + 4 + i) (omega arith)), little-same 2 s t (p + 6) (p + 6) (λ i k. h.bytes (p + 6 + i) (omega arith)))

  -- and what a leaf list gives
  pub size_word_unused_leaf : (base : ℕ) → leaf_at s base p ≡ leaf_at t base p
  size_word_unused_leaf base = ap (only_leaf s base p) size_word_unused ∙ only_same s t base p (list_at t p) h
