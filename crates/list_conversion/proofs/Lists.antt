-- A list that is read: its numbers. Assumes nothing.
use mathlib.Core.Path.{◌≡◌, refl, sym, ap, ◌∙◌}
use mathlib.Core.Bool.{Bool, true, false, cond}
use mathlib.Core.List.{List}
use Prim.Native.Nat.{ℕ, ◌+◌, ◌-◌, ◌*◌, ◌≤◌}
use native.Mathlib.Omega.{arith}
use lib.Dec.{ltb, eqb}
use lib.ListN.{length}
use borrow.Author.Tests.{ltb-false}
use Rattle.words.specs.Paper.{success}
use Rattle.words.proofs.Papers.{refused-success, same-success}
use Rattle.sub_key_list.specs.Lists.{RI, entry_size, leaf, index, of_kind, kind_at, count_at, list_at}
use Rattle.list_conversion.specs.Cells.{list_size}

same-leaf : {k z n k' z' n' : ℕ} → leaf k z n ≡ leaf k' z' n' → (k ≡ k') × (z ≡ z') × (n ≡ n')
same-leaf e = ((cc), (cc), (cc))

index-leaf : {k z n m : ℕ} → index m ≡ leaf k z n → ⊥
index-leaf e = let z : ◌≡◌ {A = ℕ} 0 1 = cc in absurd (omega arith)

of_kind_lem : (kind count : ℕ) {k z n : ℕ} → of_kind kind count ≡ leaf k z n → (kind ≡ k) × (entry_size kind ≡ z) × (count ≡ n)
unfolding of_kind
of_kind_lem kind count {k} {z} {n} e = go (eqb kind RI) e
  where
    go : (b : Bool) → cond b (index count) (leaf kind (entry_size kind) count) ≡ leaf k z n → (kind ≡ k) × (entry_size kind ≡ z) × (count ≡ n)
    go true q = absurd (index-leaf q)
    go false q = same-leaf q

pub record Read (s : List ℕ) (p kind size n : ℕ) : Type 0 where
  pub inside : p + list_size size n ≤ length s
  pub kind_is : kind_at s p ≡ kind
  pub size_is : entry_size kind ≡ size
  pub count_is : count_at s p ≡ n

pub leaf_read : (s : List ℕ) (p : ℕ) {kind size n : ℕ} → list_at s p ≡ success (leaf kind size n) → Read s p kind size n
unfolding list_at
leaf_read s p {kind} {size} {n} e =
    go (ltb (length s) p) (ltb (length s - p) 8) (eqb (entry_size (kind_at s p)) 0) (ltb (length s - p - 8) (entry_size (kind_at s p) * count_at s p)) refl refl refl refl
  where
    go : (a b c d : Bool) → ltb (length s) p ≡ a → ltb (length s - p) 8 ≡ b → eqb (entry_size (kind_at s p)) 0 ≡ c
        → ltb (length s - p - 8) (entry_size (kind_at s p) * count_at s p) ≡ d → Read s p kind size n
    go true b c d x y z w = absurd (refused-success (rw x at e))
    go false true c d x y z w = absurd (refused-success (rw (x, y) at e))
    go false false true d x y z w = absurd (refused-success (rw (x, y, z) at e))
    go false false false true x y z w = absurd (refused-success (rw (x, y, z, w) at e))
    go false false false false x y z w =
        let q : of_kind (kind_at s p) (count_at s p) ≡ leaf kind size n = same-success (rw (x, y, z, w) at e) in
        let k = of_kind_lem (kind_at s p) (count_at s p) q in
        let u : p ≤ length s = ltb-false _ _ x in
        let v : 8 ≤ length s - p = ltb-false _ _ y in
        let l : entry_size (kind_at s p) * count_at s p ≤ length s - p - 8 = ltb-false _ _ w in
        let m : size * n ≤ length s - p - 8 = rw (k.1, k.2) at l in
        record { inside = omega arith; kind_is = k.0; size_is = ap entry_size (sym k.0) ∙ k.1; count_is = k.2 }
