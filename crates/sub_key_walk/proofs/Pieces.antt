-- The entries of a leaf list taken in pieces, over the size of an entry. Assumes nothing.
use mathlib.Core.Path.{◌≡◌, refl, ap, sym, subst, ◌∙◌}
use mathlib.Core.List.{List, [], ◌++◌, append_assoc}
use Prim.Native.Nat.{ℕ, zero, suc, ◌+◌, ◌-◌, ◌*◌, ◌≤◌, ◌<◌}
use native.Mathlib.Nat.{zero-add, mul-zero, mul-one, mul-suc, mul-add}
use native.Mathlib.Omega.{arith}
use borrow.Author.Tests.{leb-true}
use lib.Dec.{leb}
use lib.Bits.{bit_or, or_add_and, and_le_l, and_le_r}
use Rattle.words.specs.Words.{word32}
use Rattle.sub_key_list.specs.Leaves.{keep, leaf_kept, leaf_dropped}
use Rattle.sub_key_list.proofs.Leaves.{drop_kept, leaf_next, leaf-none, dropped_next, dropped_none}
use Rattle.sub_key_walk.specs.Walk.{Entries, Whole, Bound}

-- ---- one entry

pub leaf-one : (s : List ℕ) (base size pos : ℕ) → leaf_kept s base size 1 pos ≡ keep (word32 s pos + base) []
unfolding leaf_kept
leaf-one s base size pos = refl

-- ---- `k` entries and `m` behind them

pub times_next : (size i : ℕ) → size * (i + 1) ≡ size * i + size
times_next size i = mul-add size i 1 ∙ ap (λ (x : ℕ). size * i + x) (mul-one size)

module _ (s : List ℕ) (size : ℕ) where
  behind_next : (k pos : ℕ) → pos + size + size * k ≡ pos + size * suc k
  behind_next k pos = omega (arith, mul-suc size k)

  behind-none : (pos : ℕ) → pos ≡ pos + size * 0
  behind-none pos = omega (arith, mul-zero size)

  module _ (base : ℕ) where
    pub dropped_append : (k m pos : ℕ) → leaf_dropped s base size (k + m) pos ≡ leaf_dropped s base size k pos + leaf_dropped s base size m (pos + size * k)
    dropped_append zero m pos =
        omega (arith, dropped_none s base size 0 pos refl, ap (λ (j : ℕ). leaf_dropped s base size j pos) (zero-add m), ap (leaf_dropped s base size m) (behind-none pos))
    dropped_append (suc k) m pos =
        omega (arith, dropped_next s base size (suc k + m) (k + m) pos (omega arith), dropped_next s base size (suc k) k pos refl, dropped_append k m (pos + size), ap (leaf_dropped s base size m) (behind_next k pos))

    pub leaf-append : (k m pos : ℕ) → leaf_kept s base size (k + m) pos ≡ leaf_kept s base size k pos ++ leaf_kept s base size m (pos + size * k)
    leaf-append zero m pos =
        ap (λ (j : ℕ). leaf_kept s base size j pos) (zero-add m) ∙ ap (leaf_kept s base size m) (behind-none pos)
        ∙ ap (λ (ks : List ℕ). ks ++ leaf_kept s base size m (pos + size * 0)) (sym (leaf-none s base size 0 pos refl))
    leaf-append (suc k) m pos =
        leaf_next s base size (suc k + m) (k + m) pos (omega arith)
        ∙ ap (λ (ks : List ℕ). keep (word32 s pos + base) [] ++ ks) (leaf-append k m (pos + size) ∙ ap (λ (p : ℕ). leaf_kept s base size k (pos + size) ++ leaf_kept s base size m p) (behind_next k pos))
        ∙ sym (append_assoc (keep (word32 s pos + base) []) (leaf_kept s base size k (pos + size)) (leaf_kept s base size m (pos + size * suc k)))
        ∙ ap (λ (ks : List ℕ). ks ++ leaf_kept s base size m (pos + size * suc k)) (sym (leaf_next s base size (suc k) k pos refl))

  module _ (n k m pos : ℕ) (e : n ≡ k + m) (w : Entries s size n pos) where
    all_there : size * n ≡ size * k + size * m
    all_there = ap (λ (j : ℕ). size * j) e ∙ mul-add size k m

    pub first_there : Entries s size k pos
    first_there = let l = w.inside in record { word = w.word; inside = omega (arith, all_there) }

    pub rest_there : Entries s size m (pos + size * k)
    rest_there = let l = w.inside in record { word = w.word; inside = omega (arith, all_there) }

-- ---- a bound of the offsets

or_left : (a b : ℕ) → a ≤ bit_or a b
or_left a b = omega (arith, or_add_and a b, and_le_r a b)

or_right : (a b : ℕ) → b ≤ bit_or a b
or_right a b = omega (arith, or_add_and a b, and_le_l a b)

module _ (s : List ℕ) (size : ℕ) where
  bound_none : (pos : ℕ) → Bound s size 0 pos 0
  bound_none pos base h = dropped_none s base size 0 pos refl

  bound_one : (pos : ℕ) → Bound s size 1 pos (word32 s pos)
  bound_one pos base h =
      omega (arith, dropped_next s base size 1 0 pos refl, drop_kept (word32 s pos + base) h, dropped_none s base size 0 (pos + size) refl)

  bound_append : (k m pos a b : ℕ) → Bound s size k pos a → Bound s size m (pos + size * k) b → Bound s size (k + m) pos (bit_or a b)
  bound_append k m pos a b p q base h =
      omega (arith, dropped_append s size base k m pos, p base (omega (arith, or_left a b)), q base (omega (arith, or_right a b)))

  -- and one entry more
  bound_next : (k pos at a v : ℕ) → Bound s size k pos a → at ≡ pos + size * k → v ≡ word32 s at → Bound s size (k + 1) pos (bit_or a v)
  bound_next k pos at a v p e q =
      bound_append k 1 pos a v p (subst (λ (x : ℕ). Bound s size 1 x v) e (rw q (bound_one at)))

-- ---- the bound in two streams, `i` entries of each half taken: `near` of the first half, `further` of the second

pub record Bounding (s : List ℕ) (size half first near further i : ℕ) : Type 0 where
  pub within : i ≤ half
  pub nears : Bound s size i first near
  pub fars : Bound s size i (first + size * half) further

module _ (s : List ℕ) (size n half first : ℕ) (w : Entries s size n first) (two : half + half ≤ n) where
  pub bounding_start : Bounding s size half first 0 0 0
  bounding_start =
      record {
        within = omega arith;
        nears = bound_none s size first;
        fars = bound_none s size (first + size * half);
      }

  module _ (near further i : ℕ) (b : Bounding s size half first near further i) where
    pub bounding_step : i < half → {v u : ℕ} → v ≡ word32 s (first + size * i) → u ≡ word32 s (first + size * half + size * i) → Bounding s size half first (bit_or near v) (bit_or further u) (i + 1)
    bounding_step h {v} {u} p q =
        record {
          within = omega arith;
          nears = bound_next s size i first _ near v b.nears refl p;
          fars = bound_next s size i (first + size * half) _ further u b.fars refl q;
        }

    module _ (h : half ≤ i) where
      both : (m u : ℕ) → n ≡ half + m → Bound s size m (first + size * half) u → Bound s size n first (bit_or near u)
      both m u e q =
          let d : i ≡ half = let l = b.within in omega arith in
          subst (λ (j : ℕ). Bound s size j first (bit_or near u)) (sym e) (bound_append s size half m first near u (subst (λ (j : ℕ). Bound s size j first near) d b.nears) q)

      pub bounding_even : n ≤ half + half → {u : ℕ} → u ≡ further → Bound s size n first (bit_or near u)
      bounding_even l {u} e = let x = b.within in both i u (omega arith) (rw e b.fars)

      -- where an entry is left over
      pub bounding_odd : n ≡ half + half + 1 → {u v : ℕ} → v ≡ word32 s (first + size * half + size * half) → u ≡ bit_or further v → Bound s size n first (bit_or near u)
      bounding_odd l {u} {v} q e =
          let x = b.within in
          let d : half ≡ i = omega arith in
          both (i + 1) u (omega arith) (rw e (bound_next s size i (first + size * half) _ further v b.fars (ap (λ (j : ℕ). first + size * half + size * j) d) q))

-- a bound that stays within 32 bits with a base: none is dropped
pub bound_whole : (s : List ℕ) (base size n pos r : ℕ) → base ≤ 4294967295 → Bound s size n pos r → Whole s base size n pos (leb r (4294967295 - base))
bound_whole s base size n pos r h b t = b base (omega (arith, leb-true r (4294967295 - base) t))

-- ---- piece by piece: `left` entries from `at` on give what all gave

pub record Leaving (s : List ℕ) (base size n first at left : ℕ) : Type 0 where
  pub some : left ≤ n
  pub there : Entries s size left at
  pub gives : leaf_dropped s base size left at ≡ leaf_dropped s base size n first

module _ (s : List ℕ) (base size n first : ℕ) where
  pub leaving_start : Entries s size n first → Leaving s base size n first first n
  leaving_start w = record { some = omega arith; there = w; gives = refl }

  module _ (at left : ℕ) (l : Leaving s base size n first at left) (k : ℕ) (h : k ≤ left) where
    pub piece_there : Entries s size k at
    piece_there = first_there s size left k (left - k) at (omega arith) l.there

    pub leaving_next : leaf_dropped s base size k at ≡ 0 → Leaving s base size n first (at + size * k) (left - k)
    leaving_next z =
        let g = l.gives in
        let m = l.some in
        let e : left ≡ k + (left - k) = omega arith in
        record {
          some = omega arith;
          there = rest_there s size left k (left - k) at e l.there;
          gives = omega (arith, ap (λ (j : ℕ). leaf_dropped s base size j at) e, dropped_append s size base k (left - k) at);
        }
