-- The first place of which a test is true. Assumes nothing.
use Rattle.std.proofs.Common.{◌≡◌, ℕ, zero, suc, ◌+◌, ◌<◌, ◌≤◌, Bool, true, false, cond, eqb, ltb, ◌⊎◌, List, [], ◌∷◌, map, length, get_or, drop, sym, refl, ap, ◌∙◌, inl, inr, add-one, arith, drop-cons, eqb-true, lt-ltb, le-ltb, ltb-false, is_some, Option, Some, None}
use native.Mathlib.Omega.{by_contra}
use borrow.Author.Tests.{eqb-false, ltb-true}
use lib.ListN.{length-map}
use lib.Seq.{drop-length}
use Rattle.key_totals.specs.declared.Place.{Place}
use Rattle.key_totals.specs.Table.{PLACES, free, first_of, found}

-- the count of an array's elements, as what owning it tells has it
pub long : {Y : Type 0} (g : Place → Y) (l : List Place) (n : ℕ) → length (map g l) ≡ n → length l ≡ n
long g l n e = sym (length-map l g) ∙ e

-- what is left of a row from a place on: the first of it that is right is the first of the whole row
abbrev pub Left : (Place → Bool) → List Place → ℕ → Type 0
Left f es i = i + first_of f (drop i es) ≡ first_of f es

module _ (f : Place → Bool) (es : List Place) where
  pub left_end : (i : ℕ) → i ≤ length es → length es ≤ i → Left f es i → i ≡ first_of f es
  unfolding first_of
  left_end i h k l =
      let e : i ≡ length es = omega arith in
      let z : first_of f (drop i es) ≡ 0 = rw (e, drop-length es) in
      omega arith

  module _ (i : ℕ) (d : Place) (h : i < length es) where
    pub here : f (get_or es i d) ≡ true → first_of f (drop i es) ≡ 0
    unfolding first_of
    here e = rw (drop-cons es i d h, e)

    pub further : f (get_or es i d) ≡ false → first_of f (drop i es) ≡ suc (first_of f (drop (suc i) es))
    unfolding first_of
    further e = rw (drop-cons es i d h, e)

    pub left_found : Left f es i → f (get_or es i d) ≡ true → i ≡ first_of f es
    left_found l e = omega (arith, here e)

    pub left_next : Left f es i → f (get_or es i d) ≡ false → Left f es (i + 1)
    left_next l e = rw add-one (omega (arith, further e))

pub true_false : {b : Bool} → b ≡ true → b ≡ false → ⊥
true_false p q = absurd (let z : true ≡ false = sym p ∙ q in let y : ◌≡◌ {A = ℕ} 0 1 = ap (λ (b : Bool). cond b 0 1) z in omega arith)

-- ---- a place by its number, where there is such a place

module _ {i n : ℕ} (e : i ≡ n) where
  pub is_found : i < PLACES → Some i ≡ found n
  unfolding found
  is_found h = rw (← e, lt-ltb _ _ h)

  pub is_none_found : PLACES ≤ i → None ≡ found n
  unfolding found
  is_none_found h = rw (← e, le-ltb _ _ h)

module _ (n : ℕ) where
  pub found_some : {i : ℕ} → Some i ≡ found n → (i ≡ n) × (i < PLACES)
  unfolding found
  found_some {i} e = go (ltb n PLACES) refl e
    where
      go : (b : Bool) → ltb n PLACES ≡ b → Some i ≡ cond b (Some n) None → (i ≡ n) × (i < PLACES)
      go true q f = let k : i ≡ n = cc in let l = ltb-true n PLACES q in (k, omega arith)
      go false q f = absurd (let z : ◌≡◌ {A = ℕ} 0 1 = cc in omega arith)

  pub found_none : None ≡ found n → PLACES ≤ n
  unfolding found
  found_none e = go (ltb n PLACES) refl e
    where
      go : (b : Bool) → ltb n PLACES ≡ b → None ≡ cond b (Some n) None → PLACES ≤ n
      go true q f = absurd (let z : ◌≡◌ {A = ℕ} 0 1 = cc in omega arith)
      go false q f = ltb-false n PLACES q

  pub some_found : (o : Option ℕ) → o ≡ found n → is_some o ≡ true → n < PLACES
  some_found (Some i) e h = let k = found_some e in let l = k.0 in omega (arith, k.1)
  some_found None e h = absurd (true_false h refl)

  pub not_found : (o : Option ℕ) → o ≡ found n → is_some o ≡ false → PLACES ≤ n
  not_found (Some i) e h = absurd (true_false refl h)
  not_found None e h = found_none e

-- ---- what the first place is

pub same_or_not : (a b : ℕ) → (a ≡ b) ⊎ (a ≡ b → ⊥)
same_or_not a b = go (eqb a b) refl
  where
    go : (x : Bool) → eqb a b ≡ x → (a ≡ b) ⊎ (a ≡ b → ⊥)
    go true q = inl (eqb-true a b q)
    go false q = inr (eqb-false a b q)

module _ (f : Place → Bool) where
  -- of those before it the test is false
  pub first_before : (es : List Place) (k : ℕ) → k < first_of f es → f (get_or es k free) ≡ false
  unfolding first_of
  first_before [] k h = absurd (let z : ⊥ = omega arith in z)
  first_before (e ∷ es) zero h = go (f e) refl h
    where
      go : (b : Bool) → f e ≡ b → 0 < cond b 0 (suc (first_of f es)) → f e ≡ false
      go true q g = absurd (let z : ⊥ = omega arith in z)
      go false q g = q
  first_before (e ∷ es) (suc k) h = go (f e) h (λ g. first_before es k g)
    where
      go : (b : Bool) → suc k < cond b 0 (suc (first_of f es)) → (k < first_of f es → f (get_or es k free) ≡ false) → f (get_or es k free) ≡ false
      go true g r = absurd (let z : ⊥ = omega arith in z)
      go false g r = r (omega arith)

  -- of it the test is true, where there is one
  pub first_at : (es : List Place) → first_of f es < length es → f (get_or es (first_of f es) free) ≡ true
  unfolding first_of
  first_at [] h = absurd (let z : ⊥ = omega arith in z)
  first_at (e ∷ es) h = go (f e) refl h (λ g. first_at es g)
    where
      go : (b : Bool) → f e ≡ b → cond b 0 (suc (first_of f es)) < suc (length es)
          → (first_of f es < length es → f (get_or es (first_of f es) free) ≡ true) → f (get_or (e ∷ es) (cond b 0 (suc (first_of f es))) free) ≡ true
      go true q g r = q
      go false q g r = r (omega arith)

  module _ (es : List Place) where
    -- a place of which it is true, and before which it is true of none
    pub first_is : (i : ℕ) → i < length es → f (get_or es i free) ≡ true → ((k : ℕ) → k < i → f (get_or es k free) ≡ false) → first_of f es ≡ i
    first_is i h e n = let a = above in let b = below in omega arith
      where
        above : first_of f es ≤ i
        above = by_contra _ _ (λ l. true_false e (first_before es i l))

        below : i ≤ first_of f es
        below = by_contra _ _ (λ l. true_false (first_at es (omega arith)) (n (first_of f es) l))

    -- none: there is no place of which it is true
    pub first_none : ((k : ℕ) → k < length es → f (get_or es k free) ≡ true → ⊥) → length es ≤ first_of f es
    first_none n = by_contra _ _ (λ l. n (first_of f es) l (first_at es l))

  -- rows of one length of which the test says the same, place by place
  pub first_same : (es ds : List Place) → length es ≡ length ds → ((k : ℕ) → f (get_or es k free) ≡ f (get_or ds k free)) → first_of f es ≡ first_of f ds
  unfolding first_of
  first_same [] [] h e = refl
  first_same [] (d ∷ ds) h e = absurd (let z : ⊥ = omega arith in z)
  first_same (x ∷ es) [] h e = absurd (let z : ⊥ = omega arith in z)
  first_same (x ∷ es) (d ∷ ds) h e =
      let q : f x ≡ f d = e 0 in
      let r = first_same es ds (omega arith) (λ k. e (suc k)) in
      rw (q, r)
