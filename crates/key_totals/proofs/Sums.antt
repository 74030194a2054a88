-- The total and what stands in the places. Assumes nothing.
use Rattle.std.proofs.Common.{◌≡◌, ℕ, zero, suc, ◌+◌, ◌-◌, ◌*◌, ◌%◌, ◌^◌, ◌<◌, ◌≤◌, Bool, true, false, cond, not, ◌⊎◌, List, [], ◌∷◌, length, get_or, set, sym, refl, ap, ◌∙◌, subst, inl, inr, suc-mul, arith, length-set, get_or-set_other, get_or-set_same}
use Rattle.key_totals.specs.declared.Place.{Place}
use Rattle.key_totals.specs.declared.Totals.{Totals}
use Rattle.key_totals.specs.declared.Wanted.TheVariants.{Free}
use Rattle.key_totals.specs.Table.{PLACES, free, counted_in, suits, first_of, laid}
use Rattle.key_totals.specs.Rows.{total, sum_of, one, Long, Summed}
use Rattle.key_totals.proofs.Places.{same_or_not}

-- what was there is taken off and what is there now is added, by the sums of 64 bits that the code has
pub exchanged : (total : ℕ) {before after was is : ℕ} → was ≡ before → is ≡ after
    → ((total + (2 ^ 64 - was)) % 2 ^ 64 + is) % 2 ^ 64 ≡ (total + (2 ^ 64 - before) + after) % 2 ^ 64
exchanged total a b = omega arith

-- ---- sums over places, of any number of a place

module _ (f : Place → ℕ) where
  -- another content of a place
  pub total-set : (es : List Place) (i : ℕ) (e : Place) → i < length es → total f (set es i e) + f (get_or es i free) ≡ total f es + f e
  unfolding total
  total-set [] i e h = absurd (let z : ⊥ = omega arith in z)
  total-set (x ∷ es) zero e h = omega arith
  total-set (x ∷ es) (suc i) e h = omega (arith, total-set es i e (omega arith))

  -- where each is at most m
  pub total_most : (m : ℕ) (es : List Place) → ((i : ℕ) → f (get_or es i free) ≤ m) → total f es ≤ length es * m
  unfolding total
  total_most m [] h = omega arith
  total_most m (x ∷ es) h = omega (arith, h 0, total_most m es (λ i. h (suc i)), suc-mul (length es) m)

-- ---- how many are taken

pub taken_most : (es : List Place) → total one es ≤ length es
unfolding total
taken_most [] = omega arith
taken_most (e ∷ es) = go e.taken (taken_most es)
  where
    go : (b : Bool) → total one es ≤ length es → cond b 1 0 + total one es ≤ suc (length es)
    go true h = omega arith
    go false h = omega arith

-- where none is free all are taken, and else fewer
pub taken_all : (es : List Place) → length es ≤ first_of (suits Free) es → total one es ≡ length es
unfolding total first_of suits
taken_all [] h = refl
taken_all (e ∷ es) h = go e.taken h (λ g. taken_all es g)
  where
    go : (b : Bool) → suc (length es) ≤ cond (not b) 0 (suc (first_of (suits Free) es)) → (length es ≤ first_of (suits Free) es → total one es ≡ length es)
        → cond b 1 0 + total one es ≡ suc (length es)
    go true g r = let q = r (omega arith) in omega arith
    go false g r = absurd (let z : ⊥ = omega arith in z)

pub taken_some : (es : List Place) → first_of (suits Free) es < length es → total one es < length es
unfolding total first_of suits
taken_some [] h = absurd (let z : ⊥ = omega arith in z)
taken_some (e ∷ es) h = go e.taken h (λ g. taken_some es g) (taken_most es)
  where
    go : (b : Bool) → cond (not b) 0 (suc (first_of (suits Free) es)) < suc (length es) → (first_of (suits Free) es < length es → total one es < length es)
        → total one es ≤ length es → cond b 1 0 + total one es < suc (length es)
    go true g r m = let q = r (omega arith) in omega arith
    go false g r m = omega arith

-- ---- the table with another content of a place

counted_kept : (e : Place) → counted_in e ≤ e.kept
counted_kept e = go e.taken
  where
    go : (b : Bool) → cond b e.kept 0 ≤ e.kept
    go true = omega arith
    go false = omega arith

-- the sum over 256 places of 32 bits is far below 64 bits
sum_most : (es : List Place) → length es ≡ PLACES → ((i : ℕ) → (get_or es i free).kept < 2 ^ 32) → total counted_in es ≤ 256 * (2 ^ 32 - 1)
sum_most es l s = rw l at (total_most counted_in (2 ^ 32 - 1) es (λ i. let k = counted_kept (get_or es i free) in let h = s i in omega arith))

-- and so is a total that is that sum
pub summed_fits : (t : Totals) → Summed t → t.total ≤ 256 * (2 ^ 32 - 1)
summed_fits t h =
    let m = sum_most t.places h.long h.small in
    let s : t.total ≡ total counted_in t.places = h.sum in
    omega arith

module _ (t : Totals) (i : ℕ) (e : Place) where
  pub laid_long : Long t → Long (laid t i e)
  unfolding laid
  laid_long l = length-set t.places i e ∙ l

  pub laid_same : i < length t.places → get_or (laid t i e).places i free ≡ e
  unfolding laid
  laid_same h = get_or-set_same t.places i e free h

  pub laid_other : (j : ℕ) → (j ≡ i → ⊥) → get_or (laid t i e).places j free ≡ get_or t.places j free
  unfolding laid
  laid_other j h = get_or-set_other t.places i j e free h

  module _ (l : Long t) (h : i < PLACES) where
    inside : i < length t.places
    inside = rw l h

    pub laid-total : (f : Place → ℕ) → total f (laid t i e).places + f (get_or t.places i free) ≡ total f t.places + f e
    unfolding laid
    laid-total f = total-set f t.places i e inside

  module _ (s : Summed t) (h : i < PLACES) (k : e.kept < 2 ^ 32) where
    laid_small : (j : ℕ) → (get_or (laid t i e).places j free).kept < 2 ^ 32
    laid_small j = go (same_or_not j i)
      where
        go : (j ≡ i) ⊎ (j ≡ i → ⊥) → (get_or (laid t i e).places j free).kept < 2 ^ 32
        go (inl q) = subst (λ (x : Place). x.kept < 2 ^ 32) (sym (ap (λ (n : ℕ). get_or (laid t i e).places n free) q ∙ laid_same (inside s.long h))) k
        go (inr q) = subst (λ (x : Place). x.kept < 2 ^ 32) (sym (laid_other j q)) (s.small j)

    -- the sum over the places is far below 64 bits, so that the total is that sum, and is not turned over
    summing : ((laid t i e).total + counted_in (get_or t.places i free) ≡ t.total + counted_in e) × ((laid t i e).total ≡ sum_of (laid t i e))
    unfolding laid
    summing =
        let c = laid-total s.long h counted_in in
        let n = sum_most (laid t i e).places (laid_long s.long) laid_small in
        let w : t.total ≡ total counted_in t.places = s.sum in
        let o = counted_kept (get_or t.places i free) in
        let b = s.small i in
        (omega arith, omega arith)

    pub laid_exact : (laid t i e).total + counted_in (get_or t.places i free) ≡ t.total + counted_in e
    laid_exact = summing.0

    pub laid_summed : Summed (laid t i e)
    laid_summed = record { long = laid_long s.long; small = laid_small; sum = summing.1 }
