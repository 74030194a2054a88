-- Offsets that are held against the records of a listing. Assumes nothing.
use mathlib.Core.Path.{◌≡◌, refl, sym, ap, ◌∙◌}
use mathlib.Core.List.{List, [], ◌∷◌}
use mathlib.Core.Bool.{Bool, true, false, cond, false≢true}
use Prim.Native.Nat.{ℕ, ◌+◌}
use borrow.Author.Tests.{eqb-true, eq-eqb, ne_eqb}
use lib.Dec.{eqb}
use lib.ListN.{length, drop, get_or}
use Rattle.std.specs.Prelude.{Option, Some, None, is_some}
use Rattle.words.specs.Words.{word32}
use Rattle.sub_key_listing.specs.Listing.{offsets_in}
use Rattle.sub_key_listing.specs.Steps.{matched, agreed}

module _ (b : List ℕ) where
  -- from no place it goes nowhere
  agreed_lost : (ks : List ℕ) → agreed b ks None ≡ None
  unfolding matched agreed
  agreed_lost [] = refl
  agreed_lost (k ∷ ks) = agreed_lost ks

  -- one record: it holds the number, it holds another one, there is none
  module _ (k : ℕ) {o r : Option ℕ} where
    pub agreed_next : {place : ℕ} → o ≡ Some place → word32 b (place + 6) ≡ k → r ≡ Some (place + 10) → r ≡ agreed b (k ∷ []) o
    unfolding matched agreed
    agreed_next {place} e h q = q ∙ simp (e, eq-eqb (word32 b (place + 6)) k h)

    pub agreed_other : {place : ℕ} → o ≡ Some place → (word32 b (place + 6) ≡ k → ⊥) → r ≡ None → r ≡ agreed b (k ∷ []) o
    unfolding matched agreed
    agreed_other {place} e h q = q ∙ simp (e, ne_eqb (word32 b (place + 6)) k h)

    pub agreed_none : o ≡ None → r ≡ None → r ≡ agreed b (k ∷ []) o
    unfolding matched agreed
    agreed_none e q = q ∙ simp e

  -- where all agree, the records hold the row
  pub agreed-row : (ks : List ℕ) (place : ℕ) → is_some (agreed b ks (Some place)) ≡ true → offsets_in b (length ks) place ≡ ks
  unfolding matched agreed offsets_in
  agreed-row [] place h = refl
  agreed-row (k ∷ ks) place h = go (eqb (word32 b (place + 6)) k) refl (agreed-row ks (place + 10)) h
    where
      go : (t : Bool) → eqb (word32 b (place + 6)) k ≡ t
          → (is_some (agreed b ks (Some (place + 10))) ≡ true → offsets_in b (length ks) (place + 10) ≡ ks)
          → is_some (agreed b ks (cond t (Some (place + 10)) None)) ≡ true → offsets_in b (length (k ∷ ks)) place ≡ k ∷ ks
      go true e more g = let r = more g in λ i. eqb-true (word32 b (place + 6)) k e i ∷ r i
      go false e more g = absurd (false≢true (ap is_some (sym (agreed_lost ks)) ∙ g))

  -- and where they hold it, all agree
  pub row-agreed : (ks : List ℕ) (place : ℕ) → offsets_in b (length ks) place ≡ ks → is_some (agreed b ks (Some place)) ≡ true
  unfolding matched agreed offsets_in
  row-agreed [] place e = refl
  row-agreed (k ∷ ks) place e =
      let v : word32 b (place + 6) ≡ k = ap (λ (r : List ℕ). get_or r 0 0) e in
      ap (λ (t : Bool). is_some (agreed b ks (cond t (Some (place + 10)) None))) (eq-eqb (word32 b (place + 6)) k v)
      ∙ row-agreed ks (place + 10) (ap (drop 1) e)
