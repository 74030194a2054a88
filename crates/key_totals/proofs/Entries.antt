-- The entries of a table, and the places that are found. Assumes nothing.
use Rattle.std.proofs.Common.{◌≡◌, ℕ, ◌<◌, ◌≤◌, Bool, true, false, not, ◌&&◌, eqb, length, get_or, sym, refl, ap, ◌∙◌, arith, eq-eqb, eqb-true}
use native.Mathlib.Omega.{by_contra}
use lib.ListN.{get_or-eq_default}
use Rattle.key_totals.specs.declared.Place.{Place}
use Rattle.key_totals.specs.declared.Totals.{Totals}
use Rattle.key_totals.specs.declared.Wanted.TheVariants.{Free, Key}
use Rattle.key_totals.specs.Table.{PLACES, free, entry, suits, place_of, free_of, number_in}
use Rattle.key_totals.specs.Rows.{total, one, entries_in, Entry, Has, Long, Finds}
use Rattle.key_totals.proofs.Places.{true_false, first_before, first_at}
use Rattle.key_totals.proofs.Sums.{taken_all, taken_some}

-- ---- a place and the key that is looked for

both : (a b : Bool) → (a && b) ≡ true → (a ≡ true) × (b ≡ true)
both true b e = (refl, e)
both false b e = absurd (true_false refl (sym e))

pub suits-entry : (p : ℕ) (e : Place) → suits (Key p) e ≡ true → e ≡ entry p e.kept
unfolding suits
suits-entry p e h =
    let b = both e.taken (eqb e.position p) h in
    let q = eqb-true e.position p b.1 in
    λ i. record { position = q i; kept = e.kept; taken = b.0 i }

pub entry-suits : (p n : ℕ) (e : Place) → e ≡ entry p n → suits (Key p) e ≡ true
unfolding suits
entry-suits p n e h = rw h (eq-eqb p p refl)

-- a free place has no entry, and an entry has one position and one number
pub free-entry : (e : Place) (p n : ℕ) → e.taken ≡ false → e ≡ entry p n → ⊥
free-entry e p n f h = true_false (ap (λ (x : Place). x.taken) h) f

pub same_position : {p q m n : ℕ} → entry p m ≡ entry q n → p ≡ q
same_position h = ap (λ (x : Place). x.position) h

pub same_number : {p q m n : ℕ} → entry p m ≡ entry q n → m ≡ n
same_number h = ap (λ (x : Place). x.kept) h

-- past the places there is no entry
pub entry_inside : (t : Totals) (i p n : ℕ) → Entry t i p n → i < length t.places
entry_inside t i p n e = by_contra _ _ (λ l. free-entry free p n refl (sym (get_or-eq_default t.places free (omega arith)) ∙ e))

-- ---- what is found

negated : (b c : Bool) → not b ≡ c → b ≡ not c
negated true c e = ap not e
negated false c e = ap not e

module _ (t : Totals) (l : Long t) where
  in_places : {i : ℕ} → i < PLACES → i < length t.places
  in_places h = rw l h

  pub place_entry : (p : ℕ) → place_of t p < PLACES → Entry t (place_of t p) p (number_in t p)
  place_entry p h = suits-entry p (get_or t.places (place_of t p) free) (first_at (suits (Key p)) t.places (in_places h))

  pub free_taken : free_of t < PLACES → (get_or t.places (free_of t) free).taken ≡ false
  unfolding suits
  free_taken h = negated (get_or t.places (free_of t) free).taken true (first_at (suits Free) t.places (in_places h))

  -- a key that has no place is in none
  pub nowhere : (p : ℕ) → PLACES ≤ place_of t p → (i n : ℕ) → Entry t i p n → ⊥
  nowhere p h i n e =
      let k : i < length t.places = entry_inside t i p n e in
      let m : length t.places ≡ 256 = l in
      true_false (entry-suits p n (get_or t.places i free) e) (first_before (suits (Key p)) t.places i (omega arith))

  has_place : (p : ℕ) → Has t p → place_of t p < PLACES
  has_place p h = by_contra _ _ (λ k. nowhere p (omega arith) h.0 h.1 h.2)

  taken_before : (i : ℕ) → i < free_of t → (get_or t.places i free).taken ≡ true
  unfolding suits
  taken_before i h = negated (get_or t.places i free).taken false (first_before (suits Free) t.places i h)

  full_taken : PLACES ≤ free_of t → entries_in t ≡ PLACES
  full_taken h = taken_all t.places (rw l h) ∙ l

  taken_full : entries_in t ≡ PLACES → PLACES ≤ free_of t
  taken_full e =
      let m : length t.places ≡ 256 = l in
      by_contra _ _ (λ k. let s : total one t.places < length t.places = taken_some t.places (rw l k) in omega arith)

  pub finds : Finds t
  finds =
      record {
        known = λ p. ((λ h. (place_of t p, number_in t p, place_entry p h)), has_place p);
        all_taken = (full_taken, taken_full);
        at_place = place_entry;
        at_free = free_taken;
        before_free = taken_before;
      }
