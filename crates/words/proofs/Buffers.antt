-- Laws of answers that come with a lent buffer. Assumes nothing.
use mathlib.Core.Path.{◌≡◌, refl, ap, sym, ◌∙◌}
use mathlib.Core.List.{List, [], ◌∷◌, ◌++◌}
use mathlib.Core.Bool.{Bool, true, false, cond}
use Prim.Native.Nat.{ℕ, suc, ◌+◌, ◌≤◌, ◌<◌}
use native.Mathlib.Numerals.{add-one}
use borrow.Author.Tests.{lt-ltb, le-ltb, ltb-true, ltb-false}
use lib.Dec.{ltb}
use lib.ListN.{length, get_or, set, drop}
use lib.Seq.{drop-cons, set_at, append_snoc}
use Rattle.words.specs.Refusals.{NO_ROOM}
use Rattle.words.specs.Paper.{Told, Paper, success, refused}
use Rattle.words.specs.Buffers.{in_room, buffer_after, Answered}
use Rattle.words.proofs.Papers.{success-refused, same-success, same-told}
use Rattle.words.proofs.Plain.{Plainly}

-- ---- the room

module _ {A : Type 0} (full : A → Told) (room : ℕ) where
  pub room_full : (v : A) → room < (full v).places → in_room full room (success v) ≡ refused (full v)
  unfolding in_room
  room_full v h = simp (lt-ltb room (full v).places h)

  pub room_fits : (v : A) → (full v).places ≤ room → in_room full room (success v) ≡ success v
  unfolding in_room
  room_fits v h = simp (le-ltb room (full v).places h)

  pub room_refused : (t : Told) → in_room full room (refused t) ≡ refused t
  unfolding in_room
  room_refused t = refl

  -- an answer that succeeds within the room succeeds without regard to it, and fits
  pub room_success : (a : Paper A) (v : A) → in_room full room a ≡ success v → (a ≡ success v) × ((full v).places ≤ room)
  unfolding in_room
  room_success (success u) v q = go (ltb room (full u).places) refl q
    where
      go : (b : Bool) → ltb room (full u).places ≡ b → cond b (refused (full u)) (success u) ≡ success v → (success u ≡ success v) × ((full v).places ≤ room)
      go true x y = absurd (success-refused (sym y))
      go false x y =
          let m : (full u).places ≤ room = ltb-false _ _ x in
          (y, rw (same-success y) at m)
  room_success (refused t) v q = absurd (success-refused (sym q))

  -- NO ROOM is given where all else succeeds and the places are too few, and tells what `full` says of that success
  pub full_of_lem : (a : Paper A) {t : Told} → Plainly a → in_room full room a ≡ refused t → t.number ≡ NO_ROOM
      → (v : A) × (a ≡ success v) × (full v ≡ t) × (room < (full v).places)
  unfolding in_room
  full_of_lem (success v) {t} p q n = go (ltb room (full v).places) refl q
    where
      go : (b : Bool) → ltb room (full v).places ≡ b → cond b (refused (full v)) (success v) ≡ refused t
          → (u : A) × (success v ≡ success u) × (full u ≡ t) × (room < (full u).places)
      go true x y = (v, refl, same-told y, ltb-true _ _ x)
      go false x y = absurd (success-refused y)
  full_of_lem (refused u) p q n = absurd ((p u refl).other (ap (λ (t : Told). t.number) (same-told q) ∙ n))

  -- and a refusal by another number is the answer's own
  pub other_of : (a : Paper A) {t : Told} → ((v : A) → (full v).number ≡ NO_ROOM) → in_room full room a ≡ refused t → (t.number ≡ NO_ROOM → ⊥) → a ≡ refused t
  unfolding in_room
  other_of (success v) {t} f q h = go (ltb room (full v).places) q
    where
      go : (b : Bool) → cond b (refused (full v)) (success v) ≡ refused t → success v ≡ refused t
      go true y = absurd (h (sym (ap (λ (u : Told). u.number) (same-told y)) ∙ f v))
      go false y = y
  other_of (refused u) f q h = q

-- ---- the buffer

module _ {A B : Type 0} {a : Paper A} (ks old : List B) where
  pub buffer_refused : {t : Told} → a ≡ refused t → buffer_after a ks old ≡ old
  unfolding buffer_after
  buffer_refused e = rw e

  pub buffer_success : {v : A} → a ≡ success v → buffer_after a ks old ≡ ks ++ drop (length ks) old
  unfolding buffer_after
  buffer_success e = rw e

-- ---- the promise, from what the code has found: `right` is a refusal, or a success whose row is written

module _ {A B : Type 0} {said right : Paper A} {ks old : List B} where
  pub answered_refused : {t : Told} → said ≡ refused t → right ≡ refused t → Answered said right ks old old
  answered_refused p e = record { answer = p ∙ sym e; buffer = sym (buffer_refused ks old e) }

  pub answered_success : {v : A} {new : List B} → said ≡ success v → right ≡ success v → new ≡ ks ++ drop (length ks) old → Answered said right ks old new
  answered_success p e w = record { answer = p ∙ sym e; buffer = w ∙ sym (buffer_success ks old e) }

  -- ---- and what it says: a refusal changes no place, a success writes the row

  module _ {new : List B} (x : Answered said right ks old new) where
    pub untouched : {t : Told} → said ≡ refused t → new ≡ old
    untouched e = x.buffer ∙ buffer_refused ks old (sym x.answer ∙ e)

    pub filled : {v : A} → said ≡ success v → new ≡ ks ++ drop (length ks) old
    filled e = x.buffer ∙ buffer_success ks old (sym x.answer ∙ e)

-- two answers that are promised for one input say the same and leave the same buffer
pub determined : {A B : Type 0} {said said' right : Paper A} {ks old new new' : List B}
    → Answered said right ks old new → Answered said' right ks old new' → (said ≡ said') × (new ≡ new')
determined x y = (x.answer ∙ sym y.answer, x.buffer ∙ sym y.buffer)

-- a row that is written from the first place on: its next number goes into the next place
pub written-more : (ks d : List ℕ) (n v : ℕ) → length ks ≡ n → n < length d → set (ks ++ drop n d) n v ≡ (ks ++ (v ∷ [])) ++ drop (n + 1) d
written-more ks d n v e h =
    rw add-one
    (ap (λ (t : List ℕ). set (ks ++ t) n v) (drop-cons d n 0 h)
    ∙ set_at ks (get_or d n 0) (drop (suc n) d) v n e
    ∙ sym (append_snoc ks v (drop (suc n) d)))
