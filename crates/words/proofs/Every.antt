-- What holds of every refusal of an answer, over what it is. Assumes nothing.
use mathlib.Core.Path.{◌≡◌, refl, subst}
use mathlib.Core.Bool.{Bool, true, false, cond}
use Prim.Native.Nat.{ℕ}
use lib.Dec.{ltb}
use Rattle.words.specs.Paper.{Told, Paper, success, refused, on_success, and_then, then_by}
use Rattle.words.specs.Buffers.{in_room}
use Rattle.words.proofs.Papers.{success-refused, same-told}

module _ (P : Told → Type 0) {A : Type 0} where
  -- whatever an answer is refused by has it
  abbrev pub Every : Paper A → Type 0
  Every a = (t : Told) → a ≡ refused t → P t

  pub every_success : (v : A) → Every (success v)
  every_success v t e = absurd (success-refused e)

  pub every_refused : {u : Told} → P u → Every (refused u)
  every_refused h t e = subst P (same-told e) h

  pub every_cond : (b : Bool) {x y : Paper A} → Every x → Every y → Every (cond b x y)
  every_cond true p q = p
  every_cond false p q = q

-- an answer after another, and one with its values told in another way
module _ (P : Told → Type 0) {A B : Type 0} where
  pub every_then : (a : Paper B) {x : Paper A} → Every P a → Every P x → Every P (and_then a x)
  unfolding and_then
  every_then (success v) p q = q
  every_then (refused u) p q = every_refused P (p u refl)

  pub every_by : (a : Paper B) (next : B → Paper A) → Every P a → ((v : B) → Every P (next v)) → Every P (then_by a next)
  unfolding then_by
  every_by (success v) next p q = q v
  every_by (refused u) next p q = every_refused P (p u refl)

  pub every_on : (f : B → A) (a : Paper B) → Every P a → Every P (on_success f a)
  unfolding on_success
  every_on f (success v) p = every_success P (f v)
  every_on f (refused u) p = every_refused P (p u refl)

-- an answer within a room
module _ (P : Told → Type 0) {A : Type 0} (full : A → Told) (room : ℕ) where
  pub every_room : (a : Paper A) → ((v : A) → P (full v)) → Every P a → Every P (in_room full room a)
  unfolding in_room
  every_room (success v) f p = every_cond P (ltb room (full v).places) (every_refused P (f v)) (every_success P v)
  every_room (refused u) f p = every_refused P (p u refl)
