-- Refusals of what is read, and not of room. Assumes nothing.
use mathlib.Core.Path.{◌≡◌, refl}
use mathlib.Core.Bool.{Bool, cond}
use Prim.Native.Nat.{ℕ}
use Rattle.words.specs.Refusals.{NO_ROOM}
use Rattle.words.specs.Paper.{Told, Paper, success, refused, by, on_success, and_then, then_by}
use Rattle.words.proofs.Every.{Every, every_success, every_refused, every_cond, every_then, every_by, every_on}

-- a refusal by another number than NO ROOM: "other fields are 0", except the lists that a walk has read
pub record Plain (t : Told) : Type 0 where
  pub other : t.number ≡ NO_ROOM → ⊥
  pub places : t.places ≡ 0
  pub entries : t.entries ≡ 0
  pub dropped : t.dropped ≡ 0

-- an answer that is refused by no other
abbrev pub Plainly : {A : Type 0} → Paper A → Type 0
Plainly a = Every Plain a

module _ {A : Type 0} where
  pub plainly_success : (v : A) → Plainly (success v)
  plainly_success = every_success Plain

  pub plainly_refused : {u : Told} → Plain u → Plainly {A = A} (refused u)
  plainly_refused h = every_refused Plain h

  pub plainly_by : (k p : ℕ) → (k ≡ NO_ROOM → ⊥) → Plainly {A = A} (refused (by k p))
  plainly_by k p h = plainly_refused (record { other = h; places = refl; entries = refl; dropped = refl })

  pub plainly_cond : (b : Bool) {x y : Paper A} → Plainly x → Plainly y → Plainly (cond b x y)
  plainly_cond b p q = every_cond Plain b p q

  pub plainly_then : {B : Type 0} (a : Paper B) {x : Paper A} → Plainly a → Plainly x → Plainly (and_then a x)
  plainly_then a p q = every_then Plain a p q

  pub plainly_then_by : {B : Type 0} (a : Paper B) (next : B → Paper A) → Plainly a → ((v : B) → Plainly (next v)) → Plainly (then_by a next)
  plainly_then_by a next p q = every_by Plain a next p q

  pub plainly_on : {B : Type 0} (f : B → A) (a : Paper B) → Plainly a → Plainly (on_success f a)
  plainly_on f a p = every_on Plain f a p
