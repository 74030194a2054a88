-- What document 01 says of an answer tells the answers apart. Assumes nothing.
use mathlib.Core.Path.{◌≡◌, refl, ap, sym, ◌∙◌}
use Prim.{Unit}
use Prim.Native.Nat.{ℕ}
use native.Mathlib.Omega.{arith}
use borrow.Author.Tests.{eq-eqb, ne_eqb}
use Rattle.std.specs.Prelude.{Ok, Err, List, [], ◌∷◌, get_or, pred}
use Rattle.std.specs.declared.result.Result.{Result}
use Rattle.std.specs.Result.{IsErr, IsErrAnd}
use Rattle.words.specs.declared.Reason.{Reason}
use Rattle.words.specs.declared.Reason.TheVariants.{Short, Outside, BadSize, BadSign, BadName, NoList, TooMany, CutShort, NoRoom, BadBin, BadCell, TooLarge, BadBudget, TooDeep, OutOfSteps, NotFound, BadData, PastEnd, AlreadyIn, NotPermitted, OtherPlace, BadRecord, NotTheList}
use Rattle.words.specs.declared.Refusal.{Refusal}
use Rattle.words.specs.declared.RoomRefusal.{RoomRefusal}
use Rattle.words.specs.Paper.{Told, Paper, success, refused, by, told, told_of_room, number_of, paper_of, verdict_paper, on_success, and_then, then_by, checked}

-- a success is no refusal
pub success-refused : {A : Type 0} {v : A} {t : Told} → success v ≡ refused t → ⊥
success-refused e = let z : ◌≡◌ {A = ℕ} 0 1 = cc in absurd (omega arith)

pub refused-success : {A : Type 0} {v : A} {t : Told} → refused t ≡ success v → ⊥
refused-success e = success-refused (sym e)

-- two successes have the same values, and two refusals tell the same
pub same-success : {A : Type 0} {v w : A} → success v ≡ success w → v ≡ w
same-success e = cc

pub same-told : {A : Type 0} {t u : Told} → ◌≡◌ {A = Paper A} (refused t) (refused u) → t ≡ u
same-told e = cc

-- a number of the table has one name
abbrev reasons : List Reason
reasons =
    Short ∷ Outside ∷ BadSize ∷ BadSign ∷ BadName ∷ NoList ∷ TooMany ∷ CutShort ∷ NoRoom ∷ BadBin ∷ BadCell ∷ TooLarge ∷ BadBudget ∷ TooDeep ∷ OutOfSteps ∷ NotFound ∷ BadData ∷ PastEnd ∷ AlreadyIn ∷ NotPermitted ∷ OtherPlace ∷ BadRecord ∷ NotTheList ∷ []

abbrev named : ℕ → Reason
named n = get_or reasons (pred n) Short

named_number : (r : Reason) → named (number_of r) ≡ r
named_number Short = refl
named_number Outside = refl
named_number BadSize = refl
named_number BadSign = refl
named_number BadName = refl
named_number NoList = refl
named_number TooMany = refl
named_number CutShort = refl
named_number NoRoom = refl
named_number BadBin = refl
named_number BadCell = refl
named_number TooLarge = refl
named_number BadBudget = refl
named_number TooDeep = refl
named_number OutOfSteps = refl
named_number NotFound = refl
named_number BadData = refl
named_number PastEnd = refl
named_number AlreadyIn = refl
named_number NotPermitted = refl
named_number OtherPlace = refl
named_number BadRecord = refl
named_number NotTheList = refl

pub same_reason : {q r : Reason} → number_of q ≡ number_of r → q ≡ r
same_reason {q} {r} e = sym (named_number q) ∙ ap named e ∙ named_number r

-- and none has the number 0
pub numbered : (r : Reason) → number_of r ≡ 0 → ⊥
numbered Short e = absurd (omega arith)
numbered Outside e = absurd (omega arith)
numbered BadSize e = absurd (omega arith)
numbered BadSign e = absurd (omega arith)
numbered BadName e = absurd (omega arith)
numbered NoList e = absurd (omega arith)
numbered TooMany e = absurd (omega arith)
numbered CutShort e = absurd (omega arith)
numbered NoRoom e = absurd (omega arith)
numbered BadBin e = absurd (omega arith)
numbered BadCell e = absurd (omega arith)
numbered TooLarge e = absurd (omega arith)
numbered BadBudget e = absurd (omega arith)
numbered TooDeep e = absurd (omega arith)
numbered OutOfSteps e = absurd (omega arith)
numbered NotFound e = absurd (omega arith)
numbered BadData e = absurd (omega arith)
numbered PastEnd e = absurd (omega arith)
numbered AlreadyIn e = absurd (omega arith)
numbered NotPermitted e = absurd (omega arith)
numbered OtherPlace e = absurd (omega arith)
numbered BadRecord e = absurd (omega arith)
numbered NotTheList e = absurd (omega arith)

-- a refusal of the code is told apart by its number and its position
pub same-refusal : (f g : Refusal) → told f ≡ told g → f ≡ g
same-refusal f g e = λ i. record { reason = same_reason (ap (λ (t : Told). t.number) e) i; position = (e i).position }

pub same_room_refusal : (f g : RoomRefusal) → told_of_room f ≡ told_of_room g → f ≡ g
same_room_refusal f g e = λ i. record { reason = same_reason (ap (λ (t : Told). t.number) e) i; position = (e i).position; places = (e i).places }

-- two answers of which the same is said are one, where the values and the refusals are told apart by what is said of them
module _ {A E V : Type 0} {value : A → V} {tells : E → Told} (values : (v w : A) → value v ≡ value w → v ≡ w) (refusals : (f g : E) → tells f ≡ tells g → f ≡ g) where
  pub paper_injective : (a b : Result A E) → paper_of value tells a ≡ paper_of value tells b → a ≡ b
  paper_injective (Ok v) (Ok w) e = ap Ok (values v w (same-success e))
  paper_injective (Ok v) (Err g) e = absurd (success-refused e)
  paper_injective (Err f) (Ok w) e = absurd (refused-success e)
  paper_injective (Err f) (Err g) e = ap Err (refusals f g (same-told e))

pub verdict_injective : (r t : Result (Unit {0}) Refusal) → verdict_paper r ≡ verdict_paper t → r ≡ t
verdict_injective = paper_injective (λ v w e. e) same-refusal

-- two answers with values have the same value, and none with a value is a refusal
pub same-ok : {A E : Type 0} {v w : A} → ◌≡◌ {A = Result A E} (Ok v) (Ok w) → v ≡ w
same-ok e = cc

pub ok-err : {A E : Type 0} {v : A} {f : E} → ◌≡◌ {A = Result A E} (Ok v) (Err f) → ⊥
ok-err e = let z : ◌≡◌ {A = ℕ} 0 1 = cc in absurd (omega arith)

-- what a `?` hands on is the refusal that it met
pub handed_on : {A E : Type 0} (r : Result A E) {f : E} → IsErr r × IsErrAnd r (λ g. g ≡ f) → r ≡ Err f
handed_on (Ok v) h = absurd h.1
handed_on (Err g) h = ap Err h.1

-- one answer after another
module _ {A B : Type 0} {a : Paper A} (next : Paper B) where
  pub then_next : {v : A} → a ≡ success v → and_then a next ≡ next
  unfolding and_then
  then_next e = rw e

  pub then_refused : {t : Told} → a ≡ refused t → and_then a next ≡ refused t
  unfolding and_then
  then_refused e = rw e

-- and by what the first one gives
module _ {A B : Type 0} (next : A → Paper B) where
  pub by_next : {a : Paper A} {v : A} → a ≡ success v → then_by a next ≡ next v
  unfolding then_by
  by_next e = rw e

  pub by-refused : {a : Paper A} {t : Told} → a ≡ refused t → then_by a next ≡ refused t
  unfolding then_by
  by-refused e = rw e

  pub by_success_of : (a : Paper A) {v : B} → then_by a next ≡ success v → (u : A) × (a ≡ success u) × (next u ≡ success v)
  unfolding then_by
  by_success_of (success u) e = (u, refl, e)
  by_success_of (refused t) e = absurd (refused-success e)

module _ {A B : Type 0} (f : A → B) {a : Paper A} where
  pub on-success : {v : A} → a ≡ success v → on_success f a ≡ success (f v)
  unfolding on_success
  on-success e = rw e

  pub on-refused : {t : Told} → a ≡ refused t → on_success f a ≡ refused t
  unfolding on_success
  on-refused e = rw e

-- and back: a success is told of a success, a refusal of that refusal
pub on_success_of : {A B : Type 0} (f : A → B) (a : Paper A) {w : B} → on_success f a ≡ success w → (v : A) × (a ≡ success v) × (f v ≡ w)
unfolding on_success
on_success_of f (success v) e = (v, refl, same-success e)
on_success_of f (refused t) e = absurd (refused-success e)

pub on_refused_of : {A B : Type 0} (f : A → B) (a : Paper A) {t : Told} → on_success f a ≡ refused t → a ≡ refused t
unfolding on_success
on_refused_of f (success v) e = absurd (success-refused e)
on_refused_of f (refused u) e = ap refused (same-told e)

module _ {A : Type 0} (n p : ℕ) (v : A) where
  pub checked_good : n ≡ 0 → checked n p v ≡ success v
  unfolding checked
  checked_good e = simp (eq-eqb _ _ e)

  pub checked-bad : (n ≡ 0 → ⊥) → checked n p v ≡ refused (by n p)
  unfolding checked
  checked-bad e = simp (ne_eqb _ _ e)

-- a row of checks whose fault has a name
module _ {A : Type 0} (v : A) (p : ℕ) where
  pub fault_refused : (r : Reason) → checked (number_of r) p v ≡ refused (by (number_of r) p)
  fault_refused r = checked-bad (number_of r) p v (numbered r)
