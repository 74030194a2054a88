-- Laws of tests. Assumes nothing.
use mathlib.Core.Path.{◌≡◌, refl, sym}
use mathlib.Core.Bool.{Bool, true, false, not, ◌&&◌, false≢true}

-- one behind another is true where both are
pub both : (p q : Bool) → p && q ≡ true → (p ≡ true) × (q ≡ true)
both true q e = (refl, e)
both false q e = absurd (false≢true e)

pub both_are : {p q : Bool} → p ≡ true → q ≡ true → p && q ≡ true
both_are e f = rw (e, f)

-- two that are true together are one
pub test_same : (p q : Bool) → (p ≡ true → q ≡ true) → (q ≡ true → p ≡ true) → p ≡ q
test_same true q f g = sym (f refl)
test_same false true f g = g refl
test_same false false f g = refl

-- one that is true nowhere is false
pub test_false : (p : Bool) → (p ≡ true → ⊥) → p ≡ false
test_false true h = absurd (h refl)
test_false false h = refl

-- a test of the code that is turned round: `b` is what it found
pub test_passed : (b : Bool) {c : Bool} → b ≡ c → not b ≡ false → c ≡ true
test_passed true e f = sym e
test_passed false e f = absurd (false≢true (sym f))

pub test_failed : (b : Bool) {c : Bool} → b ≡ c → not b ≡ true → c ≡ false
test_failed true e f = absurd (false≢true f)
test_failed false e f = sym e
