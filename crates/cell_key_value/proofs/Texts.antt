-- The comparison of two texts is the one of the standard library. Assumes nothing.
use mathlib.Core.Path.{◌≡◌, refl, sym, ◌∙◌}
use mathlib.Core.List.{List, [], ◌∷◌}
use mathlib.Core.Bool.{Bool, true, false, cond, false≢true}
use mathlib.Core.Logic.{◌↔◌}
use Prim.Native.Nat.{ℕ, ◌≤◌}
use native.Mathlib.Decide.{dec_le}
use native.Mathlib.Omega.{arith}
use lib.Dec.{eqb}
use borrow.Author.Tests.{eq-eqb, eqb-true, lt-ltb, le-ltb}
use Rattle.std.specs.Prelude.{IsTrue, map}
use Rattle.std.specs.Char.{to_ascii_lowercase}
use Rattle.words.proofs.Tests.{test_same}
use Rattle.cell_key_value.specs.Text.{lower_of, same_text}

-- of a byte
lowered : (x : ℕ) → lower_of x ≡ to_ascii_lowercase x
unfolding lower_of
lowered x = go (dec_le 65 x) (dec_le 91 x)
  where
    go : Dec (65 ≤ x) → Dec (91 ≤ x) → lower_of x ≡ to_ascii_lowercase x
    go (no a) b = simp (lt-ltb x 65 (omega arith))
    go (yes a) (no b) = simp (le-ltb _ _ a, le-ltb 90 x (omega arith), lt-ltb x 91 (omega arith))
    go (yes a) (yes b) = simp (le-ltb _ _ a, lt-ltb 90 x (omega arith), le-ltb _ _ b)

alike : (x y : ℕ) → to_ascii_lowercase x ≡ to_ascii_lowercase y → lower_of x ≡ lower_of y
alike x y e = lowered x ∙ e ∙ sym (lowered y)

-- of texts
same_means : (a b : List ℕ) → same_text a b ≡ true → map to_ascii_lowercase a ≡ map to_ascii_lowercase b
unfolding same_text
same_means [] [] e = refl
same_means [] (y ∷ ys) e = absurd (false≢true e)
same_means (x ∷ xs) [] e = absurd (false≢true e)
same_means (x ∷ xs) (y ∷ ys) e = go (eqb (lower_of x) (lower_of y)) refl (same_means xs ys) e
  where
    go :
        (p : Bool) → eqb (lower_of x) (lower_of y) ≡ p → (same_text xs ys ≡ true → map to_ascii_lowercase xs ≡ map to_ascii_lowercase ys)
        → cond p (same_text xs ys) false ≡ true → map to_ascii_lowercase (x ∷ xs) ≡ map to_ascii_lowercase (y ∷ ys)
    go true q more r =
        let h = sym (lowered x) ∙ eqb-true _ _ q ∙ lowered y in
        let t = more r in
        λ i. h i ∷ t i
    go false q more r = absurd (false≢true r)

means_same : (a b : List ℕ) → map to_ascii_lowercase a ≡ map to_ascii_lowercase b → same_text a b ≡ true
unfolding same_text
means_same [] [] e = refl
means_same [] (y ∷ ys) e = cc
means_same (x ∷ xs) [] e = cc
means_same (x ∷ xs) (y ∷ ys) e =
    let h : to_ascii_lowercase x ≡ to_ascii_lowercase y = cc in
    let t : map to_ascii_lowercase xs ≡ map to_ascii_lowercase ys = cc in
    simp (eq-eqb _ _ (alike x y h)) (means_same xs ys t)

pub same_decided : (a b : List ℕ) (r : Bool) → IsTrue r ↔ (map to_ascii_lowercase a ≡ map to_ascii_lowercase b) → r ≡ same_text a b
same_decided a b r h = test_same r (same_text a b) (λ e. means_same a b (h.0 e)) (λ e. h.1 (same_means a b e))
