-- Laws of a row of pieces: what is found in it, without the bound on their number. Assumes nothing.
use Prim.Native.Nat.{ℕ, zero, suc, ◌+◌, ◌-◌, ◌≤◌, ◌<◌}
use mathlib.Core.Path.{◌≡◌, refl, sym, ap}
use mathlib.Core.Bool.{Bool, true, false, cond}
use native.Mathlib.Omega.{arith}
use lib.Dec.{eqb}
use borrow.Author.Tests.{eqb-true, eqb-false, eq-eqb, ne_eqb}
use Rattle.std.specs.declared.option.Option.TheVariants.{Some, None}
use Rattle.hive_bin.specs.Walk.{Walk, fault, join, nothing, Row, row_go, row, sized}

-- each piece takes a byte or more, and lies within what is left
abbrev pub Sound : Row → Type 0
Sound r = (at left : ℕ) → r.good at left ≡ true → (0 < r.size at) × (r.size at ≤ left)

-- the size of the piece at a place, or 0
abbrev pub size_at : Row → ℕ → ℕ → ℕ
size_at r at left = cond (r.good at left) (r.size at) 0

-- one turn with either of two rests
same_rest : (b : Bool) (left : ℕ) (v q x y : Walk) → (b ≡ true → x ≡ y)
    → cond (eqb left 0) nothing (cond b (join v x) q) ≡ cond (eqb left 0) nothing (cond b (join v y) q)
same_rest true left v q x y h = rw (h refl)
same_rest false left v q x y h = refl

-- the test from the size that was read, or 0
pub some : (g : Bool) (m n : ℕ) → cond g m 0 ≡ n → 0 < n → (g ≡ true) × (m ≡ n)
some true m n e h = (refl, e)
some false m n e h = absurd (omega arith)

pub none : (g : Bool) (m : ℕ) → (g ≡ true → 0 < m) → cond g m 0 ≡ 0 → g ≡ false
none true m h e = absurd (let k = h refl in omega arith)
none false m h e = refl

-- the same of a size that is there, or of none
pub sized_some : {n m : ℕ} → Some n ≡ sized m → (m ≡ n) × (0 < n)
sized_some {n} {m} e = go (eqb m 0) refl e
  where
    go : (b : Bool) → eqb m 0 ≡ b → Some n ≡ cond b None (Some m) → (m ≡ n) × (0 < n)
    go true h k = cc
    go false h k = let i = eqb-false m 0 h in let q : n ≡ m = cc in (sym q, omega arith)

pub sized-none : {m : ℕ} → None ≡ sized m → m ≡ 0
sized-none {m} e = go (eqb m 0) refl e
  where
    go : (b : Bool) → eqb m 0 ≡ b → None ≡ cond b None (Some m) → m ≡ 0
    go true h k = eqb-true m 0 h
    go false h k = cc

module _ (r : Row) (sound : Sound r) where
  -- any two bounds that are large enough find the same
  enough : (f g at left : ℕ) → left ≤ f → left ≤ g → row_go r f at left ≡ row_go r g at left
  unfolding row_go
  enough zero zero at left h k = refl
  enough zero (suc g) at left h k = simp (eq-eqb left 0 (omega arith))
  enough (suc f) zero at left h k = simp (eq-eqb left 0 (omega arith))
  enough (suc f) (suc g) at left h k =
      same_rest (r.good at left) left (r.piece at) (fault r.number at) _ _
      (λ e. enough f g (at + r.size at) (left - r.size at) (omega (arith, sound _ _ e)) (omega (arith, sound _ _ e)))

  -- nothing is left; no piece stands there; a piece, and the rest
  pub row-end : (at left : ℕ) → left ≤ 0 → row r at left ≡ nothing
  unfolding row row_go
  row-end at zero h = refl
  row-end at (suc n) h = absurd (omega arith)

  pub row-bad : (at left : ℕ) → 0 < left → r.good at left ≡ false → row r at left ≡ fault r.number at
  unfolding row row_go
  row-bad at zero h e = absurd (omega arith)
  row-bad at (suc n) h e = simp (ne_eqb (suc n) 0 (omega arith), e)

  pub row_more : (at left : ℕ) → r.good at left ≡ true → row r at left ≡ join (r.piece at) (row r (at + r.size at) (left - r.size at))
  unfolding row row_go
  row_more at zero e = absurd (omega (arith, sound _ _ e))
  row_more at (suc n) e =
      simp (ne_eqb (suc n) 0 (omega arith), e)
      (ap (join (r.piece at)) (enough n (suc n - r.size at) (at + r.size at) (suc n - r.size at) (omega (arith, sound _ _ e)) (omega arith)))

  -- the same by the size that was read
  pub no_size : (at left : ℕ) → size_at r at left ≡ 0 → r.good at left ≡ false
  no_size at left e = none (r.good at left) (r.size at) (λ g. (sound at left g).0) e

  pub some_size : (at left n : ℕ) → size_at r at left ≡ n → 0 < n → (r.good at left ≡ true) × (r.size at ≡ n) × (n ≤ left)
  some_size at left n e h =
      let k = some (r.good at left) (r.size at) n e h in
      (k.0, k.1, omega (arith, k.1, sound at left k.0))
