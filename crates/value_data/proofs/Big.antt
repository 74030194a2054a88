-- A `db` cell, by the answer of its cell and the facts that a reader tests. Assumes nothing.
use mathlib.Core.Path.{◌≡◌, sym, ap, ◌∙◌}
use mathlib.Core.List.{List}
use Prim.Native.Nat.{ℕ}
use Rattle.words.specs.Paper.{Told, success, refused}
use Rattle.cell.specs.Cells.{cell_at, fit_of}
use Rattle.value_data.specs.Data.{big_in, big_at}
use Rattle.cell.specs.declared.Fit.{Fit}

-- by what the cell's answer is
module _ (image : List ℕ) (p n : ℕ) where
  pub big_verdict : {a b : Fit} → success (fit_of a) ≡ cell_at image p 12 → a ≡ b → big_in image p n (success (fit_of b)) ≡ big_at image p n
  unfolding big_at
  big_verdict q e = ap (λ (x : Fit). big_in image p n (success (fit_of x))) (sym e) ∙ ap (big_in image p n) q

  pub big_no_cell : {t : Told} → refused t ≡ cell_at image p 12 → refused t ≡ big_at image p n
  unfolding big_at
  big_no_cell q = ap (big_in image p n) q
