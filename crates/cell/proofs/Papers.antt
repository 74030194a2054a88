-- What the papers say of a cell's answer tells the answers apart, so that two answers allowed for one input are equal. Assumes
-- nothing.
use mathlib.Core.Path.{◌≡◌, ap, sym, ◌∙◌}
use mathlib.Core.List.{List}
use Prim.Native.Nat.{ℕ}
use native.Mathlib.Omega.{arith}
use Rattle.words.proofs.Papers as papers
use Rattle.words.proofs.Papers.{same-refusal}
use Rattle.cell.specs.Cells.{held, too_small, cell_at, fit_of, cell_paper}
use Rattle.cell.specs.declared.CellSize.{CellSize}
use Rattle.cell.specs.declared.Fit.TheVariants.{Held, TooSmall}
use Rattle.std.specs.declared.result.Result.{Result}
use Rattle.cell.specs.declared.Fit.{Fit}
use Rattle.words.specs.declared.Refusal.{Refusal}

held_small : {y z : CellSize} → held y ≡ too_small z → ⊥
held_small e = let z : ◌≡◌ {A = ℕ} 0 1 = cc in absurd (omega arith)

same-held : {y z : CellSize} → held y ≡ held z → y ≡ z
same-held e = cc

same_small : {y z : CellSize} → too_small y ≡ too_small z → y ≡ z
same_small e = cc

same_fit : (y z : Fit) → fit_of y ≡ fit_of z → y ≡ z
same_fit (Held y) (Held z) e = ap Held (same-held e)
same_fit (Held y) (TooSmall z) e = absurd (held_small e)
same_fit (TooSmall y) (Held z) e = absurd (held_small (sym e))
same_fit (TooSmall y) (TooSmall z) e = ap TooSmall (same_small e)

pub paper_injective : (a b : Result Fit Refusal) → cell_paper a ≡ cell_paper b → a ≡ b
paper_injective = papers.paper_injective same_fit same-refusal

-- two answers allowed for one image, position and least size
pub cell_determined : (image : List ℕ) (p least : ℕ) (a b : (Result Fit Refusal)) → cell_paper a ≡ cell_at image p least → cell_paper b ≡ cell_at image p least → a ≡ b
cell_determined image p least a b x y = paper_injective a b (x ∙ sym y)
