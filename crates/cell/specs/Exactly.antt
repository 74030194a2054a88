-- What an auditor reads of a cell's answer, with no word of how it is found: when each answer is given, and what the caller may read.
use Rattle.std.specs.Prelude.{ℕ, ◌+◌, ◌≤◌, ◌<◌, ◌≡◌, ◌↔◌, ◌⊎◌, List, length}
use Rattle.words.specs.declared.Reason.{Reason}
use Rattle.words.specs.declared.Reason.TheVariants.{Outside, CutShort}
use Rattle.cell.specs.Cells.{magnitude_at, size_at}
use Rattle.cell.specs.declared.CellSize.{CellSize}
use Rattle.cell.specs.declared.Fit.TheVariants.{Held, TooSmall}
use Rattle.std.specs.Prelude.{Ok, Err}
use Rattle.std.specs.declared.result.Result.{Result}
use Rattle.cell.specs.declared.Fit.{Fit}
use Rattle.words.specs.declared.Refusal.{Refusal}

-- a refusal by a number at the cell's position
abbrev pub refusal_at : Reason → ℕ → Result Fit Refusal
refusal_at r p = Err (record { reason = r; position = p })

-- the size word is there, and the cell does not pass the image's end
abbrev pub Whole : List ℕ → ℕ → Type 0
Whole image p = (p + 4 ≤ length image) × (p + magnitude_at image p ≤ length image)

-- or the position is in the image, and one of the two is not so
abbrev pub Cut : List ℕ → ℕ → Type 0
Cut image p = (p ≤ length image) × ((length image < p + 4) ⊎ (length image < p + magnitude_at image p))

-- each answer is given exactly when its sentence holds, and no other is given
pub record Exactly (image : List ℕ) (p least : ℕ) (a : (Result Fit Refusal)) : Type 0 where
  pub outside : (a ≡ refusal_at Outside p) ↔ (length image < p)
  pub cut_short : (a ≡ refusal_at CutShort p) ↔ Cut image p
  pub too_small : (a ≡ Ok (TooSmall (size_at image p))) ↔ (Whole image p × (magnitude_at image p < least))
  pub held : (a ≡ Ok (Held (size_at image p))) ↔ (Whole image p × (least ≤ magnitude_at image p))
  pub no_other : (a ≡ refusal_at Outside p) ⊎ (a ≡ refusal_at CutShort p) ⊎ (a ≡ Ok (TooSmall (size_at image p))) ⊎ (a ≡ Ok (Held (size_at image p)))

-- what a cell that is held has for its reader: `least` bytes from the position on, all of them its own and in the image
pub record Reads (image : List ℕ) (p least : ℕ) (z : CellSize) : Type 0 where
  pub size : z ≡ size_at image p
  pub enough : least ≤ z.magnitude
  pub inside : p + z.magnitude ≤ length image
  pub readable : p + least ≤ length image
