-- The five checks of a record, as `specs/Checks.antt` states them: each number is given exactly when its sentence holds, for a record
-- of any fixed part, signature and place of the name's length. Assumes nothing.
use mathlib.Core.Path.{◌≡◌, sym, subst}
use mathlib.Core.Logic.{◌↔◌, inl, inr}
use mathlib.Core.List.{List}
use Prim.Native.Nat.{ℕ, zero, suc, ◌+◌, ◌≤◌, ◌<◌}
use native.Mathlib.Decide.{dec_le, ℕ_discrete}
use native.Mathlib.Omega.{arith}
use lib.ListN.{length, drop}
use borrow.Author.Tests.{lt-ltb, le-ltb, eq-eqb, ne_eqb}
use Rattle.words.specs.Words.{word16}
use Rattle.words.specs.Refusals.{BAD_SIZE, BAD_NAME}
use Rattle.cell_key_node.specs.Records.{size_of, cell_fault, fault_at}
use Rattle.cell_key_node.specs.Checks.{Room, Sized, Unsized, Signs, Named, Exactly}

module _ (cell : List ℕ) (fixed sign name_at : ℕ) where
  -- what a number says of the cell, from 0 on: OUTSIDE is not said of a cell, nor any number above BAD NAME
  abbrev pub CellSays : ℕ → Type 0
  CellSays zero = Room cell fixed × Sized cell fixed × Signs cell sign × Named cell fixed name_at
  CellSays (suc zero) = length cell < fixed
  CellSays (suc (suc zero)) = ⊥
  CellSays (suc (suc (suc zero))) = Room cell fixed × Unsized cell fixed
  CellSays (suc (suc (suc (suc zero)))) = Room cell fixed × Sized cell fixed × (Signs cell sign → ⊥)
  CellSays (suc (suc (suc (suc (suc zero))))) =
      Room cell fixed × Sized cell fixed × Signs cell sign × (size_of cell < fixed + word16 cell name_at)
  CellSays (suc (suc (suc (suc (suc (suc n)))))) = ⊥

  too_large : Room cell fixed → fixed ≤ size_of cell → length cell < size_of cell → cell_fault cell fixed sign name_at ≡ BAD_SIZE
  unfolding cell_fault
  too_large r s l = simp (le-ltb _ _ r, le-ltb _ _ s, lt-ltb _ _ l)

  -- where a number's sentence holds it is given
  pub cell_given : (n : ℕ) → CellSays n → cell_fault cell fixed sign name_at ≡ n
  unfolding cell_fault
  cell_given zero (r, s, g, m) =
      simp (le-ltb _ _ r, le-ltb _ _ s.0, le-ltb _ _ s.1, eq-eqb _ _ g, le-ltb _ _ m)
  cell_given (suc zero) h = simp (lt-ltb _ _ h)
  cell_given (suc (suc zero)) h = absurd h
  cell_given (suc (suc (suc zero))) (r, inl s) = simp (le-ltb _ _ r, lt-ltb _ _ s)
  cell_given (suc (suc (suc zero))) (r, inr l) = too_large r (omega arith) l
  cell_given (suc (suc (suc (suc zero)))) (r, s, g) =
      simp (le-ltb _ _ r, le-ltb _ _ s.0, le-ltb _ _ s.1, ne_eqb _ _ g)
  cell_given (suc (suc (suc (suc (suc zero))))) (r, s, g, m) =
      simp (le-ltb _ _ r, le-ltb _ _ s.0, le-ltb _ _ s.1, eq-eqb _ _ g, lt-ltb _ _ m)
  cell_given (suc (suc (suc (suc (suc (suc n)))))) h = absurd h

  -- the number that is given has its sentence
  pub cell-said : CellSays (cell_fault cell fixed sign name_at)
  cell-said =
      go (dec_le fixed (length cell)) (dec_le fixed (size_of cell)) (dec_le (size_of cell) (length cell))
      (ℕ_discrete (word16 cell 4) sign) (dec_le (fixed + word16 cell name_at) (size_of cell))
    where
      say : (n : ℕ) → CellSays n → CellSays (cell_fault cell fixed sign name_at)
      say n h = subst CellSays (sym (cell_given n h)) h

      go : Dec (Room cell fixed) → Dec (fixed ≤ size_of cell) → Dec (size_of cell ≤ length cell) → Dec (Signs cell sign) → Dec (Named cell fixed name_at) → CellSays (cell_fault cell fixed sign name_at)
      go (no r) d e g m = say 1 (omega arith)
      go (yes r) (no d) e g m = say 3 (r, inl (omega arith))
      go (yes r) (yes d) (no e) g m = say 3 (r, inr (omega arith))
      go (yes r) (yes d) (yes e) (no g) m = say 4 (r, (d, e), g)
      go (yes r) (yes d) (yes e) (yes g) (no m) = say 5 (r, (d, e), g, omega arith)
      go (yes r) (yes d) (yes e) (yes g) (yes m) = say 0 (r, (d, e), g, m)

module _ (image : List ℕ) (position fixed sign name_at : ℕ) where
  abbrev cell : List ℕ
  cell = drop position image

  abbrev fault : ℕ
  fault = fault_at image position fixed sign name_at

  -- what a number says of the record at the position
  abbrev pub Says : ℕ → Type 0
  Says zero = (position ≤ length image) × CellSays cell fixed sign name_at zero
  Says (suc zero) = (position ≤ length image) × CellSays cell fixed sign name_at (suc zero)
  Says (suc (suc zero)) = length image < position
  Says (suc (suc (suc n))) = (position ≤ length image) × CellSays cell fixed sign name_at (suc (suc (suc n)))

  inside : (n : ℕ) → position ≤ length image → CellSays cell fixed sign name_at n → fault ≡ n
  unfolding fault_at
  inside n i h = simp (le-ltb _ _ i) (cell_given cell fixed sign name_at n h)

  given : (n : ℕ) → Says n → fault ≡ n
  unfolding fault_at
  given zero (i, h) = inside zero i h
  given (suc zero) (i, h) = inside (suc zero) i h
  given (suc (suc zero)) h = simp (lt-ltb _ _ h)
  given (suc (suc (suc n))) (i, h) = inside (suc (suc (suc n))) i h

  within : (n : ℕ) → position ≤ length image → CellSays cell fixed sign name_at n → Says n
  within zero i h = (i, h)
  within (suc zero) i h = (i, h)
  within (suc (suc zero)) i h = absurd h
  within (suc (suc (suc n))) i h = (i, h)

  said : Says fault
  said = go (dec_le position (length image))
    where
      say : (n : ℕ) → Says n → Says fault
      say n h = subst Says (sym (given n h)) h

      go : Dec (position ≤ length image) → Says fault
      go (no i) = say 2 (omega arith)
      go (yes i) =
          say (cell_fault cell fixed sign name_at)
          (within (cell_fault cell fixed sign name_at) i (cell-said cell fixed sign name_at))

  pub exactly_when : (n : ℕ) → (fault ≡ n) ↔ Says n
  exactly_when n = (λ e. subst Says e said, given n)

  few : (n : ℕ) → Says n → n ≤ BAD_NAME
  few zero h = omega arith
  few (suc zero) h = omega arith
  few (suc (suc zero)) h = omega arith
  few (suc (suc (suc zero))) h = omega arith
  few (suc (suc (suc (suc zero)))) h = omega arith
  few (suc (suc (suc (suc (suc zero))))) h = omega arith
  few (suc (suc (suc (suc (suc (suc n)))))) h = absurd h.1

  pub exactly : Exactly image position fixed sign name_at
  exactly =
      record {
        outside = exactly_when 2;
        short = exactly_when 1;
        bad_size = exactly_when 3;
        bad_sign = exactly_when 4;
        bad_name = exactly_when 5;
        none = exactly_when 0;
        no_other = few fault said;
      }
