-- One list read strictly: the cases in their order, each from what its code has found. Assumes nothing.
use Prim.{tt}
use mathlib.Core.Path.{◌≡◌, refl, ap, sym, ◌∙◌}
use mathlib.Core.List.{List}
use mathlib.Core.Bool.{Bool, true, false, cond, not}
use Prim.Native.Nat.{ℕ, ◌+◌, ◌-◌, ◌*◌, ◌≤◌}
use native.Mathlib.Decide.{dec_le}
use native.Mathlib.Omega.{arith}
use lib.Dec.{ltb}
use lib.ListN.{length}
use borrow.Author.Tests.{lt-ltb, le-ltb, ltb-false}
use Rattle.words.specs.Refusals.{BAD_SIZE, NOT_PERMITTED}
use Rattle.words.specs.Paper.{Told, success, refused, by, and_then}
use Rattle.words.proofs.Papers.{refused-success}
use Rattle.cell.specs.Cells.{magnitude_at, allocated_at, bytes_left, size_at, cell_at, cell_paper}
use Rattle.cell.specs.declared.CellSize.{CellSize}
use Rattle.cell.specs.declared.Fit.TheVariants.{Held, TooSmall}
use Rattle.words.specs.declared.Refusal.{Refusal}
use Rattle.cell.proofs.Exactly.{exactly, held_reads}
use Rattle.sub_key_list.specs.Lists.{entry_size, Listed, kind_at, count_at, list_at}
use Rattle.sub_key_list.specs.Strict.{barred, own_cell, strict_checks, strict_at}
use Rattle.std.specs.Prelude.{Ok}
use Rattle.std.specs.declared.result.Result.{Result}
use Rattle.cell.specs.declared.Fit.{Fit}

-- ---- a list's own cell

own_all : (a b c : Bool) → b ≡ false → c ≡ false → cond (not a) false (cond b false (cond c false true)) ≡ a
own_all true b c x y = rw (x, y)
own_all false b c x y = refl

own_small : (a b c : Bool) → b ≡ true → cond (not a) false (cond b false (cond c false true)) ≡ false
own_small true b c x = rw x
own_small false b c x = refl

own_past : (a b c : Bool) → c ≡ true → cond (not a) false (cond b false (cond c false true)) ≡ false
own_past true true c x = refl
own_past true false c x = rw x
own_past false b c x = refl

module _ (s : List ℕ) (p needed : ℕ) {a : (Result Fit Refusal)} (q : cell_paper a ≡ cell_at s p needed) where
  -- a cell with all these bytes: its own where it is allocated
  pub own_held : {z : CellSize} → a ≡ Ok (Held z) → z.allocated ≡ own_cell s p needed
  unfolding own_cell
  own_held {z} e =
      let r = held_reads s p needed a q e in
      let m : z.magnitude ≡ magnitude_at s p = ap (λ (y : CellSize). y.magnitude) r.size in
      let i = r.inside in
      let n = r.enough in
      ap (λ (y : CellSize). y.allocated) r.size
      ∙ sym (own_all (allocated_at s p) _ _ (le-ltb (magnitude_at s p) needed (omega arith)) (le-ltb (bytes_left s p) (magnitude_at s p) (omega arith)))

  -- every other answer of a cell whose size word is there
  pub own_none : p + 4 ≤ length s → (a ≡ Ok (Held (size_at s p)) → ⊥) → false ≡ own_cell s p needed
  unfolding own_cell
  own_none h n = go (dec_le needed (magnitude_at s p)) (dec_le (p + magnitude_at s p) (length s))
    where
      go : Dec (needed ≤ magnitude_at s p) → Dec (p + magnitude_at s p ≤ length s) → false ≡ own_cell s p needed
      go (no l) m = sym (own_small (allocated_at s p) (ltb (magnitude_at s p) needed) (ltb (bytes_left s p) (magnitude_at s p)) (lt-ltb (magnitude_at s p) needed (omega arith)))
      go (yes l) (no m) = sym (own_past (allocated_at s p) (ltb (magnitude_at s p) needed) (ltb (bytes_left s p) (magnitude_at s p)) (lt-ltb (bytes_left s p) (magnitude_at s p) (omega arith)))
      go (yes l) (yes m) = absurd (n ((exactly s p needed a q).held.1 ((h, m), l)))

-- one that is too small is none that is held
pub small_held : {y z : CellSize} → TooSmall y ≡ Held z → ⊥
small_held e = let z : ◌≡◌ {A = ℕ} 0 1 = cc in absurd (omega arith)

-- ---- what the strict profile asks of a list

-- the kind is read, and whether it is barred
module _ (s : List ℕ) (minor : ℕ) (named : Bool) (p : ℕ) {kind : ℕ} (k : kind ≡ kind_at s p) {b : Bool} (e : b ≡ barred minor named kind) where
  pub checks_barred : b ≡ true → refused (by NOT_PERMITTED 0) ≡ strict_checks s minor named p
  unfolding strict_checks
  checks_barred t = rw (← k, ← e, t)

  -- and whether it lies in its own cell
  module _ (f : b ≡ false) {o : Bool} (x : o ≡ own_cell s p (8 + entry_size kind * count_at s p)) where
    pub checks_cell : not o ≡ true → refused (by BAD_SIZE p) ≡ strict_checks s minor named p
    unfolding strict_checks
    checks_cell t = rw (← k, ← e, f, ← x, t)

    pub checks_whole : not o ≡ false → success tt ≡ strict_checks s minor named p
    unfolding strict_checks
    checks_whole t = rw (← k, ← e, f, ← x, t)

-- ---- the list

-- a list that is read has its header in the image
pub list-header : (s : List ℕ) (p : ℕ) {l : Listed} → list_at s p ≡ success l → p + 8 ≤ length s
unfolding list_at
list-header s p e = go (ltb (length s) p) (ltb (length s - p) 8) refl refl
  where
    go : (a b : Bool) → ltb (length s) p ≡ a → ltb (length s - p) 8 ≡ b → p + 8 ≤ length s
    go true b x y = absurd (refused-success (rw x at e))
    go false true x y = absurd (refused-success (rw (x, y) at e))
    go false false x y = omega (arith, ltb-false (length s) p x, ltb-false (length s - p) 8 y)

module _ (s : List ℕ) (minor : ℕ) (named : Bool) (p : ℕ) where
  pub strict-refused : {t : Told} → list_at s p ≡ refused t → strict_at s minor named p ≡ refused t
  unfolding strict_at and_then
  strict-refused e = rw e

  pub strict_read : {l : Listed} → list_at s p ≡ success l → strict_at s minor named p ≡ and_then (strict_checks s minor named p) (success l)
  unfolding strict_at and_then
  strict_read e = rw e
