-- Laws of totals: one stretch after another, and that the totals of a row account for each of its bytes. Assumes nothing.
use Prim.Native.Nat.{ℕ, zero, suc, ◌+◌, ◌-◌, ◌*◌, ◌^◌, ◌≤◌, ◌<◌}
use mathlib.Core.Path.{◌≡◌, refl, sym, ap, subst, ◌∙◌}
use mathlib.Core.List.{List, [], ◌∷◌, ◌++◌, map}
use mathlib.Core.Bool.{Bool, true, false, cond}
use native.Mathlib.Nat.{zero-add, add_assoc}
use native.Mathlib.Omega.{arith}
use lib.Dec.{eqb}
use lib.IntN.{ℤ}
use borrow.Author.Tests.{eqb-true, eqb-false}
use Rattle.words.specs.Refusals.{BAD_BIN, BAD_CELL}
use Rattle.words.specs.Paper.{Told, Paper, success, refused, by}
use Rattle.hive_bin.specs.declared.BinTotals.{BinTotals}
use Rattle.hive_bin.specs.Walk.{Found, Walk, found, fault, join, nothing, Row, row_go, row, moved, shift}
use Rattle.hive_bin.specs.Totals.{sum_over, answer_of, no_totals, together, Room}
use Rattle.hive_bin.proofs.Rows.{Sound, size_at, row-end, row-bad, row_more, no_size, some_size}

-- ---- answers, one after another, as `join` has it of what is found

unfoldable pub plus : Paper BinTotals → Paper BinTotals → Paper BinTotals
plus (refused t) a = refused t
plus (success t) (success u) = success (together t u)
plus (success t) (refused u) = refused u

pub totals_eq : {t u : BinTotals} → t.bins ≡ u.bins → t.allocated_cells ≡ u.allocated_cells → t.free_cells ≡ u.free_cells
    → t.allocated_bytes ≡ u.allocated_bytes → t.free_bytes ≡ u.free_bytes → t ≡ u
totals_eq a b c d e =
    λ i. record { bins = a i; allocated_cells = b i; free_cells = c i; allocated_bytes = d i; free_bytes = e i }

pub plus_plus : (t u : BinTotals) (a : Paper BinTotals) → plus (success t) (plus (success u) a) ≡ plus (success (together t u)) a
unfolding plus
plus_plus t u (success v) = ap success (totals_eq (omega arith) (omega arith) (omega arith) (omega arith) (omega arith))
plus_plus t u (refused n) = refl

pub none_plus : (a : Paper BinTotals) → plus (success no_totals) a ≡ a
unfolding plus
none_plus (success t) = ap success (totals_eq (omega arith) (omega arith) (omega arith) (omega arith) (omega arith))
none_plus (refused n) = refl

pub plus_none : (a : Paper BinTotals) → plus a (success no_totals) ≡ a
unfolding plus
plus_none (success t) = ap success (totals_eq (omega arith) (omega arith) (omega arith) (omega arith) (omega arith))
plus_none (refused n) = refl

sum-append : (f : ℤ → ℕ) (xs ys : List Found) → sum_over f (xs ++ ys) ≡ sum_over f xs + sum_over f ys
unfolding sum_over
sum-append f [] ys = sym (zero-add _)
sum-append f (x ∷ xs) ys = rw (sum-append f xs ys) (sym (add_assoc _ _ _))

pub answer_join : (v w : Walk) → answer_of (join v w) ≡ plus (answer_of v) (answer_of w)
unfolding answer_of join plus
answer_join (fault n p) w = refl
answer_join (found b cs) (found c ds) = simp sum-append
answer_join (found b cs) (fault n p) = refl

-- ---- places that count from further back change no total

unfoldable pub later : ℕ → Paper BinTotals → Paper BinTotals
later k (success t) = success t
later k (refused t) = refused (by t.number (k + t.position))

sum_moved : (f : ℤ → ℕ) (k : ℕ) (cs : List Found) → sum_over f (map (moved k) cs) ≡ sum_over f cs
unfolding sum_over
sum_moved f k [] = refl
sum_moved f k (c ∷ cs) = ap (λ (n : ℕ). f c.size + n) (sum_moved f k cs)

pub answer_shift : (k : ℕ) (w : Walk) → answer_of (shift k w) ≡ later k (answer_of w)
unfolding answer_of shift later
answer_shift k (found n cs) = simp sum_moved
answer_shift k (fault n p) = refl

-- ---- an answer accounts for each of `left` bytes from `at` on: those of the cells, and 32 for each bin. Its pieces are no more than the
-- bytes, and a fault lies among them and is one of a bin or a cell

abbrev pub Fault : ℕ → Type 0
Fault n = (BAD_BIN ≤ n) × (n ≤ BAD_CELL)

abbrev pub Fills : ℕ → ℕ → Paper BinTotals → Type 0
Fills at left (success t) =
    (t.allocated_bytes + t.free_bytes + 32 * t.bins ≡ left) × (t.bins + t.allocated_cells + t.free_cells ≤ left)
Fills at left (refused t) = (at ≤ t.position) × (t.position < at + left) × Fault t.number

pub plus_fills : (at m n left : ℕ) (v w : Paper BinTotals) → m + n ≡ left → Fills at m v → Fills (at + m) n w → Fills at left (plus v w)
unfolding plus
plus_fills at m n left (refused t) w e h l = (h.0, omega arith, h.2)
plus_fills at m n left (success t) (success u) e h l = (omega arith, omega arith)
plus_fills at m n left (success t) (refused u) e h l = (omega arith, omega arith, l.2)

-- each piece of a row accounts for its own bytes
pub record Whole (r : Row) : Type 0 where
  pub number : Fault r.number
  pub pieces : (at left : ℕ) → r.good at left ≡ true → Fills at (r.size at) (answer_of (r.piece at))

module _ (r : Row) (sound : Sound r) (whole : Whole r) where
  go_fills : (f at left : ℕ) → left ≤ f → Fills at left (answer_of (row_go r f at left))
  unfolding row_go answer_of sum_over
  go_fills zero at left h = (omega arith, omega arith)
  go_fills (suc f) at left h =
      turn (eqb left 0) (r.good at left) refl refl (go_fills f (at + r.size at) (left - r.size at))
    where
      rest : Walk
      rest = row_go r f (at + r.size at) (left - r.size at)

      turn : (z g : Bool) → eqb left 0 ≡ z → r.good at left ≡ g
          → (left - r.size at ≤ f → Fills (at + r.size at) (left - r.size at) (answer_of rest))
          → Fills at left (answer_of (cond z nothing (cond g (join (r.piece at) rest) (fault r.number at))))
      turn true g hz hg k = let e = eqb-true left 0 hz in (omega arith, omega arith)
      turn false true hz hg k =
          rw (answer_join (r.piece at) rest)
          (plus_fills at (r.size at) (left - r.size at) left _ _ (omega (arith, sound _ _ hg)) (whole.pieces at left hg) (k (omega (arith, sound _ _ hg))))
      turn false false hz hg k = let e = eqb-false left 0 hz in (omega arith, omega arith, whole.number)

  pub row_fills : (at left : ℕ) → Fills at left (answer_of (row r at left))
  unfolding row
  row_fills at left = go_fills left at left (omega arith)

-- ---- a loop over a row: what was met so far, at `here` with `rest` bytes to go, and that the rest gives what is left of the answer

pub record SoFar (r : Row) (at left here rest : ℕ) (t : BinTotals) : Type 0 where
  pub place : here + rest ≡ at + left
  pub pieces : t.bins + t.allocated_cells + t.free_cells + rest ≤ left
  pub bytes : t.allocated_bytes + t.free_bytes + 32 * t.bins + rest ≤ left
  pub whole : answer_of (row r at left) ≡ plus (success t) (answer_of (row r here rest))

-- at the start
pub starts : (r : Row) (at left : ℕ) {t : BinTotals} → t ≡ no_totals → SoFar r at left at left t
starts r at left e = rw e (record { place = refl; pieces = omega arith; bytes = omega arith; whole = sym (none_plus _) })

module _ {r : Row} {at left here rest : ℕ} {t : BinTotals} (so : SoFar r at left here rest t) (sound : Sound r) where
  -- at the end
  pub ends : rest ≤ 0 → success t ≡ answer_of (row r at left)
  unfolding answer_of sum_over
  ends h = sym (so.whole ∙ ap (plus (success t)) (ap answer_of (row-end r sound here rest h)) ∙ plus_none (success t))

  -- where no piece stands
  pub stops : 0 < rest → size_at r here rest ≡ 0 → refused (by r.number here) ≡ answer_of (row r at left)
  unfolding plus answer_of
  stops h e = sym (so.whole ∙ ap (plus (success t)) (ap answer_of (row-bad r sound here rest h (no_size r sound here rest e))))

  module _ {n : ℕ} (e : size_at r here rest ≡ n) (h : 0 < n) where
    pub fits : n ≤ rest
    fits = (some_size r sound here rest n e h).2

    split : {a : Paper BinTotals} → answer_of (r.piece here) ≡ a
        → answer_of (row r at left) ≡ plus (success t) (plus a (answer_of (row r (here + n) (rest - n))))
    split {a} p =
        let k = some_size r sound here rest n e h in
        so.whole
        ∙ ap (λ (w : Walk). plus (success t) (answer_of w)) (row_more r sound here rest k.0)
        ∙ ap (plus (success t)) (answer_join _ _)
        ∙ ap (λ (m : ℕ). plus (success t) (plus (answer_of (r.piece here)) (answer_of (row r (here + m) (rest - m))))) k.1
        ∙ ap (λ (b : Paper BinTotals). plus (success t) (plus b (answer_of (row r (here + n) (rest - n))))) p

    -- a piece in which there is a fault
    pub fails : {u : Told} → answer_of (r.piece here) ≡ refused u → refused u ≡ answer_of (row r at left)
    unfolding plus
    fails p = sym (split p)

    module _ (filled : Whole r) {u : BinTotals} (p : answer_of (r.piece here) ≡ success u) where
      piece_fills : Fills here n (success u)
      piece_fills =
          let k = some_size r sound here rest n e h in
          subst (Fills here n) p (subst (λ (m : ℕ). Fills here m (answer_of (r.piece here))) k.1 (filled.pieces here rest k.0))

      -- a piece, and on to the next
      pub room : left < 2 ^ 64 → Room t u
      room l = let k = piece_fills in let f = fits in record { pieces = omega arith; bytes = omega arith }

      pub goes : {v : BinTotals} → v ≡ together t u → SoFar r at left (here + n) (rest - n) v
      goes q =
          let k = piece_fills in
          let f = fits in
          rw q (record { place = omega arith; pieces = omega arith; bytes = omega arith; whole = split p ∙ plus_plus t u _ })
