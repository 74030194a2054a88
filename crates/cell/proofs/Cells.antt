-- The cell at a position, case by case, each from the facts that a reader tests. Assumes nothing.
use mathlib.Core.Path.{◌≡◌, ap}
use mathlib.Core.List.{List}
use Prim.Native.Nat.{ℕ, ◌-◌, ◌≤◌, ◌<◌}
use native.Mathlib.Omega.{arith}
use lib.ListN.{length}
use borrow.Author.Tests.{lt-ltb, le-ltb}
use Rattle.words.specs.Refusals.{OUTSIDE, CUT_SHORT}
use Rattle.words.specs.Paper.{success, refused, by}
use Rattle.cell.specs.Cells.{magnitude_at, size_at, held, too_small, bytes_left, cell_at}
use Rattle.cell.specs.declared.CellSize.{CellSize}

module _ (image : List ℕ) (p least : ℕ) where
  pub cell_outside : length image < p → refused (by OUTSIDE p) ≡ cell_at image p least
  unfolding cell_at
  cell_outside h = simp (lt-ltb _ _ h)

  module _ (h : p ≤ length image) where
    pub cell_no_word : length image - p < 4 → refused (by CUT_SHORT p) ≡ cell_at image p least
    unfolding cell_at
    cell_no_word k = simp (le-ltb _ _ h, lt-ltb _ _ k)

    -- the size word is there
    module _ (k : 4 ≤ length image - p) {z : CellSize} (e : z ≡ size_at image p) where
      same : z.magnitude ≡ magnitude_at image p
      same = ap (λ (y : CellSize). y.magnitude) e

      pub cell_passes : length image - p < z.magnitude → refused (by CUT_SHORT p) ≡ cell_at image p least
      unfolding cell_at
      cell_passes l =
          let m : bytes_left image p < magnitude_at image p = omega (arith, same) in
          simp (le-ltb _ _ h, le-ltb _ _ k, lt-ltb _ _ m)

      -- and the cell is in the image
      module _ (l : z.magnitude ≤ length image - p) where
        pub cell_small : z.magnitude < least → success (too_small z) ≡ cell_at image p least
        unfolding cell_at
        cell_small n =
            let m : magnitude_at image p ≤ bytes_left image p = omega (arith, same) in
            let o : magnitude_at image p < least = omega (arith, same) in
            simp (le-ltb _ _ h, le-ltb _ _ k, le-ltb _ _ m, lt-ltb _ _ o) (ap (λ (y : CellSize). success (too_small y)) e)

        pub cell-held : least ≤ z.magnitude → success (held z) ≡ cell_at image p least
        unfolding cell_at
        cell-held n =
            let m : magnitude_at image p ≤ bytes_left image p = omega (arith, same) in
            let o : least ≤ magnitude_at image p = omega (arith, same) in
            simp (le-ltb _ _ h, le-ltb _ _ k, le-ltb _ _ m, le-ltb _ _ o) (ap (λ (y : CellSize). success (held y)) e)
