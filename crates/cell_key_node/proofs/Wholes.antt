-- Of a record that is not refused, the name is as long as it says, and the fixed part, the name and the slack are the cell, whole.
-- Assumes nothing.
use mathlib.Core.Path.{◌≡◌, sym, ap, ◌∙◌}
use mathlib.Core.List.{List, ◌++◌, append_assoc}
use Prim.Native.Nat.{ℕ, ◌+◌, ◌≤◌}
use native.Mathlib.Omega.{arith}
use lib.ListN.{length, take, drop, length-drop, take-append-drop}
use lib.Seq.{length-take-le, take-take, take-add}
use Rattle.words.specs.Words.{word16}
use Rattle.cell_key_node.specs.Records.{size_of, fault_at}
use Rattle.cell_key_node.proofs.Checks.{exactly}

module _ (image : List ℕ) (position fixed sign name_at : ℕ) (good : fault_at image position fixed sign name_at ≡ 0) where
  abbrev cell : List ℕ
  cell = drop position image

  abbrev size : ℕ
  size = word16 cell name_at

  inside : fixed + size ≤ size_of cell
  inside = ((exactly image position fixed sign name_at).none.0 good).1.3

  within : size_of cell ≤ length cell
  within = ((exactly image position fixed sign name_at).none.0 good).1.1.1

  pub name-whole : length (take size (drop fixed cell)) ≡ size
  name-whole =
      length-take-le size (drop fixed cell) (rw (length-drop fixed cell) (omega (arith, inside, within)))

  pub cell-whole : take fixed cell ++ (take size (drop fixed cell) ++ drop (fixed + size) (take (size_of cell) cell)) ≡ take (size_of cell) cell
  cell-whole =
      let front : take (fixed + size) (take (size_of cell) cell) ≡ take fixed cell ++ take size (drop fixed cell) =
      take-take (fixed + size) (size_of cell) cell inside ∙ take-add fixed size cell in
      sym (append_assoc (take fixed cell) (take size (drop fixed cell)) (drop (fixed + size) (take (size_of cell) cell)))
      ∙ ap (λ (l : List ℕ). l ++ drop (fixed + size) (take (size_of cell) cell)) (sym front)
      ∙ take-append-drop (fixed + size) (take (size_of cell) cell)
