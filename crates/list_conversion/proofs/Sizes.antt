-- The size of a cell that is written. Assumes nothing.
use mathlib.Core.Path.{◌≡◌}
use Prim.Native.Nat.{ℕ, ◌+◌, ◌/◌, ◌%◌, ◌≤◌, ◌<◌}
use native.Mathlib.Nat.{div-add-mod, mod-lt, mul-mod_left}
use native.Mathlib.Omega.{arith}
use Rattle.sub_key_list.proofs.Cases.{entries_fit}
use Rattle.list_conversion.specs.Cells.{list_size, cell_size}

-- the bytes of a list are few
pub list_small : (size n : ℕ) → size < 256 → n < 65536 → list_size size n ≤ 16711433
list_small size n h k = omega (arith, entries_fit size n h k)

module _ (size n : ℕ) where
  -- it holds the list, with fewer than 8 bytes to spare
  pub size_holds : list_size size n ≤ cell_size size n
  unfolding cell_size
  size_holds = omega (arith, div-add-mod (list_size size n + 7) 8, mod-lt (list_size size n + 7) {m = 8} (omega arith))

  pub size_spare : cell_size size n < list_size size n + 8
  unfolding cell_size
  size_spare = omega (arith, div-add-mod (list_size size n + 7) 8)

  -- a multiple of 8, and the least
  pub size_multiple : cell_size size n % 8 ≡ 0
  unfolding cell_size
  size_multiple = mul-mod_left ((list_size size n + 7) / 8) 8

  pub size_least : (m : ℕ) → m % 8 ≡ 0 → list_size size n ≤ m → cell_size size n ≤ m
  size_least m e h = omega (arith, size_spare, div-add-mod m 8, div-add-mod (cell_size size n) 8, size_multiple)

-- a multiple of 8 that holds the list, with fewer than 8 bytes to spare, is it
pub size_is : (size n : ℕ) {bytes m : ℕ} → bytes ≡ list_size size n → bytes ≤ m → m < bytes + 8 → m % 8 ≡ 0 → m ≡ cell_size size n
size_is size n {bytes} {m} e h k z =
    omega (arith, size_least size n m z (omega arith), size_holds size n, size_spare size n, size_multiple size n, div-add-mod m 8, div-add-mod (cell_size size n) 8)
