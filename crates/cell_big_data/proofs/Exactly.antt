-- "true exactly when bytes 4 and 5 exist and are `db`", both ways. Assumes nothing.
use mathlib.Core.Path.{◌≡◌, refl, sym}
use mathlib.Core.List.{List}
use mathlib.Core.Bool.{Bool, true, false, cond, true≢false}
use Prim.Native.Nat.{ℕ}
use lib.ListN.{length}
use lib.Dec.{ltb, eqb}
use borrow.Author.Tests.{ltb-false, eqb-true, le-ltb, eq-eqb}
use Rattle.words.specs.Words.{byte_at}
use Rattle.cell_big_data.specs.Big.{is_big_data_block, BigData, Exactly}

pub big_only : (s : List ℕ) → is_big_data_block s ≡ true → BigData s
unfolding is_big_data_block
big_only s e = go (ltb (length s) 6) (eqb (byte_at s 4) 100) refl refl e
  where
    go : (p q : Bool) → ltb (length s) 6 ≡ p → eqb (byte_at s 4) 100 ≡ q → cond p false (cond q (eqb (byte_at s 5) 98) false) ≡ true → BigData s
    go true q x y z = absurd (true≢false (sym z))
    go false true x y z = record { there = ltb-false _ _ x; first = eqb-true _ _ y; second = eqb-true _ _ z }
    go false false x y z = absurd (true≢false (sym z))

pub big_if : (s : List ℕ) → BigData s → is_big_data_block s ≡ true
unfolding is_big_data_block
big_if s b = simp (le-ltb (length s) 6 b.there, eq-eqb _ _ b.first, eq-eqb _ _ b.second)

pub big_exactly : (s : List ℕ) → Exactly s
big_exactly s = (big_only s, big_if s)
