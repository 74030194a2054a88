-- Where the parts of a base block start. Assumes nothing.
use mathlib.Core.Path.{◌≡◌}
use mathlib.Core.List.{List}
use Prim.Native.Nat.{ℕ, ◌≤◌}
use native.Mathlib.Decide.{dec_le}
use native.Mathlib.Omega.{arith}
use lib.ListN.{length}
use borrow.Author.Tests.{lt-ltb}
use Rattle.words.specs.Parts.{start_of, Lies}
use Rattle.words.proofs.Parts.{lies_part, lies_handed}
use Rattle.base_block.specs.Block.{head_fault, fault_of, part_of, part_at}

-- what passes the checks has its least length
pub head_long : (least : ℕ) (s : List ℕ) → head_fault least s ≡ 0 → least ≤ length s
unfolding head_fault
head_long least s e = go (dec_le least (length s))
  where
    go : Dec (least ≤ length s) → least ≤ length s
    go (yes h) = h
    go (no h) = let z : ◌≡◌ {A = ℕ} 1 0 = simp (lt-ltb (length s) least (omega arith)) at e in absurd (omega arith)

pub in_block : (s : List ℕ) (i : ℕ) → fault_of s ≡ 0 → i ≤ 4096 → start_of s i ≡ i
in_block s i e h = let l = head_long 4096 s e in omega arith

-- the bytes that are said of a part of the block are those that stand at its place
pub part_lies : (s : List ℕ) (i n : ℕ) → i ≤ 4096 → Lies s (part_at s i) (part_of s i n)
unfolding part_of part_at
part_lies s i n h = lies_handed s (fault_of s) i _ (λ e. let l = head_long 4096 s e in lies_part s i n (omega arith))
