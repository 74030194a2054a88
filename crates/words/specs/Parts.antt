-- "handed back as parts of the caller's image" (document 01): which bytes a returned slice has, and where in the lent one it lies.
use Rattle.std.specs.Prelude.{ℕ, ◌+◌, ◌≤◌, ◌<◌, min, ◌≡◌, List, length}
use Rattle.std.specs.Borrow.{Bor}
use Rattle.words.specs.Words.{byte_at}

-- `r` is a part of the lent slice `s`: it has these bytes, and it starts `at` bytes behind the start of `s`, in the same object
pub record Part (s r : Bor (List ℕ)) (at : ℕ) (has : List ℕ) : Type 0 where
  pub bytes : r.now ≡ has
  pub place : r.ref_ptr ≡ (s.ref_ptr.0, at + s.ref_ptr.1)

-- where a part from a position on starts: there, or at the end where the position is past it
abbrev pub start_of : List ℕ → ℕ → ℕ
start_of s at = min at (length s)

-- the bytes that are said of a part are those that stand at its place
pub record Lies (s : List ℕ) (at : ℕ) (has : List ℕ) : Type 0 where
  pub inside : at + length has ≤ length s
  pub same : (i : ℕ) → i < length has → byte_at has i ≡ byte_at s (at + i)
