-- Document 01, "Modules in order": "`is_big_data_block` is true exactly when bytes 4 and 5 exist and are `db`".
use Rattle.std.specs.Prelude.{ℕ, ◌≤◌, ◌≡◌, ◌↔◌, List, Bool, true, false, cond, length, ltb, eqb}
use Rattle.words.specs.Words.{byte_at}

-- the two letters are 100 and 98
unfoldable pub is_big_data_block : List ℕ → Bool
is_big_data_block s = cond (ltb (length s) 6) false (cond (eqb (byte_at s 4) 100) (eqb (byte_at s 5) 98) false)

-- the sentence in other words, both ways. Proved as `big_exactly` in proofs/Exactly.antt.
pub record BigData (s : List ℕ) : Type 0 where
  pub there : 6 ≤ length s
  pub first : byte_at s 4 ≡ 100
  pub second : byte_at s 5 ≡ 98

abbrev pub Exactly : List ℕ → Type 0
Exactly s = (is_big_data_block s ≡ true) ↔ BigData s
