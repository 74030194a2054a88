-- compare/README.md, "Lines": the sum of a row, and the sum of its running sums, both in 64 bits.
use Rattle.std.specs.Prelude.{ℕ, zero, suc, ◌+◌, ◌%◌, ◌^◌, List, slice_index}
use Rattle.replay_case.specs.declared.Sums.{Sums}

-- with one number more
unfoldable pub one_more : Sums → ℕ → Sums
one_more s x =
    let plain = (s.plain + x) % 2 ^ 64 in
    record {
      plain = plain;
      running = (s.running + plain) % 2 ^ 64;
    }

-- of the n numbers f 0, f 1, ..
unfoldable pub sums_of : (ℕ → ℕ) → ℕ → Sums
sums_of f zero = record { plain = 0; running = 0 }
sums_of f (suc n) = one_more (sums_of f n) (f n)

-- the number at a place of a row
abbrev pub place_at : List ℕ → ℕ → ℕ
place_at row i = slice_index row i
