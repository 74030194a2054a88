-- The table of upper case has the rule at each entry: the rule makes a table, antt computes it and compares it with the code's,
-- and each entry of the made one is the rule's. Assumes nothing.
use Rattle.std.proofs.Common.{◌≡◌, ℕ, zero, suc, ◌+◌, ◌<◌, List, [], ◌∷◌, get_or, sym, ap, ◌∙◌, le_of_suc-le-suc, not-suc-le-zero, add-zero, add-suc, suc-add, zero-add}
use Rattle.name_hash.specs.Characters.{upper_of}

-- the n entries from i on
unfoldable pub made : ℕ → ℕ → List ℕ
made zero i = []
made (suc n) i = upper_of i ∷ made n (suc i)

made_at : (n i k : ℕ) → k < n → get_or (made n i) k 0 ≡ upper_of (i + k)
unfolding made
made_at zero i k h = absurd (not-suc-le-zero h)
made_at (suc n) i zero h = ap upper_of (sym (add-zero i))
made_at (suc n) i (suc k) h = made_at n (suc i) k (le_of_suc-le-suc h) ∙ ap upper_of (suc-add i k ∙ sym (add-suc i k))

pub ruled : (k : ℕ) → k < 256 → get_or (made 256 0) k 0 ≡ upper_of k
ruled k h = made_at 256 0 k h ∙ ap upper_of (zero-add k)
