-- A loop that fills a list from the front with f 0, f 1, .. Assumes nothing.
use mathlib.Core.Path.{◌≡◌, refl, sym, ap, ◌∙◌}
use mathlib.Core.List.{List, [], ◌∷◌, ◌++◌}
use Prim.Native.Nat.{ℕ, zero, suc, ◌+◌, ◌<◌}
use native.Mathlib.Nat.{not-suc-le-zero}
use native.Mathlib.Decide.{ℕ_discrete}
use native.Mathlib.Numerals.{add-one}
use native.Mathlib.Omega.{arith}
use lib.ListN.{length, get_or, set, drop, length-append, get_or-append}
use lib.Seq.{get_or_at}
use Rattle.words.proofs.Buffers.{written-more}
use Rattle.cell_key_node.specs.ValueList.{up_to}

pub up_length : (f : ℕ → ℕ) (n : ℕ) → length (up_to f n) ≡ n
unfolding up_to
up_length f zero = refl
up_length f (suc n) = omega (arith, length-append (up_to f n) (f n ∷ []), up_length f n)

pub filled_none : (f : ℕ → ℕ) (d : List ℕ) → d ≡ up_to f 0 ++ drop 0 d
unfolding up_to
filled_none f d = refl

pub filled_more : (f : ℕ → ℕ) (n : ℕ) (d : List ℕ) → n < length d → set (up_to f n ++ drop n d) n (f n) ≡ up_to f (n + 1) ++ drop (n + 1) d
unfolding up_to
filled_more f n d h =
    written-more (up_to f n) d n (f n) (up_length f n) h ∙ ap (λ (m : ℕ). up_to f m ++ drop (n + 1) d) (sym (add-one n))

pub up_at : (f : ℕ → ℕ) (n i : ℕ) → i < n → get_or (up_to f n) i 0 ≡ f i
unfolding up_to
up_at f zero i h = absurd (not-suc-le-zero h)
up_at f (suc n) i h = last_or_before (ℕ_discrete i n) (up_at f n i)
  where
    last_or_before : Dec (i ≡ n) → (i < n → get_or (up_to f n) i 0 ≡ f i) → get_or (up_to f n ++ (f n ∷ [])) i 0 ≡ f i
    last_or_before (yes e) before = rw e (get_or_at (up_to f n) (f n) [] 0 n (up_length f n))
    last_or_before (no e) before =
        let l : i < n = omega arith in
        let k : i < length (up_to f n) = rw (up_length f n) l in
        get_or-append (up_to f n) (f n ∷ []) 0 i k ∙ before l
