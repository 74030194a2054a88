-- Laws of the definitions by what the code has tested and read. Assumes nothing.
use Rattle.bins_arriving.specs.Arriving.{numbered}
use Prim.Native.Nat.{ℕ, ◌+◌, ◌-◌, ◌^◌, ◌≤◌, ◌<◌}
use mathlib.Core.Path.{◌≡◌, sym, ap, ◌∙◌}
use mathlib.Core.List.{List}
use mathlib.Core.Bool.{true, false}
use lib.ListN.{length}
use borrow.Author.Tests.{lt-ltb, le-ltb, ne_eqb}
use Rattle.words.specs.Refusals.{CUT_SHORT, BAD_BIN, PAST_END}
use Rattle.words.specs.Paper.{success, refused, by}
use Rattle.bins_arriving.specs.declared.Numbered.{Numbered}
use Rattle.hive_bin.specs.declared.BinTotals.{BinTotals}
use Rattle.bins_arriving.specs.declared.BinsSoFar.{BinsSoFar}
use Rattle.bins_arriving.specs.Arriving.{up_to, on, refuse, too_short, settle, eaten, eat, feed, part_on, part_taken, end_of, ended, pass_on, pass}
use Rattle.std.specs.Prelude.{Ok, Err}
use Rattle.std.specs.declared.result.Result.{Result}

-- ---- sums

pub sum_fits : {n : ℕ} → n < 2 ^ 64 → n ≡ up_to n
unfolding up_to
sum_fits h = simp (lt-ltb _ _ h)

-- ---- a rest too short for a header

module _ (s : BinsSoFar) where
  pub on_the_way : (s.taken ≡ s.place → ⊥) → too_short s ≡ false
  unfolding too_short
  on_the_way h = simp (ne_eqb s.taken s.place h)

  pub is_short : too_short s ≡ true → refuse s BAD_BIN (s.base + s.place) ≡ settle s
  unfolding settle
  is_short h = simp h

  pub is_open : too_short s ≡ false → s ≡ settle s
  unfolding settle
  is_open h = simp h

  -- ---- by the answer so far

  module _ {f : Numbered} (e : s.answer ≡ Err f) where
    pub eat_kept : (x : ℕ) → s ≡ eat s x
    unfolding eat
    eat_kept x = sym (ap (λ (a : Result BinTotals Numbered). eaten a s x) e)

    pub pass_kept : (n : ℕ) → s ≡ pass s n
    unfolding pass
    pass_kept n = sym (ap (λ (a : Result BinTotals Numbered). pass_on a s n) e)

    pub part_kept : (xs : List ℕ) → s ≡ part_taken s xs
    unfolding part_taken
    part_kept xs = sym (ap (λ (a : Result BinTotals Numbered). part_on a s xs) e)

    pub end_kept : refused (numbered f) ≡ ended s
    unfolding ended
    end_kept = sym (ap (λ (a : Result BinTotals Numbered). end_of a s) e)

  module _ {t : BinTotals} (e : s.answer ≡ Ok t) where
    pub eat_inside : (x : ℕ) → s.taken < s.place → settle (on s 1) ≡ eat s x
    unfolding eat
    eat_inside x l = sym (ap (λ (a : Result BinTotals Numbered). eaten a s x) e ∙ simp (lt-ltb s.taken s.place l))

    module _ (xs : List ℕ) where
      pub part_past : s.size - s.taken < length xs → refuse s PAST_END 0 ≡ part_taken s xs
      unfolding part_taken
      part_past h = sym (ap (λ (a : Result BinTotals Numbered). part_on a s xs) e ∙ simp (lt-ltb (s.size - s.taken) (length xs) h))

      pub part_fed : length xs ≤ s.size - s.taken → feed (settle s) xs ≡ part_taken s xs
      unfolding part_taken
      part_fed h = sym (ap (λ (a : Result BinTotals Numbered). part_on a s xs) e ∙ simp (le-ltb (s.size - s.taken) (length xs) h))

    pub end_early : s.taken < s.size → refused (by CUT_SHORT s.base) ≡ ended s
    unfolding ended
    end_early h = sym (ap (λ (a : Result BinTotals Numbered). end_of a s) e ∙ simp (lt-ltb s.taken s.size h))

    pub end-full : s.size ≤ s.taken → success t ≡ ended s
    unfolding ended
    end-full h = sym (ap (λ (a : Result BinTotals Numbered). end_of a s) e ∙ simp (le-ltb s.taken s.size h))
