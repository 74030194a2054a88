-- What holds of every refusal of a walk: of each list's own, and of those of the walk. Assumes nothing.
use mathlib.Core.Path.{refl}
use mathlib.Core.List.{List, [], ◌∷◌}
use Prim.Native.Nat.{ℕ}
use lib.Dec.{ltb, eqb}
use Rattle.words.specs.Refusals.{TOO_MANY, BAD_BUDGET, TOO_DEEP, OUT_OF_STEPS}
use Rattle.words.specs.Paper.{Told, Paper, success, refused, by}
use Rattle.words.proofs.Every.{Every, every_success, every_refused, every_cond}
use Rattle.sub_key_walk.specs.Trace.{Event, deep, bad, index, leaf}
use Rattle.sub_key_walk.specs.Judge.{fault, in_budget, one, after, judge}
use Rattle.sub_key_walk.specs.Answers.{BUDGET_LIMIT, COUNT_LIMIT, none, from_record}
use Rattle.sub_key_walk.specs.Free.{All}
use Rattle.sub_key_walk.specs.declared.Counts.{Counts}

module _ (P : Told → Type 0) where
  every_after : (a : Paper Counts) (f : Counts → Paper Counts) → Every P a → ((st : Counts) → Every P (f st)) → Every P (after a f)
  unfolding after
  every_after (success st) f p q = q st
  every_after (refused u) f p q = every_refused P (p u refl)

  -- a list's own refusal has it, after however many lists
  abbrev pub Sound : Event → Type 0
  Sound (deep p) = (l : ℕ) → P (fault TOO_DEEP p l)
  Sound (bad t p) = (l : ℕ) → P (fault t.number t.position l)
  Sound (index p n) = Unit {0}
  Sound (leaf p l) = Unit {0}

  -- and so have the walk's own
  module _ (spent : (p l : ℕ) → P (fault OUT_OF_STEPS p l)) where
    every_budget : (budget : ℕ) (st : Counts) (p : ℕ) {a : Paper Counts} → Every P a → Every P (in_budget budget st p a)
    unfolding in_budget
    every_budget budget st p q = every_cond P (eqb st.lists budget) (every_refused P (spent p st.lists)) q

    one_every : (budget : ℕ) (st : Counts) (e : Event) → Sound e → Every P (one budget st e)
    unfolding one
    one_every budget st (deep p) g = every_refused P (g st.lists)
    one_every budget st (bad t p) g = every_budget budget st p (every_refused P (g st.lists))
    one_every budget st (index p n) g = every_budget budget st p (every_success P _)
    one_every budget st (leaf p l) g = every_budget budget st p (every_success P _)

    judge_every : (budget : ℕ) (st : Counts) (es : List Event) → All Sound es → Every P (judge budget st es)
    unfolding All judge
    judge_every budget st [] g = every_success P st
    judge_every budget st (e ∷ es) g = every_after (one budget st e) _ (one_every budget st e g.0) (λ st'. judge_every budget st' es g.1)

    pub record_every : P (by BAD_BUDGET 0) → P (by TOO_MANY 0) → (count budget : ℕ) (es : List Event) → All Sound es → Every P (from_record count budget es)
    unfolding from_record
    record_every b m count budget es g =
        every_cond P (ltb BUDGET_LIMIT budget) (every_refused P b)
        (every_cond P (ltb COUNT_LIMIT count) (every_refused P m)
        (every_cond P (eqb count 0) (every_success P none)
        (judge_every budget none es g)))
