-- What a budget makes of a row of lists: a success exactly when all can be read within it, and the lists reported. Assumes nothing.
use mathlib.Core.Path.{◌≡◌, refl, ap, sym, ◌∙◌}
use mathlib.Core.List.{List, [], ◌∷◌}
use mathlib.Core.Bool.{Bool, true, false}
use Prim.Native.Nat.{ℕ, ◌+◌, ◌≤◌, min}
use native.Mathlib.Nat.{zero-add}
use native.Mathlib.Omega.{arith}
use borrow.Author.Tests.{eq-eqb, ne_eqb, eqb-true, eqb-false}
use lib.Dec.{eqb}
use lib.ListN.{length, length-append}
use Rattle.words.specs.Paper.{Told, Paper, success, refused}
use Rattle.words.proofs.Papers.{success-refused, same-success}
use Rattle.sub_key_walk.specs.Trace.{Event, deep, bad, index, leaf, kept_in, kept_of, lists_in, lists_of, entries_of, dropped_of, total}
use Rattle.sub_key_walk.specs.Judge.{fault, counts, counted, in_budget, one, after, judge}
use Rattle.sub_key_walk.specs.Answers.{none}
use Rattle.sub_key_walk.specs.Free.{All, counts_of, front, lists_by}
use Rattle.sub_key_walk.specs.declared.Counts.{Counts}
use Rattle.sub_key_walk.proofs.Walks.{after-success, budget_success, counts_path}

-- ---- a list that can be read

abbrev pub Good : Event → Type 0
Good (deep p) = ⊥
Good (bad r p) = ⊥
Good (index p n) = Unit {0}
Good (leaf p l) = Unit {0}

good_one : (e : Event) → Good e → lists_in e ≡ 1
unfolding lists_in
good_one (deep p) g = absurd g
good_one (bad r p) g = absurd g
good_one (index p n) g = refl
good_one (leaf p l) g = refl

-- where all can be read, each of them counts
pub lists_all : (es : List Event) → All Good es → lists_of es ≡ length es
unfolding All total
lists_all [] g = refl
lists_all (e ∷ es) g = omega (arith, good_one e g.0, lists_all es g.1)

-- all counts after a row of lists
abbrev pub tally : Counts → List Event → Counts
tally st es = counts (st.kept + length (kept_of es)) (st.lists + lists_of es) (st.entries + entries_of es) (st.dropped + dropped_of es)

tally_none : (st : Counts) → st ≡ tally st []
unfolding kept_of total
tally_none st = counts_path (omega arith) (omega arith) (omega arith) (omega arith)

tally_next : (st : Counts) (e : Event) (es : List Event) → tally (counted st e) es ≡ tally st (e ∷ es)
unfolding counted kept_of total
tally_next st e es = counts_path (omega (arith, length-append (kept_in e) (kept_of es))) (omega arith) (omega arith) (omega arith)

-- ---- one list

one_good : (budget : ℕ) (st : Counts) (e : Event) → Good e → (st.lists ≡ budget → ⊥) → one budget st e ≡ success (counted st e)
unfolding one in_budget
one_good budget st (deep p) g h = absurd g
one_good budget st (bad r p) g h = absurd g
one_good budget st (index p n) g h = rw (ne_eqb st.lists budget h)
one_good budget st (leaf p l) g h = rw (ne_eqb st.lists budget h)

-- one list was read: it can be, the budget was not spent, and it is counted
record OneRead (budget : ℕ) (st : Counts) (e : Event) (u : Counts) : Type 0 where
  good : Good e
  unspent : st.lists ≡ budget → ⊥
  is : u ≡ counted st e

one_read : (budget : ℕ) (st : Counts) (e : Event) (u : Counts) → one budget st e ≡ success u → OneRead budget st e u
unfolding one
one_read budget st (deep p) u q = absurd (success-refused (sym q))
one_read budget st (bad r p) u q = absurd (success-refused (sym (budget_success budget st p (refused (fault r.number r.position st.lists)) u q).1))
one_read budget st (index p n) u q =
    let w = budget_success budget st p (success (counted st (index p n))) u q in
    record { good = tt; unspent = eqb-false _ _ w.0; is = sym (same-success w.1) }
one_read budget st (leaf p l) u q =
    let w = budget_success budget st p (success (counted st (leaf p l))) u q in
    record { good = tt; unspent = eqb-false _ _ w.0; is = sym (same-success w.1) }

counted_lists : (st : Counts) (e : Event) → Good e → (counted st e).lists ≡ st.lists + 1
unfolding counted
counted_lists st e g = omega (arith, good_one e g)

-- ---- a success exactly when all can be read within the budget

pub judge_all : (budget : ℕ) (st : Counts) (es : List Event) → All Good es → st.lists + lists_of es ≤ budget → judge budget st es ≡ success (tally st es)
unfolding All judge after total
judge_all budget st [] g h = ap success (tally_none st)
judge_all budget st (e ∷ es) g h =
    let n = good_one e g.0 in
    ap (λ (a : Paper Counts). after a (λ st'. judge budget st' es)) (one_good budget st e g.0 (omega arith))
    ∙ judge_all budget (counted st e) es g.1 (omega (arith, counted_lists st e g.0))
    ∙ ap success (tally_next st e es)

pub all_judge : (budget : ℕ) (st : Counts) (es : List Event) (t : Counts) → st.lists ≤ budget → judge budget st es ≡ success t
    → All Good es × (st.lists + lists_of es ≤ budget)
unfolding All judge total
all_judge budget st [] t h q = (tt, omega arith)
all_judge budget st (e ∷ es) t h q =
    let w = after-success (one budget st e) (λ st'. judge budget st' es) t q in
    let o = one_read budget st e w.0 w.1.0 in
    let l : w.0.lists ≡ st.lists + 1 = ap (λ (c : Counts). c.lists) o.is ∙ counted_lists st e o.good in
    let n : st.lists ≡ budget → ⊥ = o.unspent in
    let rest = all_judge budget w.0 es t (omega arith) w.1.1 in
    ((o.good, rest.0), omega (arith, rest.1, good_one e o.good))

-- a walk from nothing that succeeds counts every list
pub tally_counts : (es : List Event) → tally none es ≡ counts_of es
tally_counts es = counts_path (zero-add _) (zero-add _) (zero-add _) (zero-add _)

pub judge-counts : (budget : ℕ) (es : List Event) (t : Counts) → judge budget none es ≡ success t → t ≡ counts_of es
judge-counts budget es t q =
    let g = all_judge budget none es t (omega arith) q in
    same-success (sym q ∙ judge_all budget none es g.0 g.1) ∙ tally_counts es

-- ---- the lists that are reported

-- a test and what it says
data Test (a b : ℕ) : Type 0 where
  same : a ≡ b → Test a b
  other : (a ≡ b → ⊥) → Test a b

test : (a b : ℕ) → Test a b
test a b = go (eqb a b) refl
  where
    go : (t : Bool) → eqb a b ≡ t → Test a b
    go true e = same (eqb-true a b e)
    go false e = other (eqb-false a b e)

spent_lists : (budget : ℕ) (st : Counts) (e : Event) (es : List Event) → st.lists ≡ budget → lists_by (judge budget st (e ∷ es)) ≡ st.lists
unfolding judge one in_budget after
spent_lists budget st (deep p) es h = refl
spent_lists budget st (bad r p) es h = rw (eq-eqb st.lists budget h)
spent_lists budget st (index p n) es h = rw (eq-eqb st.lists budget h)
spent_lists budget st (leaf p l) es h = rw (eq-eqb st.lists budget h)

judge_next : (budget : ℕ) (st : Counts) (e : Event) (es : List Event) → Good e → (st.lists ≡ budget → ⊥) → judge budget st (e ∷ es) ≡ judge budget (counted st e) es
unfolding judge after
judge_next budget st e es g h = ap (λ (a : Paper Counts). after a (λ st'. judge budget st' es)) (one_good budget st e g h)

good_lists : (budget : ℕ) (st : Counts) (e : Event) (es : List Event) (n : ℕ) → Good e → st.lists ≤ budget
    → ((u : Counts) → u.lists ≤ budget → lists_by (judge budget u es) ≡ min budget (u.lists + n))
    → Test st.lists budget → lists_by (judge budget st (e ∷ es)) ≡ min budget (st.lists + (1 + n))
good_lists budget st e es n g h ih (same q) = rw (spent_lists budget st e es q) (omega arith)
good_lists budget st e es n g h ih (other q) =
    rw (judge_next budget st e es g q) (omega (arith, counted_lists st e g, ih (counted st e) (omega (arith, counted_lists st e g))))

bad_lists : (budget : ℕ) (st : Counts) (r : Told) (p : ℕ) (es : List Event) → st.lists ≤ budget → Test st.lists budget
    → lists_by (judge budget st (bad r p ∷ es)) ≡ min budget (st.lists + 0)
unfolding judge one in_budget after
bad_lists budget st r p es h (same q) = rw (eq-eqb st.lists budget q) (omega arith)
bad_lists budget st r p es h (other q) = rw (ne_eqb st.lists budget q) (omega arith)

-- those in front of the first that can't be read, and no more than the budget
pub judge_lists : (budget : ℕ) (st : Counts) (es : List Event) → st.lists ≤ budget → lists_by (judge budget st es) ≡ min budget (st.lists + lists_of (front es))
unfolding judge one after front total lists_in
judge_lists budget st [] h = omega arith
judge_lists budget st (deep p ∷ es) h = omega arith
judge_lists budget st (bad r p ∷ es) h = bad_lists budget st r p es h (test st.lists budget)
judge_lists budget st (index p n ∷ es) h = good_lists budget st (index p n) es (lists_of (front es)) tt h (λ u k. judge_lists budget u es k) (test st.lists budget)
judge_lists budget st (leaf p l ∷ es) h = good_lists budget st (leaf p l) es (lists_of (front es)) tt h (λ u k. judge_lists budget u es k) (test st.lists budget)
