-- The most that a walk keeps: 65,535 offsets for each list of its budget, since a count has 16 bits. Assumes nothing.
use mathlib.Core.Path.{◌≡◌, refl, ap, sym}
use mathlib.Core.List.{List, [], ◌∷◌}
use mathlib.Core.Bool.{Bool, true, false}
use Prim.Native.Nat.{ℕ, ◌+◌, ◌*◌, ◌≤◌}
use native.Mathlib.Omega.{arith}
use borrow.Author.Tests.{ltb-false}
use lib.Dec.{ltb, eqb}
use lib.ListN.{length}
use Rattle.words.specs.Paper.{Paper, success, refused}
use Rattle.words.proofs.Little.{Bytes, little_lt}
use Rattle.words.proofs.Papers.{success-refused, same-success}
use Rattle.sub_key_list.specs.Lists.{Listed, list_at}
use Rattle.sub_key_list.specs.Lists as lists
use Rattle.sub_key_walk.specs.Trace.{Event, deep, walk_from, kept_of, lists_in, lists_of, entries_in, entries_of, total}
use Rattle.sub_key_walk.specs.Answers.{BUDGET_LIMIT, COUNT_LIMIT, none, from_record, measured}
use Rattle.sub_key_walk.specs.Free.{All}
use Rattle.sub_key_walk.specs.declared.Counts.{Counts}
use Rattle.sub_key_walk.proofs.Judged.{all_judge, judge-counts}
use Rattle.sub_key_walk.proofs.Traces.{event_of, trace_all, leaf-count}
use Rattle.sub_key_walk.proofs.Dropped.{trace-sum}

-- a list that is read has at most 65,535 entries, and one that is not has none
abbrev Few : Event → Type 0
Few e = entries_in e ≤ 65535 * lists_in e

few_deep : (p : ℕ) → Few (deep p)
unfolding entries_in lists_in
few_deep p = omega arith

few_at : (s : List ℕ) → Bytes s → (base p : ℕ) (h : Paper Listed) → list_at s p ≡ h → Few (event_of s base p h)
unfolding entries_in lists_in
few_at s b base p (success (lists.leaf k z n)) e = omega (arith, leaf-count s p k z n e, little_lt 2 s b (p + 6))
few_at s b base p (success (lists.index n)) e = omega arith
few_at s b base p (refused t) e = omega arith

all_few : (es : List Event) → All Few es → entries_of es ≤ 65535 * lists_of es
unfolding All total
all_few [] a = omega arith
all_few (e ∷ es) a = let h : entries_in e ≤ 65535 * lists_in e = a.0 in omega (arith, all_few es a.1)

pub kept_most : (s : List ℕ) → Bytes s → (base count list budget : ℕ) (t : Counts) → measured s base count list budget ≡ success t
    → t.kept ≤ 65535 * BUDGET_LIMIT
unfolding from_record
kept_most s b base count list budget t q = go (ltb BUDGET_LIMIT budget) (ltb COUNT_LIMIT count) (eqb count 0) refl refl refl
  where
    go : (x y z : Bool) → ltb BUDGET_LIMIT budget ≡ x → ltb COUNT_LIMIT count ≡ y → eqb count 0 ≡ z → t.kept ≤ 65535 * BUDGET_LIMIT
    go true y z h i j = absurd (success-refused (sym (rw h at q)))
    go false true z h i j = absurd (success-refused (sym (rw (h, i) at q)))
    go false false true h i j =
        let e : 0 ≡ t.kept = ap (λ (c : Counts). c.kept) (same-success (rw (h, i, j) at q)) in
        omega arith
    go false false false h i j =
        let w = rw (h, i, j) at q in
        let k : t.kept ≡ length (kept_of (walk_from s base list)) = ap (λ (c : Counts). c.kept) (judge-counts budget (walk_from s base list) t w) in
        let l = (all_judge budget none (walk_from s base list) t (omega arith) w).1 in
        let f = all_few (walk_from s base list) (trace_all Few s base few_deep (few_at s b base) 8 list) in
        omega (arith, trace-sum s base 8 list, ltb-false BUDGET_LIMIT budget h)
