-- Demand 3, of the definitions that `sub_keys` is proved equal to, and last of its answer itself (`demand_3`). Assumes nothing.
use mathlib.Core.Path.{◌≡◌, refl, ap, sym, ◌∙◌}
use mathlib.Core.List.{List, ◌++◌}
use mathlib.Core.Bool.{Bool, true, false, cond}
use Prim.Native.Nat.{ℕ, ◌+◌, ◌*◌, ◌≤◌, min}
use native.Mathlib.Nat.{zero-add}
use native.Mathlib.Omega.{arith}
use lib.Dec.{ltb, eqb}
use lib.ListN.{length, drop}
use Rattle.words.specs.Paper.{Paper, success, refused}
use Rattle.words.specs.Buffers.{in_room}
use Rattle.words.proofs.Papers.{same-success}
use Rattle.words.proofs.Buffers.{room_fits, room_success, untouched, filled}
use Rattle.sub_key_walk.specs.Trace.{Event, walk_from, kept_of, lists_of, entries_of}
use Rattle.sub_key_walk.specs.Judge.{judge}
use Rattle.sub_key_walk.specs.Answers.{BUDGET_LIMIT, COUNT_LIMIT, none, from_record, measured, full_of, answer_of, walk_paper, WalkAnswered}
use Rattle.sub_key_walk.specs.Free.{All, Met, counts_of, Full, front, lists_read, lists_by, Succeeds}
use Rattle.sub_key_walk.specs.Demand.{Demand3}
use Rattle.sub_key_walk.specs.declared.Counts.{Counts}
use Rattle.sub_key_walk.specs.declared.WalkRefusal.{WalkRefusal}
use Rattle.sub_key_walk.proofs.Papers.{paper_read}
use Rattle.sub_key_walk.proofs.Answers.{Started, measured_walk, reached_walk}
use Rattle.sub_key_walk.proofs.Judged.{tally_counts, lists_all, judge_all, all_judge, judge_lists}
use Rattle.sub_key_walk.proofs.Traces.{good_fine, fine_good, trace_dense}
use Rattle.std.specs.Prelude.{Ok, Err}
use Rattle.std.specs.declared.result.Result.{Result}
-- What document 01 says of an answer tells the answers apart, and two answers with their buffers that are allowed for one input
-- are equal.
pub use Rattle.sub_key_walk.proofs.Papers.{paper_injective, answers_determined}

-- ---- the room

room_lists : (room : ℕ) (a : Paper Counts) → lists_by (in_room full_of room a) ≡ lists_by a
unfolding in_room
room_lists room (success t) = go (ltb room t.kept)
  where
    go : (b : Bool) → lists_by (cond b (refused (full_of t)) (success t)) ≡ t.lists
    go true = refl
    go false = refl
room_lists room (refused t) = refl

-- ---- "Its reported number of lists is the definition's, refused or not": for every input

pub lists_measured : (s : List ℕ) (base count list budget : ℕ) → lists_by (measured s base count list budget) ≡ lists_read s base count list budget
unfolding from_record lists_read
lists_measured s base count list budget = go (ltb BUDGET_LIMIT budget) (ltb COUNT_LIMIT count) (eqb count 0) refl refl refl
  where
    go : (a b c : Bool) → ltb BUDGET_LIMIT budget ≡ a → ltb COUNT_LIMIT count ≡ b → eqb count 0 ≡ c
        → lists_by (measured s base count list budget) ≡ lists_read s base count list budget
    go true b c x y z = rw x
    go false true c x y z = rw (x, y)
    go false false true x y z = rw (x, y, z)
    go false false false x y z =
        rw (x, y, z)
        (judge_lists budget none (walk_from s base list) (omega arith) ∙ ap (min budget) (zero-add (lists_of (front (walk_from s base list)))))

pub lists_reported : (s : List ℕ) (base count list budget room : ℕ) → lists_by (answer_of s base count list budget room) ≡ lists_read s base count list budget
lists_reported s base count list budget room = room_lists room (measured s base count list budget) ∙ lists_measured s base count list budget

-- ---- "For a subkey count from 1 to 1,048,576 and a budget up to 65,536, the subkey walk succeeds exactly when .."

module _ (s : List ℕ) (base count list budget room : ℕ) (d : Started count budget) where
  abbrev reached : List Event
  reached = walk_from s base list

  -- if, with the counts of all lists reached
  pub succeeds_if : Met s base list budget room → answer_of s base count list budget room ≡ success (counts_of reached)
  succeeds_if m =
      let b : lists_of reached ≤ budget = m.within in
      ap (in_room full_of room)
      (measured_walk count budget reached d ∙ judge_all budget none reached (fine_good s base 8 list m.fine) (omega arith) ∙ ap success (tally_counts reached))
      ∙ room_fits full_of room (counts_of reached) m.fits

  -- and only if, again with their counts
  pub record Why (t : Counts) : Type 0 where
    pub met : Met s base list budget room
    pub counts : t ≡ counts_of reached
    pub all_read : t.lists ≡ length reached

  pub succeeds_only : (t : Counts) → answer_of s base count list budget room ≡ success t → Why t
  succeeds_only t q =
      let w = room_success full_of room (judge budget none reached) t (ap (in_room full_of room) (sym (measured_walk count budget reached d)) ∙ q) in
      let g = all_judge budget none reached t (omega arith) w.0 in
      let b : 0 + lists_of reached ≤ budget = g.1 in
      let c : t ≡ counts_of reached = same-success (sym w.0 ∙ judge_all budget none reached g.0 g.1) ∙ tally_counts reached in
      let k : t.kept ≡ length (kept_of reached) = ap (λ (v : Counts). v.kept) c in
      let r : t.kept ≤ room = w.1 in
      record {
        met = record { fine = good_fine s base 8 list g.0; within = omega arith; fits = omega arith };
        counts = c;
        all_read = ap (λ (v : Counts). v.lists) c ∙ lists_all reached g.0;
      }

  -- "If it succeeds and no list reached is empty, that number is at most 8 times the entries of all leaf lists reached"
  pub lists_few : (t : Counts) → answer_of s base count list budget room ≡ success t → All Full reached → t.lists ≤ 8 * entries_of reached
  lists_few t q f =
      let w = succeeds_only t q in
      let m = (trace_dense _ 8 s base list (fine_good s base 8 list w.met.fine) f).many in
      omega (arith, w.all_read)

-- ---- of the answer itself: any answer `r` and any buffer `new` that the contract of `sub_keys` allows

-- an answer by its paper
read_paper : {r : (Result Counts WalkRefusal)} {t : Counts} → r ≡ Ok t → walk_paper r ≡ success t
read_paper q = ap walk_paper q

-- every answer reports the definition's number of lists, and a refusal changes no place: for every input
module _ (s : List ℕ) (base count list budget : ℕ) (old : List ℕ) (r : (Result Counts WalkRefusal)) (new : List ℕ) (x : WalkAnswered s base count list budget old r new) where
  pub answer_lists : lists_by (walk_paper r) ≡ lists_read s base count list budget
  answer_lists = ap lists_by x.answer ∙ lists_reported s base count list budget (length old)

  pub refusal_untouched : (f : WalkRefusal) → r ≡ Err f → new ≡ old
  refusal_untouched f q = untouched x (ap walk_paper q)

pub demand_3 : (s : List ℕ) (base count list budget : ℕ) (old : List ℕ) (r : (Result Counts WalkRefusal)) (new : List ℕ)
    → WalkAnswered s base count list budget old r new → 1 ≤ count → count ≤ COUNT_LIMIT → budget ≤ BUDGET_LIMIT → Demand3 s base count list budget old r new
demand_3 s base count list budget old r new x some few small = record {
  if = λ m. record { counts = counts_of (walk_from s base list); is = paper_read r _ (x.answer ∙ succeeds_if s base count list budget (length old) d m) };
  only_if = λ y. (why y).met;
  reported = answer_lists s base count list budget old r new x;
  few = λ y f. rw (read_paper y.is) (lists_few s base count list budget (length old) d y.counts (answer y) f);
  counts = λ t q. (why (record { counts = t; is = q })).counts;
  filled = λ y. filled x (read_paper y.is) ∙ ap (λ (es : List Event). kept_of es ++ drop (length (kept_of es)) old) (reached_walk count (walk_from s base list) d.some);
  untouched = λ f q. refusal_untouched s base count list budget old r new x f q;
}
  where
    d : Started count budget
    d = record { small = small; few = few; some = λ z. omega arith }

    answer : (y : Succeeds r) → answer_of s base count list budget (length old) ≡ success y.counts
    answer y = sym x.answer ∙ read_paper y.is

    why : (y : Succeeds r) → Why s base count list budget (length old) d y.counts
    why y = succeeds_only s base count list budget (length old) d y.counts (answer y)
