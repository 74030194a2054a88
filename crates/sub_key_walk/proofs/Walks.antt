-- Laws of traces, of what a budget makes of them, and of the answers of the walk that measures. Assumes nothing.
use mathlib.Core.Path.{◌≡◌, refl, ap, sym, subst, ◌∙◌}
use mathlib.Core.List.{List, [], ◌∷◌, ◌++◌, append_assoc}
use mathlib.Core.Bool.{Bool, true, false, cond}
use Prim.Native.Nat.{ℕ, zero, suc, ◌+◌, ◌-◌, ◌*◌, ◌≤◌, ◌<◌}
use native.Mathlib.Nat.{sub-zero}
use native.Mathlib.Omega.{arith}
use borrow.Author.Tests.{eq-eqb, ne_eqb}
use lib.Dec.{eqb}
use Rattle.words.specs.Words.{word32}
use Rattle.words.specs.Refusals.{TOO_DEEP, OUT_OF_STEPS}
use Rattle.words.specs.Paper.{Told, Paper, success, refused}
use Rattle.words.proofs.Papers.{success-refused, same-ok}
use Rattle.sub_key_list.specs.Lists.{word_of, Listed, list_at, list_paper}
use Rattle.sub_key_list.specs.Lists as lists
use Rattle.sub_key_list.specs.Leaves.{leaf_of, leaf_dropped}
use Rattle.sub_key_list.specs.declared.LeafList.{LeafList}
use Rattle.sub_key_list.specs.declared.IndexList.{IndexList}
use Rattle.sub_key_list.specs.declared.SubKeyList.{SubKeyList}
use Rattle.sub_key_list.specs.declared.SubKeyList.TheVariants as found
use Rattle.words.specs.declared.Refusal.{Refusal}
use Rattle.sub_key_list.proofs.Leaves.{leaf_all}
use Rattle.sub_key_walk.specs.Trace.{Event, deep, index, leaf, each, below, trace, LEVELS, kept_in, kept_of, lists_in, entries_in, dropped_in, total}
use Rattle.sub_key_walk.specs.Judge.{fault, counts, counted, in_budget, one, after, judge}
use Rattle.sub_key_walk.specs.Answers.{BUDGET_LIMIT, none, walk_told, walk_paper}
use Rattle.sub_key_walk.specs.Leaf.{read_of}
use Rattle.sub_key_walk.specs.Walk.{Bounded, Small, with_index, with_leaf, Walk}
use Rattle.sub_key_walk.specs.declared.Counts.{Counts}
use Rattle.sub_key_walk.specs.declared.LeafRead.{LeafRead}
use Rattle.sub_key_walk.specs.declared.WalkRefusal.{WalkRefusal}
use Rattle.std.specs.Prelude.{Ok, Err}
use Rattle.std.specs.declared.result.Result.{Result}
use Rattle.words.specs.Paper.{number_of}

-- ---- traces

module _ (hd : ℕ → ℕ → Paper Listed) (levels : ℕ) (s : List ℕ) (base offset : ℕ) where
  pub trace-deep : levels ≡ 0 → trace hd levels s base offset ≡ deep (offset + base) ∷ []
  unfolding trace
  trace-deep e = rw e

pub trace_in : (hd : ℕ → ℕ → Paper Listed) (levels : ℕ) (s : List ℕ) (base offset : ℕ) → (levels ≡ 0 → ⊥)
    → trace hd levels s base offset ≡ below (trace hd (levels - 1) s base) s base (offset + base) (hd levels (offset + base))
unfolding trace
trace_in hd zero s base offset h = absurd (h refl)
trace_in hd (suc k) s base offset h = rw pred_suc
  where
    pred_suc : suc k - 1 ≡ k
    pred_suc = omega arith

module _ (f : ℕ → List Event) (s : List ℕ) where
  pub each_next : (k j pos : ℕ) → k ≡ suc j → each f s k pos ≡ f (word32 s pos) ++ each f s j (pos + 4)
  unfolding each
  each_next k j pos e = rw e

  pub each_none : (k pos : ℕ) → k ≡ 0 → each f s k pos ≡ []
  unfolding each
  each_none k pos e = rw e

pub kept_append : (xs ys : List Event) → kept_of (xs ++ ys) ≡ kept_of xs ++ kept_of ys
unfolding kept_of
kept_append [] ys = refl
kept_append (e ∷ xs) ys = ap (λ (ks : List ℕ). kept_in e ++ ks) (kept_append xs ys) ∙ sym (append_assoc (kept_in e) (kept_of xs) (kept_of ys))

pub total-append : (n : Event → ℕ) (xs ys : List Event) → total n (xs ++ ys) ≡ total n xs + total n ys
unfolding total
total-append n [] ys = omega arith
total-append n (e ∷ xs) ys = omega (arith, total-append n xs ys)

-- ---- judging

after-after : (a : Paper Counts) (f g : Counts → Paper Counts) → after (after a f) g ≡ after a (λ st. after (f st) g)
unfolding after
after-after (success st) f g = refl
after-after (refused t) f g = refl

after_same : (a : Paper Counts) (f g : Counts → Paper Counts) → ((st : Counts) → f st ≡ g st) → after a f ≡ after a g
unfolding after
after_same (success st) f g h = h st
after_same (refused t) f g h = refl

-- a row of lists, and another behind it
pub judge-append : (budget : ℕ) (st : Counts) (xs ys : List Event) → judge budget st (xs ++ ys) ≡ after (judge budget st xs) (λ st'. judge budget st' ys)
unfolding judge after
judge-append budget st [] ys = refl
judge-append budget st (e ∷ xs) ys =
    after_same (one budget st e) _ _ (λ st'. judge-append budget st' xs ys)
    ∙ sym (after-after (one budget st e) (λ st'. judge budget st' xs) (λ st'. judge budget st' ys))

-- what succeeds after a step, and the step
pub after-success : (a : Paper Counts) (f : Counts → Paper Counts) (t : Counts) → after a f ≡ success t → (u : Counts) × ((a ≡ success u) × (f u ≡ success t))
unfolding after
after-success (success u) f t e = (u, (refl, e))
after-success (refused x) f t e = absurd (success-refused (sym e))

-- what succeeds within the budget
cond-success : (b : Bool) (x : Told) (a : Paper Counts) (u : Counts) → cond b (refused x) a ≡ success u → (b ≡ false) × (a ≡ success u)
cond-success true x a u e = absurd (success-refused (sym e))
cond-success false x a u e = (refl, e)

pub budget_success : (budget : ℕ) (st : Counts) (p : ℕ) (a : Paper Counts) (u : Counts) → in_budget budget st p a ≡ success u
    → (eqb st.lists budget ≡ false) × (a ≡ success u)
unfolding in_budget
budget_success budget st p a u e = cond-success (eqb st.lists budget) (fault OUT_OF_STEPS p st.lists) a u e

-- ---- a list that is reached: the cases in their order

module _ (hd : ℕ → ℕ → Paper Listed) (budget : ℕ) (st : Counts) where
  spent_below : (f : ℕ → List Event) (s : List ℕ) (base p : ℕ) (h : Paper Listed) → st.lists ≡ budget
      → judge budget st (below f s base p h) ≡ refused (fault OUT_OF_STEPS p st.lists)
  unfolding below judge one in_budget after
  spent_below f s base p (success (lists.leaf k z n)) e = simp (eq-eqb _ _ e)
  spent_below f s base p (success (lists.index n)) e = simp (eq-eqb _ _ e)
  spent_below f s base p (refused t) e = simp (eq-eqb _ _ e)

  module _ (levels : ℕ) (s : List ℕ) (base offset : ℕ) where
    judge-deep : levels ≡ 0 → refused (fault TOO_DEEP (offset + base) st.lists) ≡ judge budget st (trace hd levels s base offset)
    unfolding judge one after
    judge-deep e = rw (trace-deep hd levels s base offset e)

    module _ (h : levels ≡ 0 → ⊥) where
      judge_spent : st.lists ≡ budget → refused (fault OUT_OF_STEPS (offset + base) st.lists) ≡ judge budget st (trace hd levels s base offset)
      judge_spent e = rw (trace_in hd levels s base offset h) (sym (spent_below _ s base (offset + base) (hd levels (offset + base)) e))

      module _ (k : st.lists ≡ budget → ⊥) where
        judge-bad : (t : Told) → hd levels (offset + base) ≡ refused t
            → refused (fault t.number t.position st.lists) ≡ judge budget st (trace hd levels s base offset)
        unfolding below judge one in_budget after
        judge-bad t e = rw (trace_in hd levels s base offset h, e, ne_eqb _ _ k)

        judge-leaf : (kind z n : ℕ) → hd levels (offset + base) ≡ success (lists.leaf kind z n)
            → success (counted st (leaf (offset + base) (leaf_of s base (offset + base) z n))) ≡ judge budget st (trace hd levels s base offset)
        unfolding below judge one in_budget after
        judge-leaf kind z n e = rw (trace_in hd levels s base offset h, e, ne_eqb _ _ k)

        judge-index : (n : ℕ) → hd levels (offset + base) ≡ success (lists.index n)
            → judge budget (counted st (index (offset + base) n)) (each (trace hd (levels - 1) s base) s n (offset + base + 8))
            ≡ judge budget st (trace hd levels s base offset)
        unfolding below judge one in_budget after
        judge-index n e = rw (trace_in hd levels s base offset h, e, ne_eqb _ _ k)

-- ---- what a walk gives

-- an answer that is refused is no success
refused_read : {r : (Result Counts WalkRefusal)} {x : Told} {t : Counts} → walk_paper r ≡ refused x → r ≡ Ok t → ⊥
refused_read e q = success-refused (sym (ap walk_paper q) ∙ e)

module _ (budget : ℕ) (st : Counts) (es : List Event) where
  walk_refused : {r : (Result Counts WalkRefusal)} {x : Told} → walk_paper r ≡ refused x → refused x ≡ judge budget st es → Walk budget st es r
  walk_refused e f = record { answer = e ∙ f; bounded = λ t q. absurd (refused_read e q) }

  walk_read : {r : (Result Counts WalkRefusal)} (t : Counts) → r ≡ Ok t → success t ≡ judge budget st es → Bounded budget t → Walk budget st es r
  walk_read t p e b = record { answer = ap walk_paper p ∙ e; bounded = λ u q. subst (Bounded budget) (same-ok (sym p ∙ q)) b }

-- ---- the counts

pub counts_path : {a b : Counts} → a.kept ≡ b.kept → a.lists ≡ b.lists → a.entries ≡ b.entries → a.dropped ≡ b.dropped → a ≡ b
counts_path p q r d = λ i. record { kept = p i; lists = q i; entries = r i; dropped = d i }

index-counted : (st : Counts) (p n : ℕ) → with_index st ≡ counted st (index p n)
unfolding counted kept_in lists_in entries_in dropped_in
index-counted st p n = counts_path (omega arith) refl (omega arith) (omega arith)

-- ---- the loop over the entries of an `ri` list

pub record Indexing (budget : ℕ) (f : ℕ → List Event) (s : List ℕ) (n first : ℕ) (st sum : Counts) (pos i : ℕ) : Type 0 where
  pub within : i ≤ n
  pub near : pos ≡ first + 4 * i
  pub judged : judge budget sum (each f s (n - i) pos) ≡ judge budget st (each f s n first)
  pub few : Bounded budget sum

module _ (budget : ℕ) (f : ℕ → List Event) (s : List ℕ) (n first : ℕ) (st : Counts) where
  pub indexing_start : Bounded budget st → (pos : ℕ) → pos ≡ first → Indexing budget f s n first st st pos 0
  indexing_start b pos e = rw e (record { within = omega arith; near = omega arith; judged = rw sub-zero; few = b })

  module _ (sum : Counts) (pos i : ℕ) (v : Indexing budget f s n first st sum pos i) where
    module _ (h : i < n) (next : ℕ) (e : next ≡ word32 s pos) where
      split : each f s (n - i) pos ≡ f next ++ each f s (n - (i + 1)) (pos + 4)
      split = rw e (each_next f s (n - i) (n - (i + 1)) pos (omega arith))

      -- what the rest makes of the answer one level lower
      onward : (a : Paper Counts) → judge budget sum (f next) ≡ a → after a (λ st'. judge budget st' (each f s (n - (i + 1)) (pos + 4))) ≡ judge budget st (each f s n first)
      onward a q =
          let rest : List Event = each f s (n - (i + 1)) (pos + 4) in
          ap (λ (x : Paper Counts). after x (λ st'. judge budget st' rest)) (sym q) ∙ sym (judge-append budget sum (f next) rest)
          ∙ ap (judge budget sum) (sym split) ∙ v.judged

      pub indexing_step : (t : Counts) → Walk budget sum (f next) (Ok t)
          → (at : ℕ) → at ≡ pos + 4 → Indexing budget f s n first st t at (i + 1)
      unfolding after
      indexing_step t w at b =
          rw b (record { within = omega arith; near = omega (arith, v.near); judged = onward (success t) (sym w.answer); few = w.bounded t refl })

      indexing_refused : (g : WalkRefusal) → Walk budget sum (f next) (Err g) → refused (walk_told g) ≡ judge budget st (each f s n first)
      unfolding after
      indexing_refused g w = onward (refused (walk_told g)) (sym w.answer)

    indexing_answer : n ≤ i → success sum ≡ judge budget st (each f s n first)
    unfolding judge
    indexing_answer h = ap (judge budget sum) (sym (each_none f s (n - i) pos (omega arith))) ∙ v.judged

-- ---- the answers of a walk, each from what its code has found

module _ (hd : ℕ → ℕ → Paper Listed) (budget : ℕ) (st : Counts) (levels : ℕ) (s : List ℕ) (base offset : ℕ) {r : (Result Counts WalkRefusal)} where
  pub walk_deep : walk_paper r ≡ refused (fault TOO_DEEP (offset + base) st.lists) → levels ≡ 0 → Walk budget st (trace hd levels s base offset) r
  walk_deep e z = walk_refused budget st (trace hd levels s base offset) e (judge-deep hd budget st levels s base offset z)

  pub walk_spent : walk_paper r ≡ refused (fault OUT_OF_STEPS (offset + base) st.lists) → (levels ≡ 0 → ⊥) → st.lists ≡ budget
      → Walk budget st (trace hd levels s base offset) r
  walk_spent e h z = walk_refused budget st (trace hd levels s base offset) e (judge_spent hd budget st levels s base offset h z)

-- what a leaf list gives is small
pub leaf_small : (s : List ℕ) (base p size n : ℕ) {t : LeafRead} → n < 65536 → t ≡ read_of (leaf_of s base p size n) → Small t
leaf_small s base p size n m d = subst Small (sym d) (record { every = leaf_all s base size n (p + 8); few = omega arith })

-- another list can be counted
pub reached_small : {budget : ℕ} {st : Counts} → (st.lists ≡ budget → ⊥) → Bounded budget st → budget ≤ BUDGET_LIMIT → Bounded 65535 st
reached_small u few m = record { every = omega arith; some_entries = omega arith; some_lists = omega arith }

-- a list is reached within the levels and the budget, at small counts, and `g` is what the code finds there
pub record Reached (hd : ℕ → ℕ → Paper Listed) (budget : ℕ) (st : Counts) (levels : ℕ) (s : List ℕ) (base offset : ℕ) (g : (Result SubKeyList Refusal)) : Type 0 where
  pub deeper : levels ≡ 0 → ⊥
  pub unspent : st.lists ≡ budget → ⊥
  pub few : Bounded budget st
  pub is : hd levels (offset + base) ≡ list_paper g

module _ {hd : ℕ → ℕ → Paper Listed} {budget : ℕ} {st : Counts} {levels : ℕ} {s : List ℕ} {base offset : ℕ} where
  pub walk_bad : {g : Refusal} → Reached hd budget st levels s base offset (Err g) → {r : (Result Counts WalkRefusal)}
      → walk_paper r ≡ refused (fault (number_of g.reason) g.position st.lists) → Walk budget st (trace hd levels s base offset) r
  walk_bad {g} x e =
      walk_refused budget st (trace hd levels s base offset) e
      (judge-bad hd budget st levels s base offset x.deeper x.unspent _ x.is)

  -- a leaf list that is counted keeps the counts small
  pub walk_leaf : {l : LeafList} → Reached hd budget st levels s base offset (Ok (found.Leaf l)) → {t : LeafRead} → Small t
      → t ≡ read_of (leaf_of s base (offset + base) l.entry_size l.count)
      → {w : (Result Counts WalkRefusal)} → w ≡ Ok (with_leaf st t) → Walk budget st (trace hd levels s base offset) w
  unfolding counted kept_in lists_in entries_in dropped_in
  walk_leaf {l} x z d q =
      let m : l.count < 65536 = let n = ap (λ (r : LeafRead). r.entries) d in let f = z.few in omega arith in
      let u : st.lists ≡ budget → ⊥ = x.unspent in
      let few : Bounded budget st = x.few in
      let k = leaf_all s base l.entry_size l.count (offset + base + 8) in
      walk_read budget st (trace hd levels s base offset) _ (q ∙ ap (λ (r : LeafRead). Ok (with_leaf st r)) d)
      (judge-leaf hd budget st levels s base offset x.deeper x.unspent (word_of l.kind) l.entry_size l.count x.is)
      (record { every = omega arith; some_entries = omega arith; some_lists = omega arith })

  -- the lists below an `ri` list, from the counts that the code builds
  module _ {l : IndexList} (x : Reached hd budget st levels s base offset (Ok (found.Index l))) {start : Counts} (b : start ≡ with_index st) where
    pub index_bounded : Bounded budget start
    index_bounded =
        let u : st.lists ≡ budget → ⊥ = x.unspent in
        let few : Bounded budget st = x.few in
        rw b (record { every = omega arith; some_entries = omega arith; some_lists = omega arith })

    below-index : judge budget start (each (trace hd (levels - 1) s base) s l.count (offset + base + 8)) ≡ judge budget st (trace hd levels s base offset)
    below-index =
        ap (λ (c : Counts). judge budget c (each (trace hd (levels - 1) s base) s l.count (offset + base + 8))) (b ∙ index-counted st (offset + base) l.count)
        ∙ judge-index hd budget st levels s base offset x.deeper x.unspent l.count x.is

    module _ {sum : Counts} {pos i : ℕ}
        (v : Indexing budget (trace hd (levels - 1) s base) s l.count (offset + base + 8) start sum pos i) where
      pub walk_index : l.count ≤ i → {w : (Result Counts WalkRefusal)} → w ≡ Ok sum → Walk budget st (trace hd levels s base offset) w
      walk_index m q =
          walk_read budget st (trace hd levels s base offset) sum q
          (indexing_answer budget (trace hd (levels - 1) s base) s l.count (offset + base + 8) start sum pos i v m ∙ below-index)
          v.few

      pub walk_index_refused : i < l.count → {next : ℕ} → next ≡ word32 s pos → {g : WalkRefusal} → Walk budget sum (trace hd (levels - 1) s base next) (Err g)
          → {w : (Result Counts WalkRefusal)} → w ≡ Err g → Walk budget st (trace hd levels s base offset) w
      walk_index_refused m {next} d {g} y e =
          walk_refused budget st (trace hd levels s base offset) (ap walk_paper e)
          (indexing_refused budget (trace hd (levels - 1) s base) s l.count (offset + base + 8) start sum pos i v m next d g y ∙ below-index)

-- ---- a top list that is a leaf list, read at once

pub levels_left : LEVELS ≡ 0 → ⊥
levels_left z = let y : ⊥ = omega arith in y

-- and below it
pub named_left : LEVELS - 1 ≡ 0 → ⊥
named_left z = let y : ⊥ = omega arith in y

pub lost_few : (s : List ℕ) (base size n pos : ℕ) {lost : ℕ} → lost ≡ leaf_dropped s base size n pos → lost ≤ n
lost_few s base size n pos d = let a = leaf_all s base size n pos in omega (arith, d)

pub top_leaf : (hd : ℕ → ℕ → Paper Listed) (budget : ℕ) (s : List ℕ) (base list kind size n : ℕ) → (0 ≡ budget → ⊥) → hd LEVELS (list + base) ≡ success (lists.leaf kind size n)
    → {lost : ℕ} → lost ≡ leaf_dropped s base size n (list + base + 8) → success (counts (n - lost) 1 n lost) ≡ judge budget none (trace hd LEVELS s base list)
unfolding counted kept_in lists_in entries_in dropped_in
top_leaf hd budget s base list kind size n k e {lost} d =
    let a = leaf_all s base size n (list + base + 8) in
    ap success (counts_path (omega arith) refl (omega arith) (omega (arith, d)))
    ∙ judge-leaf hd budget none LEVELS s base list levels_left k kind size n e
