-- The strict profile of the walk beside the ordinary one; last of the answers themselves (`counts_profiles`, `sub_keys_profiles`,
-- `leaf_profiles`). Assumes nothing.
use Prim.{tt}
use mathlib.Core.Path.{◌≡◌, refl, ap, sym, subst, ◌∙◌}
use mathlib.Core.Logic.{◌⊎◌, inl, inr}
use mathlib.Core.List.{List, [], ◌∷◌, ◌++◌, append_assoc}
use mathlib.Core.Bool.{Bool, true, false}
use Prim.Native.Nat.{ℕ, zero, suc, ◌+◌, ◌≤◌, ◌<◌}
use native.Mathlib.Omega.{arith}
use borrow.Author.Tests.{eqb-false}
use lib.Dec.{ltb, eqb}
use lib.ListN.{length}
use Rattle.words.specs.Words.{word32}
use Rattle.words.specs.Refusals.{BAD_SIZE, TOO_MANY, BAD_BUDGET, TOO_DEEP, OUT_OF_STEPS, NOT_PERMITTED}
use Rattle.words.specs.Buffers.{in_room, buffer_after}
use Rattle.words.specs.Paper.{Told, Paper, success, refused, by, on_success}
use Rattle.words.proofs.Papers.{success-refused, same-told}
use Rattle.words.proofs.Buffers.{room_refused, room_success, other_of, untouched}
use Rattle.sub_key_list.specs.Lists.{Listed, list_at}
use Rattle.sub_key_list.specs.Lists as lists
use Rattle.sub_key_list.specs.Leaves.{leaf_of, only_leaf, leaf_at}
use Rattle.sub_key_list.specs.Profiles.{Added}
use Rattle.sub_key_list.specs.Strict.{strict_at}
use Rattle.sub_key_list.proofs.Cases.{list_every}
use Rattle.sub_key_list.proofs.Profiles.{accepted, Either, alike, added, either}
use Rattle.sub_key_walk.specs.Trace.{Event, deep, bad, index, leaf, each, below, trace, ordinary, LEVELS, walk_from, kept_of}
use Rattle.sub_key_walk.specs.Judge.{fault, in_budget, one, after, judge}
use Rattle.sub_key_walk.specs.Answers.{BUDGET_LIMIT, COUNT_LIMIT, none, from_record, measured, full_of, reached_for, kept_by, walk_told, walk_paper, WalkAnswered}
use Rattle.sub_key_walk.specs.Free.{All, lists_by}
use Rattle.sub_key_walk.specs.Strict.{strict, strict_from, strict_measured, StrictAnswered, StrictLeafAnswered}
use Rattle.sub_key_walk.specs.Leaf.{leaf_in_room, leaf_paper, LeafAnsweredAs, LeafAnswered}
use Rattle.sub_key_walk.specs.Profiles.{Walks, SubKeys, LeafSubKeys}
use Rattle.sub_key_walk.specs.Profiles as profiles
use Rattle.sub_key_walk.specs.Walk.{reading_by, walk_by}
use Rattle.sub_key_walk.specs.declared.Profile.{Profile}
use Rattle.sub_key_walk.specs.declared.Profile.TheVariants.{Ordinary, Strict}
use Rattle.sub_key_walk.specs.declared.Counts.{Counts}
use Rattle.sub_key_walk.specs.declared.WalkRefusal.{WalkRefusal}
use Rattle.sub_key_walk.proofs.Walks.{trace_in, judge-append, levels_left, named_left}
use Rattle.sub_key_walk.proofs.Papers.{paper_injective, leaf_answers_determined}
use Rattle.sub_key_walk.proofs.Traces.{append_all, index_is_ri}
use Rattle.sub_key_walk.proofs.Refusals.{Sound, record_every}
use Rattle.sub_key_walk.proofs.Judged.{judge_lists}
use Rattle.std.specs.Prelude.{Ok, Err}
use Rattle.std.specs.declared.result.Result.{Result}
use Rattle.sub_key_walk.specs.declared.LeafRead.{LeafRead}

-- what either way of reading accepts stands there
pub reading_read : (profile : Profile) (s : List ℕ) (levels p : ℕ) {l : Listed} → reading_by profile s levels p ≡ success l → list_at s p ≡ success l
reading_read Ordinary s levels p e = e
reading_read (Strict minor) s levels p {l} e = (accepted s minor (ltb levels LEVELS) p l e).0

-- ---- two rows of lists: the same, or the same up to a list that the first one refuses besides

-- a list at a position that is not too deep
abbrev At : ℕ → Event → Type 0
At q (deep p) = ⊥
At q (bad t p) = p ≡ q
At q (index p n) = p ≡ q
At q (leaf p l) = p ≡ q

module _ (Q : ℕ → Told → Type 0) where
  -- where the rows part
  record Parting (es os : List Event) : Type 0 where
    front : List Event
    told : Told
    place : ℕ
    event : Event
    behind : List Event
    rest : List Event
    why : Q place told
    near : At place event
    first : es ≡ front ++ (bad told place ∷ behind)
    second : os ≡ front ++ (event ∷ rest)

  data Rows (es os : List Event) : Type 0 where
    same : es ≡ os → Rows es os
    part : Parting es os → Rows es os

  append_rows : (xs ys vs ws : List Event) → Rows xs ys → Rows vs ws → Rows (xs ++ vs) (ys ++ ws)
  append_rows xs ys vs ws (same e) (same f) = same (rw (e, f))
  append_rows xs ys vs ws (same e) (part d) =
      part (record {
        front = xs ++ d.front;
        told = d.told;
        place = d.place;
        event = d.event;
        behind = d.behind;
        rest = d.rest;
        why = d.why;
        near = d.near;
        first = ap (λ (r : List Event). xs ++ r) d.first ∙ sym (append_assoc xs d.front _);
        second = ap (λ (r : List Event). ys ++ r) d.second ∙ ap (λ (r : List Event). r ++ (d.front ++ (d.event ∷ d.rest))) (sym e) ∙ sym (append_assoc xs d.front _);
      })
  append_rows xs ys vs ws (part d) r =
      part (record {
        front = d.front;
        told = d.told;
        place = d.place;
        event = d.event;
        behind = d.behind ++ vs;
        rest = d.rest ++ ws;
        why = d.why;
        near = d.near;
        first = ap (λ (r : List Event). r ++ vs) d.first ∙ append_assoc d.front (bad d.told d.place ∷ d.behind) vs;
        second = ap (λ (r : List Event). r ++ ws) d.second ∙ append_assoc d.front (d.event ∷ d.rest) ws;
      })

  -- ---- two readings: alike, or the first refuses besides

  module _ (s : List ℕ) (base : ℕ) where
    each_rows : (f g : ℕ → List Event) → ((o : ℕ) → Rows (f o) (g o)) → (k pos : ℕ) → Rows (each f s k pos) (each g s k pos)
    unfolding each
    each_rows f g h zero pos = same refl
    each_rows f g h (suc k) pos = append_rows (f (word32 s pos)) (g (word32 s pos)) _ _ (h (word32 s pos)) (each_rows f g h k (pos + 4))

    below_rows : (f g : ℕ → List Event) → ((o : ℕ) → Rows (f o) (g o)) → (p : ℕ) (a : Paper Listed) → Rows (below f s base p a) (below g s base p a)
    unfolding below
    below_rows f g h p (success (lists.leaf k z n)) = same refl
    below_rows f g h p (success (lists.index n)) = append_rows (index p n ∷ []) (index p n ∷ []) _ _ (same refl) (each_rows f g h n (p + 8))
    below_rows f g h p (refused t) = same refl

    -- whatever a list is, its reading puts it first
    below_part : (f g : ℕ → List Event) (p : ℕ) (t : Told) (a : Paper Listed) → Q p t → Rows (below f s base p (refused t)) (below g s base p a)
    unfolding below
    below_part f g p t (success (lists.leaf k z n)) q =
        part (record { front = []; told = t; place = p; event = leaf p (leaf_of s base p z n); behind = []; rest = []; why = q; near = refl; first = refl; second = refl })
    below_part f g p t (success (lists.index n)) q =
        part (record { front = []; told = t; place = p; event = index p n; behind = []; rest = each g s n (p + 8); why = q; near = refl; first = refl; second = refl })
    below_part f g p t (refused u) q =
        part (record { front = []; told = t; place = p; event = bad u p; behind = []; rest = []; why = q; near = refl; first = refl; second = refl })

    module _ (hd od : ℕ → ℕ → Paper Listed) (v : (levels p : ℕ) → (hd levels p ≡ od levels p) ⊎ ((t : Told) × (hd levels p ≡ refused t) × Q p t)) where
      -- a list that both read one level above what they reach below it
      list_rows : (l o : ℕ) → ((x : ℕ) → Rows (trace hd l s base x) (trace od l s base x))
          → (hd (suc l) (o + base) ≡ od (suc l) (o + base)) ⊎ ((t : Told) × (hd (suc l) (o + base) ≡ refused t) × Q (o + base) t)
          → Rows (below (trace hd l s base) s base (o + base) (hd (suc l) (o + base))) (below (trace od l s base) s base (o + base) (od (suc l) (o + base)))
      list_rows l o h (inl e) = rw e (below_rows (trace hd l s base) (trace od l s base) h (o + base) (od (suc l) (o + base)))
      list_rows l o h (inr (t, e, q)) = rw e (below_part (trace hd l s base) (trace od l s base) (o + base) t (od (suc l) (o + base)) q)

      trace_rows : (levels o : ℕ) → Rows (trace hd levels s base o) (trace od levels s base o)
      unfolding trace
      trace_rows zero o = same refl
      trace_rows (suc l) o = list_rows l o (λ x. trace_rows l x) (v (suc l) (o + base))

  -- ---- what a budget makes of two rows that part: both are refused alike, or the first by what it refuses besides

  data Outcome (budget : ℕ) (st : Counts) (es os : List Event) : Type 0 where
    both : (x : Told) → judge budget st es ≡ refused x → judge budget st os ≡ refused x → Outcome budget st es os
    first_only : (t : Told) (p l : ℕ) → Q p t → l < budget → judge budget st es ≡ refused (fault t.number t.position l) → Outcome budget st es os

  module _ (budget : ℕ) where
    spent_at : (u : Counts) (q : ℕ) (e : Event) (es : List Event) → At q e → eqb u.lists budget ≡ true
        → judge budget u (e ∷ es) ≡ refused (fault OUT_OF_STEPS q u.lists)
    unfolding judge one in_budget after
    spent_at u q (deep p) es a b = absurd a
    spent_at u q (bad t p) es a b = rw (b, a)
    spent_at u q (index p n) es a b = rw (b, a)
    spent_at u q (leaf p l) es a b = rw (b, a)

    bad-at : (u : Counts) (t : Told) (p : ℕ) (es : List Event) → eqb u.lists budget ≡ false
        → judge budget u (bad t p ∷ es) ≡ refused (fault t.number t.position u.lists)
    unfolding judge one in_budget after
    bad-at u t p es b = rw b

    part_outcome : (st : Counts) (es os : List Event) → st.lists ≤ budget → Parting es os → Outcome budget st es os
    unfolding after
    part_outcome st es os few d = go (judge budget st d.front) refl
      where
        from : (row x : List Event) {a : Paper Counts} → row ≡ d.front ++ x → judge budget st d.front ≡ a
            → judge budget st row ≡ after a (λ st'. judge budget st' x)
        from row x e q = ap (judge budget st) e ∙ judge-append budget st d.front x ∙ ap (λ (b : Paper Counts). after b (λ st'. judge budget st' x)) q

        below_budget : (u : Counts) → judge budget st d.front ≡ success u → eqb u.lists budget ≡ false → u.lists < budget
        below_budget u q b =
            let n : u.lists ≡ budget → ⊥ = eqb-false _ _ b in
            omega (arith, ap lists_by q, judge_lists budget st d.front few)

        step : (u : Counts) → judge budget st d.front ≡ success u → (b : Bool) → eqb u.lists budget ≡ b → Outcome budget st es os
        step u q true b =
            both (fault OUT_OF_STEPS d.place u.lists)
            (from es (bad d.told d.place ∷ d.behind) d.first q ∙ spent_at u d.place (bad d.told d.place) d.behind refl b)
            (from os (d.event ∷ d.rest) d.second q ∙ spent_at u d.place d.event d.rest d.near b)
        step u q false b =
            first_only d.told d.place u.lists d.why (below_budget u q b) (from es (bad d.told d.place ∷ d.behind) d.first q ∙ bad-at u d.told d.place d.behind b)

        go : (a : Paper Counts) → judge budget st d.front ≡ a → Outcome budget st es os
        go (refused x) q = both x (from es (bad d.told d.place ∷ d.behind) d.first q) (from os (d.event ∷ d.rest) d.second q)
        go (success u) q = step u q (eqb u.lists budget) refl

-- ---- the strict reading and the ordinary one

either_way : (s : List ℕ) (minor levels p : ℕ) → (strict s minor levels p ≡ ordinary s levels p) ⊎ ((t : Told) × (strict s minor levels p ≡ refused t) × Added p t)
either_way s minor levels p = go (either s minor (ltb levels LEVELS) p)
  where
    go : Either s minor (ltb levels LEVELS) p → (strict s minor levels p ≡ ordinary s levels p) ⊎ ((t : Told) × (strict s minor levels p ≡ refused t) × Added p t)
    go (alike e) = inl e
    go (added {t} d e) = inr (t, e, d)

strict_rows : (s : List ℕ) (base list minor : ℕ) → Rows Added (strict_from s base list minor) (walk_from s base list)
strict_rows s base list minor = trace_rows Added s base (strict s minor) (ordinary s) (either_way s minor) LEVELS list

-- ---- from a key record

module _ (count budget : ℕ) where
  -- two rows that do not part are answered alike and keep the same; where they part, both are refused alike, or the first by a refusal that
  -- is added
  data Beside (es os : List Event) : Type 0 where
    no_part : from_record count budget es ≡ from_record count budget os → reached_for count es ≡ reached_for count os → Beside es os
    both_refused : (x : Told) → from_record count budget es ≡ refused x → from_record count budget os ≡ refused x → Beside es os
    is_new : (t : Told) (p l : ℕ) → Added p t → l < budget → from_record count budget es ≡ refused (fault t.number t.position l) → Beside es os

  beside : (es os : List Event) → Rows Added es os → Beside es os
  unfolding from_record reached_for
  beside es os (same e) = no_part (ap (from_record count budget) e) (ap (reached_for count) e)
  beside es os (part d) = go (ltb BUDGET_LIMIT budget) (ltb COUNT_LIMIT count) (eqb count 0) refl refl refl (part_outcome Added budget none es os (omega arith) d)
    where
      go : (a b c : Bool) → ltb BUDGET_LIMIT budget ≡ a → ltb COUNT_LIMIT count ≡ b → eqb count 0 ≡ c → Outcome Added budget none es os → Beside es os
      go true b c x y z o = both_refused (by BAD_BUDGET 0) (rw x) (rw x)
      go false true c x y z o = both_refused (by TOO_MANY 0) (rw (x, y)) (rw (x, y))
      go false false true x y z o = no_part (rw (x, y, z)) (rw z)
      go false false false x y z (both u p q) = both_refused u (rw (x, y, z) p) (rw (x, y, z) q)
      go false false false x y z (first_only t p l a n e) = is_new t p l a n (rw (x, y, z) e)

-- ---- as no `ri` list names an `ri` list, no list is too deep

abbrev NotDeep : Told → Type 0
NotDeep t = t.number ≡ TOO_DEEP → ⊥

-- no refusal of one list is that one
strict_not_deep : (s : List ℕ) (minor : ℕ) (named : Bool) (p : ℕ) (t : Told) → strict_at s minor named p ≡ refused t → NotDeep t
strict_not_deep s minor named p t e = go (either s minor named p)
  where
    go : Either s minor named p → NotDeep t
    go (alike q) = list_every NotDeep s p (λ n. omega arith) (λ n. omega arith) (λ n. omega arith) t (sym q ∙ e)
    go (added (inl d) q) = subst NotDeep (sym d ∙ same-told (sym q ∙ e)) (λ n. omega arith)
    go (added (inr d) q) = subst NotDeep (sym d ∙ same-told (sym q ∙ e)) (λ n. omega arith)

module _ (s : List ℕ) (base minor : ℕ) where
  abbrev Fine : Event → Type 0
  Fine e = Sound NotDeep e

  each_fine : (f : ℕ → List Event) → ((o : ℕ) → All Fine (f o)) → (k pos : ℕ) → All Fine (each f s k pos)
  unfolding each All
  each_fine f g zero pos = tt
  each_fine f g (suc k) pos = append_all Fine (f _) _ (g _) (each_fine f g k (pos + 4))

  -- a list that an `ri` list names is a leaf list or refused
  named_fine : (f : ℕ → List Event) (p : ℕ) (a : Paper Listed) → strict_at s minor true p ≡ a → All Fine (below f s base p a)
  unfolding below All
  named_fine f p (success (lists.leaf k z n)) e = (tt, tt)
  named_fine f p (success (lists.index n)) e =
      let w = accepted s minor true p (lists.index n) e in
      absurd (w.1.top refl (index_is_ri s p n w.0))
  named_fine f p (refused t) e = (λ l. strict_not_deep s minor true p t e, tt)

  top_fine : (f : ℕ → List Event) → ((o : ℕ) → All Fine (f o)) → (p : ℕ) (a : Paper Listed) → strict_at s minor false p ≡ a → All Fine (below f s base p a)
  unfolding below All
  top_fine f g p (success (lists.leaf k z n)) e = (tt, tt)
  top_fine f g p (success (lists.index n)) e = (tt, each_fine f g n (p + 8))
  top_fine f g p (refused t) e = (λ l. strict_not_deep s minor false p t e, tt)

  strict_fine : (list : ℕ) → All Fine (strict_from s base list minor)
  strict_fine list =
      subst (All Fine) (sym (trace_in (strict s minor) LEVELS s base list levels_left))
      (top_fine (trace (strict s minor) 7 s base) below_top (list + base) (strict_at s minor false (list + base)) refl)
    where
      below_top : (o : ℕ) → All Fine (trace (strict s minor) 7 s base o)
      below_top o =
          subst (All Fine) (sym (trace_in (strict s minor) 7 s base o named_left))
          (named_fine (trace (strict s minor) 6 s base) (o + base) (strict_at s minor true (o + base)) refl)

-- ---- of the answers themselves

module _ (s : List ℕ) (base count list budget minor : ℕ) where
  abbrev strictly : Paper Counts
  strictly = from_record count budget (strict_from s base list minor)

  abbrev plainly : Paper Counts
  plainly = from_record count budget (walk_from s base list)

  -- what a walk that is accepted keeps
  pub accepted_same : (t : Counts) → strictly ≡ success t
      → (strictly ≡ plainly) × (reached_for count (strict_from s base list minor) ≡ reached_for count (walk_from s base list))
  accepted_same t e = go (beside count budget _ _ (strict_rows s base list minor))
    where
      go : Beside count budget (strict_from s base list minor) (walk_from s base list)
          → (strictly ≡ plainly) × (reached_for count (strict_from s base list minor) ≡ reached_for count (walk_from s base list))
      go (no_part x y) = (x, y)
      go (both_refused u x y) = absurd (success-refused (sym e ∙ x))
      go (is_new u p l a n x) = absurd (success-refused (sym e ∙ x))

  -- with no regard to room or with it: `f` is what room makes of an answer, which keeps every refusal and gives none for depth
  module _ (f : Paper Counts → Paper Counts) (keeps : (x : Told) → f (refused x) ≡ refused x)
      (own : (a : Paper Counts) (t : Told) → f a ≡ refused t → t.number ≡ TOO_DEEP → a ≡ refused t)
      (r o : (Result Counts WalkRefusal)) (x : walk_paper r ≡ f strictly) (y : walk_paper o ≡ f plainly) where
    walks : Walks budget r o
    walks = record {
      accepts = λ t q. yes t q (beside count budget _ _ (strict_rows s base list minor));
      refuses = λ g q. no_by g q (beside count budget _ _ (strict_rows s base list minor));
      never_deep = λ g q n.
          record_every NotDeep (λ p l m. omega arith) (λ m. omega arith) (λ m. omega arith) count budget (strict_from s base list minor) (strict_fine s base minor list)
          (walk_told g) (own strictly (walk_told g) (sym x ∙ ap walk_paper q) n) n;
    }
      where
        refusal : (u : Told) → strictly ≡ refused u → walk_paper r ≡ refused u
        refusal u e = x ∙ ap f e ∙ keeps u

        alike_both : strictly ≡ plainly → o ≡ r
        alike_both e = paper_injective o r (y ∙ ap f (sym e) ∙ sym x)

        alike_refused : (u : Told) → strictly ≡ refused u → plainly ≡ refused u → o ≡ r
        alike_refused u d e = paper_injective o r (y ∙ ap f (e ∙ sym d) ∙ sym x)

        yes : (t : Counts) → r ≡ Ok t → Beside count budget (strict_from s base list minor) (walk_from s base list) → o ≡ r
        yes t q (no_part d e) = alike_both d
        yes t q (both_refused u d e) = alike_refused u d e
        yes t q (is_new u p l a n e) = absurd (success-refused (sym (ap walk_paper q) ∙ refusal (fault u.number u.position l) e))

        no_by : (g : WalkRefusal) → r ≡ Err g → Beside count budget (strict_from s base list minor) (walk_from s base list) → (o ≡ r) ⊎ (profiles.Added g × (g.lists < budget))
        no_by g q (no_part d e) = inl (alike_both d)
        no_by g q (both_refused u d e) = inl (alike_refused u d e)
        no_by g q (is_new u p l (inl a) n e) =
            let w : walk_told g ≡ fault u.number u.position l = same-told (sym (ap walk_paper q) ∙ refusal (fault u.number u.position l) e) in
            let k : g.lists ≡ l = ap (λ (v : Told). v.lists) w in
            inr (inl (w ∙ ap (λ (v : Told). fault v.number v.position l) a ∙ ap (fault NOT_PERMITTED 0) (sym k)), omega arith)
        no_by g q (is_new u p l (inr a) n e) =
            let w : walk_told g ≡ fault u.number u.position l = same-told (sym (ap walk_paper q) ∙ refusal (fault u.number u.position l) e) in
            let z : walk_told g ≡ fault BAD_SIZE p l = w ∙ ap (λ (v : Told). fault v.number v.position l) a in
            let k : g.lists ≡ l = ap (λ (v : Told). v.lists) w in
            let j : g.position ≡ p = ap (λ (v : Told). v.position) z in
            inr (inr (z ∙ ap (λ (v : ℕ). fault BAD_SIZE v l) (sym j) ∙ ap (fault BAD_SIZE g.position) (sym k)), omega arith)

  -- any answers that the contracts of `strict_sub_key_counts` and of `sub_key_counts` allow
  pub counts_profiles : (r o : (Result Counts WalkRefusal)) → walk_paper r ≡ strict_measured s base count list budget minor → walk_paper o ≡ measured s base count list budget → Walks budget r o
  counts_profiles r o x y = walks (λ a. a) (λ u. refl) (λ a t e n. e) r o x y

  -- any answers and buffers that the contracts of `strict_sub_keys` and of `sub_keys` allow
  pub sub_keys_profiles : (old : List ℕ) (r : (Result Counts WalkRefusal)) (new : List ℕ) (o : (Result Counts WalkRefusal)) (made : List ℕ)
      → StrictAnswered s base count list budget minor old r new → WalkAnswered s base count list budget old o made → SubKeys budget old r new o made
  sub_keys_profiles old r new o made x y = record {
    answers = walks (in_room full_of (length old)) (room_refused full_of (length old)) (λ a t e n. other_of full_of (length old) a (λ v. refl) e (λ m. omega arith)) r o x.answer y.answer;
    buffer = λ t q.
        let w = (room_success full_of (length old) strictly t (sym x.answer ∙ ap walk_paper q)).0 in
        let e = accepted_same t w in
        y.buffer ∙ ap (λ (a : Paper Counts). buffer_after (in_room full_of (length old) a) (kept_by s base count list) old) (sym e.0)
        ∙ ap (λ (es : List Event). buffer_after (in_room full_of (length old) strictly) (kept_of es) old) (sym e.1) ∙ sym x.buffer;
    untouched = λ g q. untouched x (ap walk_paper q);
  }

-- whichever way the lists are read: a walk that succeeds reaches what the ordinary one reaches
pub reached_alike : (profile : Profile) (s : List ℕ) (base count list budget : ℕ) (t : Counts) → from_record count budget (walk_by profile s base list) ≡ success t
    → reached_for count (walk_by profile s base list) ≡ reached_for count (walk_from s base list)
reached_alike Ordinary s base count list budget t e = refl
reached_alike (Strict minor) s base count list budget t e = (accepted_same s base count list budget minor t e).1

-- ---- one leaf list

module _ (s : List ℕ) (base p minor : ℕ) (old : List ℕ) where
  -- any answers and buffers that the contracts of `strict_leaf_sub_keys` and of `leaf_sub_keys` allow
  pub leaf_profiles : (r : (Result LeafRead WalkRefusal)) (new : List ℕ) (o : (Result LeafRead WalkRefusal)) (made : List ℕ) → StrictLeafAnswered s base p minor old r new → LeafAnswered s base p old o made
      → LeafSubKeys old r new o made
  unfolding in_room on_success only_leaf
  leaf_profiles r new o made x y = go (either s minor false p)
    where
      alike_both : LeafAnswered s base p old r new → LeafSubKeys old r new o made
      alike_both z =
          let e = leaf_answers_determined (leaf_at s base p) y z in
          record { accepts = λ t q. e; refuses = λ f q. inl e.0; untouched = λ f q. untouched z (ap leaf_paper q) }

      said : {t : Told} → strict_at s minor false p ≡ refused t → leaf_paper r ≡ refused t
      said {t} e = x.answer ∙ ap (λ (a : Paper Listed). leaf_in_room (only_leaf s base p a) (length old)) e

      go : Either s minor false p → LeafSubKeys old r new o made
      go (alike e) = alike_both (subst (λ (a : Paper Listed). LeafAnsweredAs (only_leaf s base p a) old r new) e x)
      go (added {t} d e) = record {
        accepts = λ u q. absurd (success-refused (sym (ap leaf_paper q) ∙ said e));
        refuses = λ f q. inr (told-added f (same-told (sym (ap leaf_paper q) ∙ said e)) d);
        untouched = λ f q. untouched x (ap leaf_paper q);
      }
        where
          told-added : (f : WalkRefusal) → walk_told f ≡ t → Added p t → profiles.Added f
          told-added f w (inl a) = inl (w ∙ a ∙ ap (fault NOT_PERMITTED 0) (sym (ap (λ (v : Told). v.lists) (w ∙ a))))
          told-added f w (inr a) =
              let z = w ∙ a in
              inr (z ∙ ap (λ (v : ℕ). fault BAD_SIZE v 0) (sym (ap (λ (v : Told). v.position) z)) ∙ ap (fault BAD_SIZE f.position) (sym (ap (λ (v : Told). v.lists) z)))

-- what is accepted is counted as in the ordinary way, of any answer
module _ (s : List ℕ) (base count list budget minor : ℕ) {w : Result Counts WalkRefusal} (k : walk_paper w ≡ strict_measured s base count list budget minor) where
  pub accepted_counts : {t : Counts} → w ≡ Ok t → walk_paper w ≡ measured s base count list budget
  accepted_counts {t} q = k ∙ (accepted_same s base count list budget minor t (sym k ∙ ap walk_paper q)).0
