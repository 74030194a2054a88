-- The answers of the walk from a key record and of one leaf list, each from what its code has found. Assumes nothing.
use mathlib.Core.Path.{◌≡◌, refl, ap, sym, ◌∙◌}
use mathlib.Core.List.{List, [], ◌∷◌, ◌++◌}
use mathlib.Core.Bool.{Bool, true, false}
use Prim.Native.Nat.{ℕ, ◌+◌, ◌≤◌, ◌<◌}
use native.Mathlib.Nat.{zero-add}
use native.Mathlib.Omega.{arith}
use borrow.Author.Tests.{eq-eqb, ne_eqb, le-ltb, ltb-false, eqb-true}
use lib.Dec.{ltb, eqb}
use lib.ListN.{length, drop}
use lib.Seq.{sets-eq}
use Rattle.words.specs.Refusals.{TOO_MANY, BAD_BUDGET, BAD_SIGN}
use Rattle.words.specs.Paper.{Paper, success, refused, by, on_success}
use Rattle.words.specs.Buffers.{in_room}
use Rattle.words.specs.declared.Refusal.{Refusal}
use Rattle.words.proofs.Papers.{success-refused, same-success}
use Rattle.words.proofs.Buffers.{room_full, room_fits, room_refused, answered_refused, answered_success}
use Rattle.sub_key_list.specs.Lists.{Listed, list_paper, leaf}
use Rattle.sub_key_list.specs.Leaves.{leaf_of, leaf_kept, only_leaf}
use Rattle.sub_key_list.specs.declared.IndexList.{IndexList}
use Rattle.sub_key_list.specs.declared.SubKeyList.TheVariants as found
use Rattle.sub_key_walk.specs.Trace.{Event, walk_from, kept_of, total}
use Rattle.sub_key_walk.specs.Judge.{fault, judge}
use Rattle.sub_key_walk.specs.Answers.{BUDGET_LIMIT, COUNT_LIMIT, none, from_record, full_of, reached_for, reached_by, kept_by, walk_told, walk_paper}
use Rattle.sub_key_walk.specs.Leaf.{read_of, full_leaf, leaf_in_room, kept_from, LeafAnsweredAs}
use Rattle.sub_key_walk.specs.Free.{counts_of}
use Rattle.sub_key_walk.specs.Walk.{start_fault, Whole, Filled, Roomy, AnsweredAs}
use Rattle.sub_key_walk.specs.declared.Counts.{Counts}
use Rattle.sub_key_walk.specs.declared.WalkRefusal.{WalkRefusal}
use Rattle.sub_key_walk.specs.declared.LeafRead.{LeafRead}
use Rattle.sub_key_walk.proofs.Judged.{judge-counts}
use Rattle.std.specs.Prelude.{Ok, Err}
use Rattle.std.specs.declared.result.Result.{Result}
use Rattle.words.specs.Paper.{number_of}

-- a row that is written from the first place on
front_filled : (ks old : List ℕ) {r : ℕ} {new : List ℕ} → Filled ks old 0 r new → length ks ≤ length old → new ≡ ks ++ drop (length ks) old
front_filled ks old f h = f.written ∙ sets-eq ks old 0 (omega arith) ∙ ap (λ (n : ℕ). ks ++ drop n old) (zero-add (length ks))

pub no_row : (ks : List ℕ) → length ks ≡ 0 → ks ≡ []
no_row [] h = refl
no_row (k ∷ ks) h = absurd (let z : ⊥ = omega arith in z)

-- ---- the walk without regard to room

-- the tests in front of the walk are passed
pub record Started (count budget : ℕ) : Type 0 where
  pub small : budget ≤ BUDGET_LIMIT
  pub few : count ≤ COUNT_LIMIT
  pub some : count ≡ 0 → ⊥

module _ (count budget : ℕ) (es : List Event) where
  pub measured_walk : Started count budget → from_record count budget es ≡ judge budget none es
  unfolding from_record
  measured_walk d = rw (le-ltb BUDGET_LIMIT budget d.small, le-ltb COUNT_LIMIT count d.few, ne_eqb count 0 d.some)

  -- the same from what the code finds: `n` is the refusal before any list is reached, or 0
  module _ {n : ℕ} (e : n ≡ start_fault count budget) where
    pub measured-fault : (n ≡ 0 → ⊥) → refused (by n 0) ≡ from_record count budget es
    unfolding start_fault from_record
    measured-fault h = go (ltb BUDGET_LIMIT budget) (ltb COUNT_LIMIT count) refl refl
      where
        go : (a b : Bool) → ltb BUDGET_LIMIT budget ≡ a → ltb COUNT_LIMIT count ≡ b → refused (by n 0) ≡ from_record count budget es
        go true b x y = rw (e, x)
        go false true x y = rw (e, x, y)
        go false false x y = absurd (h (rw (x, y) at e))

    module _ (z : n ≡ 0) where
      pub fault-none : (budget ≤ BUDGET_LIMIT) × (count ≤ COUNT_LIMIT)
      unfolding start_fault
      fault-none = go (ltb BUDGET_LIMIT budget) (ltb COUNT_LIMIT count) refl refl
        where
          go : (a b : Bool) → ltb BUDGET_LIMIT budget ≡ a → ltb COUNT_LIMIT count ≡ b → (budget ≤ BUDGET_LIMIT) × (count ≤ COUNT_LIMIT)
          go true b x y = let k : n ≡ BAD_BUDGET = rw x at e in absurd (omega arith)
          go false true x y = let k : n ≡ TOO_MANY = rw (x, y) at e in absurd (omega arith)
          go false false x y = (ltb-false _ _ x, ltb-false _ _ y)

      pub measured-none : count ≡ 0 → success none ≡ from_record count budget es
      unfolding from_record
      measured-none h = rw (le-ltb BUDGET_LIMIT budget fault-none.0, le-ltb COUNT_LIMIT count fault-none.1, eq-eqb count 0 h)

      pub measured-judge : (count ≡ 0 → ⊥) → {a : Paper Counts} → a ≡ judge budget none es → a ≡ from_record count budget es
      measured-judge h w = w ∙ sym (measured_walk (record { small = fault-none.0; few = fault-none.1; some = h }))

-- the lists reached from a key record: those of the walk, and none where the count is 0
pub reached_walk : (count : ℕ) (es : List Event) → (count ≡ 0 → ⊥) → reached_for count es ≡ es
unfolding reached_for
reached_walk count es h = rw (ne_eqb count 0 h)

reached_none : (count : ℕ) (es : List Event) → count ≡ 0 → reached_for count es ≡ []
unfolding reached_for
reached_none count es h = rw (eq-eqb count 0 h)

-- a walk that is measured counts all of them
pub measured-counts : (count budget : ℕ) (es : List Event) (t : Counts) → from_record count budget es ≡ success t → t ≡ counts_of (reached_for count es)
unfolding from_record reached_for kept_of total
measured-counts count budget es t q = go (ltb BUDGET_LIMIT budget) (ltb COUNT_LIMIT count) (eqb count 0) refl refl refl
  where
    go : (a b c : Bool) → ltb BUDGET_LIMIT budget ≡ a → ltb COUNT_LIMIT count ≡ b → eqb count 0 ≡ c → t ≡ counts_of (reached_for count es)
    go true b c x y z = absurd (success-refused (sym (rw x at q)))
    go false true c x y z = absurd (success-refused (sym (rw (x, y) at q)))
    go false false true x y z = rw z (sym (same-success (rw (x, y, z) at q)))
    go false false false x y z = rw z (judge-counts budget es t (rw (x, y, z) at q))

-- where it keeps something, it is no walk from a count of 0
pub kept_some : (s : List ℕ) (base count list : ℕ) → 0 < length (kept_by s base count list) → reached_by s base count list ≡ walk_from s base list
unfolding kept_of
kept_some s base count list h = reached_walk count (walk_from s base list) some
  where
    some : count ≡ 0 → ⊥
    some z = let e = ap (λ (es : List Event). length (kept_of es)) (reached_none count (walk_from s base list) z) in omega arith

-- ---- and with it: the lists `es` are reached, and where that succeeds, they are those of the ordinary walk

module _ (s : List ℕ) (base count list budget : ℕ) (es : List Event) (same : (t : Counts) → from_record count budget es ≡ success t → reached_for count es ≡ reached_by s base count list)
    (old : List ℕ) (w : (Result Counts WalkRefusal)) (k : walk_paper w ≡ from_record count budget es) where
  given : {a : Paper Counts} → walk_paper w ≡ a → in_room full_of (length old) (from_record count budget es) ≡ in_room full_of (length old) a
  given e = ap (in_room full_of (length old)) (sym k ∙ e)

  pub walk_refused : {f : WalkRefusal} {r : (Result Counts WalkRefusal)} → w ≡ Err f → r ≡ Err f → AnsweredAs count budget es old r old
  walk_refused {f} q e = answered_refused (ap walk_paper e) (given (ap walk_paper q) ∙ room_refused full_of (length old) (walk_told f))

  module _ {t : Counts} (q : w ≡ Ok t) where
    pub walk_full : length old < t.kept → (f : WalkRefusal) → walk_told f ≡ full_of t → AnsweredAs count budget es old (Err f) old
    walk_full h f e = answered_refused (ap refused e) (given (ap walk_paper q) ∙ room_full full_of (length old) t h)

    counts_t : from_record count budget es ≡ success t
    counts_t = sym k ∙ ap walk_paper q

    -- what is counted, of the lists reached
    kept_number : t.kept ≡ length (kept_of (reached_for count es))
    kept_number = ap (λ (c : Counts). c.kept) (measured-counts count budget es t counts_t)

    module _ (h : t.kept ≤ length old) where
      fits : in_room full_of (length old) (from_record count budget es) ≡ success t
      fits = given (ap walk_paper q) ∙ room_fits full_of (length old) t h

      pub walk_empty : t.kept ≤ 0 → AnsweredAs count budget es old (Ok t) old
      walk_empty z =
          let e = kept_number in
          answered_success refl fits (ap (λ (ks : List ℕ). ks ++ drop (length ks) old) (sym (no_row (kept_of (reached_for count es)) (omega arith))))

      module _ (some : 0 < t.kept) where
        walked : reached_for count es ≡ walk_from s base list
        walked = let e = kept_number ∙ ap (λ (xs : List Event). length (kept_of xs)) (same t counts_t) in same t counts_t ∙ kept_some s base count list (omega arith)

        counted : t ≡ counts_of (walk_from s base list)
        counted = measured-counts count budget es t counts_t ∙ ap counts_of walked

        pub walk_roomy : {whole : Bool} → whole ≡ eqb t.dropped 0 → Roomy (walk_from s base list) whole old 0
        walk_roomy z =
            let n = ap (λ (c : Counts). c.kept) counted in
            record { room = omega arith; all = λ e. sym (ap (λ (c : Counts). c.dropped) counted) ∙ eqb-true _ _ (sym z ∙ e) }

        pub walk_filled : {r : ℕ} {new : List ℕ} → Filled (kept_of (walk_from s base list)) old 0 r new → AnsweredAs count budget es old (Ok t) new
        walk_filled f =
            let n = ap (λ (c : Counts). c.kept) counted in
            answered_success refl fits
            (front_filled (kept_of (walk_from s base list)) old f (omega arith)
            ∙ ap (λ (xs : List Event). kept_of xs ++ drop (length (kept_of xs)) old) (sym walked))

-- ---- one leaf list

-- whichever way the list is read
module _ (s : List ℕ) (base p : ℕ) (old : List ℕ) {a : Paper Listed} where
  pub leaf-refused : (g : Refusal) → list_paper (Err g) ≡ a → (f : WalkRefusal) → walk_told f ≡ fault (number_of g.reason) g.position 0
      → LeafAnsweredAs (only_leaf s base p a) old (Err f) old
  unfolding in_room on_success only_leaf
  leaf-refused g e f q = answered_refused (ap refused q) (rw (← e))

  pub leaf-index : {l : IndexList} → list_paper (Ok (found.Index l)) ≡ a → (f : WalkRefusal) → walk_told f ≡ fault BAD_SIGN p 0
      → LeafAnsweredAs (only_leaf s base p a) old (Err f) old
  unfolding in_room on_success only_leaf
  leaf-index e f q = answered_refused (ap refused q) (rw (← e))

module _ (s : List ℕ) (base p : ℕ) (old : List ℕ) {a : Paper Listed} {kind size n : ℕ} (e : success (leaf kind size n) ≡ a)
    {t : LeafRead} (d : t ≡ read_of (leaf_of s base p size n)) where
  abbrev row : List ℕ
  row = leaf_kept s base size n (p + 8)

  kept_row : t.kept ≡ length row
  kept_row = ap (λ (c : LeafRead). c.kept) d

  here : leaf_in_room (only_leaf s base p a) (length old) ≡ in_room full_leaf (length old) (success t)
  unfolding on_success only_leaf
  here = rw (← e) (ap (λ (c : LeafRead). in_room full_leaf (length old) (success c)) (sym d))

  pub leaf_full : length old < t.kept → (f : WalkRefusal) → walk_told f ≡ full_leaf t → LeafAnsweredAs (only_leaf s base p a) old (Err f) old
  leaf_full h f q = answered_refused (ap refused q) (here ∙ room_full full_leaf (length old) t h)

  module _ (h : t.kept ≤ length old) where
    pub leaf_roomy : 0 + length row ≤ length old
    leaf_roomy = let k = kept_row in omega arith

    pub leaf-whole : {whole : Bool} → whole ≡ eqb t.dropped 0 → Whole s base size n (p + 8) whole
    leaf-whole z q = sym (ap (λ (c : LeafRead). c.dropped) d) ∙ eqb-true _ _ (sym z ∙ q)

    pub leaf_filled : {r : ℕ} {new : List ℕ} → Filled row old 0 r new → LeafAnsweredAs (only_leaf s base p a) old (Ok t) new
    unfolding only_leaf kept_from
    leaf_filled f =
        let k = kept_row in
        answered_success refl (here ∙ room_fits full_leaf (length old) t h)
        (front_filled row old f (omega arith) ∙ rw (← e))
