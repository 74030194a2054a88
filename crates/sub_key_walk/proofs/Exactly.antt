-- When the strict walk succeeds, exactly, over the lists that the ordinary walk reaches; last of the answers themselves
-- (`counts_exactly`, `sub_keys_exactly`). Assumes nothing.
use Prim.{tt}
use mathlib.Core.Path.{◌≡◌, refl, ap, sym, subst, ◌∙◌}
use mathlib.Core.List.{List, ◌∷◌, ◌++◌}
use mathlib.Core.Bool.{Bool, true, false}
use Prim.Native.Nat.{ℕ, zero, suc, ◌+◌}
use native.Mathlib.Omega.{arith}
use lib.Dec.{ltb, eqb}
use lib.ListN.{length}
use borrow.Author.Tests.{eqb-true}
use Rattle.words.specs.Words.{word32}
use Rattle.words.specs.Paper.{Paper, success, refused}
use Rattle.words.specs.Buffers.{in_room}
use Rattle.words.proofs.Papers.{success-refused}
use Rattle.words.proofs.Buffers.{room_success}
use Rattle.sub_key_list.specs.Lists.{Listed, list_at}
use Rattle.sub_key_list.specs.Lists as lists
use Rattle.sub_key_list.specs.Strict.{strict_at}
use Rattle.sub_key_list.specs.Profiles.{Met}
use Rattle.sub_key_list.proofs.Profiles.{false_true, accepted, accept}
use Rattle.sub_key_walk.specs.Trace.{Event, index, each, below, trace, ordinary, LEVELS, walk_from}
use Rattle.sub_key_walk.specs.Judge.{judge}
use Rattle.sub_key_walk.specs.Answers.{BUDGET_LIMIT, COUNT_LIMIT, none, from_record, measured, full_of, walk_paper, WalkAnswered}
use Rattle.sub_key_walk.specs.Free.{All}
use Rattle.sub_key_walk.specs.Strict.{strict, strict_from, strict_measured, StrictAnswered}
use Rattle.sub_key_walk.specs.Profiles.{Permits, IsLeaf, Flat, Permitted, Exactly}
use Rattle.sub_key_walk.specs.declared.Counts.{Counts}
use Rattle.sub_key_walk.proofs.Walks.{trace_in, levels_left, named_left}
use Rattle.sub_key_walk.proofs.Judged.{Good, all_judge}
use Rattle.sub_key_walk.proofs.Papers.{paper_read}
use Rattle.sub_key_walk.proofs.Answers.{reached_walk}
use Rattle.sub_key_walk.proofs.Traces.{all_append, append_all, leaf_is_not_ri, index_is_ri}
use Rattle.sub_key_walk.proofs.Profiles.{accepted_same}
use Rattle.std.specs.declared.result.Result.{Result}
use Rattle.sub_key_walk.specs.declared.WalkRefusal.{WalkRefusal}

-- what is asked of a list that is named is asked of it by itself too, and of a leaf list it is the same
unnamed : (s : List ℕ) (minor : ℕ) (named : Bool) (p : ℕ) → Met s minor named p → Met s minor false p
unnamed s minor named p m =
    record { permitted = m.permitted; top = λ n k. false_true n; allocated = m.allocated; large = m.large; inside = m.inside }

named-leaf : (s : List ℕ) (minor p k z n : ℕ) → list_at s p ≡ success (lists.leaf k z n) → Met s minor false p → Met s minor true p
named-leaf s minor p k z n e m =
    record { permitted = m.permitted; top = λ _ q. leaf_is_not_ri s p k z n e q; allocated = m.allocated; large = m.large; inside = m.inside }

module _ (s : List ℕ) (base minor : ℕ) where
  abbrev strictly : ℕ → List Event
  strictly o = trace (strict s minor) 7 s base o

  abbrev plainly : ℕ → List Event
  plainly o = trace (ordinary s) 7 s base o

  -- ---- where all that is reached is permitted, both reach the same

  named-same : (f g : ℕ → List Event) (p : ℕ) (a : Paper Listed) → list_at s p ≡ a → All (Permits s minor) (below g s base p a) → All IsLeaf (below g s base p a)
      → below f s base p (strict_at s minor true p) ≡ below g s base p a
  unfolding below All
  named-same f g p (success (lists.leaf k z n)) e m l =
      ap (below f s base p) (accept s minor true p (lists.leaf k z n) e (named-leaf s minor p k z n e m.0))
  named-same f g p (success (lists.index n)) e m l = absurd l.0
  named-same f g p (refused t) e m l = absurd l.0

  below-same : (o : ℕ) → All (Permits s minor) (plainly o) → All IsLeaf (plainly o) → strictly o ≡ plainly o
  below-same o m l =
      let x = trace_in (ordinary s) 7 s base o named_left in
      trace_in (strict s minor) 7 s base o named_left
      ∙ named-same _ _ (o + base) (list_at s (o + base)) refl (subst (All (Permits s minor)) x m) (subst (All IsLeaf) x l)
      ∙ sym x

  each_same : (k pos : ℕ) → All (Permits s minor) (each plainly s k pos) → All IsLeaf (each plainly s k pos) → each strictly s k pos ≡ each plainly s k pos
  unfolding each
  each_same zero pos m l = refl
  each_same (suc k) pos m l =
      let x = all_append (Permits s minor) (plainly (word32 s pos)) _ m in
      let y = all_append IsLeaf (plainly (word32 s pos)) _ l in
      ap (λ (r : List Event). r ++ each strictly s k (pos + 4)) (below-same (word32 s pos) x.0 y.0)
      ∙ ap (λ (r : List Event). plainly (word32 s pos) ++ r) (each_same k (pos + 4) x.1 y.1)

  top_same : (p : ℕ) (a : Paper Listed) → list_at s p ≡ a → All (Permits s minor) (below plainly s base p a) → Flat (below plainly s base p a)
      → below strictly s base p (strict_at s minor false p) ≡ below plainly s base p a
  unfolding below All
  top_same p (success (lists.leaf k z n)) e m l = ap (below strictly s base p) (accept s minor false p (lists.leaf k z n) e m.0)
  top_same p (success (lists.index n)) e m l =
      ap (below strictly s base p) (accept s minor false p (lists.index n) e m.0) ∙ ap (λ (r : List Event). index p n ∷ r) (each_same n (p + 8) m.1 l)
  top_same p (refused t) e m l = absurd m.0

  permitted-same : (list : ℕ) → Permitted s base list minor → strict_from s base list minor ≡ walk_from s base list
  permitted-same list d =
      let x = trace_in (ordinary s) LEVELS s base list levels_left in
      trace_in (strict s minor) LEVELS s base list levels_left
      ∙ top_same (list + base) (list_at s (list + base)) refl (subst (All (Permits s minor)) x d.each) (subst Flat x d.flat)
      ∙ sym x

  -- ---- and where strict reads all that it reaches, all is permitted

  named_permits : (f : ℕ → List Event) (p : ℕ) (a : Paper Listed) → strict_at s minor true p ≡ a → All Good (below f s base p a)
      → All (Permits s minor) (below f s base p a) × All IsLeaf (below f s base p a)
  unfolding below All
  named_permits f p (success (lists.leaf k z n)) e g = ((unnamed s minor true p (accepted s minor true p (lists.leaf k z n) e).1, tt), (tt, tt))
  named_permits f p (success (lists.index n)) e g =
      let w = accepted s minor true p (lists.index n) e in
      absurd (w.1.top refl (index_is_ri s p n w.0))
  named_permits f p (refused t) e g = absurd g.0

  below_permits : (o : ℕ) → All Good (strictly o) → All (Permits s minor) (strictly o) × All IsLeaf (strictly o)
  below_permits o g =
      let x = trace_in (strict s minor) 7 s base o named_left in
      let w = named_permits _ (o + base) (strict_at s minor true (o + base)) refl (subst (All Good) x g) in
      (subst (All (Permits s minor)) (sym x) w.0, subst (All IsLeaf) (sym x) w.1)

  each_permits : (k pos : ℕ) → All Good (each strictly s k pos) → All (Permits s minor) (each strictly s k pos) × All IsLeaf (each strictly s k pos)
  unfolding each All
  each_permits zero pos g = (tt, tt)
  each_permits (suc k) pos g =
      let x = all_append Good (strictly (word32 s pos)) _ g in
      let w = below_permits (word32 s pos) x.0 in
      let v = each_permits k (pos + 4) x.1 in
      (append_all (Permits s minor) (strictly (word32 s pos)) _ w.0 v.0, append_all IsLeaf (strictly (word32 s pos)) _ w.1 v.1)

  top_permits : (p : ℕ) (a : Paper Listed) → strict_at s minor false p ≡ a → All Good (below strictly s base p a)
      → All (Permits s minor) (below strictly s base p a) × Flat (below strictly s base p a)
  unfolding below All
  top_permits p (success (lists.leaf k z n)) e g = (((accepted s minor false p (lists.leaf k z n) e).1, tt), tt)
  top_permits p (success (lists.index n)) e g =
      let w = each_permits n (p + 8) g.1 in
      (((accepted s minor false p (lists.index n) e).1, w.0), w.1)
  top_permits p (refused t) e g = absurd g.0

  all_permits : (list : ℕ) → All Good (strict_from s base list minor) → All (Permits s minor) (strict_from s base list minor) × Flat (strict_from s base list minor)
  all_permits list g =
      let x = trace_in (strict s minor) LEVELS s base list levels_left in
      let w = top_permits (list + base) (strict_at s minor false (list + base)) refl (subst (All Good) x g) in
      (subst (All (Permits s minor)) (sym x) w.0, subst Flat (sym x) w.1)

-- ---- of the answers themselves

-- a walk that succeeds from a count above 0 has judged its lists
record_success : (count budget : ℕ) (es : List Event) (t : Counts) → (count ≡ 0 → ⊥) → from_record count budget es ≡ success t → judge budget none es ≡ success t
unfolding from_record
record_success count budget es t some q = go (ltb BUDGET_LIMIT budget) (ltb COUNT_LIMIT count) (eqb count 0) refl refl refl
  where
    go : (a b c : Bool) → ltb BUDGET_LIMIT budget ≡ a → ltb COUNT_LIMIT count ≡ b → eqb count 0 ≡ c → judge budget none es ≡ success t
    go true b c x y z = absurd (success-refused (sym (rw x at q)))
    go false true c x y z = absurd (success-refused (sym (rw (x, y) at q)))
    go false false true x y z = absurd (some (eqb-true _ _ z))
    go false false false x y z = rw (x, y, z) at q

-- with no regard to room or with it: `f` is what room makes of an answer, and no success of its own
module _ (s : List ℕ) (base count list budget minor : ℕ) (some : count ≡ 0 → ⊥) where
  module _ (f : Paper Counts → Paper Counts) (back : (a : Paper Counts) (t : Counts) → f a ≡ success t → a ≡ success t) (r o : (Result Counts WalkRefusal))
      (x : walk_paper r ≡ f (strict_measured s base count list budget minor)) (y : walk_paper o ≡ f (measured s base count list budget)) where
    succeeds_exactly : Exactly s base list minor r o
    succeeds_exactly = record {
      if = λ d p.
          record {
            counts = d.counts;
            is = paper_read r d.counts
                (x ∙ ap (λ (es : List Event). f (from_record count budget es)) (permitted-same s base minor list p) ∙ sym y ∙ ap walk_paper d.is);
          };
      only_if = λ d.
          let q = back _ d.counts (sym x ∙ ap walk_paper d.is) in
          let e = accepted_same s base count list budget minor d.counts q in
          let same = sym (reached_walk count (strict_from s base list minor) some) ∙ e.1 ∙ reached_walk count (walk_from s base list) some in
          let w = all_permits s base minor list (all_judge budget none _ d.counts (omega arith) (record_success count budget _ d.counts some q)).0 in (
            record { counts = d.counts; is = paper_read o d.counts (y ∙ ap f (sym e.0) ∙ sym x ∙ ap walk_paper d.is) },
            record { each = subst (All (Permits s minor)) same w.0; flat = subst Flat same w.1 },
          );
    }

  -- any answers that the contracts of `strict_sub_key_counts` and of `sub_key_counts` allow
  pub counts_exactly : (r o : (Result Counts WalkRefusal)) → walk_paper r ≡ strict_measured s base count list budget minor → walk_paper o ≡ measured s base count list budget
      → Exactly s base list minor r o
  counts_exactly r o x y = succeeds_exactly (λ a. a) (λ a t e. e) r o x y

  -- any that the contracts of `strict_sub_keys` and of `sub_keys` allow
  pub sub_keys_exactly : (old : List ℕ) (r : (Result Counts WalkRefusal)) (new : List ℕ) (o : (Result Counts WalkRefusal)) (made : List ℕ)
      → StrictAnswered s base count list budget minor old r new → WalkAnswered s base count list budget old o made → Exactly s base list minor r o
  sub_keys_exactly old r new o made x y =
      succeeds_exactly (in_room full_of (length old)) (λ a t e. (room_success full_of (length old) a t e).0) r o x.answer y.answer
