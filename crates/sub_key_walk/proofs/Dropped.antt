-- Document 02, order 2: the entries that are dropped, of the lists that a walk reaches, and last of the answers themselves. Assumes
-- nothing.
use Prim.{tt}
use mathlib.Core.Path.{◌≡◌, refl, ap, sym, subst}
use mathlib.Core.List.{List, [], ◌∷◌}
use mathlib.Core.Bool.{Bool, true, false, cond}
use Prim.Native.Nat.{ℕ, ◌+◌}
use native.Mathlib.Omega.{arith}
use lib.Dec.{eqb}
use lib.ListN.{length, length-append}
use Rattle.words.specs.Refusals.{NO_ROOM, BAD_SIGN, TOO_MANY, BAD_BUDGET, TOO_DEEP, OUT_OF_STEPS}
use Rattle.words.specs.Paper.{Told, Paper, success, refused, on_success}
use Rattle.words.specs.Buffers.{in_room}
use Rattle.words.proofs.Papers.{refused-success, same-success, on_success_of}
use Rattle.words.proofs.Plain.{Plain, Plainly, plainly_success, plainly_refused, plainly_by, plainly_on}
use Rattle.words.proofs.Buffers.{room_success, full_of_lem, other_of}
use Rattle.sub_key_list.specs.Lists.{Listed, list_at}
use Rattle.sub_key_list.specs.Lists as lists
use Rattle.sub_key_list.specs.Leaves.{Leaf, leaf_dropped, only_leaf, leaf_at}
use Rattle.sub_key_list.proofs.Cases.{list-plain}
use Rattle.sub_key_list.proofs.Leaves.{leaf_all}
use Rattle.sub_key_walk.specs.Trace.{Event, deep, trace, ordinary, walk_from, kept_in, kept_of, entries_in, entries_of, dropped_in, dropped_of, total}
use Rattle.sub_key_walk.specs.Judge.{fault}
use Rattle.sub_key_walk.specs.Answers.{measured, full_of, reached_for, reached_by, walk_paper, WalkAnswered}
use Rattle.sub_key_walk.specs.Leaf.{read_of, full_leaf, LeafAnswered}
use Rattle.sub_key_walk.specs.Free.{All}
use Rattle.sub_key_walk.specs.Dropped.{dropped_by, dropped_from, Sums, Drops, WalkDrops, LeafDrops}
use Rattle.sub_key_walk.specs.declared.Counts.{Counts}
use Rattle.sub_key_walk.specs.declared.LeafRead.{LeafRead}
use Rattle.sub_key_walk.proofs.Traces.{event_of, trace_all}
use Rattle.sub_key_walk.proofs.Answers.{measured-counts}
use Rattle.sub_key_walk.proofs.Refusals.{Sound, record_every}
use Rattle.std.specs.declared.result.Result.{Result}
use Rattle.sub_key_walk.specs.declared.WalkRefusal.{WalkRefusal}

-- ---- the lists reached: every entry is kept or dropped

abbrev KeptOrDropped : Event → Type 0
KeptOrDropped e = length (kept_in e) + dropped_in e ≡ entries_in e

kept_or_dropped : (s : List ℕ) (base p : ℕ) (h : Paper Listed) → list_at s p ≡ h → KeptOrDropped (event_of s base p h)
unfolding kept_in entries_in dropped_in
kept_or_dropped s base p (success (lists.leaf k z n)) e = leaf_all s base z n (p + 8)
kept_or_dropped s base p (success (lists.index n)) e = refl
kept_or_dropped s base p (refused t) e = refl

deep_drops : (p : ℕ) → KeptOrDropped (deep p)
unfolding kept_in entries_in dropped_in
deep_drops p = refl

all_sum : (es : List Event) → All KeptOrDropped es → entries_of es ≡ length (kept_of es) + dropped_of es
unfolding All kept_of total
all_sum [] a = refl
all_sum (e ∷ es) a =
    let h : length (kept_in e) + dropped_in e ≡ entries_in e = a.0 in
    omega (arith, all_sum es a.1, length-append (kept_in e) (kept_of es))

-- of all lists reached, entries equal kept plus dropped
pub trace-sum : (s : List ℕ) (base levels o : ℕ) → let es = trace (ordinary s) levels s base o in entries_of es ≡ length (kept_of es) + dropped_of es
trace-sum s base levels o = all_sum _ (trace_all KeptOrDropped s base deep_drops (kept_or_dropped s base) levels o)

-- and of those that are reached from a key record
reached_sum : (s : List ℕ) (base count list : ℕ) → let es = reached_by s base count list in entries_of es ≡ length (kept_of es) + dropped_of es
unfolding reached_for kept_of total
reached_sum s base count list = go (eqb count 0)
  where
    go : (b : Bool) → let es = cond b [] (walk_from s base list) in entries_of es ≡ length (kept_of es) + dropped_of es
    go true = refl
    go false = trace-sum s base 8 list

-- ---- no refusal of a walk is NO ROOM but the one for want of places

plain-fault : (n p l : ℕ) → (n ≡ NO_ROOM → ⊥) → Plain (fault n p l)
plain-fault n p l h = record { other = h; places = refl; entries = refl; dropped = refl }

sound_at : (s : List ℕ) (base p : ℕ) (h : Paper Listed) → list_at s p ≡ h → Sound Plain (event_of s base p h)
sound_at s base p (success (lists.leaf k z n)) e = tt
sound_at s base p (success (lists.index n)) e = tt
sound_at s base p (refused t) e = λ l. plain-fault t.number t.position l (list-plain s p t e).other

measured-plain : (s : List ℕ) (base count list budget : ℕ) → Plainly (measured s base count list budget)
measured-plain s base count list budget =
    record_every Plain (λ p l. plain-fault OUT_OF_STEPS p l (omega arith)) (plain-fault BAD_BUDGET 0 0 (omega arith)) (plain-fault TOO_MANY 0 0 (omega arith)) count budget
    (walk_from s base list) (trace_all (Sound Plain) s base (λ p l. plain-fault TOO_DEEP p l (omega arith)) (sound_at s base) 8 list)

-- ---- an answer with no regard to room, and with it

module _ {A : Type 0} (full : A → Told) (d : ℕ) (a : Paper A) (plain : Plainly a) (sums : (v : A) → a ≡ success v → Sums (full v) d) where
  free_drops : Drops full d a
  free_drops = record { read = sums; no_room = λ t e n. absurd ((plain t e).other n); other = λ t e o. (plain t e).dropped }

  room_drops : ((v : A) → (full v).number ≡ NO_ROOM) → (room : ℕ) → Drops full d (in_room full room a)
  room_drops f room = record {
    read = λ v e. sums v (room_success full room a v e).0;
    no_room = λ t e n. let w = full_of_lem full room a plain e n in subst (λ (u : Told). Sums u d) w.2 (sums w.0 w.1);
    other = λ t e o. (plain t (other_of full room a f e o)).dropped;
  }

-- ---- of the answers themselves

module _ (s : List ℕ) (base count list budget : ℕ) where
  walk_sums : (t : Counts) → measured s base count list budget ≡ success t → Sums (full_of t) (dropped_by s base count list)
  walk_sums t e =
      let c = measured-counts count budget (walk_from s base list) t e in
      let k = ap (λ (u : Counts). u.kept) c in
      let n = ap (λ (u : Counts). u.entries) c in
      let d = ap (λ (u : Counts). u.dropped) c in
      record { counted = d; rest = omega (arith, reached_sum s base count list) }

  -- any answer that the contract of `sub_key_counts` allows
  pub counts-drop : (r : (Result Counts WalkRefusal)) → walk_paper r ≡ measured s base count list budget → WalkDrops s base count list r
  counts-drop r e = subst (Drops full_of _) (sym e) (free_drops full_of _ _ (measured-plain s base count list budget) walk_sums)

  -- any answer that the contract of `sub_keys` allows
  pub walk_drops : (old : List ℕ) (r : (Result Counts WalkRefusal)) (new : List ℕ) → WalkAnswered s base count list budget old r new → WalkDrops s base count list r
  walk_drops old r new x =
      subst (Drops full_of _) (sym x.answer) (room_drops full_of _ _ (measured-plain s base count list budget) walk_sums (λ v. refl) (length old))

module _ (s : List ℕ) (base p : ℕ) where
  only_plain : (a : Paper Listed) → Plainly a → Plainly (only_leaf s base p a)
  unfolding only_leaf
  only_plain (success (lists.leaf k z n)) q = plainly_success _
  only_plain (success (lists.index n)) q = plainly_by BAD_SIGN p (omega arith)
  only_plain (refused t) q = plainly_refused (q t refl)

  only_sums : (a : Paper Listed) (l : Leaf) → only_leaf s base p a ≡ success l → Sums (full_leaf (read_of l)) (dropped_from (only_leaf s base p a))
  unfolding only_leaf dropped_from
  only_sums (success (lists.leaf k z n)) l e =
      let w = leaf_all s base z n (p + 8) in
      subst (λ (m : Leaf). Sums (full_leaf (read_of m)) (leaf_dropped s base z n (p + 8))) (same-success e) (record { counted = refl; rest = omega arith })
  only_sums (success (lists.index n)) l e = absurd (refused-success e)
  only_sums (refused t) l e = absurd (refused-success e)

  leaf_sums : (r : LeafRead) → on_success read_of (leaf_at s base p) ≡ success r → Sums (full_leaf r) (dropped_from (leaf_at s base p))
  leaf_sums r e =
      let w = on_success_of read_of (leaf_at s base p) e in
      subst (λ (u : LeafRead). Sums (full_leaf u) (dropped_from (leaf_at s base p))) w.2 (only_sums (list_at s p) w.0 w.1)

  -- any answer that the contract of `leaf_sub_keys` allows
  pub leaf_drops : (old : List ℕ) (r : (Result LeafRead WalkRefusal)) (new : List ℕ) → LeafAnswered s base p old r new → LeafDrops s base p r
  leaf_drops old r new x =
      subst (Drops full_leaf _) (sym x.answer)
      (room_drops full_leaf _ _ (plainly_on read_of (leaf_at s base p) (only_plain (list_at s p) (list-plain s p))) leaf_sums (λ v. refl) (length old))
