-- Laws of a pass over the bins: what was counted and written so far, and what is left. Assumes nothing.
use Prim.Native.Nat.{ℕ, ◌+◌, ◌≤◌, ◌<◌}
use mathlib.Core.Path.{◌≡◌, refl, sym, ap, subst, ◌∙◌}
use mathlib.Core.List.{List, [], ◌∷◌, ◌++◌, append_assoc, append-nil}
use mathlib.Core.Bool.{Bool, true, false, cond}
use native.Mathlib.Omega.{arith}
use lib.ListN.{length, drop, set, length-append, length-set}
use lib.Dec.{ltb}
use borrow.Author.Tests.{ltb-true, ltb-false, lt-ltb, le-ltb}
use Rattle.words.specs.Paper.{Paper, success, refused, by, on_success}
use Rattle.words.proofs.Papers.{refused-success, same-success}
use Rattle.words.proofs.Buffers.{written-more}
use Rattle.hive_bin.specs.declared.Spot.{Spot}
use Rattle.hive_bin.specs.declared.CellStep.{CellStep}
use Rattle.words.specs.declared.Refusal.{Refusal}
use Rattle.hive_bin.specs.Walk.{Found, moved}
use Rattle.hive_bin.specs.Steps.{start, Stepped, step_at, found_in, step_paper}
use Rattle.hive_bin.proofs.Stepping.{rest, Stands, stands_in, stands_start, Tells, Says, step_says, rest_all}
use Rattle.deleted_keys.specs.Deleted.{is_deleted, positions_of, deleted_paper}
use Rattle.deleted_keys.specs.Scan.{keys_of, keys_in, Noted, Scanned}
use Rattle.std.specs.Prelude.{Ok, Err}
use Rattle.std.specs.declared.result.Result.{Result}
use Rattle.std.specs.declared.option.Option.{Option}
use Rattle.words.specs.declared.RoomRefusal.{RoomRefusal}
use Rattle.std.specs.declared.option.Option.TheVariants.{Some, None}
use Rattle.words.specs.Paper.{number_of}

-- ---- the keys of a row of cells, cell by cell

module _ (image : List ℕ) (base : ℕ) (c : Found) where
  keys-one : true ≡ is_deleted image (moved base c) → (a : Paper (List Found))
      → keys_of image base (on_success (λ (cs : List Found). c ∷ cs) a) ≡ on_success (λ (ks : List ℕ). (base + c.place) ∷ ks) (keys_of image base a)
  unfolding on_success positions_of
  keys-one e (success cs) = simp (sym e)
  keys-one e (refused f) = refl

  keys_none : false ≡ is_deleted image (moved base c) → (a : Paper (List Found))
      → keys_of image base (on_success (λ (cs : List Found). c ∷ cs) a) ≡ keys_of image base a
  unfolding on_success positions_of
  keys_none e (success cs) = simp (sym e)
  keys_none e (refused f) = refl

-- ---- a position that is listed, by what the code has tested

module _ (n room position : ℕ) (old : List ℕ) (t : Bool) where
  pub listed_written : t ≡ true → n < room → Noted n room t position old (n + 1) (set old n position)
  listed_written e h = rw e (record { count = refl; written = simp (lt-ltb n room h) })

  pub listed_counted : t ≡ true → room ≤ n → Noted n room t position old (n + 1) old
  listed_counted e h = rw e (record { count = refl; written = simp (le-ltb n room h) })

-- rows before what an answer tells
abbrev before : List ℕ → Paper (List ℕ) → Paper (List ℕ)
before ks a = on_success (λ (more : List ℕ). ks ++ more) a

before_none : (a : Paper (List ℕ)) → a ≡ before [] a
unfolding on_success
before_none (success ks) = refl
before_none (refused t) = refl

before_one : (ks : List ℕ) (p : ℕ) (a : Paper (List ℕ)) → before ks (on_success (λ (more : List ℕ). p ∷ more) a) ≡ before (ks ++ (p ∷ [])) a
unfolding on_success
before_one ks p (success x) = ap success (sym (append_assoc ks (p ∷ []) x))
before_one ks p (refused t) = refl

-- what a step tells of what it is found to be
pub told_as : {r : Result (Option CellStep) Refusal} {o p : Option CellStep} {u : Paper Stepped} → r ≡ Ok o → o ≡ p → step_paper r ≡ u → step_paper (Ok p) ≡ u
told_as e f q = sym (ap (λ (x : Option CellStep). step_paper (Ok x)) f) ∙ sym (ap step_paper e) ∙ q

-- ---- the loop: at the spot s, after n keys, which are `ks`, with the buffer `out`, which held `old`

pub record SoFar (image : List ℕ) (base : ℕ) (b : List ℕ) (room : ℕ) (old : List ℕ) (s : Spot) (n : ℕ) (out : List ℕ) : Type 0 where
  pub ks : List ℕ
  pub count : length ks ≡ n
  pub stands : Stands b s
  pub few : n ≤ s.place
  pub whole : keys_in image base b ≡ before ks (keys_of image base (rest b s))
  pub same : length out ≡ length old
  pub none : room ≡ 0 → out ≡ old
  pub all : n ≤ room → out ≡ ks ++ drop n old

module _ (image : List ℕ) (base : ℕ) (b : List ℕ) (room : ℕ) (old : List ℕ) where
  pub starts : SoFar image base b room old start 0 old
  starts =
      record {
        ks = [];
        count = refl;
        stands = stands_start b;
        few = omega arith;
        whole = ap (keys_of image base) (sym (rest_all b)) ∙ before_none _;
        same = refl;
        none = λ e. refl;
        all = λ h. refl;
      }

  module _ (s : Spot) (n : ℕ) (out : List ℕ) (so : SoFar image base b room old s n out) where
    says : (r : Result (Option CellStep) Refusal) → step_paper r ≡ step_at b s → Says b (rest b s) s.place (step_paper r)
    says r e = subst (Says b (rest b s) s.place) (sym e) (step_says b s so.stands)

    module _ (c : CellStep) (is : step_paper (Ok (Some c)) ≡ step_at b s) where
      tells : Tells b (rest b s) s.place (found_in c) c.next
      tells = says (Ok (Some c)) is

      -- the next spot lies further on, and within the bins
      pub further : (s.place ≤ c.place) × (c.place < c.next.place) × (c.next.place ≤ length b)
      further = let k = tells in (k.from, k.on, (stands_in k.stands).1)

      -- a cell that is not listed, and one that is
      passes : false ≡ is_deleted image (moved base (found_in c)) → SoFar image base b room old c.next n out
      passes e =
          record {
            ks = so.ks;
            count = so.count;
            stands = tells.stands;
            few = omega (arith, so.few, further);
            whole = so.whole ∙ ap (λ (a : Paper (List ℕ)). before so.ks a) (ap (keys_of image base) tells.whole ∙ keys_none image base _ e (rest b c.next));
            same = so.same;
            none = so.none;
            all = so.all;
          }

      module _ (e : true ≡ is_deleted image (moved base (found_in c))) where
        abbrev p : ℕ
        p = base + c.place

        longer : length (so.ks ++ (p ∷ [])) ≡ n + 1
        longer = omega (arith, length-append so.ks (p ∷ []), so.count)

        more : keys_in image base b ≡ before (so.ks ++ (p ∷ [])) (keys_of image base (rest b c.next))
        more =
            so.whole
            ∙ ap (λ (a : Paper (List ℕ)). before so.ks a) (ap (keys_of image base) tells.whole ∙ keys-one image base _ e (rest b c.next))
            ∙ before_one so.ks p _

        writes : room ≤ length old → n < room → SoFar image base b room old c.next (n + 1) (set out n p)
        writes fits l =
            record {
              ks = so.ks ++ (p ∷ []);
              count = longer;
              stands = tells.stands;
              few = omega (arith, so.few, further);
              whole = more;
              same = length-set out n p ∙ so.same;
              none = λ z. absurd (omega arith);
              all = λ m. ap (λ (x : List ℕ). set x n p) (so.all (omega arith)) ∙ written-more so.ks old n p so.count (omega arith);
            }

        counts : room ≤ n → SoFar image base b room old c.next (n + 1) out
        counts l =
            record {
              ks = so.ks ++ (p ∷ []);
              count = longer;
              stands = tells.stands;
              few = omega (arith, so.few, further);
              whole = more;
              same = so.same;
              none = so.none;
              all = λ m. absurd (omega arith);
            }

      pub goes : (t : Bool) → t ≡ is_deleted image (moved base (found_in c)) → room ≤ length old
          → {m : ℕ} {new : List ℕ} → Noted n room t (base + c.place) out m new → SoFar image base b room old c.next m new
      goes false e fits q = rw (q.count, q.written) (passes e)
      goes true e fits {m} {new} q = rw (q.count, q.written) (go (ltb n room) refl)
        where
          go : (t : Bool) → ltb n room ≡ t → SoFar image base b room old c.next (n + 1) (cond t (set out n (base + c.place)) out)
          go true h = writes e fits (ltb-true n room h)
          go false h = counts e (ltb-false n room h)

    -- at the end
    pub ends : step_paper (Ok None) ≡ step_at b s → Scanned image base b room old (Ok n) out
    unfolding on_success positions_of
    ends is =
        let e : keys_in image base b ≡ success so.ks =
        so.whole ∙ ap (λ (a : Paper (List Found)). before so.ks (keys_of image base a)) (says (Ok None) is) ∙ last in
        record {
          answer = sym (ap (on_success length) e ∙ ap success so.count);
          none = so.none;
          all = λ xs f h.
              let g : so.ks ≡ xs = same-success (sym e ∙ f) in
              let l : length xs ≡ n = ap length (sym g) ∙ so.count in
              so.all (omega arith) ∙ rw (g, l);
        }
      where
        last : before so.ks (keys_of image base (success [])) ≡ success so.ks
        last = ap success (append-nil so.ks)

    -- at a fault
    module _ (f : Refusal) (is : step_paper (Err f) ≡ step_at b s) where
      pub fault_in : f.position ≤ length b
      fault_in = (says (Err f) is).1

      pub fails : {r : Result ℕ RoomRefusal} → deleted_paper r ≡ refused (by (number_of f.reason) (base + f.position)) → Scanned image base b room old r out
      unfolding on_success
      fails {r} q =
          let e : keys_in image base b ≡ refused (by (number_of f.reason) (base + f.position)) =
          so.whole ∙ ap (λ (a : Paper (List Found)). before so.ks (keys_of image base a)) (says (Err f) is).0 in
          record {
            answer = q ∙ sym (ap (on_success length) e);
            none = so.none;
            all = λ xs g h. absurd (refused-success (sym e ∙ g));
          }
