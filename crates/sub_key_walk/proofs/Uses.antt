-- One proof for every use of a walk. A use goes through the offsets that the walk keeps, in their order, from one state to another: it
-- writes them as numbers, or as records, or holds them against records. What a use must show is in `Use`; the loops over entries, over
-- the lists that an `ri` list names, and the step into a list are the same for all. Assumes nothing.
use mathlib.Core.Path.{◌≡◌, ap, sym, subst, ◌∙◌}
use mathlib.Core.List.{List, [], ◌++◌, append-nil}
use Prim.Native.Nat.{ℕ, ◌+◌, ◌-◌, ◌*◌, ◌≤◌, ◌<◌}
use native.Mathlib.Nat.{sub-zero, mul-one}
use native.Mathlib.Omega.{arith}
use lib.ListN.{length}
use Rattle.words.specs.Words.{word32}
use Rattle.words.specs.Paper.{Paper, success}
use Rattle.words.specs.declared.Refusal.{Refusal}
use Rattle.sub_key_list.specs.Lists.{Listed, list_paper, leaf}
use Rattle.sub_key_list.specs.Leaves.{keep, leaf_kept}
use Rattle.sub_key_list.specs.declared.IndexList.{IndexList}
use Rattle.sub_key_list.specs.declared.SubKeyList.TheVariants as found
use Rattle.sub_key_list.proofs.Leaves.{leaf-none}
use Rattle.sub_key_walk.specs.Trace.{Event, each, below, trace, kept_in, kept_of}
use Rattle.sub_key_walk.specs.Walk.{Entries}
use Rattle.sub_key_walk.proofs.Walks.{trace-deep, trace_in, each_next, each_none, kept_append}
use Rattle.sub_key_walk.proofs.Pieces.{leaf-one, leaf-append, first_there, rest_there}
use Rattle.std.specs.Prelude.{Ok, Err}

-- `Goes ks x y`: the offsets `ks` lead from the state `x` to `y`. `Ready ks x`: in `x` there is room for them.
pub record Use (X : Type 0) : Type 1 where
  pub Ready : List ℕ → X → Type 0
  pub Goes : List ℕ → X → X → Type 0
  pub none : (x : X) → Goes [] x x
  pub more : (ks ls : List ℕ) (x y z : X) → Goes ks x y → Goes ls y z → Goes (ks ++ ls) x z
  pub front : (ks ls : List ℕ) (x : X) → Ready (ks ++ ls) x → Ready ks x
  pub rest : (ks ls : List ℕ) (x y : X) → Ready (ks ++ ls) x → Goes ks x y → Ready ls y

-- ---- a row that is gone through piece by piece: what is left leads on to where all of it leads

pub record Going {X : Type 0} (u : Use X) (all : List ℕ) (x₀ : X) (left : List ℕ) (x : X) : Type 0 where
  pub ready : u.Ready left x
  pub leads : (z : X) → u.Goes left x z → u.Goes all x₀ z

module _ {X : Type 0} (u : Use X) (all : List ℕ) (x₀ : X) where
  pub going_start : (left : List ℕ) → left ≡ all → u.Ready all x₀ → Going u all x₀ left x₀
  going_start left e r = record {
    ready = subst (λ (ks : List ℕ). u.Ready ks x₀) (sym e) r;
    leads = λ z g. subst (λ (ks : List ℕ). u.Goes ks x₀ z) e g;
  }

  module _ (left : List ℕ) (x : X) (g : Going u all x₀ left x) where
    module _ (ks ls : List ℕ) (e : left ≡ ks ++ ls) where
      both : u.Ready (ks ++ ls) x
      both = subst (λ (r : List ℕ). u.Ready r x) e g.ready

      -- there is room for the next piece
      pub going_ready : u.Ready ks x
      going_ready = u.front ks ls x both

      -- and behind it what is left is less by it
      pub going_step : (y : X) → u.Goes ks x y → Going u all x₀ ls y
      going_step y p = record {
        ready = u.rest ks ls x y both p;
        leads = λ z q. g.leads z (subst (λ (r : List ℕ). u.Goes r x z) (sym e) (u.more ks ls x y z p q));
      }

    pub going_end : left ≡ [] → u.Goes all x₀ x
    going_end e = g.leads x (subst (λ (r : List ℕ). u.Goes r x x) (sym e) (u.none x))

-- ---- the loop over the entries of a leaf list

pub record Passing {X : Type 0} (u : Use X) (s : List ℕ) (base size n first : ℕ) (x₀ x : X) (at i : ℕ) : Type 0 where
  pub within : i ≤ n
  pub inside : at + size * (n - i) ≤ length s
  pub going : Going u (leaf_kept s base size n first) x₀ (leaf_kept s base size (n - i) at) x

module _ {X : Type 0} (u : Use X) (s : List ℕ) (base size n first : ℕ) (x₀ : X) where
  pub passing_start : Entries s size n first → u.Ready (leaf_kept s base size n first) x₀ → Passing u s base size n first x₀ x₀ first 0
  passing_start w r =
      let l = w.inside in
      record { within = omega arith; inside = rw sub-zero l; going = going_start u (leaf_kept s base size n first) x₀ _ (rw sub-zero) r }

  module _ (x : X) (at i : ℕ) (p : Passing u s base size n first x₀ x at i) where
    -- `k` entries more
    module _ (k : ℕ) (h : i + k ≤ n) where
      left_is : n - i ≡ k + (n - (i + k))
      left_is = omega arith

      split : leaf_kept s base size (n - i) at ≡ leaf_kept s base size k at ++ leaf_kept s base size (n - (i + k)) (at + size * k)
      split = ap (λ (j : ℕ). leaf_kept s base size j at) left_is ∙ leaf-append s size base k (n - (i + k)) at

      left_there : 4 ≤ size → Entries s size (n - i) at
      left_there w = record { word = w; inside = p.inside }

      -- they are there, and there is room for them
      pub piece_there : 4 ≤ size → Entries s size k at
      piece_there w = first_there s size (n - i) k (n - (i + k)) at left_is (left_there w)

      pub piece_ready : u.Ready (leaf_kept s base size k at) x
      piece_ready = going_ready u (leaf_kept s base size n first) x₀ _ x p.going (leaf_kept s base size k at) _ split

      pub passing_piece : {y : X} → 4 ≤ size → u.Goes (leaf_kept s base size k at) x y → Passing u s base size n first x₀ y (at + size * k) (i + k)
      passing_piece {y} w q = record {
        within = h;
        inside = (rest_there s size (n - i) k (n - (i + k)) at left_is (left_there w)).inside;
        going = going_step u (leaf_kept s base size n first) x₀ _ x p.going (leaf_kept s base size k at) _ split y q;
      }

    -- and one
    module _ (h : i < n) (w : 4 ≤ size) where
      pub passing_there : at + size ≤ length s
      passing_there = let l = (piece_there 1 (omega arith) w).inside in omega (arith, mul-one size)

      module _ {v : ℕ} (e : v ≡ word32 s at) where
        one : leaf_kept s base size 1 at ≡ keep (v + base) []
        one = rw e (leaf-one s base size at)

        pub passing_ready : u.Ready (keep (v + base) []) x
        passing_ready = subst (λ (ks : List ℕ). u.Ready ks x) one (piece_ready 1 (omega arith))

        pub passing_step : {y : X} → u.Goes (keep (v + base) []) x y → Passing u s base size n first x₀ y (at + size) (i + 1)
        passing_step {y} q =
            subst (λ (k : ℕ). Passing u s base size n first x₀ y (at + k) (i + 1)) (mul-one size)
            (passing_piece 1 (omega arith) w (subst (λ (ks : List ℕ). u.Goes ks x y) (sym one) q))

    pub passing_end : n ≤ i → u.Goes (leaf_kept s base size n first) x₀ x
    passing_end h = going_end u (leaf_kept s base size n first) x₀ _ x p.going (leaf-none s base size (n - i) at (omega arith))

-- ---- the loop over the lists that an `ri` list names

pub record Spreading {X : Type 0} (u : Use X) (f : ℕ → List Event) (s : List ℕ) (n first : ℕ) (x₀ x : X) (pos i : ℕ) : Type 0 where
  pub within : i ≤ n
  pub near : pos ≡ first + 4 * i
  pub going : Going u (kept_of (each f s n first)) x₀ (kept_of (each f s (n - i) pos)) x

module _ {X : Type 0} (u : Use X) (f : ℕ → List Event) (s : List ℕ) (n first : ℕ) (x₀ : X) where
  pub spreading_start : u.Ready (kept_of (each f s n first)) x₀ → Spreading u f s n first x₀ x₀ first 0
  spreading_start r =
      record { within = omega arith; near = omega arith; going = going_start u (kept_of (each f s n first)) x₀ _ (rw sub-zero) r }

  module _ (x : X) (pos i : ℕ) (p : Spreading u f s n first x₀ x pos i) where
    module _ (h : i < n) {next : ℕ} (e : next ≡ word32 s pos) where
      pieces : kept_of (each f s (n - i) pos) ≡ kept_of (f next) ++ kept_of (each f s (n - (i + 1)) (pos + 4))
      pieces = ap kept_of (rw e (each_next f s (n - i) (n - (i + 1)) pos (omega arith))) ∙ kept_append (f next) (each f s (n - (i + 1)) (pos + 4))

      pub spreading_ready : u.Ready (kept_of (f next)) x
      spreading_ready = going_ready u (kept_of (each f s n first)) x₀ _ x p.going (kept_of (f next)) _ pieces

      pub spreading_step : {y : X} → u.Goes (kept_of (f next)) x y → Spreading u f s n first x₀ y (pos + 4) (i + 1)
      spreading_step {y} q = record {
        within = omega arith;
        near = omega (arith, p.near);
        going = going_step u (kept_of (each f s n first)) x₀ _ x p.going (kept_of (f next)) _ pieces y q;
      }

    pub spreading_end : n ≤ i → u.Goes (kept_of (each f s n first)) x₀ x
    unfolding kept_of
    spreading_end h =
        going_end u (kept_of (each f s n first)) x₀ _ x p.going (ap kept_of (each_none f s (n - i) pos (omega arith)))

-- ---- a list that is reached: what its walk keeps

pub kept_deep : (hd : ℕ → ℕ → Paper Listed) (levels : ℕ) (s : List ℕ) (base offset : ℕ) → levels ≡ 0 → kept_of (trace hd levels s base offset) ≡ []
unfolding kept_of kept_in
kept_deep hd levels s base offset e = ap kept_of (trace-deep hd levels s base offset e)

module _ (hd : ℕ → ℕ → Paper Listed) (levels : ℕ) (s : List ℕ) (base offset : ℕ) (h : levels ≡ 0 → ⊥) where
  pub kept_bad : (g : Refusal) → hd levels (offset + base) ≡ list_paper (Err g) → kept_of (trace hd levels s base offset) ≡ []
  unfolding below kept_of kept_in
  kept_bad g e = rw (trace_in hd levels s base offset h, e)

  pub kept_leaf : {kind size n : ℕ} → hd levels (offset + base) ≡ success (leaf kind size n)
      → kept_of (trace hd levels s base offset) ≡ leaf_kept s base size n (offset + base + 8)
  unfolding below kept_of kept_in
  kept_leaf e = rw (trace_in hd levels s base offset h, e) (append-nil _)

  pub kept_index : {l : IndexList} → hd levels (offset + base) ≡ list_paper (Ok (found.Index l))
      → kept_of (trace hd levels s base offset) ≡ kept_of (each (trace hd (levels - 1) s base) s l.count (offset + base + 8))
  unfolding below kept_of kept_in
  kept_index e = rw (trace_in hd levels s base offset h, e)

-- ---- and a use of it: a row under another name, and one of no offset

module _ {X : Type 0} (u : Use X) where
  pub ready_as : {ks ls : List ℕ} {x : X} → ks ≡ ls → u.Ready ks x → u.Ready ls x
  ready_as {x = x} e r = subst (λ (row : List ℕ). u.Ready row x) e r

  pub goes_as : {ks ls : List ℕ} {x y : X} → ks ≡ ls → u.Goes ls x y → u.Goes ks x y
  goes_as {x = x} {y = y} e g = subst (λ (row : List ℕ). u.Goes row x y) (sym e) g

  pub goes_nowhere : {ks : List ℕ} (x : X) → ks ≡ [] → u.Goes ks x x
  goes_nowhere x e = goes_as e (u.none x)
