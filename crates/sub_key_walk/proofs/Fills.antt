-- The uses of a walk that write: what they write, row by row and list by list. Assumes nothing.
use mathlib.Core.Path.{◌≡◌, refl, ap, sym, ◌∙◌}
use mathlib.Core.List.{List, [], ◌++◌}
use mathlib.Core.Bool.{Bool, true}
use Prim.Native.Nat.{ℕ, ◌+◌, ◌-◌, ◌≤◌, ◌<◌}
use native.Mathlib.Nat.{sub-zero}
use native.Mathlib.Omega.{arith}
use lib.ListN.{length, length-append}
use lib.Seq.{sets, length-sets}
use Rattle.words.specs.Words.{word32}
use Rattle.words.specs.Paper.{Paper, success}
use Rattle.words.specs.declared.Refusal.{Refusal}
use Rattle.sub_key_list.specs.Lists.{Listed, list_paper, leaf}
use Rattle.sub_key_list.specs.Leaves.{leaf_kept, leaf_dropped}
use Rattle.sub_key_list.specs.declared.IndexList.{IndexList}
use Rattle.sub_key_list.specs.declared.SubKeyList.TheVariants as found
use Rattle.sub_key_list.proofs.Leaves.{sets_append}
use Rattle.sub_key_walk.specs.Trace.{Event, each, below, trace, kept_of, dropped_in, dropped_of, total}
use Rattle.sub_key_walk.specs.Walk.{Whole, Filled, Roomy}
use Rattle.sub_key_walk.proofs.Walks.{trace_in, each_next, total-append}
use Rattle.sub_key_walk.proofs.Uses.{Use, Spreading, spreading_start, spreading_ready, spreading_step, spreading_end, kept_deep, kept_bad, kept_leaf, kept_index, ready_as, goes_as, goes_nowhere}
use Rattle.std.specs.Prelude.{Ok, Err}

-- ---- rows written one behind another

pub filled_length : {ks old new : List ℕ} {place r : ℕ} → Filled ks old place r new → length new ≡ length old
filled_length {ks} {old} {place = place} f = ap length f.written ∙ length-sets old place ks

filled_more : {ks ls old mid new : List ℕ} {place at r : ℕ} → Filled ks old place at mid → Filled ls mid at r new → Filled (ks ++ ls) old place r new
filled_more {ks} {ls} {old} {mid} {new} {place} {at} {r} f g =
    let n = f.next in
    let m = g.next in
    record {
      next = omega (arith, length-append ks ls);
      written = g.written ∙ (λ i. sets (f.written i) (f.next i) ls) ∙ sym (sets_append old place ks ls);
    }

-- ---- the use that writes a row into a buffer of so many places, over what is written for a row of offsets: the offsets themselves,
-- or a record for each. The state is the buffer, and the place behind what is written.

module _ (places : ℕ) (spelt : List ℕ → List ℕ) (spelt-none : spelt [] ≡ []) (spelt-more : (ks ls : List ℕ) → spelt (ks ++ ls) ≡ spelt ks ++ spelt ls) where
  abbrev State : Type 0
  State = List ℕ × ℕ

  abbrev Room : List ℕ → State → Type 0
  Room ks x = (length x.0 ≡ places) × (x.1 + length (spelt ks) ≤ places)

  abbrev Writes : List ℕ → State → State → Type 0
  Writes ks x y = Filled (spelt ks) x.0 x.1 y.1 y.0

  lengths : (ks ls : List ℕ) → length (spelt (ks ++ ls)) ≡ length (spelt ks) + length (spelt ls)
  lengths ks ls = ap length (spelt-more ks ls) ∙ length-append (spelt ks) (spelt ls)

  pub writes_none : (x : State) → Writes [] x x
  writes_none x = record { next = omega (arith, ap length spelt-none); written = ap (λ (ks : List ℕ). sets x.0 x.1 ks) (sym spelt-none) }

  pub writes_more : (ks ls : List ℕ) (x y z : State) → Writes ks x y → Writes ls y z → Writes (ks ++ ls) x z
  writes_more ks ls x y z f g = rw spelt-more (filled_more f g)

  pub writes_front : (ks ls : List ℕ) (x : State) → Room (ks ++ ls) x → Room ks x
  writes_front ks ls x r = let m = r.1 in (r.0, omega (arith, lengths ks ls))

  pub writes_rest : (ks ls : List ℕ) (x y : State) → Room (ks ++ ls) x → Writes ks x y → Room ls y
  writes_rest ks ls x y r f =
      let m = r.1 in
      let n = f.next in
      (filled_length f ∙ r.0, omega (arith, lengths ks ls))

  abbrev pub writing : Use State
  writing = record { Ready = Room; Goes = Writes; none = writes_none; more = writes_more; front = writes_front; rest = writes_rest }

-- numbers
abbrev pub numbers : ℕ → Use (List ℕ × ℕ)
numbers places = writing places (λ ks. ks) refl (λ ks ls. refl)

-- ---- the loop over the entries of an `ri` list: the use that writes numbers, and that nothing is dropped where that is claimed

pub record Spread (f : ℕ → List Event) (s : List ℕ) (n first : ℕ) (whole : Bool) (old : List ℕ) (place : ℕ) (out : List ℕ) (to pos i : ℕ) : Type 0 where
  pub spreading : Spreading (numbers (length old)) f s n first (old, place) (out, to) pos i
  pub all : whole ≡ true → dropped_of (each f s (n - i) pos) ≡ 0

module _ (f : ℕ → List Event) (s : List ℕ) (n first : ℕ) (whole : Bool) (old : List ℕ) (place : ℕ) where
  pub spread_start : Roomy (each f s n first) whole old place → (pos : ℕ) → pos ≡ first → Spread f s n first whole old place old place pos 0
  spread_start v pos e = rw e (record { spreading = spreading_start (numbers (length old)) f s n first (old, place) (refl, v.room); all = rw sub-zero v.all })

  module _ (out : List ℕ) (to pos i : ℕ) (v : Spread f s n first whole old place out to pos i) where
    module _ (h : i < n) (next : ℕ) (e : next ≡ word32 s pos) where
      dropped_split : dropped_of (each f s (n - i) pos) ≡ dropped_of (f next) + dropped_of (each f s (n - (i + 1)) (pos + 4))
      dropped_split =
          ap dropped_of (rw e (each_next f s (n - i) (n - (i + 1)) pos (omega arith)))
          ∙ total-append dropped_in (f next) (each f s (n - (i + 1)) (pos + 4))

      -- there is room for what the next list keeps
      pub spread_room : Roomy (f next) whole out to
      spread_room =
          let r = spreading_ready (numbers (length old)) f s n first (old, place) (out, to) pos i v.spreading h e in
          let m = r.1 in
          record { room = omega (arith, r.0); all = λ q. let d = v.all q in omega (arith, dropped_split) }

      pub spread_step : {r : ℕ} {new : List ℕ} → Filled (kept_of (f next)) out to r new → (at : ℕ) → at ≡ pos + 4 → Spread f s n first whole old place new r at (i + 1)
      spread_step {r} {new} p at b = rw b (record {
        spreading = spreading_step (numbers (length old)) f s n first (old, place) (out, to) pos i v.spreading h e {y = (new, r)} p;
        all = λ q. let d = v.all q in omega (arith, dropped_split);
      })

    pub spread_long : length out ≡ length old
    spread_long = v.spreading.going.ready.0

    pub spread_end : n ≤ i → Filled (kept_of (each f s n first)) old place to out
    spread_end h = spreading_end (numbers (length old)) f s n first (old, place) (out, to) pos i v.spreading h

-- ---- a list that is reached

pub fill_deep : (hd : ℕ → ℕ → Paper Listed) (levels : ℕ) (s : List ℕ) (base offset : ℕ) → levels ≡ 0 → {old : List ℕ} {place : ℕ}
    → Filled (kept_of (trace hd levels s base offset)) old place place old
fill_deep hd levels s base offset e {old} {place} = goes_nowhere (numbers (length old)) (old, place) (kept_deep hd levels s base offset e)

module _ (hd : ℕ → ℕ → Paper Listed) (levels : ℕ) (s : List ℕ) (base offset : ℕ) (h : levels ≡ 0 → ⊥) where
  pub fill_bad : (g : Refusal) → hd levels (offset + base) ≡ list_paper (Err g) → {old : List ℕ} {place : ℕ}
      → Filled (kept_of (trace hd levels s base offset)) old place place old
  fill_bad g e {old} {place} = goes_nowhere (numbers (length old)) (old, place) (kept_bad hd levels s base offset h g e)

  module _ {kind size n : ℕ} (e : hd levels (offset + base) ≡ success (leaf kind size n)) where
    abbrev row : List ℕ
    row = leaf_kept s base size n (offset + base + 8)

    dropped_leaf : dropped_of (trace hd levels s base offset) ≡ leaf_dropped s base size n (offset + base + 8)
    unfolding below total dropped_in
    dropped_leaf = rw (trace_in hd levels s base offset h, e) (omega arith)

    module _ {whole : Bool} {old : List ℕ} {place : ℕ} (v : Roomy (trace hd levels s base offset) whole old place) where
      pub leaf_room : place + length row ≤ length old
      leaf_room = (ready_as (numbers (length old)) {x = (old, place)} (kept_leaf hd levels s base offset h e) (refl, v.room)).1

      pub leaf-whole : Whole s base size n (offset + base + 8) whole
      leaf-whole q = sym dropped_leaf ∙ v.all q

    pub fill_leaf : {old : List ℕ} {place r : ℕ} {new : List ℕ} → Filled row old place r new → Filled (kept_of (trace hd levels s base offset)) old place r new
    fill_leaf {old} {place} {r} {new} f = goes_as (numbers (length old)) {x = (old, place)} {y = (new, r)} (kept_leaf hd levels s base offset h e) f

  module _ {l : IndexList} (e : hd levels (offset + base) ≡ list_paper (Ok (found.Index l))) where
    abbrev inner : List Event
    inner = each (trace hd (levels - 1) s base) s l.count (offset + base + 8)

    dropped_index : dropped_of (trace hd levels s base offset) ≡ dropped_of inner
    unfolding below total dropped_in
    dropped_index = rw (trace_in hd levels s base offset h, e) (omega arith)

    pub index_room : {whole : Bool} {old : List ℕ} {place : ℕ} → Roomy (trace hd levels s base offset) whole old place → Roomy inner whole old place
    index_room {old = old} {place = place} v = record {
      room = (ready_as (numbers (length old)) {x = (old, place)} (kept_index hd levels s base offset h e) (refl, v.room)).1;
      all = λ q. sym dropped_index ∙ v.all q;
    }

    pub fill_index : {old : List ℕ} {place r : ℕ} {new : List ℕ} → Filled (kept_of inner) old place r new → Filled (kept_of (trace hd levels s base offset)) old place r new
    fill_index {old} {place} {r} {new} f = goes_as (numbers (length old)) {x = (old, place)} {y = (new, r)} (kept_index hd levels s base offset h e) f
