-- The loops over the entries of a leaf list, over the size of an entry. Assumes nothing.
use mathlib.Core.Path.{◌≡◌, refl, ap, sym, subst, ◌∙◌}
use mathlib.Core.List.{List, []}
use mathlib.Core.Bool.{Bool}
use Prim.Native.Nat.{ℕ, ◌+◌, ◌-◌, ◌*◌, ◌≤◌, ◌<◌}
use native.Mathlib.Nat.{sub-zero, add-zero, mul-zero}
use native.Mathlib.Omega.{arith}
use lib.ListN.{length, set}
use Rattle.words.specs.Words.{word32}
use Rattle.sub_key_list.specs.Leaves.{keep, leaf_kept, drop_one, leaf_dropped}
use Rattle.sub_key_list.proofs.Leaves.{keep_kept, keep_dropped, keep_or_drop, kept_below, dropped_next, dropped_none}
use Rattle.sub_key_walk.specs.Walk.{Entries, Whole, Bound, Sized, Filled}
use Rattle.sub_key_walk.proofs.Traces.{Standing}
use Rattle.sub_key_walk.proofs.Uses.{Passing, passing_start, piece_there, piece_ready, passing_piece, passing_ready, passing_step, passing_end}
use Rattle.sub_key_walk.proofs.Fills.{numbers}
use Rattle.sub_key_walk.proofs.Pieces.{times_next}

-- ---- counting: `dropped` of the first `i` are dropped, and what is left gives the rest

pub record Counting (s : List ℕ) (base size n first dropped i : ℕ) : Type 0 where
  pub within : i ≤ n
  pub few : dropped ≤ i
  pub counts : dropped + leaf_dropped s base size (n - i) (first + size * i) ≡ leaf_dropped s base size n first

module _ (s : List ℕ) (base size n first : ℕ) where
  pub counting_start : Counting s base size n first 0 0
  counting_start =
      let e : first + size * 0 ≡ first = omega (arith, mul-zero size) in
      record { within = omega arith; few = omega arith; counts = rw (sub-zero, e) (omega arith) }

  module _ (dropped i : ℕ) (c : Counting s base size n first dropped i) where
    pub counting_step : i < n → {v r : ℕ} → v ≡ word32 s (first + size * i) → r ≡ drop_one (v + base) → Counting s base size n first (dropped + r) (i + 1)
    counting_step h {v} {r} e q =
        let m = c.counts in
        let f = c.few in
        let d : r ≡ drop_one (word32 s (first + size * i) + base) = q ∙ ap (λ (x : ℕ). drop_one (x + base)) e in
        let t : first + size * (i + 1) ≡ first + size * i + size = omega (arith, times_next size i) in
        record {
          within = omega arith;
          few = omega (arith, keep_or_drop (word32 s (first + size * i) + base));
          counts = rw t (omega (arith, dropped_next s base size (n - i) (n - (i + 1)) (first + size * i) (omega arith)));
        }

    pub counting_end : n ≤ i → dropped ≡ leaf_dropped s base size n first
    counting_end h = let m = c.counts in omega (arith, dropped_none s base size (n - i) (first + size * i) (omega arith))

-- ---- writing: the use of a walk that writes numbers

abbrev pub Filling : List ℕ → ℕ → ℕ → ℕ → ℕ → List ℕ → ℕ → List ℕ → ℕ → ℕ → ℕ → Type 0
Filling s base size n first old place out at to i = Passing (numbers (length old)) s base size n first (old, place) (out, to) at i

module _ (s : List ℕ) (base size n first : ℕ) (old : List ℕ) (place : ℕ) where
  pub filling_start : Entries s size n first → place + length (leaf_kept s base size n first) ≤ length old → (at : ℕ) → at ≡ first → Filling s base size n first old place old at place 0
  filling_start w r at e = rw e (passing_start (numbers (length old)) s base size n first (old, place) w (refl, r))

  module _ (out : List ℕ) (at to i : ℕ) (f : Filling s base size n first old place out at to i) where
    -- the buffer is as long as it was
    pub filling_long : length out ≡ length old
    filling_long = f.going.ready.0

    -- `k` entries more
    module _ (k : ℕ) (h : i + k ≤ n) where
      pub piece_room : to + length (leaf_kept s base size k at) ≤ length out
      piece_room =
          let r = piece_ready (numbers (length old)) s base size n first (old, place) (out, to) at i f k h in
          let m = r.1 in
          omega (arith, r.0)

      pub filling_piece : {new : List ℕ} {r : ℕ} → 4 ≤ size → Filled (leaf_kept s base size k at) out to r new
          → Filling s base size n first old place new (at + size * k) r (i + k)
      filling_piece {new} {r} w p = passing_piece (numbers (length old)) s base size n first (old, place) (out, to) at i f k h {y = (new, r)} w p

    -- and one
    module _ (h : i < n) (w : 4 ≤ size) {v : ℕ} (e : v ≡ word32 s at) where
      pub filling_room : to + length (keep (v + base) []) ≤ length out
      filling_room =
          let r = passing_ready (numbers (length old)) s base size n first (old, place) (out, to) at i f h w e in
          let m = r.1 in
          omega (arith, r.0)

      pub filling_step : {new : List ℕ} {r : ℕ} → Filled (keep (v + base) []) out to r new → (next : ℕ) → next ≡ at + size → Filling s base size n first old place new next r (i + 1)
      filling_step {new} {r} p next b = rw b (passing_step (numbers (length old)) s base size n first (old, place) (out, to) at i f h w e {y = (new, r)} p)

    pub filling_end : n ≤ i → Filled (leaf_kept s base size n first) old place to out
    filling_end h = passing_end (numbers (length old)) s base size n first (old, place) (out, to) at i f h

-- ---- the same by pieces, `left` entries from `at` on being left

pub record Piecewise (s : List ℕ) (base size n first : ℕ) (old : List ℕ) (place : ℕ) (out : List ℕ) (at to left : ℕ) : Type 0 where
  pub some : left ≤ n
  pub filling : Filling s base size n first old place out at to (n - left)

module _ (s : List ℕ) (base size n first : ℕ) (old : List ℕ) (place : ℕ) (w : Entries s size n first) where
  pub pieces-start : place + length (leaf_kept s base size n first) ≤ length old → Piecewise s base size n first old place old first place n
  pieces-start r =
      record {
        some = omega arith;
        filling = subst (λ (i : ℕ). Filling s base size n first old place old first place i) (omega arith) (filling_start s base size n first old place w r _ refl);
      }

  module _ (out : List ℕ) (at to left : ℕ) (f : Piecewise s base size n first old place out at to left) (k : ℕ) (h : k ≤ left) where
    within : n - left + k ≤ n
    within = let l = f.some in omega arith

    pub pieces_there : Entries s size k at
    pieces_there = piece_there (numbers (length old)) s base size n first (old, place) (out, to) at (n - left) f.filling k within w.word

    pub pieces_room : to + length (leaf_kept s base size k at) ≤ length out
    pieces_room = piece_room s base size n first old place out at to (n - left) f.filling k within

    pub pieces_next : {new : List ℕ} {r : ℕ} → Filled (leaf_kept s base size k at) out to r new → Piecewise s base size n first old place new (at + size * k) r (left - k)
    pieces_next {new} {r} p =
        let l = f.some in
        record {
          some = omega arith;
          filling = subst (λ (i : ℕ). Filling s base size n first old place new (at + size * k) r i) (omega arith)
              (filling_piece s base size n first old place out at to (n - left) f.filling k within w.word p);
        }

  -- all that is left at once
  module _ (out : List ℕ) (at to left : ℕ) (f : Piecewise s base size n first old place out at to left) {new : List ℕ} {r : ℕ} (p : Filled (leaf_kept s base size left at) out to r new) where
    abbrev last : Piecewise s base size n first old place new (at + size * left) r (left - left)
    last = pieces_next out at to left f left (omega arith) p

    pub pieces_end : Filled (leaf_kept s base size n first) old place r new
    pieces_end = filling_end s base size n first old place new (at + size * left) r (n - (left - left)) last.filling (omega arith)

    pub pieces_long : length new ≡ length old
    pieces_long = filling_long s base size n first old place new (at + size * left) r (n - (left - left)) last.filling

-- what is written, under another name
pub filled_as : {ks old new new' : List ℕ} {place r r' : ℕ} → new' ≡ new → r' ≡ r → Filled ks old place r new → Filled ks old place r' new'
filled_as p q f = record { next = q ∙ f.next; written = p ∙ f.written }

-- one entry that is kept, and one that is dropped
pub put_kept : (v to : ℕ) (out : List ℕ) → v < 4294967296 → Filled (keep v []) out to (to + 1) (set out to v)
put_kept v to out h = rw (keep_kept v h) (record { next = refl; written = refl })

pub put_dropped : (v to : ℕ) (out : List ℕ) → 4294967296 ≤ v → Filled (keep v []) out to to out
put_dropped v to out h = rw (keep_dropped v h) (record { next = sym (add-zero to); written = refl })

-- where none is dropped: the next entry is kept, and none of the others is dropped
module _ (s : List ℕ) (base size n at i : ℕ) (h : i < n) (z : leaf_dropped s base size (n - i) at ≡ 0) where
  first_kept : drop_one (word32 s at + base) ≡ 0
  first_kept = omega (arith, dropped_next s base size (n - i) (n - (i + 1)) at (omega arith))

  whole_first : {v : ℕ} → v ≡ word32 s at → v + base < 4294967296
  whole_first e = rw e (kept_below (word32 s at + base) first_kept)

  whole_rest : leaf_dropped s base size (n - (i + 1)) (at + size) ≡ 0
  whole_rest = omega (arith, dropped_next s base size (n - i) (n - (i + 1)) at (omega arith))

-- so `i` of them take as many places, and of what is left none is dropped
pub record FillingWhole (s : List ℕ) (base size n first : ℕ) (old : List ℕ) (place : ℕ) (out : List ℕ) (i : ℕ) : Type 0 where
  pub filling : Filling s base size n first old place out (first + size * i) (place + i) i
  pub rest : leaf_dropped s base size (n - i) (first + size * i) ≡ 0

-- the next sum fits 32 bits and has a place, and the loop goes on behind it
pub record WholeNext (s : List ℕ) (base size n first : ℕ) (old : List ℕ) (place : ℕ) (out : List ℕ) (i v : ℕ) : Type 0 where
  pub fits : v + base < 4294967296
  pub there : place + i + 1 ≤ length out
  pub next : FillingWhole s base size n first old place (set out (place + i) (v + base)) (i + 1)

module _ (s : List ℕ) (base size n first : ℕ) (old : List ℕ) (place : ℕ) where
  pub whole_start : Entries s size n first → leaf_dropped s base size n first ≡ 0 → place + length (leaf_kept s base size n first) ≤ length old
      → FillingWhole s base size n first old place old 0
  whole_start w z r =
      let e : first + size * 0 ≡ first = omega (arith, mul-zero size) in
      record {
        filling = subst (λ (to : ℕ). Filling s base size n first old place old (first + size * 0) to 0) (omega arith) (filling_start s base size n first old place w r _ e);
        rest = rw (sub-zero, e) z;
      }

  module _ (out : List ℕ) (i : ℕ) where
    pub whole_next : (v : ℕ) → FillingWhole s base size n first old place out i → i < n → v ≡ word32 s (first + size * i) → 4 ≤ size → WholeNext s base size n first old place out i v
    whole_next v f h e w =
        let k : v + base < 4294967296 = whole_first s base size n (first + size * i) i h f.rest e in
        let r = filling_room s base size n first old place out (first + size * i) (place + i) i f.filling h w e in
        let t : first + size * (i + 1) ≡ first + size * i + size = omega (arith, times_next size i) in
        record {
          fits = k;
          there = omega (arith, ap length (keep_kept (v + base) k));
          next = record {
            filling = subst (λ (to : ℕ). Filling s base size n first old place (set out (place + i) (v + base)) (first + size * (i + 1)) to (i + 1)) (omega arith)
                (filling_step s base size n first old place out (first + size * i) (place + i) i f.filling h w e (put_kept (v + base) (place + i) out k) _ t);
            rest = rw t (whole_rest s base size n (first + size * i) i h f.rest);
          };
        }

    pub whole_end : FillingWhole s base size n first old place out i → n ≤ i → Filled (leaf_kept s base size n first) old place (place + n) out
    whole_end f h =
        let l = f.filling.within in
        subst (λ (r : ℕ). Filled (leaf_kept s base size n first) old place r out) (omega arith) (filling_end s base size n first old place out (first + size * i) (place + i) i f.filling h)

-- ---- the loops over entries are called with their size as a constant

pub standing_entries : {s : List ℕ} {p size n : ℕ} → Standing s p size n → Entries s size n (p + 8)
standing_entries x = record { word = x.word; inside = x.entries }

module _ (s : List ℕ) (base size n pos w : ℕ) (e : size ≡ w) where
  pub entries_asks : Entries s size n pos → Entries s w n pos
  entries_asks x = subst (λ (z : ℕ). Entries s z n pos) e x

  pub sized_asks : Sized size → Sized w
  sized_asks x = subst Sized e x

  pub bound_told : (r : ℕ) → Bound s w n pos r → Bound s size n pos r
  bound_told r b = subst (λ (z : ℕ). Bound s z n pos r) (sym e) b

  pub dropped_told : {r : ℕ} → r ≡ leaf_dropped s base w n pos → r ≡ leaf_dropped s base size n pos
  dropped_told q = q ∙ ap (λ (z : ℕ). leaf_dropped s base z n pos) (sym e)

  pub fill_asks : (whole : Bool) (old : List ℕ) (place : ℕ) → Entries s size n pos → Whole s base size n pos whole → place + length (leaf_kept s base size n pos) ≤ length old
      → Entries s w n pos × (Whole s base w n pos whole × (place + length (leaf_kept s base w n pos) ≤ length old))
  fill_asks whole old place x a b =
      subst (λ (z : ℕ). Entries s z n pos × (Whole s base z n pos whole × (place + length (leaf_kept s base z n pos) ≤ length old))) e (x, (a, b))

  pub fill_told : (old : List ℕ) (place : ℕ) {r : ℕ} {new : List ℕ} → Filled (leaf_kept s base w n pos) old place r new
      → Filled (leaf_kept s base size n pos) old place r new
  fill_told old place {r} {new} f = subst (λ (z : ℕ). Filled (leaf_kept s base z n pos) old place r new) (sym e) f
