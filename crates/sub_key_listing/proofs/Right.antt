-- The listing of a key record: its offsets are those of the walk, and bytes are it exactly where the code's tests say so. Assumes nothing.
use mathlib.Core.Path.{◌≡◌, refl, sym, ap, ◌∙◌}
use mathlib.Core.List.{List, [], ◌∷◌, ◌++◌, append_assoc}
use mathlib.Core.Bool.{Bool, true, false, cond, ◌&&◌}
use Prim.Native.Nat.{ℕ, zero, suc, ◌+◌, ◌*◌, ◌≤◌, ◌<◌}
use native.Mathlib.Omega.{arith}
use borrow.Author.Tests.{eqb-true, eq-eqb, ltb-true}
use lib.Dec.{eqb, ltb}
use Rattle.std.specs.Prelude.{Option, Some, is_some}
use lib.ListN.{length, get_or, length-append}
use Rattle.words.specs.Words.{word32, word64}
use Rattle.words.specs.Paper.{Paper, success, refused}
use Rattle.words.proofs.Tests.{both, both_are, test_same, test_false}
use Rattle.writing.specs.Writing.{with_bytes}
use Rattle.writing.proofs.Writing.{with_sets, with_length, with_more}
use Rattle.sub_key_list.specs.Lists.{Listed, list_at}
use Rattle.sub_key_list.specs.Lists as lists
use Rattle.sub_key_list.specs.Leaves.{keep, leaf_kept}
use Rattle.sub_key_walk.specs.Trace.{Event, deep, walk_from, kept_in, kept_of}
use Rattle.sub_key_walk.specs.Walk.{Filled}
use Rattle.sub_key_walk.specs.Free.{All}
use Rattle.sub_key_walk.proofs.Answers.{no_row, kept_some}
use Rattle.sub_key_walk.proofs.Traces.{event_of, trace_all}
use Rattle.cell_key_node.specs.declared.KeyNode.{KeyNode}
use Rattle.sub_key_listing.specs.Listing.{CLOSES, opening, plain, named, listing_of, same, listing_size, offsets_in, wellformed}
use Rattle.sub_key_listing.specs.Answers.{offsets_of}
use Rattle.sub_key_listing.specs.Steps.{opens_with, agreed, agrees, Space, Opens}
use Rattle.sub_key_listing.proofs.Rows.{below-append, same_true, same_is, plain-length, named-length}
use Rattle.sub_key_listing.proofs.Wellformed.{opening-length, made_length, made_base, made_position, made_offsets, formed_made, formed_length}
use Rattle.sub_key_listing.proofs.Comparing.{agreed-row, row-agreed}

-- ---- every offset that a walk keeps fits 32 bits

abbrev Fit : List ℕ → Type 0
Fit ks = (i : ℕ) → get_or ks i 0 < 4294967296

fit_none : Fit []
fit_none i = omega arith

fit_cons : (x : ℕ) (xs : List ℕ) → x < 4294967296 → Fit xs → Fit (x ∷ xs)
fit_cons x xs h f zero = h
fit_cons x xs h f (suc i) = f i

fit_keep : (v : ℕ) (ks : List ℕ) → Fit ks → Fit (keep v ks)
unfolding keep
fit_keep v ks f = go (ltb v 4294967296) refl
  where
    go : (t : Bool) → ltb v 4294967296 ≡ t → Fit (cond t (v ∷ ks) ks)
    go true e = fit_cons v ks (ltb-true v 4294967296 e) f
    go false e = f

fit_leaf : (s : List ℕ) (base size n pos : ℕ) → Fit (leaf_kept s base size n pos)
unfolding leaf_kept
fit_leaf s base size zero pos = fit_none
fit_leaf s base size (suc n) pos = fit_keep (word32 s pos + base) (leaf_kept s base size n (pos + size)) (fit_leaf s base size n (pos + size))

abbrev FitIn : Event → Type 0
FitIn e = Fit (kept_in e)

fit_deep : (p : ℕ) → FitIn (deep p)
unfolding kept_in
fit_deep p = fit_none

fit_at : (s : List ℕ) (base p : ℕ) (h : Paper Listed) → list_at s p ≡ h → FitIn (event_of s base p h)
unfolding kept_in
fit_at s base p (success (lists.leaf k z n)) e = fit_leaf s base z n (p + 8)
fit_at s base p (success (lists.index n)) e = fit_none
fit_at s base p (refused t) e = fit_none

fit_all : (es : List Event) → All FitIn es → Fit (kept_of es)
unfolding All kept_of
fit_all [] a = fit_none
fit_all (e ∷ es) a = below-append 4294967296 (kept_in e) (kept_of es) a.0 (fit_all es a.1)

-- ---- the offsets of a key record

module _ (s : List ℕ) (key : KeyNode) where
  abbrev walk : List ℕ
  walk = kept_of (walk_from s key.base key.sub_keys_list_offset_relative)

  -- where there is one, they are the walk's
  pub offsets_walk : 0 < length (offsets_of s key) → offsets_of s key ≡ walk
  offsets_walk h = ap kept_of (kept_some s key.base key.number_of_sub_keys key.sub_keys_list_offset_relative h)

  pub offsets_fit : Fit (offsets_of s key)
  offsets_fit = go (offsets_of s key) refl
    where
      walks : Fit walk
      walks = fit_all _ (trace_all FitIn s key.base fit_deep (fit_at s key.base) 8 key.sub_keys_list_offset_relative)

      go : (ks : List ℕ) → offsets_of s key ≡ ks → Fit (offsets_of s key)
      go [] e = rw e fit_none
      go (k ∷ ks) e = rw (offsets_walk (let l = ap length e in omega arith)) walks

-- ---- the offsets of a listing beside them

module _ (s : List ℕ) (key : KeyNode) (n : ℕ) (e : n ≡ length (offsets_of s key)) (b : List ℕ) where
  -- none
  pub agree_none : n ≡ 0 → true ≡ agrees b (offsets_of s key)
  unfolding agreed
  agree_none z = ap (agrees b) (sym (no_row (offsets_of s key) (sym e ∙ z)))

  module _ (h : n ≡ 0 → ⊥) where
    some : offsets_of s key ≡ walk s key
    some = offsets_walk s key (omega arith)

    pub agree_room : 28 + 10 * n ≤ length b → Space (walk s key) 18 b
    agree_room r = let l = ap length some in omega arith

    pub agree_some : {p : Option ℕ} → p ≡ agreed b (walk s key) (Some 18) → is_some p ≡ agrees b (offsets_of s key)
    agree_some q = ap is_some q ∙ ap (agrees b) (sym some)

-- ---- and written

module _ (s : List ℕ) (key : KeyNode) (n : ℕ) (e : n ≡ length (offsets_of s key)) (out : List ℕ) where
  pub put-none : n ≡ 0 → Filled (named (offsets_of s key)) out 18 18 out
  unfolding named
  put-none z = rw (no_row (offsets_of s key) (sym e ∙ z)) (record { next = omega arith; written = refl })

  pub put_room : (n ≡ 0 → ⊥) → 28 + 10 * n ≤ length out → 18 + length (named (walk s key)) ≤ length out
  put_room h r = omega (arith, named-length (walk s key), agree_room s key n e out h r)

  pub put_some : (n ≡ 0 → ⊥) → {r : ℕ} {new last : List ℕ} → Filled (named (walk s key)) out 18 r new → last ≡ new → Filled (named (offsets_of s key)) out 18 r last
  put_some h f l = rw (offsets_walk s key (omega arith), l) f

-- ---- bytes that are a listing: whether they are the one of a base, a position and offsets

-- not with another length
pub right_never : (b : List ℕ) (base position : ℕ) (os : List ℕ) → (length b ≡ listing_size (length os) → ⊥) → false ≡ same b (listing_of base position os)
right_never b base position os h =
    sym (test_false (same b (listing_of base position os)) (λ t. h (made_length b base position os (same_true b (listing_of base position os) t))))

module _ (b : List ℕ) (t : wellformed b ≡ true) (base position : ℕ) (os : List ℕ) (l : length b ≡ listing_size (length os)) where
  made : b ≡ listing_of (word32 b 6) (word64 b 10) (offsets_in b (length os) 18)
  made =
      let n = formed_length b t in
      formed_made b t ∙ ap (λ (k : ℕ). listing_of (word32 b 6) (word64 b 10) (offsets_in b k 18)) (omega arith)

  pub right_test : Fit os → {r : Bool} → Opens b base position r → r && agrees b os ≡ same b (listing_of base position os)
  right_test f {r} o = ap (λ (p : Bool). p && agrees b os) o.test ∙ test_same (opens_with b base position && agrees b os) (same b (listing_of base position os)) there back
    where
      there : opens_with b base position && agrees b os ≡ true → same b (listing_of base position os) ≡ true
      there q =
          let p = both (opens_with b base position) (agrees b os) q in
          let h = both (eqb (word32 b 6) base) (eqb (word64 b 10) position) p.0 in
          let x = eqb-true (word32 b 6) base h.0 in
          let y = eqb-true (word64 b 10) position h.1 in
          let z = agreed-row b os 18 p.1 in
          same_is (made ∙ (λ i. listing_of (x i) (y i) (z i)))

      back : same b (listing_of base position os) ≡ true → opens_with b base position && agrees b os ≡ true
      back q =
          let e = same_true b (listing_of base position os) q in
          both_are
          (both_are
          (eq-eqb (word32 b 6) base (made_base b base position os e o.base_fits))
          (eq-eqb (word64 b 10) position (made_position b base position os e o.position_fits)))
          (row-agreed b os 18 (made_offsets b base position os e f))

-- ---- a listing written piece by piece

module _ (old : List ℕ) (base position : ℕ) (os : List ℕ) (h : listing_size (length os) ≤ length old) where
  abbrev opened : List ℕ
  opened = with_bytes old 0 (opening base position)

  opened_length : length opened ≡ length old
  opened_length = let l = opening-length base position in with_length old 0 (opening base position) (omega arith)

  -- behind the opening there is room for the offsets
  pub opened_room : {one : List ℕ} → one ≡ opened → 28 + 10 * length os ≤ length one
  opened_room e = let l = ap length e in omega (arith, opened_length)

  module _ {one two : List ℕ} {at : ℕ} (e : one ≡ opened) (f : Filled (named os) one 18 at two) where
    offsets_put : two ≡ with_bytes old 0 (opening base position ++ named os)
    offsets_put =
        let l = opening-length base position in
        let m = named-length os in
        let k : 18 + length (named os) ≤ length one = omega (arith, opened_room e) in
        let from : 18 ≡ 0 + length (opening base position) = omega arith in
        f.written ∙ sym (with_sets one 18 (named os) k) ∙ (λ i. with_bytes (e i) (from i) (named os))
        ∙ with_more old 0 (opening base position) (named os) (omega arith)

    -- behind the offsets for the close
    pub close_room : at + 10 ≤ length two
    close_room =
        let l = opening-length base position in
        let m = named-length os in
        let n = f.next in
        let k : 0 + length (opening base position ++ named os) ≤ length old = omega (arith, length-append (opening base position) (named os)) in
        omega (arith, ap length offsets_put, with_length old 0 (opening base position ++ named os) k)

    -- and then it is whole
    pub closed_put : {kept : ℕ} {new : List ℕ} → kept ≡ length os → new ≡ with_bytes two at (plain CLOSES kept) → new ≡ with_bytes old 0 (listing_of base position os)
    unfolding listing_of
    closed_put {kept} k c =
        let l = opening-length base position in
        let m = named-length os in
        let p = plain-length CLOSES (length os) in
        let q : length (opening base position ++ named os) ≡ 18 + length (named os) = omega (arith, length-append (opening base position) (named os)) in
        let n = f.next in
        let from : at ≡ 0 + length (opening base position ++ named os) = omega arith in
        c ∙ (λ i. with_bytes (offsets_put i) (from i) (plain CLOSES (k i)))
        ∙ with_more old 0 (opening base position ++ named os) (plain CLOSES (length os)) (omega arith)
        ∙ ap (with_bytes old 0) (append_assoc (opening base position) (named os) (plain CLOSES (length os)))
