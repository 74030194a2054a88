-- Document 02, order 12, of any answers that the promises allow. Assumes nothing.
use mathlib.Core.Path.{◌≡◌, refl, sym, ap, ◌∙◌}
use mathlib.Core.List.{List, ◌++◌}
use mathlib.Core.Bool.{Bool, true, false, cond, false≢true}
use Prim.Native.Nat.{ℕ, ◌<◌}
use native.Mathlib.Omega.{arith}
use lib.ListN.{length, take, drop}
use lib.Seq.{take_at}
use Rattle.words.specs.Words.{Bytes}
use Rattle.words.specs.Refusals.{BAD_RECORD, NOT_THE_LIST}
use Rattle.words.specs.Paper.{Told, Paper, success, refused, by, on_success, then_by}
use Rattle.words.proofs.Tests.{test_false}
use Rattle.words.proofs.Every.{Every, every_success, every_refused, every_cond, every_by}
use Rattle.words.proofs.Papers.{success-refused, refused-success, same-success, same-told, by_next, by-refused, by_success_of, on-success, on-refused, on_success_of}
use Rattle.words.specs.Buffers.{in_room}
use Rattle.words.proofs.Buffers.{room_full, room_fits, room_refused, room_success, untouched, filled}
use Rattle.sub_key_walk.specs.declared.Counts.{Counts}
use Rattle.sub_key_walk.specs.Judge.{counts}
use Rattle.sub_key_walk.specs.Answers.{measured, full_of, walk_told, walk_paper}
use Rattle.sub_key_walk.proofs.Papers.{paper_injective}
use Rattle.sub_key_walk.proofs.Most.{kept_most}
use Rattle.cell_key_node.specs.declared.KeyNode.{KeyNode}
use Rattle.key_in_place.specs.Place.{is_in_place, behind}
use Rattle.key_in_place.specs.Answers.{measured_of}
use Rattle.key_in_place.proofs.Behind.{behind-success}
use Rattle.key_in_place.proofs.Never.{Not, walk_never}
use Rattle.sub_key_listing.specs.Listing.{same, wellformed}
use Rattle.sub_key_listing.specs.Answers.{offsets_of, right_listing, compared, checked_of, check_paper, written_of, full_listing, write_paper, writing_of, WriteAnswered}
use Rattle.sub_key_listing.specs.Demands.{TheWalks, Checked, Wrote}
use Rattle.sub_key_listing.specs.declared.Written.{Written}
use Rattle.sub_key_listing.proofs.Rows.{same_true, same_is}
use Rattle.sub_key_listing.proofs.Wellformed.{listing_length, listing_formed, listing_bytes, well_formed}
use Rattle.sub_key_listing.proofs.Answers.{kept_counted, kept_number, compared_same, compared_other, checked_malformed, checked_formed}
use Rattle.sub_key_listing.proofs.Papers.{check_injective, write_injective}
use Rattle.std.specs.Prelude.{Ok, Err}
use Rattle.std.specs.declared.result.Result.{Result}
use Rattle.sub_key_walk.specs.declared.WalkRefusal.{WalkRefusal}
use Rattle.sub_key_listing.specs.declared.WriteRefusal.{WriteRefusal}

-- ---- no walk is refused by 22 or by 23

never : (n : ℕ) → 21 < n → (s : List ℕ) (key : KeyNode) (budget : ℕ) → Every (Not n) (measured_of s key budget)
unfolding behind
never n h s key budget =
    every_cond (Not n) (is_in_place s key)
    (walk_never n (omega arith) s key.base key.number_of_sub_keys key.sub_keys_list_offset_relative budget)
    (every_refused (Not n) (λ m. omega arith))

-- ---- the offsets

pub the_walks : (s : List ℕ) (key : KeyNode) → TheWalks s key
the_walks s key budget old new v t x e =
    let q = ap walk_paper e in
    let m = behind-success s key _ (sym x.answer ∙ q) in
    let f = room_success full_of (length old) (measured s key.base key.number_of_sub_keys key.sub_keys_list_offset_relative budget) t m in
    ap (take t.kept) (filled x q) ∙ take_at (offsets_of s key) (drop (length (offsets_of s key)) old) t.kept (sym (kept_counted s key budget t f.0))

-- ---- checking

module _ (s : List ℕ) (bytes : Bytes s) (key : KeyNode) (budget : ℕ) where
  -- a walk that succeeds keeps few enough for a closing number
  few : (t : Counts) → measured_of s key budget ≡ success t → length (offsets_of s key) < 4294967296
  few t e =
      let m = kept_most s bytes key.base key.number_of_sub_keys key.sub_keys_list_offset_relative budget t (behind-success s key _ e) in
      omega (arith, kept_number s key budget t e)

  -- the record's listing is accepted
  pub right_accepted : (listing : List ℕ) → Bytes listing → listing ≡ right_listing s key → (t : Counts) → measured_of s key budget ≡ success t
      → checked_of s key budget listing ≡ success t
  right_accepted listing b e t q =
      checked_formed s key budget listing (listing_formed listing b key.base key.position (offsets_of s key) e (few t q))
      ∙ by_next (compared listing (right_listing s key)) q ∙ compared_same listing (right_listing s key) t (same_is e)

module _ (s : List ℕ) (key : KeyNode) (budget : ℕ) (listing : List ℕ) where
  -- what is not 22 is the answer behind it
  by_form : (t : Bool) → wellformed listing ≡ t → checked_of s key budget listing ≡ cond t (then_by (measured_of s key budget) (compared listing (right_listing s key))) (refused (by BAD_RECORD 0))
  by_form true e = checked_formed s key budget listing e
  by_form false e = checked_malformed s key budget listing e

  accepted_only : (t : Counts) → checked_of s key budget listing ≡ success t → (measured_of s key budget ≡ success t) × (listing ≡ right_listing s key)
  accepted_only t q = go (wellformed listing) refl
    where
      last : (u : Counts) (y : Bool) → same listing (right_listing s key) ≡ y → compared listing (right_listing s key) u ≡ success t
          → (u ≡ t) × (listing ≡ right_listing s key)
      last u true e z = (same-success (sym (compared_same listing (right_listing s key) u e) ∙ z), same_true listing (right_listing s key) e)
      last u false e z = absurd (refused-success (sym (compared_other listing (right_listing s key) u e) ∙ z))

      go : (y : Bool) → wellformed listing ≡ y → (measured_of s key budget ≡ success t) × (listing ≡ right_listing s key)
      go true e =
          let p = by_success_of (compared listing (right_listing s key)) (measured_of s key budget) (sym (by_form true e) ∙ q) in
          let z = last p.0 (same listing (right_listing s key)) refl p.2 in
          (p.1 ∙ ap success z.0, z.1)
      go false e = absurd (refused-success (sym (by_form false e) ∙ q))

  -- a listing is never refused by 22, and by 23 only where the walk succeeds and the two differ
  formed_not_22 : wellformed listing ≡ true → checked_of s key budget listing ≡ refused (by BAD_RECORD 0) → ⊥
  unfolding compared
  formed_not_22 e q =
      every_by (Not BAD_RECORD) (measured_of s key budget) (compared listing (right_listing s key)) (never BAD_RECORD (omega arith) s key budget)
      (λ u. every_cond (Not BAD_RECORD) (same listing (right_listing s key)) (every_success (Not BAD_RECORD) u) (every_refused (Not BAD_RECORD) (λ m. omega arith)))
      (by BAD_RECORD 0) (sym (by_form true e) ∙ q) refl

  other_only : checked_of s key budget listing ≡ refused (by NOT_THE_LIST 0)
      → (wellformed listing ≡ true) × ((t : Counts) × (measured_of s key budget ≡ success t)) × (listing ≡ right_listing s key → ⊥)
  other_only q = go (wellformed listing) refl
    where
      last : (u : Counts) (y : Bool) → same listing (right_listing s key) ≡ y → compared listing (right_listing s key) u ≡ refused (by NOT_THE_LIST 0)
          → listing ≡ right_listing s key → ⊥
      last u true e z d = success-refused (sym (compared_same listing (right_listing s key) u e) ∙ z)
      last u false e z d = false≢true (sym e ∙ same_is d)

      inner : (a : Paper Counts) → measured_of s key budget ≡ a → then_by a (compared listing (right_listing s key)) ≡ refused (by NOT_THE_LIST 0)
          → ((t : Counts) × (measured_of s key budget ≡ success t)) × (listing ≡ right_listing s key → ⊥)
      inner (success u) e z = ((u, e), last u (same listing (right_listing s key)) refl (sym (by_next (compared listing (right_listing s key)) refl) ∙ z))
      inner (refused f) e z =
          absurd (never NOT_THE_LIST (omega arith) s key budget f e (ap (λ (t : Told). t.number) (same-told (sym (by-refused (compared listing (right_listing s key)) refl) ∙ z))))

      go : (y : Bool) → wellformed listing ≡ y → (wellformed listing ≡ true) × ((t : Counts) × (measured_of s key budget ≡ success t)) × (listing ≡ right_listing s key → ⊥)
      go true e = let p = inner (measured_of s key budget) refl (sym (by_form true e) ∙ q) in (e, p.0, p.1)
      go false e = absurd (let z : BAD_RECORD ≡ NOT_THE_LIST = ap (λ (t : Told). t.number) (same-told (sym (by_form false e) ∙ q)) in omega arith)

-- of any answers for an image and a listing, which are bytes
module _ (s : List ℕ) (bytes : Bytes s) (key : KeyNode) (budget : ℕ) (w : (Result Counts WalkRefusal)) (k : walk_paper w ≡ measured_of s key budget) where
  read : (t : Counts) → measured_of s key budget ≡ success t → w ≡ Ok t
  read t q = paper_injective w (Ok t) (k ∙ q)

  module _ (listing : List ℕ) (b : Bytes listing) (r : (Result Counts WalkRefusal)) (x : check_paper r ≡ checked_of s key budget listing) where
    pub checked : Checked s key budget listing w r
    checked = record {
      accepted = λ t. (
        λ e. let p = accepted_only s key budget listing t (sym x ∙ ap check_paper e) in (read t p.0, p.1),
        λ e. check_injective r (Ok t) (x ∙ right_accepted s bytes key budget listing b e.1 t (sym k ∙ ap walk_paper e.0)),
      );
      bad_record = (
        λ e f. formed_not_22 s key budget listing ((well_formed listing b).1 f) (sym x ∙ e),
        λ h. x ∙ checked_malformed s key budget listing (test_false (wellformed listing) (λ t. h ((well_formed listing b).0 t))),
      );
      walk_refused = λ f g e.
          check_injective r (Err g)
          (x ∙ checked_formed s key budget listing ((well_formed listing b).1 f) ∙ by-refused (compared listing (right_listing s key)) (sym k ∙ ap walk_paper e));
      not_the_list = (
        λ e. let p = other_only s key budget listing (sym x ∙ e) in ((well_formed listing b).0 p.0, (p.1.0, read p.1.0 p.1.1), p.2),
        λ e.
            x ∙ checked_formed s key budget listing ((well_formed listing b).1 e.0)
            ∙ by_next (compared listing (right_listing s key)) (sym k ∙ ap walk_paper e.1.1)
            ∙ compared_other listing (right_listing s key) e.1.0 (test_false (same listing (right_listing s key)) (λ t. e.2 (same_true listing (right_listing s key) t))),
      );
    }

  -- ---- writing

  module _ (old new : List ℕ) (r : (Result Written WriteRefusal)) (x : WriteAnswered s key budget old r new) where
    right_is : (t : Counts) → w ≡ Ok t → writing_of s key budget (length old) ≡ in_room full_listing (length old) (success (written_of t))
    right_is t e = ap (in_room full_listing (length old)) (on-success written_of (sym k ∙ ap walk_paper e))

    -- a success is one of the walk, and fits
    success_of : (v : Written) → r ≡ Ok v → (t : Counts) × (measured_of s key budget ≡ success t) × (written_of t ≡ v)
    success_of v e =
        on_success_of written_of (measured_of s key budget) (room_success full_listing (length old) (on_success written_of (measured_of s key budget)) v (sym x.answer ∙ ap write_paper e)).0

    whole_length : (v : Written) → r ≡ Ok v → v.bytes ≡ length (right_listing s key)
    whole_length v e =
        let p = success_of v e in
        let n = kept_number s key budget p.0 p.1 in
        let m = ap (λ (u : Written). u.bytes) p.2 in
        omega (arith, listing_length key.base key.position (offsets_of s key))

    whole_buffer : (v : Written) → r ≡ Ok v → new ≡ right_listing s key ++ drop (length (right_listing s key)) old
    whole_buffer v e = filled x (ap write_paper e)

    pub wrote : Wrote s key budget old w r new
    wrote = record {
      walk_refused = λ f e.
          x.answer ∙ ap (in_room full_listing (length old)) (on-refused written_of (sym k ∙ ap walk_paper e)) ∙ room_refused full_listing (length old) (walk_told f);
      no_room = λ t e h. x.answer ∙ right_is t e ∙ room_full full_listing (length old) (written_of t) h;
      room = λ t e h. write_injective r (Ok (written_of t)) (x.answer ∙ right_is t e ∙ room_fits full_listing (length old) (written_of t) h);
      untouched = λ f e. untouched x (ap write_paper e);
      written = λ v e. (whole_length v e, whole_buffer v e ∙ ap (λ (n : ℕ). right_listing s key ++ drop n old) (sym (whole_length v e)));
      accepted = λ v e c y.
          let p = success_of v e in
          let l = ap (take v.bytes) (whole_buffer v e) ∙ take_at (right_listing s key) (drop (length (right_listing s key)) old) v.bytes (sym (whole_length v e)) in
          let q = y ∙ ap (checked_of s key budget) l ∙ right_accepted s bytes key budget (right_listing s key) (listing_bytes key.base key.position (offsets_of s key)) refl p.0 p.1 in
          check_injective c (Ok (counts v.kept v.lists v.entries v.dropped))
          (q ∙ ap (λ (u : Written). success (counts u.kept u.lists u.entries u.dropped)) p.2);
    }
