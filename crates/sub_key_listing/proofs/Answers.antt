-- The answers of the two functions, from what their code has found. Assumes nothing.
use mathlib.Core.Path.{◌≡◌, refl, sym, ap, ◌∙◌}
use mathlib.Core.List.{List}
use mathlib.Core.Bool.{Bool, true, false}
use Prim.Native.Nat.{ℕ, ◌≤◌, ◌<◌}
use lib.ListN.{length}
use Rattle.words.specs.Refusals.{BAD_RECORD, NOT_THE_LIST}
use Rattle.std.specs.Result.{IsErr, IsErrAnd}
use Rattle.words.specs.Paper.{Told, Paper, success, refused, by, on_success, then_by}
use Rattle.words.specs.Buffers.{in_room}
use Rattle.words.proofs.Papers.{by_next, by-refused, on-success, on-refused}
use Rattle.words.proofs.Buffers.{room_full, room_fits, room_refused, answered_refused, answered_success}
use Rattle.writing.specs.Writing.{with_bytes}
use Rattle.writing.proofs.Writing.{with_front}
use Rattle.sub_key_walk.specs.Trace.{walk_from}
use Rattle.sub_key_walk.specs.Answers.{measured, walk_told}
use Rattle.sub_key_walk.specs.declared.Counts.{Counts}
use Rattle.sub_key_walk.specs.declared.WalkRefusal.{WalkRefusal}
use Rattle.sub_key_walk.proofs.Answers.{measured-counts}
use Rattle.cell_key_node.specs.declared.KeyNode.{KeyNode}
use Rattle.key_in_place.specs.Answers.{measured_of}
use Rattle.key_in_place.proofs.Behind.{behind-success}
use Rattle.sub_key_listing.specs.Listing.{same, wellformed}
use Rattle.sub_key_listing.specs.Answers.{offsets_of, right_listing, compared, checked_of, written_of, full_listing, write_told, write_paper, writing_of, WriteAnswered}
use Rattle.sub_key_listing.specs.declared.Written.{Written}
use Rattle.std.specs.Prelude.{Ok, Err}
use Rattle.std.specs.declared.result.Result.{Result}
use Rattle.sub_key_listing.specs.declared.WriteRefusal.{WriteRefusal}

-- ---- a walk that succeeds keeps as many offsets as it counts

module _ (s : List ℕ) (key : KeyNode) (budget : ℕ) (t : Counts) where
  pub kept_counted : measured s key.base key.number_of_sub_keys key.sub_keys_list_offset_relative budget ≡ success t → t.kept ≡ length (offsets_of s key)
  kept_counted e =
      ap (λ (c : Counts). c.kept)
      (measured-counts key.number_of_sub_keys budget (walk_from s key.base key.sub_keys_list_offset_relative) t e)

  pub kept_number : measured_of s key budget ≡ success t → t.kept ≡ length (offsets_of s key)
  kept_number e =
      kept_counted (behind-success s key (measured s key.base key.number_of_sub_keys key.sub_keys_list_offset_relative budget) e)

-- ---- checking

module _ (b right : List ℕ) (c : Counts) where
  pub compared_same : same b right ≡ true → compared b right c ≡ success c
  unfolding compared
  compared_same e = simp e

  pub compared_other : same b right ≡ false → compared b right c ≡ refused (by NOT_THE_LIST 0)
  unfolding compared
  compared_other e = simp e

module _ (s : List ℕ) (key : KeyNode) (budget : ℕ) (b : List ℕ) where
  pub checked_malformed : wellformed b ≡ false → checked_of s key budget b ≡ refused (by BAD_RECORD 0)
  unfolding checked_of
  checked_malformed e = simp e

  pub checked_formed : wellformed b ≡ true → checked_of s key budget b ≡ then_by (measured_of s key budget) (compared b (right_listing s key))
  unfolding checked_of
  checked_formed e = simp e

  pub check_bad : {t : Bool} → t ≡ wellformed b → t ≡ false → refused (by BAD_RECORD 0) ≡ checked_of s key budget b
  check_bad e f = sym (checked_malformed (sym e ∙ f))

  module _ {t : Bool} (e : t ≡ wellformed b) (f : t ≡ true) where
    formed : checked_of s key budget b ≡ then_by (measured_of s key budget) (compared b (right_listing s key))
    formed = checked_formed (sym e ∙ f)

    pub check_refused : {u : Told} → refused u ≡ measured_of s key budget → refused u ≡ checked_of s key budget b
    check_refused k = sym (by-refused (compared b (right_listing s key)) (sym k)) ∙ sym formed

    module _ {c : Counts} (k : success c ≡ measured_of s key budget) where
      next : checked_of s key budget b ≡ compared b (right_listing s key) c
      next = formed ∙ by_next (compared b (right_listing s key)) (sym k)

      module _ {r : Bool} (d : r ≡ same b (right_listing s key)) where
        pub check_other : r ≡ false → refused (by NOT_THE_LIST 0) ≡ checked_of s key budget b
        check_other g = sym (next ∙ compared_other b (right_listing s key) c (sym d ∙ g))

        pub check_accepted : r ≡ true → success c ≡ checked_of s key budget b
        check_accepted g = sym (next ∙ compared_same b (right_listing s key) c (sym d ∙ g))

-- ---- writing

-- what a `?` makes of a refusal of the walk
pub refusal_of : (r : Result Written WriteRefusal) (f : WalkRefusal) → IsErr r × IsErrAnd r (λ g. write_told g ≡ walk_told f) → write_paper r ≡ refused (walk_told f)
refusal_of (Ok v) f h = absurd h.1
refusal_of (Err g) f h = ap refused h.1

module _ (s : List ℕ) (key : KeyNode) (budget : ℕ) (old : List ℕ) where
  given : {a : Paper Counts} → a ≡ measured_of s key budget → writing_of s key budget (length old) ≡ in_room full_listing (length old) (on_success written_of a)
  given k = ap (λ (a : Paper Counts). in_room full_listing (length old) (on_success written_of a)) (sym k)

  pub write_refused : {u : Told} → refused u ≡ measured_of s key budget → (r : Result Written WriteRefusal) → write_paper r ≡ refused u → WriteAnswered s key budget old r old
  write_refused {u} k r e =
      answered_refused e
      (given k ∙ ap (in_room full_listing (length old)) (on-refused written_of refl) ∙ room_refused full_listing (length old) u)

  module _ {c : Counts} (k : success c ≡ measured_of s key budget) {whole : Written} (d : whole ≡ written_of c) where
    here : writing_of s key budget (length old) ≡ in_room full_listing (length old) (success whole)
    here =
        given k ∙ ap (in_room full_listing (length old)) (on-success written_of refl) ∙ ap (λ (v : Written). in_room full_listing (length old) (success v)) (sym d)

    pub write_full : length old < whole.bytes → (f : WriteRefusal) → write_told f ≡ full_listing whole → WriteAnswered s key budget old (Err f) old
    write_full h f e = answered_refused (ap refused e) (here ∙ room_full full_listing (length old) whole h)

    pub write_written : whole.bytes ≤ length old → {new : List ℕ} → new ≡ with_bytes old 0 (right_listing s key) → WriteAnswered s key budget old (Ok whole) new
    write_written h e = answered_success refl (here ∙ room_fits full_listing (length old) whole h) (e ∙ with_front old (right_listing s key))
