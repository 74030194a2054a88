-- A value's data in a lent buffer: one law for each way in which it is answered. Assumes nothing.
use mathlib.Core.Path.{◌≡◌, refl, sym, ap, ◌∙◌}
use mathlib.Core.List.{List}
use Prim.Native.Nat.{ℕ, ◌≤◌, ◌<◌}
use lib.ListN.{length}
use Rattle.words.specs.Paper.{Paper, success, refused, told}
use Rattle.words.specs.declared.Reason.TheVariants.{NoRoom}
use Rattle.words.specs.Buffers.{needing, in_room}
use Rattle.writing.specs.Writing.{with_bytes}
use Rattle.words.specs.declared.Refusal.{Refusal}
use Rattle.words.proofs.Papers.{on-success, on-refused}
use Rattle.words.proofs.Buffers.{room_full, room_fits, room_refused, answered_refused, answered_success}
use Rattle.writing.proofs.Writing.{with_front}
use Rattle.value_data.specs.Data.{Source, size_of}
use Rattle.value_data.specs.Answers.{bytes_from, data_of, data_bytes, data_in, DataAnswered}
use Rattle.std.specs.Prelude.{Ok, Err}

module _ (image : List ℕ) (base minor raw offset : ℕ) (old : List ℕ) where
  abbrev found : Paper Source
  found = data_of image base minor raw offset

  pub data_refused :
      (f : Refusal) → refused (told f) ≡ found
      → DataAnswered image base minor raw offset old (Err (record { reason = f.reason; position = f.position; places = 0 })) old
  unfolding data_in
  data_refused f e =
      answered_refused refl (ap (in_room needing (length old)) (on-refused (λ s. size_of raw) (sym e)) ∙ room_refused needing (length old) (told f))

  module _ (s : Source) (e : success s ≡ found) where
    pub data_full :
        length old < size_of raw
        → DataAnswered image base minor raw offset old (Err (record { reason = NoRoom; position = 0; places = size_of raw })) old
    unfolding data_in
    data_full h =
        answered_refused refl
        (ap (in_room needing (length old)) (on-success (λ z. size_of raw) (sym e)) ∙ room_full needing (length old) (size_of raw) h)

    pub data_copied :
        {new : List ℕ} → size_of raw ≤ length old → new ≡ with_bytes old 0 (bytes_from image (size_of raw) offset s)
        → DataAnswered image base minor raw offset old (Ok (size_of raw)) new
    unfolding data_in data_bytes
    data_copied h w =
        answered_success refl
        (ap (in_room needing (length old)) (on-success (λ z. size_of raw) (sym e)) ∙ room_fits needing (length old) (size_of raw) h)
        (w ∙ rw (← e) (with_front old (bytes_from image (size_of raw) offset s)))
