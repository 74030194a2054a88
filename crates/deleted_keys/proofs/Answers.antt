-- What the passes make of an image: the answer, and what the buffer holds. Assumes nothing.
use Prim.Native.Nat.{ℕ, ◌+◌, ◌≤◌, ◌<◌}
use mathlib.Core.Path.{◌≡◌, refl, sym, ap, ◌∙◌}
use mathlib.Core.List.{List}
use native.Mathlib.Omega.{arith}
use lib.ListN.{length, take, drop}
use Rattle.words.specs.Refusals.{CUT_SHORT}
use Rattle.words.specs.Paper.{Paper, success, refused, by, told_of_room, on_success}
use Rattle.words.specs.Buffers.{needing, in_room}
use Rattle.words.specs.declared.RoomRefusal.{RoomRefusal}
use Rattle.words.proofs.Papers.{on-refused, on_success_of}
use Rattle.words.proofs.Buffers.{room_full, room_fits, room_refused, answered_refused, answered_success}
use Rattle.deleted_keys.specs.Deleted.{deleted_of, listed_of, row_of, deleted_paper, DeletedAnswered}
use Rattle.deleted_keys.specs.Scan.{keys_in, Scanned}
use Rattle.deleted_keys.proofs.Keys.{cut_short, in_bins}
use Rattle.std.specs.Prelude.{Ok, Err}
use Rattle.std.specs.declared.result.Result.{Result}

module _ (image : List ℕ) (base size : ℕ) (old : List ℕ) where
  -- "Base plus size past the image: 8"
  pub too_short : length image < base + size → (r : Result ℕ RoomRefusal) → deleted_paper r ≡ refused (by CUT_SHORT base) → DeletedAnswered image base size old r old
  unfolding listed_of
  too_short h r e =
      answered_refused e
      (ap (in_room needing (length old)) (on-refused length (cut_short image base size h)) ∙ room_refused needing (length old) _)

  -- the bins are b, and a first pass without room gave r
  module _ (fits : base + size ≤ length image) (b : List ℕ) (part : b ≡ take size (drop base image))
      {r : Result ℕ RoomRefusal} {mid : List ℕ} (first : Scanned image base b 0 old r mid) where
    -- which changed nothing, and told all but the room
    same : mid ≡ old
    same = first.none refl

    told : listed_of image base size (length old) ≡ in_room needing (length old) (deleted_paper r)
    unfolding listed_of
    told = ap (λ (a : Paper (List ℕ)). in_room needing (length old) (on_success length a)) (in_bins image base size fits b part) ∙ ap (in_room needing (length old)) (sym first.answer)

    pub bins_refused : {f : RoomRefusal} → r ≡ Err f → {a : Result ℕ RoomRefusal} → a ≡ Err f → DeletedAnswered image base size old a mid
    bins_refused {f} e q =
        rw same
        (answered_refused (ap deleted_paper q) (told ∙ ap (λ (a : Result ℕ RoomRefusal). in_room needing (length old) (deleted_paper a)) e ∙ room_refused needing (length old) (told_of_room f)))

    module _ {n : ℕ} (e : r ≡ Ok n) where
      counted : listed_of image base size (length old) ≡ in_room needing (length old) (success n)
      counted = told ∙ ap (λ (a : Result ℕ RoomRefusal). in_room needing (length old) (deleted_paper a)) e

      pub no_room : length mid < n → (a : Result ℕ RoomRefusal) → deleted_paper a ≡ refused (needing n) → DeletedAnswered image base size old a mid
      no_room h a q = rw same (answered_refused q (counted ∙ room_full needing (length old) n (rw same at h)))

      -- and a second pass with room for all
      pub lists : n ≤ length mid → {a : Result ℕ RoomRefusal} {new : List ℕ} → Scanned image base b n mid a new → DeletedAnswered image base size old a new
      lists h {a} {new} second =
          let k = on_success_of length (keys_in image base b) (sym first.answer ∙ ap deleted_paper e) in
          let ks = k.0 in
          let row : row_of (deleted_of image base size) ≡ ks = ap row_of (in_bins image base size fits b part ∙ k.1) in
          answered_success {v = n}
          (second.answer ∙ sym first.answer ∙ ap deleted_paper e)
          (counted ∙ room_fits needing (length old) n (rw same at h))
          (second.all ks k.1 (omega (arith, k.2)) ∙ rw (row, same))
