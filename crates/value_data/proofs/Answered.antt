-- What an answer says, of the answer itself: what was copied, and when it is refused for want of room. Assumes nothing.
use Prim.{tt}
use mathlib.Core.Path.{◌≡◌, refl, sym, ap, subst, ◌∙◌}
use mathlib.Core.List.{List, [], ◌∷◌, ◌++◌}
use mathlib.Core.Bool.{Bool, true, false, not}
use Prim.Native.Nat.{ℕ, ◌+◌, ◌≤◌, ◌<◌}
use native.Mathlib.Omega.{arith}
use lib.Dec.{ltb, eqb}
use lib.ListN.{length, take, drop}
use lib.Seq.{take_at, drop_at}
use borrow.Author.Tests.{lt-leb}
use Rattle.words.specs.Paper.{Told, Paper, success, refused, on_success}
use Rattle.words.specs.Refusals.{OUTSIDE, NO_ROOM, BAD_DATA, BAD_SIGN, CUT_SHORT}
use Rattle.words.specs.Buffers.{needing}
use Rattle.words.specs.declared.RoomRefusal.{RoomRefusal}
use Rattle.words.proofs.Papers.{on_success_of}
use Rattle.words.proofs.Plain.{Plainly, plainly_success, plainly_refused, plainly_by, plainly_cond, plainly_then, plainly_on}
use Rattle.words.proofs.Buffers.{room_success, full_of_lem, untouched, filled}
use Rattle.cell.specs.Cells.{Cell, held, too_small, magnitude_at, bytes_left, cell_at}
use Rattle.cell_big_data.specs.Big.{is_big_data_block}
use Rattle.words.specs.Words.{word16}
use Rattle.value_data.specs.Pieces.{Piece, piece, sized, holds, judged}
use Rattle.value_data.specs.Data.{TOP_BIT, is_resident, size_of, Source, field, pieces, segments_needed, big_head, big_in, big_at, list_of, list_piece, segments_at, from_list, in_segments, is_big, source_of}
use Rattle.value_data.specs.Answers.{bytes_from, data_of, data_bytes, data_in, DataAnswered}
use Rattle.value_data.specs.Whole.{MadeOf, WasCopied, WasRefused, FromPieces}
use Rattle.value_data.proofs.Whole.{made, row-length}
use Rattle.std.specs.Prelude.{Ok, Err}
use Rattle.words.specs.Paper.{number_of}

module _ (image : List ℕ) (base minor raw offset : ℕ) (old new : List ℕ) where
  -- where bytes were copied, the data was found
  pub found : {n : ℕ} → DataAnswered image base minor raw offset old (Ok n) new
      → (n ≤ length old) × ((s : Source) × (data_of image base minor raw offset ≡ success s) × (size_of raw ≡ n))
  unfolding data_in
  found {n} x =
      let r = room_success needing (length old) (on_success (λ s. size_of raw) (data_of image base minor raw offset)) n (sym x.answer) in
      (r.1, on_success_of (λ s. size_of raw) (data_of image base minor raw offset) r.0)

  pub copied : (n : ℕ) → DataAnswered image base minor raw offset old (Ok n) new → WasCopied image base minor raw offset old new n
  unfolding data_bytes data_of
  copied n x =
      let y = found x in
      let s : Source = y.1.0 in
      let e = y.1.1 in
      let z = y.1.2 in
      let ks : List ℕ = data_bytes image base minor raw offset in
      let long : length ks ≡ n = rw e (row-length image base minor (size_of raw) offset (is_resident raw) s e ∙ z) in
      let w : new ≡ ks ++ drop n old = filled x refl ∙ ap (λ (k : ℕ). ks ++ drop k old) long in
      record {
        size = sym z;
        room = y.0;
        row = ap (take n) w ∙ take_at ks (drop n old) n long;
        bytes = long;
        behind = ap (drop n) w ∙ drop_at ks (drop n old) n long;
      }

-- ---- where the top bit is not set the data is a row of pieces

pub from_pieces : FromPieces
unfolding data_of data_bytes
from_pieces image base minor raw offset old new n t x =
    let y = found image base minor raw offset old new x in
    let c = copied image base minor raw offset old new n x in
    let e = y.1.1 in
    let r : is_resident raw ≡ false = lt-leb TOP_BIT raw t in
    let m = made image base minor (size_of raw) offset (rw r at e) in
    (m.0, subst (λ (k : ℕ). MadeOf image k m.0) y.1.2 m.2, c.row ∙ rw e (ap (bytes_from image (size_of raw) offset) m.1))

-- ---- no refusal of the data itself is NO ROOM

cell-plain : (image : List ℕ) (p least : ℕ) → Plainly (cell_at image p least)
unfolding cell_at
cell-plain image p least =
    plainly_cond (ltb (length image) p) (plainly_by OUTSIDE p (omega arith))
    (plainly_cond (ltb (bytes_left image p) 4) (plainly_by CUT_SHORT p (omega arith))
    (plainly_cond (ltb (bytes_left image p) (magnitude_at image p)) (plainly_by CUT_SHORT p (omega arith))
    (plainly_cond (ltb (magnitude_at image p) least) (plainly_success _) (plainly_success _))))

sized-plain : (a : Paper Cell) → Plainly a → Plainly (sized a)
sized-plain (success (held z)) p = plainly_success tt
sized-plain (success (too_small z)) p = plainly_by BAD_DATA 0 (omega arith)
sized-plain (refused u) p = plainly_refused (p u refl)

judged-plain : (image : List ℕ) (qs : List Piece) → Plainly (judged image qs)
unfolding judged holds
judged-plain image [] = plainly_success tt
judged-plain image (q ∷ qs) = plainly_then (holds image q) (sized-plain (cell_at image q.cell (4 + q.long)) (cell-plain image q.cell (4 + q.long))) (judged-plain image qs)

head_plain : (image : List ℕ) (p n : ℕ) (large : Bool) → Plainly (big_head image p n large)
unfolding big_head
head_plain image p n large =
    plainly_cond (ltb (length (drop p image)) 12) (plainly_by CUT_SHORT p (omega arith))
    (plainly_cond (not (is_big_data_block (drop p image))) (plainly_by BAD_SIGN p (omega arith))
    (plainly_cond (not large) (plainly_by BAD_DATA 0 (omega arith))
    (plainly_cond (not (eqb (word16 (drop p image) 6) n)) (plainly_by BAD_DATA 0 (omega arith)) (plainly_success tt))))

big_plain : (image : List ℕ) (p n : ℕ) → Plainly (big_at image p n)
unfolding big_at
big_plain image p n = go (cell_at image p 12) (cell-plain image p 12)
  where
    go : (a : Paper Cell) → Plainly a → Plainly (big_in image p n a)
    go (success (held z)) q = head_plain image p n true
    go (success (too_small z)) q = head_plain image p n false
    go (refused u) q = plainly_refused (q u refl)

source_plain : (image : List ℕ) (base minor : ℕ) (resident : Bool) (size offset : ℕ) → Plainly (source_of image base minor resident size offset)
unfolding source_of in_segments from_list holds
source_plain image base minor resident size offset =
    plainly_cond resident (plainly_cond (ltb 4 size) (plainly_by BAD_DATA 0 (omega arith)) (plainly_success field))
    (plainly_cond (eqb size 0) (plainly_success (pieces []))
    (plainly_cond (is_big minor size)
    (plainly_then (big_at image (offset + base) (segments_needed size)) (big_plain image (offset + base) (segments_needed size))
    (plainly_then (holds image (list_piece (list_of image base (offset + base)) size)) (sized-plain _ (cell-plain image _ _)) (plainly_on _ (judged image (segments_at image base (list_of image base (offset + base)) size)) (judged-plain image _))))
    (plainly_on _ (judged image (piece (offset + base) size ∷ [])) (judged-plain image _))))

module _ (image : List ℕ) (base minor raw offset : ℕ) (old new : List ℕ) where
  -- where it is refused for want of room, the data was found
  found-full : (f : RoomRefusal) → DataAnswered image base minor raw offset old (Err f) new → number_of f.reason ≡ NO_ROOM
      → (f.position ≡ 0) × (f.places ≡ size_of raw) × (length old < size_of raw) × ((s : Source) × (data_of image base minor raw offset ≡ success s))
  unfolding data_in data_of
  found-full f x n =
      let a : Paper Source = data_of image base minor raw offset in
      let p = source_plain image base minor (is_resident raw) (size_of raw) offset in
      let y = full_of_lem needing (length old) (on_success (λ s. size_of raw) a) (plainly_on _ a p) (sym x.answer) n in
      let z = on_success_of (λ s. size_of raw) a y.1 in
      let k : y.0 ≡ size_of raw = sym z.2 in
      let l : length old < y.0 = y.3 in
      (sym (ap (λ (u : Told). u.position) y.2), sym (ap (λ (u : Told). u.places) y.2) ∙ k, omega arith, (z.0, z.1))

  pub was_refused : (f : RoomRefusal) → DataAnswered image base minor raw offset old (Err f) new → WasRefused image base minor raw offset old new f
  was_refused f x = record { untouched = untouched x refl; no_room = found-full f x }
