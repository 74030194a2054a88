-- What an auditor reads of a value's data, with no word of how it is found: what was copied, of which pieces it is made, and where
-- the limits lie. Proved in proofs/Whole.antt, proofs/Answered.antt and proofs/Limits.antt.
use Prim.{tt}
use Rattle.std.specs.Prelude.{ℕ, ◌+◌, ◌*◌, ◌≤◌, ◌<◌, ◌≡◌, ◌↔◌, List, [], ◌∷◌, ◌++◌, true, false, length, get_or, take, drop}
use Rattle.words.specs.Words.{byte_at}
use Rattle.words.specs.Paper.{Told, success, refused, by}
use Rattle.words.specs.Refusals.{BAD_DATA, NO_ROOM}
use Rattle.words.specs.declared.RoomRefusal.{RoomRefusal}
use Rattle.cell.specs.Cells.{magnitude_at}
use Rattle.cell_key_value.specs.Value.{value_at}
use Rattle.cell_key_value.specs.declared.KeyValue.{KeyValue}
use Rattle.value_data.specs.Pieces.{Piece, piece, joined, holds, judged, SEGMENT}
use Rattle.value_data.specs.Data.{TOP_BIT, size_of, Source, field, pieces, whole, segments_needed, in_segments, source_of}
use Rattle.value_data.specs.Answers.{data_of, data_bytes, DataAnswered}
use Rattle.std.specs.Prelude.{Ok}
use Rattle.words.specs.Paper.{number_of}

-- ---- a row of pieces

-- the bytes of all of them
unfoldable pub total : List Piece → ℕ
total [] = 0
total (q ∷ qs) = q.long + total qs

-- piece i of a row
abbrev pub at : List Piece → ℕ → Piece
at qs i = get_or qs i (piece 0 0)

-- "every segment but the last giving 16,344 bytes"
abbrev pub FullButLast : List Piece → Type 0
FullButLast qs = (i : ℕ) → i + 1 < length qs → (at qs i).long ≡ SEGMENT

-- a piece's bytes stand behind the size word, in its own cell and in the image
pub record Lies (image : List ℕ) (q : Piece) : Type 0 where
  pub own : 4 + q.long ≤ magnitude_at image q.cell
  pub inside : q.cell + magnitude_at image q.cell ≤ length image

-- the pieces that a value's data is made of
pub record MadeOf (image : List ℕ) (size : ℕ) (qs : List Piece) : Type 0 where
  pub sum : total qs ≡ size
  pub full : FullButLast qs
  pub lies : (i : ℕ) → i < length qs → Lies image (at qs i)

-- a row of cells passes exactly where each of its pieces lies so
abbrev pub Passes : Type 0
Passes = (image : List ℕ) (qs : List Piece) → (judged image qs ≡ success tt) ↔ ((i : ℕ) → i < length qs → Lies image (at qs i))

-- "cell by cell in reading order": every cell before it passes, and the first that does not gives the refusal
abbrev pub FirstFault : Type 0
FirstFault =
    (image : List ℕ) (before : List Piece) (q : Piece) (after : List Piece) (t : Told)
    → judged image before ≡ success tt → holds image q ≡ refused t → judged image (before ++ (q ∷ after)) ≡ refused t

-- ---- an answer, by a record's numbers

module _ (image : List ℕ) (base minor raw offset : ℕ) (old new : List ℕ) where
  -- so many bytes were copied: the data's size, all of its bytes from the first place on, and the places behind them as they were
  pub record WasCopied (n : ℕ) : Type 0 where
    pub size : n ≡ size_of raw
    pub room : n ≤ length old
    pub row : take n new ≡ data_bytes image base minor raw offset
    pub bytes : length (data_bytes image base minor raw offset) ≡ n
    pub behind : drop n new ≡ drop n old

  -- it was refused: no place of the buffer has changed; and 9 is given only where all else succeeds, with the places needed
  pub record WasRefused (f : RoomRefusal) : Type 0 where
    pub untouched : new ≡ old
    pub no_room : number_of f.reason ≡ NO_ROOM → (f.position ≡ 0) × (f.places ≡ size_of raw) × (length old < size_of raw) × ((s : Source) × (data_of image base minor raw offset ≡ success s))

-- ---- data that is not resident: what was copied are the bytes of such pieces, one behind another

abbrev pub FromPieces : Type 0
FromPieces =
    (image : List ℕ) (base minor raw offset : ℕ) (old new : List ℕ) (n : ℕ) → raw < TOP_BIT
    → DataAnswered image base minor raw offset old (Ok n) new
    → (qs : List Piece) × MadeOf image n qs × (take n new ≡ joined image qs)

-- ---- resident data: of a record that was read, the image's own bytes from the record's position plus 12

abbrev pub Resident : Type 0
Resident =
    (image : List ℕ) → ((i : ℕ) → byte_at image i < 256) → (position : ℕ) (v : KeyValue) → value_at image position ≡ success v
    → TOP_BIT ≤ v.data_size_raw → (base minor : ℕ) (old new : List ℕ) (n : ℕ)
    → DataAnswered image base minor v.data_size_raw v.data_offset_relative old (Ok n) new
    → take n new ≡ take n (drop (position + 12) image)

-- ---- no `db` cell counts more than 65,535 segments: from minor version 4 on a larger size is never copied

abbrev pub TooLarge : Type 0
TooLarge =
    (image : List ℕ) → ((i : ℕ) → byte_at image i < 256) → (base minor raw offset : ℕ) (old new : List ℕ) (n : ℕ) → 3 < minor → raw < TOP_BIT
    → 65535 * SEGMENT < raw → DataAnswered image base minor raw offset old (Ok n) new → ⊥

-- ---- where the limits lie

pub record Limits : Type 0 where
  -- a size of 0 reads no cell, whatever the image, the base and the offset are
  pub no_bytes : (image : List ℕ) (base minor offset : ℕ) → source_of image base minor false 0 offset ≡ success (pieces [])
  -- the offset field holds 4 bytes, and never 5
  pub field_full : (image : List ℕ) (base minor offset : ℕ) → source_of image base minor true 4 offset ≡ success field
  pub field_over : (image : List ℕ) (base minor offset : ℕ) → source_of image base minor true 5 offset ≡ refused (by BAD_DATA 0)
  -- 16,344 bytes are in one cell in every version, 16,345 in one cell up to minor version 3 and in segments from 4 on
  pub one_cell : (image : List ℕ) (base offset : ℕ) → source_of image base 4 false 16344 offset ≡ whole image (piece (offset + base) 16344 ∷ [])
  pub old_one_cell : (image : List ℕ) (base offset : ℕ) → source_of image base 3 false 16345 offset ≡ whole image (piece (offset + base) 16345 ∷ [])
  pub two_segments : (image : List ℕ) (base offset : ℕ) → source_of image base 4 false 16345 offset ≡ in_segments image base (offset + base) 16345
  pub needed : (segments_needed 16344 ≡ 1) × (segments_needed 16345 ≡ 2) × (segments_needed 32688 ≡ 2) × (segments_needed 32689 ≡ 3)
