-- Document 02, order 1: "Copy a value's data into a lent buffer". The answer, and the buffer after it.
use Rattle.std.specs.Prelude.{ℕ, List, [], ◌∷◌, length}
use Rattle.words.specs.Paper.{Paper, success, refused, told, told_of_room, paper_of, on_success}
use Rattle.words.specs.Buffers.{needing, in_room, Answered}
use Rattle.writing.specs.Writing.{bytes_of}
use Rattle.value_data.specs.Pieces.{piece, joined}
use Rattle.value_data.specs.Data.{is_resident, size_of, Source, field, pieces, segments_at, source_of}
use Rattle.value_data.specs.declared.DataPlace.{DataPlace}
use Rattle.value_data.specs.declared.DataPlace.TheVariants.{Nothing, Field, Cell, Segments}
use Rattle.std.specs.declared.result.Result.{Result}
use Rattle.words.specs.declared.Refusal.{Refusal}
use Rattle.words.specs.declared.RoomRefusal.{RoomRefusal}

-- "the data is the first bytes of the offset field", the lowest first; or the pieces, one behind another
abbrev pub bytes_from : List ℕ → ℕ → ℕ → Source → List ℕ
bytes_from image size offset field = bytes_of size offset
bytes_from image size offset (pieces qs) = joined image qs

-- and no byte of data that is refused
abbrev pub written : List ℕ → ℕ → ℕ → Paper Source → List ℕ
written image size offset (success s) = bytes_from image size offset s
written image size offset (refused t) = []

-- by the numbers of a record: where the data is, its bytes, and the answer with a buffer of so many places, "last 9"
unfoldable pub data_of : List ℕ → ℕ → ℕ → ℕ → ℕ → Paper Source
data_of image base minor raw offset = source_of image base minor (is_resident raw) (size_of raw) offset

unfoldable pub data_bytes : List ℕ → ℕ → ℕ → ℕ → ℕ → List ℕ
data_bytes image base minor raw offset = written image (size_of raw) offset (data_of image base minor raw offset)

unfoldable pub data_in : List ℕ → ℕ → ℕ → ℕ → ℕ → ℕ → Paper ℕ
data_in image base minor raw offset room = in_room needing room (on_success (λ s. size_of raw) (data_of image base minor raw offset))

-- what the code's answers say
abbrev pub source_at : List ℕ → ℕ → ℕ → DataPlace → Source
source_at image base size Nothing = pieces []
source_at image base size Field = field
source_at image base size (Cell p) = pieces (piece p size ∷ [])
source_at image base size (Segments l) = pieces (segments_at image base l size)

abbrev pub find_paper : List ℕ → ℕ → ℕ → Result DataPlace Refusal → Paper Source
find_paper image base size = paper_of (source_at image base size) told

abbrev pub data_paper : Result ℕ RoomRefusal → Paper ℕ
data_paper = paper_of (λ n. n) told_of_room

-- the answer r for a record's numbers, and the buffer's contents before and after it
abbrev pub DataAnswered : List ℕ → ℕ → ℕ → ℕ → ℕ → List ℕ → Result ℕ RoomRefusal → List ℕ → Type 0
DataAnswered image base minor raw offset old r new =
    Answered (data_paper r) (data_in image base minor raw offset (length old)) (data_bytes image base minor raw offset) old new
