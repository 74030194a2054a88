-- What the two functions promise: document 02, order 10, with document 01's rules on a lent buffer.
use Rattle.std.specs.Prelude.{ℕ, List, [], length}
use Rattle.words.specs.Paper.{Paper, success, refused, told_of_room, paper_of, on_success}
use Rattle.words.specs.Buffers.{needing, in_room, Answered}
use Rattle.sub_key_list.specs.Lists.{LH, LI, entry_size}
use Rattle.list_conversion.specs.Cells.{cell_size, cell_of}
use Rattle.list_conversion.specs.Entries.{lh_entries, li_entries}
use Rattle.std.specs.declared.result.Result.{Result}
use Rattle.words.specs.declared.RoomRefusal.{RoomRefusal}

-- what the code's answer says: the size of the cell that is written
abbrev pub conversion_paper : Result ℕ RoomRefusal → Paper ℕ
conversion_paper = paper_of (λ n. n) told_of_room

-- the size of the cell of a kind with these entries
unfoldable pub size_of : ℕ → Paper (List ℕ) → Paper ℕ
size_of kind es = on_success (λ (l : List ℕ). cell_size (entry_size kind) (length l)) es

-- its bytes, and none where the entries are refused
abbrev pub cell_for : ℕ → Paper (List ℕ) → List ℕ
cell_for kind (success es) = cell_of kind es
cell_for kind (refused t) = []

-- an answer r that writes the cell of a kind with these entries, "then 9", and the buffer's contents before and after it
abbrev pub Converted : ℕ → Paper (List ℕ) → List ℕ → Result ℕ RoomRefusal → List ℕ → Type 0
Converted kind es old r new = Answered (conversion_paper r) (in_room needing (length old) (size_of kind es)) (cell_for kind es) old new

-- the `li` list at a position of `s`, written as an `lh` cell with the hashes of the keys that its entries name in the image
abbrev pub LhAnswered : List ℕ → ℕ → List ℕ → ℕ → List ℕ → Result ℕ RoomRefusal → List ℕ → Type 0
LhAnswered s p image base old r new = Converted LH (lh_entries s p image base) old r new

-- the `lh` list at a position of `s`, written as an `li` cell
abbrev pub LiAnswered : List ℕ → ℕ → List ℕ → Result ℕ RoomRefusal → List ℕ → Type 0
LiAnswered s p old r new = Converted LI (li_entries s p) old r new
