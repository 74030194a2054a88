-- The cell that is written, from document 02, order 10: "an allocated `lh` cell in a lent buffer", and "an `lh` list as `li`". "Both give
-- the smallest multiple of 8 as size and zero the rest of the cell."
use Rattle.std.specs.Prelude.{ℕ, ◌+◌, ◌-◌, ◌*◌, ◌/◌, List, [], ◌∷◌, ◌++◌, length}
use Rattle.writing.specs.Writing.{bytes_of}
use Rattle.sub_key_list.specs.Lists.{entry_size}

-- the bytes of a list of so many entries, of so many bytes each: a header of 8, and "entries at 8" (document 01, "The subkey walk")
abbrev pub list_size : ℕ → ℕ → ℕ
list_size size n = 8 + size * n

-- "the smallest multiple of 8" that holds them (proved as `least` in proofs/Sizes.antt)
unfoldable pub cell_size : ℕ → ℕ → ℕ
cell_size size n = (list_size size n + 7) / 8 * 8

-- the header: the cell's size, which "means allocated" where it is negative, the kind at 4, "Count: 16 bits at 6". A negative number of
-- 32 bits is 2^32 less its magnitude.
abbrev pub header : ℕ → ℕ → ℕ → List ℕ
header cell kind n = bytes_of 4 (4294967296 - cell) ++ (bytes_of 2 kind ++ bytes_of 2 n)

-- the entries, one behind another, each as the number that its bytes are
unfoldable pub row_bytes : ℕ → List ℕ → List ℕ
row_bytes size [] = []
row_bytes size (e ∷ es) = bytes_of size e ++ row_bytes size es

-- "zero the rest of the cell": a number 0 of so many bytes
abbrev pub zeros : ℕ → List ℕ
zeros n = bytes_of n 0

-- a cell, by the bytes of an entry, the kind and the entries: header, entries, zeros
abbrev pub cell_with : ℕ → ℕ → List ℕ → List ℕ
cell_with size kind es =
    header (cell_size size (length es)) kind (length es)
    ++ (row_bytes size es ++ zeros (cell_size size (length es) - list_size size (length es)))

unfoldable pub cell_of : ℕ → List ℕ → List ℕ
cell_of kind es = cell_with (entry_size kind) kind es
