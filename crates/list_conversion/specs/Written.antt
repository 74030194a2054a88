-- Document 02, order 10, of the functions' own answers: what stands in the buffer, when it is refused, and the way there and back. Proved in
-- proofs/Written.antt, proofs/Exactly.antt, proofs/Trips.antt and proofs/Back.antt.
use Rattle.std.specs.Prelude.{ℕ, ◌+◌, ◌*◌, ◌%◌, ◌^◌, ◌≤◌, ◌<◌, ◌≡◌, ◌↔◌, ◌⊎◌, List, ◌++◌, Bool, true, length, get_or, take, drop}
use Rattle.words.specs.Words.{byte_at, little, word32, Bytes}
use Rattle.words.specs.Refusals.{NO_ROOM}
use Rattle.words.specs.Paper.{Paper, success}
use Rattle.words.specs.declared.RoomRefusal.{RoomRefusal}
use Rattle.cell.specs.Cells.{magnitude_at, allocated_at}
use Rattle.sub_key_list.specs.Lists.{LF, LH, LI, entry_size, leaf, list_at}
use Rattle.sub_key_list.specs.Strict.{permitted, strict_at}
use Rattle.list_conversion.specs.Cells.{list_size, cell_size, cell_of}
use Rattle.list_conversion.specs.Entries.{key_hash, lh_entries, li_entries}
use Rattle.list_conversion.specs.Answers.{LhAnswered, LiAnswered}
use Rattle.std.specs.Prelude.{Ok, Err}
use Rattle.std.specs.declared.result.Result.{Result}
use Rattle.words.specs.Paper.{number_of}

-- where entry i of a list at a position stands, whose entries have so many bytes; its offset, and the hash of an entry of 8 bytes
abbrev pub entry_at : ℕ → ℕ → ℕ → ℕ
entry_at p size i = p + (8 + size * i)

abbrev pub offset_at : List ℕ → ℕ → ℕ → ℕ → ℕ
offset_at s p size i = word32 s (entry_at p size i)

abbrev pub hash_at : List ℕ → ℕ → ℕ → ℕ
hash_at s p i = word32 s (entry_at p 8 i + 4)

-- ---- the cell, whatever its entries are

-- a kind of leaf list
abbrev pub Leafy : ℕ → Type 0
Leafy kind = (kind ≡ LF) ⊎ (kind ≡ LH) ⊎ (kind ≡ LI)

-- a cell at the start of a buffer that has any bytes behind it
pub record CellReads (kind : ℕ) (es tail : List ℕ) : Type 0 where
  -- document 01's reading of one list gives its kind and its count, and its entries one by one
  pub list : list_at (cell_of kind es ++ tail) 0 ≡ success (leaf kind (entry_size kind) (length es))
  pub entries : (i : ℕ) → i < length es → get_or es i 0 < 256 ^ entry_size kind
      → little (entry_size kind) (cell_of kind es ++ tail) (entry_at 0 (entry_size kind) i) ≡ get_or es i 0
  -- "the smallest multiple of 8 as size"
  pub long : length (cell_of kind es) ≡ cell_size (entry_size kind) (length es)
  pub multiple : length (cell_of kind es) % 8 ≡ 0
  pub holds : list_size (entry_size kind) (length es) ≤ length (cell_of kind es)
  pub least : (m : ℕ) → m % 8 ≡ 0 → list_size (entry_size kind) (length es) ≤ m → length (cell_of kind es) ≤ m
  pub magnitude : magnitude_at (cell_of kind es ++ tail) 0 ≡ length (cell_of kind es)
  -- it is allocated, so order 9's strict reading accepts it where its kind is permitted
  pub allocated : allocated_at (cell_of kind es ++ tail) 0 ≡ true
  pub strict : (minor : ℕ) (named : Bool) → permitted kind minor ≡ true
      → strict_at (cell_of kind es ++ tail) minor named 0 ≡ success (leaf kind (entry_size kind) (length es))

abbrev pub Cells : Type 0
Cells = (kind : ℕ) → Leafy kind → (es tail : List ℕ) → length es < 65536 → CellReads kind es tail

-- ---- one step

-- the list at `p` of `s`, of one kind, became a cell of n bytes of another kind at the start of a buffer
pub record Became (from from-size to to-size : ℕ) (s : List ℕ) (p : ℕ) (old new : List ℕ) (n count : ℕ) : Type 0 where
  -- by document 01's reading of one list both have this count, and the entries have the same offsets
  pub list : list_at s p ≡ success (leaf from from-size count)
  pub cell : list_at new 0 ≡ success (leaf to to-size count)
  pub offsets : (i : ℕ) → i < count → offset_at new 0 to-size i ≡ offset_at s p from-size i
  -- "an allocated .. cell"; "Both give the smallest multiple of 8 as size"
  pub size : magnitude_at new 0 ≡ n
  pub allocated : allocated_at new 0 ≡ true
  pub multiple : n % 8 ≡ 0
  pub holds : list_size to-size count ≤ n
  pub least : (m : ℕ) → m % 8 ≡ 0 → list_size to-size count ≤ m → n ≤ m
  -- "and zero the rest of the cell"
  pub zeroed : (i : ℕ) → list_size to-size count ≤ i → i < n → byte_at new i ≡ 0
  -- nothing behind the cell changes
  pub room : n ≤ length old
  pub behind : drop n new ≡ drop n old
  -- order 9's strict reading accepts it where its kind is permitted, named by an `ri` list or not
  pub strict : (minor : ℕ) (named : Bool) → permitted to minor ≡ true → strict_at new minor named 0 ≡ success (leaf to to-size count)

-- "with each hash worked out from the key record that the entry names"
abbrev pub Hashed : List ℕ → ℕ → ℕ → List ℕ → ℕ → List ℕ → Type 0
Hashed image base count s p new = (i : ℕ) → i < count → key_hash image (offset_at s p 4 i + base) ≡ success (hash_at new 0 i)

abbrev pub WroteLh : Type 0
WroteLh =
    (s : List ℕ) → Bytes s → (p : ℕ) (image : List ℕ) (base : ℕ) (old new : List ℕ) (n : ℕ)
    → LhAnswered s p image base old (Ok n) new
    → (count : ℕ) × Became LI 4 LH 8 s p old new n count × Hashed image base count s p new

abbrev pub WroteLi : Type 0
WroteLi =
    (s : List ℕ) → Bytes s → (p : ℕ) (old new : List ℕ) (n : ℕ)
    → LiAnswered s p old (Ok n) new → (count : ℕ) × Became LH 8 LI 4 s p old new n count

-- when a cell is written: exactly where the list is read, is of the kind that is taken, every entry of an `li` list names a key whose name
-- has a hash, and the cell fits
abbrev pub WasWritten : (Result ℕ RoomRefusal) → Type 0
WasWritten r = (n : ℕ) × (r ≡ Ok n)

abbrev pub ExactlyLh : Type 0
ExactlyLh =
    (s : List ℕ) (p : ℕ) (image : List ℕ) (base : ℕ) (old : List ℕ) (r : (Result ℕ RoomRefusal)) (new : List ℕ) → LhAnswered s p image base old r new
    → WasWritten r
    ↔ ((count : ℕ)
    × (list_at s p ≡ success (leaf LI 4 count))
    × ((i : ℕ) → i < count → (h : ℕ) × (key_hash image (offset_at s p 4 i + base) ≡ success h))
    × (cell_size 8 count ≤ length old))

abbrev pub ExactlyLi : Type 0
ExactlyLi =
    (s : List ℕ) (p : ℕ) (old : List ℕ) (r : (Result ℕ RoomRefusal)) (new : List ℕ) → LiAnswered s p old r new
    → WasWritten r ↔ ((count : ℕ) × (list_at s p ≡ success (leaf LH 8 count)) × (cell_size 4 count ≤ length old))

-- a refusal changes no byte; and 9 is given only where all else succeeds, with the bytes of the cell, which are more than there are
pub record WasRefused (es : Paper (List ℕ)) (size : ℕ) (old new : List ℕ) (f : RoomRefusal) : Type 0 where
  pub untouched : new ≡ old
  pub no_room : (number_of f.reason) ≡ NO_ROOM
      → (f.position ≡ 0) × (length old < f.places) × ((l : List ℕ) × (es ≡ success l) × (f.places ≡ cell_size size (length l)))

abbrev pub RefusedLh : Type 0
RefusedLh =
    (s : List ℕ) (p : ℕ) (image : List ℕ) (base : ℕ) (old new : List ℕ) (f : RoomRefusal)
    → LhAnswered s p image base old (Err f) new → WasRefused (lh_entries s p image base) (entry_size LH) old new f

abbrev pub RefusedLi : Type 0
RefusedLi =
    (s : List ℕ) (p : ℕ) (old new : List ℕ) (f : RoomRefusal)
    → LiAnswered s p old (Err f) new → WasRefused (li_entries s p) (entry_size LI) old new f

-- ---- the way there and back

-- "the second lent the first's cell": the n bytes that stand at the start of `new` stand in `t` from `q` on
abbrev pub Lent : ℕ → List ℕ → List ℕ → ℕ → Type 0
Lent n new t q = take n (drop q t) ≡ take n new

-- "gives the same entries": the list at `p` of `s` and the one at the start of `new` are of one kind and one count, with the same offsets
pub record SameEntries (kind size : ℕ) (s : List ℕ) (p : ℕ) (new : List ℕ) (count : ℕ) : Type 0 where
  pub first : list_at s p ≡ success (leaf kind size count)
  pub last : list_at new 0 ≡ success (leaf kind size count)
  pub offsets : (i : ℕ) → i < count → offset_at new 0 size i ≡ offset_at s p size i

-- "Where both steps succeed, the second lent the first's cell beside the same image, from `li` and back gives the same entries"
abbrev pub FromLi : Type 0
FromLi =
    (s : List ℕ) → Bytes s → (p : ℕ) (image : List ℕ) (base : ℕ) (old new : List ℕ) (n : ℕ) → LhAnswered s p image base old (Ok n) new
    → (t : List ℕ) → Bytes t → (q : ℕ) → Lent n new t q → (old' new' : List ℕ) (m : ℕ) → LiAnswered t q old' (Ok m) new'
    → (count : ℕ) × SameEntries LI 4 s p new' count

-- "from `lh` and back too, with hashes equal if the old ones were right": each one that was the hash of its key's name
abbrev pub FromLh : Type 0
FromLh =
    (s : List ℕ) → Bytes s → (p : ℕ) (old new : List ℕ) (n : ℕ) → LiAnswered s p old (Ok n) new
    → (t : List ℕ) → Bytes t → (q : ℕ) → Lent n new t q → (image : List ℕ) (base : ℕ) (old' new' : List ℕ) (m : ℕ)
    → LhAnswered t q image base old' (Ok m) new'
    → (count : ℕ) × SameEntries LH 8 s p new' count
    × ((i : ℕ) → i < count → key_hash image (offset_at s p 8 i + base) ≡ success (hash_at s p i) → hash_at new' 0 i ≡ hash_at s p i)

-- when the way back succeeds: to `li` exactly where the cell fits, since the list that was written reads; to `lh` exactly where each key has a
-- hash besides
abbrev pub BackToLi : Type 0
BackToLi =
    (s : List ℕ) → Bytes s → (p : ℕ) (image : List ℕ) (base : ℕ) (old new : List ℕ) (n : ℕ) → LhAnswered s p image base old (Ok n) new
    → (t : List ℕ) (q : ℕ) → Lent n new t q → (old' : List ℕ) (r : (Result ℕ RoomRefusal)) (new' : List ℕ) → LiAnswered t q old' r new'
    → (count : ℕ) × (list_at s p ≡ success (leaf LI 4 count)) × (WasWritten r ↔ (cell_size 4 count ≤ length old'))

abbrev pub BackToLh : Type 0
BackToLh =
    (s : List ℕ) → Bytes s → (p : ℕ) (old new : List ℕ) (n : ℕ) → LiAnswered s p old (Ok n) new
    → (t : List ℕ) (q : ℕ) → Lent n new t q → (image : List ℕ) (base : ℕ) (old' : List ℕ) (r : (Result ℕ RoomRefusal)) (new' : List ℕ)
    → LhAnswered t q image base old' r new'
    → (count : ℕ)
    × (list_at s p ≡ success (leaf LH 8 count))
    × (WasWritten r
    ↔ (((i : ℕ) → i < count → (h : ℕ) × (key_hash image (offset_at s p 8 i + base) ≡ success h))
    × (cell_size 8 count ≤ length old')))
