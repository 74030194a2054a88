-- Document 02, order 10, worked out by hand and computed: `examples` in proofs/Examples.antt.
use Rattle.std.specs.Prelude.{ℕ, ◌-◌, ◌^◌, ◌≡◌, List, [], ◌∷◌, ◌++◌, length}
use Rattle.words.specs.Refusals.{OUTSIDE, BAD_SIZE, BAD_SIGN, BAD_NAME, CUT_SHORT}
use Rattle.words.specs.Paper.{Paper, success, refused, by, no_room_told}
use Rattle.words.specs.Buffers.{needing, in_room, buffer_after}
use Rattle.writing.specs.Writing.{bytes_of}
use Rattle.sub_key_list.specs.Lists.{LF, LH, LI, RI}
use Rattle.list_conversion.specs.Cells.{row_bytes, zeros, cell_of}
use Rattle.list_conversion.specs.Entries.{entry, lh_entries, li_entries}
use Rattle.list_conversion.specs.Answers.{size_of, cell_for}

-- a key record by its size word, its flags and its name
abbrev pub key : ℕ → ℕ → List ℕ → List ℕ
key size flags name =
    bytes_of 4 size ++ (bytes_of 2 0x6B6E ++ (bytes_of 2 flags ++ (zeros 68 ++ (bytes_of 2 (length name) ++ (zeros 2 ++ name)))))

-- 88 bytes each: `A`, allocated; `ab`, free; the unit 1076, a Cyrillic letter, and a name of units that has one byte
abbrev pub keys : List ℕ
keys =
    key 0xFFFFFFA8 32 (65 ∷ []) ++ (zeros 7
    ++ (key 88 32 (97 ∷ 98 ∷ []) ++ (zeros 6
    ++ (key 0xFFFFFFA8 0 (0x34 ∷ 4 ∷ []) ++ (zeros 6
    ++ (key 0xFFFFFFA8 0 (65 ∷ []) ++ zeros 7))))))

-- in an image whose base is 16
abbrev pub image : List ℕ
image = zeros 16 ++ keys

-- a list by its kind, its count, the bytes of an entry and its entries; its size word is not used
abbrev pub list : ℕ → ℕ → ℕ → List ℕ → List ℕ
list kind n size es = zeros 4 ++ (bytes_of 2 kind ++ (bytes_of 2 n ++ row_bytes size es))

abbrev pub li : List ℕ → List ℕ
li es = list LI (length es) 4 es

abbrev pub lh : List ℕ → List ℕ
lh es = list LH (length es) 8 es

abbrev pub to_lh : List ℕ → Paper (List ℕ)
to_lh es = lh_entries (li es) 0 image 16

-- `lh` entries whose hashes are right
abbrev pub three : List ℕ
three = entry 0 65 ∷ entry 88 2471 ∷ entry 176 1044 ∷ []

pub record Examples : Type 0 where
  -- each hash from the key record that the entry names, a free one too, Cyrillic by order 5's rule; the entries are stored without the base
  pub hashes : to_lh (0 ∷ 88 ∷ 176 ∷ []) ≡ success three
  pub none : to_lh [] ≡ success []
  -- and back
  pub back : li_entries (cell_of LH three) 0 ≡ success (0 ∷ 88 ∷ 176 ∷ [])
  pub there : lh_entries (cell_of LI (0 ∷ 88 ∷ 176 ∷ [])) 0 image 16 ≡ success three
  -- the cells: no entry, one, two; an `li` cell of one entry has 4 bytes to spare
  pub lh_none : cell_of LH [] ≡ 0xF8 ∷ 0xFF ∷ 0xFF ∷ 0xFF ∷ 0x6C ∷ 0x68 ∷ 0 ∷ 0 ∷ []
  pub lh_one :
      cell_of LH (entry 0x21 2471 ∷ [])
      ≡ 0xF0 ∷ 0xFF ∷ 0xFF ∷ 0xFF ∷ 0x6C ∷ 0x68 ∷ 1 ∷ 0 ∷ 0x21 ∷ 0 ∷ 0 ∷ 0 ∷ 0xA7 ∷ 9 ∷ 0 ∷ 0 ∷ []
  pub li_none : cell_of LI [] ≡ 0xF8 ∷ 0xFF ∷ 0xFF ∷ 0xFF ∷ 0x6C ∷ 0x69 ∷ 0 ∷ 0 ∷ []
  pub li_one : cell_of LI (0x21 ∷ []) ≡ 0xF0 ∷ 0xFF ∷ 0xFF ∷ 0xFF ∷ 0x6C ∷ 0x69 ∷ 1 ∷ 0 ∷ 0x21 ∷ 0 ∷ 0 ∷ 0 ∷ 0 ∷ 0 ∷ 0 ∷ 0 ∷ []
  pub li_two : cell_of LI (0x21 ∷ 0x22 ∷ []) ≡ 0xF0 ∷ 0xFF ∷ 0xFF ∷ 0xFF ∷ 0x6C ∷ 0x69 ∷ 2 ∷ 0 ∷ 0x21 ∷ 0 ∷ 0 ∷ 0 ∷ 0x22 ∷ 0 ∷ 0 ∷ 0 ∷ []
  -- "BAD SIGN for another kind", at the list's position: here 4 bytes stand before the list
  pub lf_to_li : li_entries (zeros 4 ++ list LF 1 8 (entry 0 65 ∷ [])) 4 ≡ refused (by BAD_SIGN 4)
  pub li_to_li : li_entries (zeros 4 ++ li (0 ∷ [])) 4 ≡ refused (by BAD_SIGN 4)
  pub ri_to_li : li_entries (zeros 4 ++ list RI 1 4 (0 ∷ [])) 4 ≡ refused (by BAD_SIGN 4)
  pub lh_to_lh : lh_entries (zeros 4 ++ lh (entry 0 65 ∷ [])) 4 image 16 ≡ refused (by BAD_SIGN 4)
  pub ri_to_lh : lh_entries (zeros 4 ++ list RI 1 4 (0 ∷ [])) 4 image 16 ≡ refused (by BAD_SIGN 4)
  -- "those of one list" come first: an entry that is not there, before a key that has no hash
  pub cut : lh_entries (list LI 2 4 (264 ∷ [])) 0 image 16 ≡ refused (by CUT_SHORT 0)
  pub past : lh_entries (li []) 9 image 16 ≡ refused (by OUTSIDE 9)
  -- "2 for an offset plus base above 32 bits": 4294967280 + 16; one less is the key record's own 2
  pub sum : to_lh (0xFFFFFFF0 ∷ []) ≡ refused (by OUTSIDE 4294967296)
  pub record_sum : to_lh (0xFFFFFFEF ∷ []) ≡ refused (by OUTSIDE 4294967295)
  -- "those of the key record or hash": at its position, and at 0
  pub key_refused : to_lh (8 ∷ []) ≡ refused (by BAD_SIZE 24)
  pub hash_refused : to_lh (264 ∷ []) ≡ refused (by BAD_NAME 0)
  -- "entry by entry": the first fault decides
  pub first : to_lh (0 ∷ 264 ∷ 0xFFFFFFF0 ∷ []) ≡ refused (by BAD_NAME 0)
  pub second : to_lh (0 ∷ 0xFFFFFFF0 ∷ 264 ∷ []) ≡ refused (by OUTSIDE 4294967296)
  -- "then 9": 16 bytes are needed, and 15 are there; with 17 the last one keeps what it had
  pub room : in_room needing 15 (size_of LI (li_entries (lh (entry 0x21 5 ∷ [])) 0)) ≡ refused (no_room_told 0 16 0 0)
  pub fits : in_room needing 16 (size_of LI (li_entries (lh (entry 0x21 5 ∷ [])) 0)) ≡ success 16
  pub kept :
      buffer_after (in_room needing 17 (size_of LI (li_entries (lh (entry 0x21 5 ∷ [])) 0))) (cell_for LI (li_entries (lh (entry 0x21 5 ∷ [])) 0)) (bytes_of 17 (256 ^ 17 - 1))
      ≡ 0xF0 ∷ 0xFF ∷ 0xFF ∷ 0xFF ∷ 0x6C ∷ 0x69 ∷ 1 ∷ 0 ∷ 0x21 ∷ 0 ∷ 0 ∷ 0 ∷ 0 ∷ 0 ∷ 0 ∷ 0 ∷ 0xFF ∷ []
