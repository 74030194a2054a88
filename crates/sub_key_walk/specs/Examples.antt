-- Document 01's starred examples of lists and of the walk: the images, byte by byte, and what is proved of them (proofs/Examples.antt).
use Rattle.std.specs.Prelude.{◌≡◌, List, [], ◌∷◌, ℕ, take}
use Rattle.words.specs.Refusals.{BAD_SIGN, CUT_SHORT, TOO_DEEP, OUT_OF_STEPS}
use Rattle.words.specs.Paper.{success, refused, by, no_room_told}
use Rattle.words.specs.Buffers.{buffer_after}
use Rattle.sub_key_list.specs.Lists.{LI, LH, list_at}
use Rattle.sub_key_list.specs.Lists as lists
use Rattle.sub_key_walk.specs.Judge.{fault, counts}
use Rattle.sub_key_walk.specs.Answers.{answer_of, kept_by}
use Rattle.sub_key_walk.specs.Leaf.{leaf_answer_of}

-- a list of a kind (its two letters), a count, and its entries' bytes
abbrev pub list : ℕ → ℕ → ℕ → List ℕ → List ℕ
list a b n es = 0 ∷ 0 ∷ 0 ∷ 0 ∷ a ∷ b ∷ n ∷ 0 ∷ es

-- "`li`, count 2, entries 16 and 32"
abbrev pub li : List ℕ
li = list 108 105 2 (16 ∷ 0 ∷ 0 ∷ 0 ∷ 32 ∷ 0 ∷ 0 ∷ 0 ∷ [])

-- "The same list with list count 0"
abbrev pub li_empty : List ℕ
li_empty = list 108 105 0 (16 ∷ 0 ∷ 0 ∷ 0 ∷ 32 ∷ 0 ∷ 0 ∷ 0 ∷ [])

-- "`lx`"
abbrev pub lx : List ℕ
lx = list 108 120 2 (16 ∷ 0 ∷ 0 ∷ 0 ∷ 32 ∷ 0 ∷ 0 ∷ 0 ∷ [])

-- "Base 16, `lh` at offset 0: entry FFFFFFEF .. FFFFFFF0": the list stands at 16, each entry with a hint
abbrev pub lh : List ℕ
lh =
    0 ∷ 0 ∷ 0 ∷ 0 ∷ 0 ∷ 0 ∷ 0 ∷ 0 ∷ 0 ∷ 0 ∷ 0 ∷ 0 ∷ 0 ∷ 0 ∷ 0 ∷ 0
    ∷ list 108 104 2 (239 ∷ 255 ∷ 255 ∷ 255 ∷ 1 ∷ 1 ∷ 1 ∷ 1 ∷ 240 ∷ 255 ∷ 255 ∷ 255 ∷ 2 ∷ 2 ∷ 2 ∷ 2 ∷ [])

-- "`ri` at 0, base 0, naming itself"
abbrev pub ri : List ℕ
ri = list 114 105 1 (0 ∷ 0 ∷ 0 ∷ 0 ∷ [])

pub record Examples : Type 0 where
  -- one list
  pub li_list : list_at li 0 ≡ success (lists.leaf LI 4 2)
  pub empty_list : list_at li_empty 0 ≡ success (lists.leaf LI 4 0)
  pub cut_list : list_at (take 7 li) 0 ≡ refused (by CUT_SHORT 0)
  pub unknown_list : list_at lx 0 ≡ refused (by BAD_SIGN 0)
  pub lh_list : list_at lh 16 ≡ success (lists.leaf LH 8 2)
  pub ri_list : list_at ri 0 ≡ success (lists.index 1)
  -- the walk
  pub li_answer : answer_of li 0 2 0 1024 4096 ≡ success (counts 2 1 2 0)
  pub li_kept : kept_by li 0 2 0 ≡ 16 ∷ 32 ∷ []
  pub li_buffer : buffer_after (answer_of li 0 2 0 1024 3) (kept_by li 0 2 0) (7 ∷ 7 ∷ 7 ∷ []) ≡ 16 ∷ 32 ∷ 7 ∷ []
  pub empty_answer : answer_of li_empty 0 2 0 1024 4096 ≡ success (counts 0 1 0 0)
  pub empty_kept : kept_by li_empty 0 2 0 ≡ []
  pub cut_answer : answer_of (take 7 li) 0 2 0 1024 4096 ≡ refused (by CUT_SHORT 0)
  pub unknown_answer : answer_of lx 0 2 0 1024 4096 ≡ refused (by BAD_SIGN 0)
  pub lh_answer : answer_of lh 16 2 0 1024 4096 ≡ success (counts 1 1 2 1)
  pub lh_kept : kept_by lh 16 2 0 ≡ 0xFFFFFFFF ∷ []
  pub deep_answer : answer_of ri 0 1 0 8 4096 ≡ refused (fault TOO_DEEP 0 8)
  pub spent_answer : answer_of ri 0 1 0 7 4096 ≡ refused (fault OUT_OF_STEPS 0 7)
  -- document 02, order 2: the `lh` list drops 1 of its 2 entries, and NO ROOM tells so too, of the walk and of the leaf list alone
  pub full_answer : answer_of lh 16 2 0 1024 0 ≡ refused (no_room_told 1 1 2 1)
  pub leaf_answer : leaf_answer_of lh 16 16 1 ≡ success (record { kept = 1; entries = 2; dropped = 1 })
  pub leaf_full : leaf_answer_of lh 16 16 0 ≡ refused (no_room_told 0 1 2 1)
