-- Document 02, order 9, by examples: lists with their size words, byte by byte, and what is proved of them by computing it
-- (proofs/Examples.antt).
use Rattle.std.specs.Prelude.{◌≡◌, List, [], ◌∷◌, ◌++◌, true, false, ℕ}
use Rattle.words.specs.Refusals.{BAD_SIZE, BAD_SIGN, CUT_SHORT, OUT_OF_STEPS, TOO_DEEP, NOT_PERMITTED}
use Rattle.words.specs.Paper.{success, refused, by, no_room_told}
use Rattle.words.specs.Buffers.{buffer_after}
use Rattle.sub_key_list.specs.Lists.{LF, LH, LI, leaf, index}
use Rattle.sub_key_list.specs.Strict.{strict_at}
use Rattle.sub_key_walk.specs.Judge.{fault, counts}
use Rattle.sub_key_walk.specs.Answers.{answer_of}
use Rattle.sub_key_walk.specs.Leaf.{leaf_in_room}
use Rattle.sub_key_walk.specs.Strict.{strict_answer_of, strict_kept_by, strict_leaf_at}

-- a size word of -1 to -256, by its magnitude's difference from 256
abbrev pub minus : ℕ → List ℕ → List ℕ
minus b rest = b ∷ 255 ∷ 255 ∷ 255 ∷ rest

-- the letters of a kind, a count, and the entries' bytes
abbrev pub kinds : ℕ → ℕ → ℕ → List ℕ → List ℕ
kinds a b n es = a ∷ b ∷ n ∷ 0 ∷ es

-- an entry of 16 with a hint, and one without
abbrev pub pair : List ℕ
pair = 16 ∷ 0 ∷ 0 ∷ 0 ∷ 7 ∷ 7 ∷ 7 ∷ 7 ∷ []

abbrev pub one : List ℕ
one = 16 ∷ 0 ∷ 0 ∷ 0 ∷ []

-- `lf` and `lh` of one entry in a cell of -16, `li` in one of -12, all just as large as needed
abbrev pub lf : List ℕ
lf = minus 240 (kinds 108 102 1 pair)

abbrev pub lh : List ℕ
lh = minus 240 (kinds 108 104 1 pair)

abbrev pub li : List ℕ
li = minus 244 (kinds 108 105 1 one)

-- an empty `li` with a size word of -8, and of -7
abbrev pub none_8 : List ℕ
none_8 = minus 248 (kinds 108 105 0 [])

abbrev pub none_7 : List ℕ
none_7 = minus 249 (kinds 108 105 0 [])

-- the `li` list in a cell of -11, of -13, which passes the image by 1, of 0, of 12, which is free, and of -2147483648
abbrev pub short : List ℕ
short = minus 245 (kinds 108 105 1 one)

abbrev pub past : List ℕ
past = minus 243 (kinds 108 105 1 one)

abbrev pub nought : List ℕ
nought = 0 ∷ 0 ∷ 0 ∷ 0 ∷ kinds 108 105 1 one

abbrev pub free : List ℕ
free = 12 ∷ 0 ∷ 0 ∷ 0 ∷ kinds 108 105 1 one

abbrev pub least : List ℕ
least = 0 ∷ 0 ∷ 0 ∷ 128 ∷ kinds 108 105 1 one

-- `ri` in a cell of -12, naming itself; and naming what stands at 12
abbrev pub ri : List ℕ
ri = minus 244 (kinds 114 105 1 (0 ∷ 0 ∷ 0 ∷ 0 ∷ []))

abbrev pub ri_over : List ℕ → List ℕ
ri_over below = minus 244 (kinds 114 105 1 (12 ∷ 0 ∷ 0 ∷ 0 ∷ below))

-- a free `lf` list, and one whose second entry passes the image
abbrev pub lf_free : List ℕ
lf_free = 16 ∷ 0 ∷ 0 ∷ 0 ∷ kinds 108 102 1 pair

abbrev pub lf_cut : List ℕ
lf_cut = minus 240 (kinds 108 102 2 pair)

pub record StrictExamples : Type 0 where
  -- "`lf` is permitted above minor version 2, `lh` above 4", the others always
  pub lf_2 : strict_at lf 2 false 0 ≡ refused (by NOT_PERMITTED 0)
  pub lf_3 : strict_at lf 3 false 0 ≡ success (leaf LF 8 1)
  pub lh_4 : strict_at lh 4 false 0 ≡ refused (by NOT_PERMITTED 0)
  pub lh_5 : strict_at lh 5 false 0 ≡ success (leaf LH 8 1)
  pub li_0 : strict_at li 0 false 0 ≡ success (leaf LI 4 1)
  pub ri_0 : strict_at ri 0 false 0 ≡ success (index 1)
  -- "an `ri` list may not name an `ri` list"
  pub ri_named : strict_at ri 0 true 0 ≡ refused (by NOT_PERMITTED 0)
  pub li_named : strict_at li 0 true 0 ≡ success (leaf LI 4 1)
  -- "inside its own cell, which must be allocated"
  pub empty_8 : strict_at none_8 0 false 0 ≡ success (leaf LI 4 0)
  pub empty_7 : strict_at none_7 0 false 0 ≡ refused (by BAD_SIZE 0)
  pub one_short : strict_at short 0 false 0 ≡ refused (by BAD_SIZE 0)
  pub past_image : strict_at past 0 false 0 ≡ refused (by BAD_SIZE 0)
  pub one_more : strict_at (past ++ (0 ∷ [])) 0 false 0 ≡ success (leaf LI 4 1)
  pub size_0 : strict_at nought 0 false 0 ≡ refused (by BAD_SIZE 0)
  pub is_free : strict_at free 0 false 0 ≡ refused (by BAD_SIZE 0)
  pub size_least : strict_at least 0 false 0 ≡ refused (by BAD_SIZE 0)
  -- the order: the list's own refusals, 20, 3; each position is the list's but for 20
  pub list_first : strict_at lf_cut 2 false 0 ≡ refused (by CUT_SHORT 0)
  pub kind_second : strict_at lf_free 2 false 0 ≡ refused (by NOT_PERMITTED 0)
  pub size_last : strict_at lf_free 3 false 0 ≡ refused (by BAD_SIZE 0)
  pub at_list : strict_at (1 ∷ free) 0 false 1 ≡ refused (by BAD_SIZE 1)
  -- the walk: what strict accepts
  pub walk : strict_answer_of (ri_over lf) 0 1 0 2 3 1 ≡ success (counts 1 2 1 0)
  pub walk_kept : strict_kept_by (ri_over lf) 0 1 0 3 ≡ 16 ∷ []
  pub walk_buffer : buffer_after (strict_answer_of (ri_over lf) 0 1 0 2 3 2) (strict_kept_by (ri_over lf) 0 1 0 3) (7 ∷ 7 ∷ []) ≡ 16 ∷ 7 ∷ []
  pub walk_no_room : strict_answer_of (ri_over lf) 0 1 0 2 3 0 ≡ refused (no_room_told 2 1 1 0)
  -- and what it refuses: at the named list, once its parent counts as read
  pub walk_kind : strict_answer_of (ri_over lf) 0 1 0 2 2 1 ≡ refused (fault NOT_PERMITTED 0 1)
  pub walk_size : strict_answer_of (ri_over free) 0 1 0 2 0 1 ≡ refused (fault BAD_SIZE 12 1)
  pub walk_top_size : strict_answer_of free 0 1 0 2 0 1 ≡ refused (fault BAD_SIZE 0 0)
  -- an `ri` list that names itself: 20 where the ordinary reading is too deep, and 15 before it
  pub itself : strict_answer_of ri 0 1 0 8 0 4096 ≡ refused (fault NOT_PERMITTED 0 1)
  pub itself_ordinary : answer_of ri 0 1 0 8 4096 ≡ refused (fault TOO_DEEP 0 8)
  pub itself_spent : strict_answer_of ri 0 1 0 1 0 4096 ≡ refused (fault OUT_OF_STEPS 0 1)
  -- an image in which the ordinary reading sees nothing wrong
  pub free_ordinary : answer_of free 0 1 0 2 1 ≡ success (counts 1 1 1 0)
  -- one leaf list
  pub leaf_3 : leaf_in_room (strict_leaf_at lf 0 0 3) 1 ≡ success (record { kept = 1; entries = 1; dropped = 0 })
  pub leaf_2 : leaf_in_room (strict_leaf_at lf 0 0 2) 1 ≡ refused (by NOT_PERMITTED 0)
  pub leaf_full : leaf_in_room (strict_leaf_at lf 0 0 3) 0 ≡ refused (no_room_told 0 1 1 0)
  pub leaf_ri : leaf_in_room (strict_leaf_at ri 0 0 0) 1 ≡ refused (by BAD_SIGN 0)
