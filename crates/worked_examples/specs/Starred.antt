-- Document 01, "Examples on both sides": "Sentences marked * are proved of the written definitions, gathered under a single
-- statement". The statement is `Starred`, its proof `starred` in proofs/Starred.antt.
use Rattle.std.specs.Prelude.{◌≡◌, List, [], ◌∷◌, ℕ, pos, replicate, take}
use Rattle.words.specs.Refusals.{SHORT, OUTSIDE, BAD_SIGN, NO_LIST, CUT_SHORT, TOO_DEEP, OUT_OF_STEPS}
use Rattle.words.specs.Paper.{success, refused, by}
use Rattle.base_block.specs.Checksum.{checksum_of}
use Rattle.sub_key_walk.specs.Judge.{fault, counts}
use Rattle.sub_key_walk.specs.Answers.{answer_of, kept_by}
use Rattle.sub_key_walk.specs.Examples.{li, li_empty, lx, lh, ri}
use Rattle.name_hash.specs.Hash.{name_hash_of}
use Rattle.cell_key_node.specs.ValueList.{value_list_of}

-- The images `li`, `li_empty`, `lx`, `lh` and `ri` are those of the sentences, byte by byte. A walk is given as image, base, count,
-- list, budget and, for its answer, room; its counts are kept, lists, entries and, by document 02, order 2, those dropped.
pub record Starred : Type 0 where
  -- "Checksum: 508 zero bytes, 1."
  pub checksum_of_zeros : checksum_of (replicate 508 0) ≡ success 1
  -- "First word FFFFFFFF, rest zero: FFFFFFFE."
  pub checksum_of_ones : checksum_of (255 ∷ 255 ∷ 255 ∷ 255 ∷ replicate 504 0) ≡ success 0xFFFF_FFFE
  -- "507 bytes: refused 1."
  pub checksum_short : checksum_of (replicate 507 0) ≡ refused (by SHORT 0)
  -- "Base 0, list 0, `li`, count 2, entries 16 and 32: kept 16, 32; 1 list."
  pub li_answer : answer_of li 0 2 0 1024 4096 ≡ success (counts 2 1 2 0)
  pub li_kept : kept_by li 0 2 0 ≡ 16 ∷ 32 ∷ []
  -- "The same list with list count 0: kept none, 1 list."
  pub empty_answer : answer_of li_empty 0 2 0 1024 4096 ≡ success (counts 0 1 0 0)
  pub empty_kept : kept_by li_empty 0 2 0 ≡ []
  -- "Cut to 7 bytes: 8."
  pub cut_to_7 : answer_of (take 7 li) 0 2 0 1024 4096 ≡ refused (by CUT_SHORT 0)
  -- "`lx`: 4."
  pub unknown_kind : answer_of lx 0 2 0 1024 4096 ≡ refused (by BAD_SIGN 0)
  -- "Base 16, `lh` at offset 0: entry FFFFFFEF kept as FFFFFFFF; FFFFFFF0 dropped."
  pub lh_answer : answer_of lh 16 2 0 1024 4096 ≡ success (counts 1 1 2 1)
  pub lh_kept : kept_by lh 16 2 0 ≡ 0xFFFF_FFFF ∷ []
  -- "`ri` at 0, base 0, naming itself: budget 8 gives 14 with 8 lists; budget 7 gives 15 with 7."
  pub budget_8 : answer_of ri 0 1 0 8 4096 ≡ refused (fault TOO_DEEP 0 8)
  pub budget_7 : answer_of ri 0 1 0 7 4096 ≡ refused (fault OUT_OF_STEPS 0 7)
  -- "Hash of `A` 65, of `ab` 2471."
  pub hash_of_A : name_hash_of 32 (65 ∷ []) ≡ success 65
  pub hash_of_ab : name_hash_of 32 (97 ∷ 98 ∷ []) ≡ success 2471
  -- "Values: count 0, offset 0 succeeds; count 1, offset 0 is 6."
  pub no_values : (image : List ℕ) (base room : ℕ) → value_list_of image base 0 (pos 0) room ≡ success 0
  pub no_list : (image : List ℕ) (base room : ℕ) → value_list_of image base 1 (pos 0) room ≡ refused (by NO_LIST 0)
  -- "Image of 8, base 4096: offset 8 is 6, offset 7 is 2."
  pub offset_8 : (a b c d e f g h room : ℕ) → value_list_of (a ∷ b ∷ c ∷ d ∷ e ∷ f ∷ g ∷ h ∷ []) 4096 1 (pos 8) room ≡ refused (by NO_LIST 0)
  pub offset_7 : (a b c d e f g h room : ℕ) → value_list_of (a ∷ b ∷ c ∷ d ∷ e ∷ f ∷ g ∷ h ∷ []) 4096 1 (pos 7) room ≡ refused (by OUTSIDE 4103)
