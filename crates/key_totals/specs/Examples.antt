-- Document 02, orders 7 and 11, in examples: an image of two lists and five key records, calls on it, and what is proved of them
-- (proofs/Examples.antt).
use Rattle.std.specs.Prelude.{◌≡◌, ℕ, zero, suc, ◌+◌, ◌-◌, ◌^◌, List, [], ◌∷◌, ◌++◌, drop, replicate}
use Rattle.words.specs.Refusals.{BAD_SIGN, BAD_BUDGET, OUT_OF_STEPS, NOT_FOUND, ALREADY_IN, OTHER_PLACE}
use Rattle.words.specs.Paper.{Paper, success, refused, by, no_room_told}
use Rattle.sub_key_walk.specs.Judge.{fault}
use Rattle.sub_key_walk.specs.Examples.{list, li}
use Rattle.cell_key_node.specs.Key.{key_of}
use Rattle.cell_key_node.specs.declared.KeyNode.{KeyNode}
use Rattle.key_totals.specs.declared.Totals.{Totals}
use Rattle.key_totals.specs.declared.Place.{Place}
use Rattle.key_totals.specs.Table.{free, entry, totals, none, number_of}
use Rattle.key_totals.specs.Rows.{Call, add, replace, remove, called}

-- the first 40 bytes of a key record of 80 and no name, with a count of subkeys and the offset of their list; the other 40 are the next record's
abbrev pub half : ℕ → ℕ → List ℕ
half count list =
    176 ∷ 255 ∷ 255 ∷ 255 ∷ 110 ∷ 107 ∷ 0 ∷ 0 ∷ replicate 16 0 ++ (count ∷ 0 ∷ 0 ∷ 0 ∷ 0 ∷ 0 ∷ 0 ∷ 0 ∷ list ∷ 0 ∷ 0 ∷ 0 ∷ 0 ∷ 0 ∷ 0 ∷ 0 ∷ [])

-- an `li` list of two entries at 0, and at 16 an `lh` list of two, of which one is dropped at base 16; then keys: at 40, 80 and 120 with two
-- subkeys in the list at offset 0, at 160 with none, and at 200 with a list of no known kind
abbrev pub image : List ℕ
image =
    li ++ list 108 104 2 (239 ∷ 255 ∷ 255 ∷ 255 ∷ 1 ∷ 1 ∷ 1 ∷ 1 ∷ 240 ∷ 255 ∷ 255 ∷ 255 ∷ 2 ∷ 2 ∷ 2 ∷ 2 ∷ [])
    ++ half 2 0 ++ half 2 0 ++ half 2 0 ++ half 0 0 ++ half 2 4 ++ replicate 40 0

-- the key record at p, with a base
abbrev pub key : ℕ → ℕ → KeyNode
key p base = key_of p base (drop p image)

-- a key at p is added: at base 0, at base 16, with a budget that is spent at once, and with one that is too large
abbrev pub plain : ℕ → Call
plain p = add (key p 0) 8

abbrev pub based : ℕ → Call
based p = add (key p 16) 8

abbrev pub no_steps : ℕ → Call
no_steps p = add (key p 0) 0

abbrev pub no_budget : ℕ → Call
no_budget p = add (key p 0) 65537

-- the record at q is said to stand at p
abbrev pub said : ℕ → ℕ → KeyNode
said p q = key_of p 0 (drop q image)

-- the answers of a row of calls, and the table after it
abbrev pub answers : Totals → List Call → List (Paper ℕ)
answers t [] = []
answers t (c ∷ cs) = (called image t c).answer ∷ answers (called image t c).table cs

abbrev pub after : Totals → List Call → Totals
after t [] = t
after t (c ∷ cs) = after (called image t c).table cs

-- n keys of two subkeys each, far behind the image
abbrev pub held : ℕ → List Place
held zero = []
held (suc n) = entry (1000 + n) 2 ∷ held n

-- a table with two places left
abbrev pub nearly : Totals
nearly = totals (held 254 ++ (free ∷ free ∷ [])) 508

-- a table that no call made: 256 times the same key, and a total that is none
abbrev pub made_up : Totals
made_up = totals (replicate 256 (entry 7 1)) (2 ^ 64 - 1)

pub record Examples : Type 0 where
  -- the kept number and not the entries; 19 before the walk's fault and before 13; a refused call changes nothing
  pub adding : answers none (plain 40 ∷ based 80 ∷ plain 160 ∷ plain 40 ∷ no_steps 40 ∷ no_budget 40 ∷ plain 200 ∷ no_budget 120 ∷ [])
      ≡ success 2 ∷ success 1 ∷ success 0 ∷ refused (by ALREADY_IN 0) ∷ refused (by ALREADY_IN 0) ∷ refused (by ALREADY_IN 0)
      ∷ refused (fault BAD_SIGN 4 0) ∷ refused (by BAD_BUDGET 0) ∷ []
  pub added : after none (plain 40 ∷ based 80 ∷ plain 160 ∷ plain 40 ∷ no_steps 40 ∷ no_budget 40 ∷ plain 200 ∷ no_budget 120 ∷ [])
      ≡ totals (entry 40 2 ∷ entry 80 1 ∷ entry 160 0 ∷ replicate 253 free) 3
  -- 16 before the walk's fault
  pub replacing : answers none (plain 40 ∷ replace (key 40 16) 8 ∷ replace (key 40 0) 8 ∷ replace (key 40 0) 0 ∷ replace (key 200 0) 8 ∷ [])
      ≡ success 2 ∷ success 1 ∷ success 2 ∷ refused (fault OUT_OF_STEPS 0 0) ∷ refused (by NOT_FOUND 0) ∷ []
  pub smaller : after none (plain 40 ∷ plain 80 ∷ replace (key 40 16) 8 ∷ []) ≡ totals (entry 40 1 ∷ entry 80 2 ∷ replicate 254 free) 3
  pub larger : after none (based 40 ∷ plain 80 ∷ replace (key 40 0) 8 ∷ []) ≡ totals (entry 40 2 ∷ entry 80 2 ∷ replicate 254 free) 4
  -- "freed places are used again", the first of them
  pub removing : answers none (plain 40 ∷ based 80 ∷ remove 40 ∷ remove 40 ∷ remove 0 ∷ [])
      ≡ success 2 ∷ success 1 ∷ success 2 ∷ refused (by NOT_FOUND 0) ∷ refused (by NOT_FOUND 0) ∷ []
  pub used_again : after none (plain 40 ∷ plain 80 ∷ plain 120 ∷ remove 80 ∷ remove 40 ∷ plain 160 ∷ [])
      ≡ totals (entry 160 0 ∷ free ∷ entry 120 2 ∷ replicate 253 free) 2
  -- "on adding 9, with 257 places needed, when all 256 are taken", after 19 and the walk's own; a freed place is room again
  pub full : answers nearly (plain 40 ∷ plain 80 ∷ plain 120 ∷ plain 40 ∷ plain 200 ∷ remove 1017 ∷ plain 120 ∷ plain 160 ∷ [])
      ≡ success 2 ∷ success 2 ∷ refused (no_room_told 0 257 0 0) ∷ refused (by ALREADY_IN 0) ∷ refused (fault BAD_SIGN 4 0) ∷ success 2 ∷ success 2
      ∷ refused (no_room_told 0 257 0 0) ∷ []
  pub full_total : (after nearly (plain 40 ∷ plain 80 ∷ [])).total ≡ 512
  -- a table that no call made: the first place with the position counts, and the total is taken modulo 2^64
  pub made_up_full : answers made_up (plain 40 ∷ remove 7 ∷ plain 40 ∷ remove 7 ∷ []) ≡ refused (no_room_told 0 257 0 0) ∷ success 1 ∷ success 2 ∷ success 1 ∷ []
  pub made_up_after : after made_up (remove 7 ∷ plain 40 ∷ []) ≡ totals (entry 40 2 ∷ replicate 255 (entry 7 1)) 0
  pub made_up_below : after (totals (replicate 256 (entry 7 1)) 0) (remove 7 ∷ []) ≡ totals (free ∷ replicate 255 (entry 7 1)) (2 ^ 64 - 1)
  -- a record that reads the same in another place is that record: the one at 40, said to stand at 80
  pub read_alike : answers none (add (said 80 40) 8 ∷ []) ≡ success 2 ∷ []
  -- one that does not is refused by 21: where another record stands, where none is, at the image's end and past it; before 19 and 16, 13 and
  -- the walk's fault, and 9
  pub elsewhere : answers (after none (plain 40 ∷ []))
      (add (said 160 40) 8 ∷ add (said 8 40) 8 ∷ add (said 280 40) 8 ∷ add (said 281 40) 8 ∷ add (said 40 160) 8 ∷ replace (said 80 160) 8
      ∷ add (said 80 160) 65537 ∷ add (said 160 200) 8 ∷ [])
      ≡ replicate 8 (refused (by OTHER_PLACE 0))
  pub elsewhere_full : answers made_up (add (said 80 160) 8 ∷ []) ≡ refused (by OTHER_PLACE 0) ∷ []
  -- reading an entry
  pub reading : (number_of (after none (plain 40 ∷ [])) 40 ≡ success 2) × (number_of (after none (plain 40 ∷ [])) 0 ≡ refused (by NOT_FOUND 0))
