-- Document 01, "Value lists and lookup": the value list of a key record.
use Rattle.std.specs.Prelude.{ℕ, zero, suc, ◌+◌, ◌*◌, List, [], ◌∷◌, ◌++◌, cond, length, drop, ltb, leb, eqb, ℤ}
use Rattle.words.specs.Words.{word32, above_zero}
use Rattle.words.specs.Paper.{Paper, success, refused, by, told, told_of_room, paper_of}
use Rattle.words.specs.Refusals.{NO_LIST, TOO_MANY, OUTSIDE, CUT_SHORT}
use Rattle.words.specs.Buffers.{needing, in_room, Answered}
use Rattle.sub_key_walk.specs.Answers.{COUNT_LIMIT}
use Rattle.std.specs.declared.result.Result.{Result}
use Rattle.std.specs.declared.option.Option.{Option}
use Rattle.words.specs.declared.Refusal.{Refusal}
use Rattle.words.specs.declared.RoomRefusal.{RoomRefusal}
use Rattle.std.specs.declared.option.Option.TheVariants.{Some, None}

-- where a list stands: there is none, or it is at a position
pub data Placed : Type 0 where
  nowhere : Placed
  at : ℕ → Placed

-- "position = offset + base"
abbrev pub position_of : ℕ → ℤ → ℕ
position_of base offset = above_zero offset + base

-- "In order: count 0 succeeds with none"; "then 6": "value count above 0, list offset at most 0 or at least the image length",
-- "without the base"; "then 7": "value count above 1,048,576"; "position = offset + base, then 2"; "size word plus 4 bytes an entry
-- must be present, else 8"
unfoldable pub place_of : List ℕ → ℕ → ℕ → ℤ → Paper Placed
place_of image base count offset =
    cond (eqb count 0) (success nowhere)
    (cond (eqb (above_zero offset) 0) (refused (by NO_LIST 0))
    (cond (leb (length image) (above_zero offset)) (refused (by NO_LIST 0))
    (cond (ltb COUNT_LIMIT count) (refused (by TOO_MANY 0))
    (cond (ltb (length image) (position_of base offset)) (refused (by OUTSIDE (position_of base offset)))
    (cond (ltb (length image) (position_of base offset + 4 + 4 * count)) (refused (by CUT_SHORT (position_of base offset)))
    (success (at (position_of base offset))))))))

-- what the code's answer says
abbrev pub placed : Option ℕ → Placed
placed None = nowhere
placed (Some p) = at p

abbrev pub place_paper : Result (Option ℕ) Refusal → Paper Placed
place_paper = paper_of placed told

-- the number of entries, without regard to the room
abbrev pub counted : ℕ → Paper Placed → Paper ℕ
counted count (success nowhere) = success 0
counted count (success (at p)) = success count
counted count (refused t) = refused t

-- "then 9": "NO ROOM also returns the places needed"
unfoldable pub value_list_of : List ℕ → ℕ → ℕ → ℤ → ℕ → Paper ℕ
value_list_of image base count offset room = in_room needing room (counted count (place_of image base count offset))

-- "The entries are given as stored, relative": entry i, after the list's size word
unfoldable pub entry_of : List ℕ → ℕ → ℕ
entry_of list i = word32 list (4 + 4 * i)

-- f 0, f 1, .. before f n
unfoldable pub up_to : (ℕ → ℕ) → ℕ → List ℕ
up_to f zero = []
up_to f (suc n) = up_to f n ++ (f n ∷ [])

-- the entries of the list that stands at a place, and none where there is no list
abbrev pub row_at : List ℕ → ℕ → Paper Placed → List ℕ
row_at image count (success nowhere) = []
row_at image count (success (at p)) = up_to (entry_of (drop p image)) count
row_at image count (refused t) = []

unfoldable pub entries_of : List ℕ → ℕ → ℕ → ℤ → List ℕ
entries_of image base count offset = row_at image count (place_of image base count offset)

-- what the code's answer says
abbrev pub value_list_paper : Result ℕ RoomRefusal → Paper ℕ
value_list_paper = paper_of (λ n. n) told_of_room

-- the answer r of a value list, and the buffer's contents before and after it
abbrev pub ListAnswered : List ℕ → ℕ → ℕ → ℤ → List ℕ → Result ℕ RoomRefusal → List ℕ → Type 0
ListAnswered image base count offset old r new =
    Answered (value_list_paper r) (value_list_of image base count offset (length old)) (entries_of image base count offset) old new
