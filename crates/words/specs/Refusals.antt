-- Document 01, "Refusal numbers": the table, by name, and what document 02 adds to it. The names are those of the code's constants.
use Rattle.std.specs.Prelude.{ℕ, List, [], ◌∷◌}

abbrev pub SHORT : ℕ
SHORT = 1

abbrev pub OUTSIDE : ℕ
OUTSIDE = 2

abbrev pub BAD_SIZE : ℕ
BAD_SIZE = 3

abbrev pub BAD_SIGN : ℕ
BAD_SIGN = 4

abbrev pub BAD_NAME : ℕ
BAD_NAME = 5

abbrev pub NO_LIST : ℕ
NO_LIST = 6

abbrev pub TOO_MANY : ℕ
TOO_MANY = 7

abbrev pub CUT_SHORT : ℕ
CUT_SHORT = 8

abbrev pub NO_ROOM : ℕ
NO_ROOM = 9

abbrev pub BAD_BIN : ℕ
BAD_BIN = 10

abbrev pub BAD_CELL : ℕ
BAD_CELL = 11

abbrev pub TOO_LARGE : ℕ
TOO_LARGE = 12

abbrev pub BAD_BUDGET : ℕ
BAD_BUDGET = 13

abbrev pub TOO_DEEP : ℕ
TOO_DEEP = 14

abbrev pub OUT_OF_STEPS : ℕ
OUT_OF_STEPS = 15

abbrev pub NOT_FOUND : ℕ
NOT_FOUND = 16

-- order 1: "17 BAD DATA"
abbrev pub BAD_DATA : ℕ
BAD_DATA = 17

-- order 6: "18 PAST END"
abbrev pub PAST_END : ℕ
PAST_END = 18

-- order 7: "19 ALREADY IN"
abbrev pub ALREADY_IN : ℕ
ALREADY_IN = 19

-- order 9: "20 NOT PERMITTED"
abbrev pub NOT_PERMITTED : ℕ
NOT_PERMITTED = 20

-- order 11: "21 OTHER PLACE"
abbrev pub OTHER_PLACE : ℕ
OTHER_PLACE = 21

-- the table whole, in its order
abbrev pub numbers : List ℕ
numbers =
    SHORT ∷ OUTSIDE ∷ BAD_SIZE ∷ BAD_SIGN ∷ BAD_NAME ∷ NO_LIST ∷ TOO_MANY ∷ CUT_SHORT ∷ NO_ROOM ∷ BAD_BIN ∷ BAD_CELL ∷ TOO_LARGE ∷ BAD_BUDGET
    ∷ TOO_DEEP ∷ OUT_OF_STEPS ∷ NOT_FOUND ∷ BAD_DATA ∷ PAST_END ∷ ALREADY_IN ∷ NOT_PERMITTED ∷ OTHER_PLACE ∷ []

-- order 12, of which nothing is in the table yet: "22 BAD RECORD", "23 NOT THE LIST"
abbrev pub BAD_RECORD : ℕ
BAD_RECORD = 22

abbrev pub NOT_THE_LIST : ℕ
NOT_THE_LIST = 23
