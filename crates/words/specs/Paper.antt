-- What document 01 says that a function answers: it succeeds with values, or it is refused.
use Prim.{Unit}
use Rattle.std.specs.Prelude.{ℕ, cond, List, [], eqb, Ok, Err}
use Rattle.std.specs.declared.result.Result.{Result}
use Rattle.std.specs.declared.option.Option.{Option}
use Rattle.std.specs.declared.option.Option.TheVariants.{Some, None}
use Rattle.words.specs.declared.Reason.{Reason}
use Rattle.words.specs.declared.Reason.TheVariants.{Short, Outside, BadSize, BadSign, BadName, NoList, TooMany, CutShort, NoRoom, BadBin, BadCell, TooLarge, BadBudget, TooDeep, OutOfSteps, NotFound, BadData, PastEnd, AlreadyIn, NotPermitted, OtherPlace, BadRecord, NotTheList}
use Rattle.words.specs.Refusals.{SHORT, OUTSIDE, BAD_SIZE, BAD_SIGN, BAD_NAME, NO_LIST, TOO_MANY, CUT_SHORT, NO_ROOM, BAD_BIN, BAD_CELL, TOO_LARGE, BAD_BUDGET, TOO_DEEP, OUT_OF_STEPS, NOT_FOUND, BAD_DATA, PAST_END, ALREADY_IN, NOT_PERMITTED, OTHER_PLACE, BAD_RECORD, NOT_THE_LIST}
use Rattle.words.specs.declared.Refusal.{Refusal}
use Rattle.words.specs.declared.RoomRefusal.{RoomRefusal}

-- "A refusal returns its number, the position of the list, bin, cell or record at fault .. and, from the walk, the lists read so
-- far. Other fields are 0, except that NO ROOM also returns the places needed and the walk's entry count" and, of a walk and of a leaf
-- list, the number dropped (document 02, order 2).
pub record Told : Type 0 where
  pub number : ℕ
  pub position : ℕ
  pub lists : ℕ
  pub places : ℕ
  pub entries : ℕ
  pub dropped : ℕ

pub data Paper (A : Type 0) : Type 0 where
  success : A → Paper A
  refused : Told → Paper A

-- all that a refusal tells, in the order of the fields: the one place where it is put together
abbrev pub tell : ℕ → ℕ → ℕ → ℕ → ℕ → ℕ → Told
tell n p lists places entries dropped =
    record { number = n; position = p; lists = lists; places = places; entries = entries; dropped = dropped }

-- a refusal that tells its number and its position, with every other field 0
abbrev pub by : ℕ → ℕ → Told
by n p = tell n p 0 0 0 0

-- NO ROOM, at position 0: the lists read, the places needed, the entries, those dropped
abbrev pub no_room_told : ℕ → ℕ → ℕ → ℕ → Told
no_room_told lists places entries dropped = tell NO_ROOM 0 lists places entries dropped

-- an answer with its values told in another way
unfoldable pub on_success : {A B : Type 0} → (A → B) → Paper A → Paper B
on_success f (success v) = success (f v)
on_success f (refused t) = refused t

-- one answer after another: the first that is refused decides
unfoldable pub and_then : {A B : Type 0} → Paper A → Paper B → Paper B
and_then (success v) next = next
and_then (refused t) next = refused t

-- and by what the first one gives
unfoldable pub then_by : {A B : Type 0} → Paper A → (A → Paper B) → Paper B
then_by (success v) next = next v
then_by (refused t) next = refused t

-- ---- what the code's records of a refusal tell

-- the number of each in the table
abbrev pub number_of : Reason → ℕ
number_of Short = SHORT
number_of Outside = OUTSIDE
number_of BadSize = BAD_SIZE
number_of BadSign = BAD_SIGN
number_of BadName = BAD_NAME
number_of NoList = NO_LIST
number_of TooMany = TOO_MANY
number_of CutShort = CUT_SHORT
number_of NoRoom = NO_ROOM
number_of BadBin = BAD_BIN
number_of BadCell = BAD_CELL
number_of TooLarge = TOO_LARGE
number_of BadBudget = BAD_BUDGET
number_of TooDeep = TOO_DEEP
number_of OutOfSteps = OUT_OF_STEPS
number_of NotFound = NOT_FOUND
number_of BadData = BAD_DATA
number_of PastEnd = PAST_END
number_of AlreadyIn = ALREADY_IN
number_of NotPermitted = NOT_PERMITTED
number_of OtherPlace = OTHER_PLACE
number_of BadRecord = BAD_RECORD
number_of NotTheList = NOT_THE_LIST

abbrev pub told : Refusal → Told
told f = by (number_of f.reason) f.position

abbrev pub told_of_room : RoomRefusal → Told
told_of_room f = tell (number_of f.reason) f.position 0 f.places 0 0

-- what an answer says: of its values by a reading of them, of its refusal what that tells
abbrev pub paper_of : {A E V : Type 0} → (A → V) → (E → Told) → Result A E → Paper V
paper_of value tells (Ok v) = success (value v)
paper_of value tells (Err f) = refused (tells f)

-- the number of the first check that fails, and 0 where none does
abbrev pub fault_number : Option Reason → ℕ
fault_number None = 0
fault_number (Some r) = number_of r

-- where all checks are passed nothing is told
abbrev pub verdict_paper : Result (Unit {0}) Refusal → Paper (Unit {0})
verdict_paper (Ok v) = success v
verdict_paper (Err f) = refused (told f)

-- ---- where a row of checks gives the number of the first that fails, and 0 where none does

-- the values, or the refusal by that number at a position
unfoldable pub checked : {A : Type 0} → ℕ → ℕ → A → Paper A
checked n p v = cond (eqb n 0) (success v) (refused (by n p))

-- a part of the image, or the empty part; and where it starts, which is the image's start for the empty part
unfoldable pub handed : ℕ → List ℕ → List ℕ
handed n part = cond (eqb n 0) part []

unfoldable pub handed_at : ℕ → ℕ → ℕ
handed_at n at = cond (eqb n 0) at 0
