use mathlib.Core.Path.{◌≡◌, refl}
use Prim.Native.Nat.{◌+◌}
use Rattle.words.specs.declared.Reason.{Reason}
use Rattle.words.specs.declared.Reason.TheVariants.{Short, Outside, BadSize, BadSign, BadName, NoList, TooMany, CutShort, NoRoom, BadBin, BadCell, TooLarge, BadBudget, TooDeep, OutOfSteps, NotFound, BadData, PastEnd, AlreadyIn, NotPermitted, OtherPlace, BadRecord, NotTheList}
use Rattle.words.specs.Paper.{number_of}
use Rattle.words.proofs.Reason.number.Goals as goal

pub returns : goal.returns
returns c = go c.args.self
  where
    go : (r : Reason) → denote.Enum.Declared.tag_of Rattle.words.specs.contracts.Reason.the_type r + 1 ≡ number_of r
    go Short = refl
    go Outside = refl
    go BadSize = refl
    go BadSign = refl
    go BadName = refl
    go NoList = refl
    go TooMany = refl
    go CutShort = refl
    go NoRoom = refl
    go BadBin = refl
    go BadCell = refl
    go TooLarge = refl
    go BadBudget = refl
    go TooDeep = refl
    go OutOfSteps = refl
    go NotFound = refl
    go BadData = refl
    go PastEnd = refl
    go AlreadyIn = refl
    go NotPermitted = refl
    go OtherPlace = refl
    go BadRecord = refl
    go NotTheList = refl
