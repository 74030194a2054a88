-- What an auditor reads of an answer of `deleted_keys`, in other words than `deleted_of`. Proved in proofs/Whole.antt.
use Rattle.std.specs.Prelude.{ℕ, ◌≤◌, ◌<◌, ◌≡◌, ◌↔◌, ◌⊎◌, List, [], ◌∷◌, ◌++◌, false, length, drop}
use Rattle.words.specs.Refusals.{NO_ROOM}
use Rattle.words.specs.Paper.{success, refused, by}
use Rattle.words.specs.declared.RoomRefusal.{RoomRefusal}
use Rattle.hive_bin.specs.Walk.{Found, found, bins_at}
use Rattle.hive_bin.specs.Totals.{negative, bins_of}
use Rattle.hive_bin.specs.Steps.{Rising}
use Rattle.cell_key_node.specs.Key.{key_at}
use Rattle.cell_key_node.specs.declared.KeyNode.{KeyNode}
use Rattle.deleted_keys.specs.Deleted.{deleted_of}
use Rattle.words.specs.Paper.{number_of}

-- one of a row
abbrev pub Among : {A : Type 0} → A → List A → Type 0
Among x [] = ⊥
Among x (y ∷ ys) = (x ≡ y) ⊎ Among x ys

-- at a position stands one of these cells, it is free, and it reads as a key record by document 01, with any base
pub record Deleted (image : List ℕ) (cells : List Found) (position : ℕ) : Type 0 where
  pub cell : Found
  pub among : Among cell cells
  pub place : cell.place ≡ position
  pub free : negative cell.size ≡ false
  pub reads : (base : ℕ) → (key : KeyNode) × (key_at image position base ≡ success key)

-- of an answer with a buffer that held `old` and holds `new`
module _ (image : List ℕ) (base size : ℕ) (old new : List ℕ) where
  -- n positions are listed: the bins check, the positions rise, so that each stands once, and they are those of the deleted keys among
  -- the cells of the bins, all of them and no other; the places behind them are as they were
  pub record WasListed (n : ℕ) : Type 0 where
    pub bins : ℕ
    pub cells : List Found
    pub checked : bins_at image base size ≡ found bins cells
    pub positions : List ℕ
    pub number : length positions ≡ n
    pub room : n ≤ length old
    pub written : new ≡ positions ++ drop n old
    pub rising : Rising base positions
    pub each : (p : ℕ) → Among p positions ↔ Deleted image cells p

  -- it is refused: no place has changed; 9 tells how many there are, and the places are fewer; any other refusal is that of the bins
  pub record WasRefused (f : RoomRefusal) : Type 0 where
    pub untouched : new ≡ old
    pub no_room : (number_of f.reason) ≡ NO_ROOM
        → (f.position ≡ 0) × (length old < f.places) × ((ps : List ℕ) × (deleted_of image base size ≡ success ps) × (length ps ≡ f.places))
    pub bins : ((number_of f.reason) ≡ NO_ROOM → ⊥) → (bins_of image base size ≡ refused (by (number_of f.reason) f.position)) × (f.places ≡ 0)
