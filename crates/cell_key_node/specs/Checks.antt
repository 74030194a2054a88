-- Document 01, "Refusal numbers", "Given exactly when": the numbers of a record's checks, said of the record in other words than
-- `fault_at`. Proved as `exactly` in proofs/Checks.antt.
use Rattle.std.specs.Prelude.{◌≡◌, ◌↔◌, ◌⊎◌, List, ℕ, ◌+◌, ◌≤◌, ◌<◌, length, drop}
use Rattle.words.specs.Words.{word16}
use Rattle.words.specs.Refusals.{SHORT, OUTSIDE, BAD_SIZE, BAD_SIGN, BAD_NAME}
use Rattle.cell_key_node.specs.Records.{size_of, fault_at}

-- what the checks ask of a cell: "80 left for a key record, 24 for a value record"
abbrev pub Room : List ℕ → ℕ → Type 0
Room cell fixed = fixed ≤ length cell

-- "a record's size magnitude is below its fixed part (80 or 24) or above the bytes left", and its contrary
abbrev pub Sized : List ℕ → ℕ → Type 0
Sized cell fixed = (fixed ≤ size_of cell) × (size_of cell ≤ length cell)

abbrev pub Unsized : List ℕ → ℕ → Type 0
Unsized cell fixed = (size_of cell < fixed) ⊎ (length cell < size_of cell)

-- "a signature is not one expected", its contrary
abbrev pub Signs : List ℕ → ℕ → Type 0
Signs cell sign = word16 cell 4 ≡ sign

-- "a name passes its cell's end", its contrary
abbrev pub Named : List ℕ → ℕ → ℕ → Type 0
Named cell fixed name_at = fixed + word16 cell name_at ≤ size_of cell

-- of the record at a position, number by number in the order of the checks; no other number is given
module _ (image : List ℕ) (position fixed sign name_at : ℕ) where
  abbrev pub cell : List ℕ
  cell = drop position image

  abbrev pub fault : ℕ
  fault = fault_at image position fixed sign name_at

  pub record Exactly : Type 0 where
    pub outside : (fault ≡ OUTSIDE) ↔ (length image < position)
    pub short : (fault ≡ SHORT) ↔ ((position ≤ length image) × (length cell < fixed))
    pub bad_size : (fault ≡ BAD_SIZE) ↔ ((position ≤ length image) × (Room cell fixed × Unsized cell fixed))
    pub bad_sign : (fault ≡ BAD_SIGN) ↔ ((position ≤ length image) × (Room cell fixed × Sized cell fixed × (Signs cell sign → ⊥)))
    pub bad_name :
        (fault ≡ BAD_NAME)
        ↔ ((position ≤ length image) × (Room cell fixed × Sized cell fixed × Signs cell sign × (size_of cell < fixed + word16 cell name_at)))
    pub none :
        (fault ≡ 0)
        ↔ ((position ≤ length image) × (Room cell fixed × Sized cell fixed × Signs cell sign × Named cell fixed name_at))
    pub no_other : fault ≤ BAD_NAME
