-- What the rule of upper case comes to, in other words, and what it means for the hash of a name. Document 02, order 5.
use Rattle.std.specs.Prelude.{◌≡◌, ℕ, zero, suc, ◌+◌, ◌-◌, ◌*◌, ◌/◌, ◌%◌, ◌^◌, ◌<◌, ◌≤◌, Bool, true, false, cond, not, ◌⊎◌, List, [], ◌∷◌, length, ◌==◌, nat_le}
use Rattle.words.specs.Paper.{Paper, success}
use Rattle.words.specs.Words.{byte_at}
use Rattle.name_hash.specs.Characters.{upper_of, character_of}
use Rattle.name_hash.specs.Hash.{hash_of, name_hash_of, hash_paper}
use Rattle.std.specs.Prelude.{Ok}
use Rattle.std.specs.declared.result.Result.{Result}
use Rattle.words.specs.declared.Refusal.{Refusal}

-- ---- the rule, unit by unit

-- a unit that order 5 does not name
abbrev pub Unnamed : ℕ → Type 0
Unnamed x = (x < 1072) ⊎ (1119 < x)

-- Proved as `rule` in proofs/Rule.antt.
pub record Rule : Type 0 where
  -- "units 1072 to 1103 become 32 less"
  pub first : (x : ℕ) → 1072 ≤ x → x ≤ 1103 → upper_of x ≡ x - 32
  -- "and 1104 to 1119 become 80 less"
  pub second : (x : ℕ) → 1104 ≤ x → x ≤ 1119 → upper_of x ≡ x - 80
  -- every other unit of 256 and above stays
  pub others : (x : ℕ) → 256 ≤ x → Unnamed x → upper_of x ≡ x
  -- the upper case of a unit is a unit: it has 16 bits
  pub unit : (x : ℕ) → x < 2 ^ 16 → upper_of x < 2 ^ 16
  -- what is in upper case stays
  pub stays : (x : ℕ) → upper_of (upper_of x) ≡ upper_of x

-- ---- what it means for a name

-- "Characters are bytes, or 16-bit units if flag 0020 of the key is clear": whether they are units, how many they are, and each
abbrev pub units_by : ℕ → Bool
units_by flags = not (flags / 32 % 2 == 1)

abbrev pub count_of : Bool → List ℕ → ℕ
count_of false name = length name
count_of true name = length name / 2

abbrev pub count : ℕ → List ℕ → ℕ
count flags name = count_of (units_by flags) name

abbrev pub character : ℕ → List ℕ → ℕ → ℕ
character flags name i = character_of (units_by flags) name i

-- what `name_hash` promises of its answer
abbrev pub Answers : ℕ → List ℕ → Result ℕ Refusal → Type 0
Answers flags name r = hash_paper r ≡ name_hash_of flags name

-- The hash by the rule is the remainder of a sum that is never reduced. Proved as `exact` in proofs/Case.antt.
unfoldable pub exact_of : (ℕ → ℕ) → (ℕ → ℕ) → ℕ → ℕ
exact_of upper f zero = 0
exact_of upper f (suc n) = exact_of upper f n * 37 + upper (f n)

abbrev pub Exact : ℕ → List ℕ → Type 0
Exact flags name = (h : ℕ) → Answers flags name (Ok h) → h ≡ exact_of upper_of (character flags name) (count flags name) % 2 ^ 32

-- Two names of one length, with one key's flags. Proved as `one_case` in proofs/Case.antt.
pub record OneCase (flags : ℕ) (name other : List ℕ) : Type 0 where
  -- where their characters have the same upper case, each by each, they have one answer
  pub alike :
      length name ≡ length other →
      ((i : ℕ) → i < count flags name → upper_of (character flags name i) ≡ upper_of (character flags other i)) →
      (r t : Result ℕ Refusal) → Answers flags name r → Answers flags other t → r ≡ t
  -- so have a name and the same in upper case
  pub raised :
      length name ≡ length other →
      ((i : ℕ) → i < count flags name → character flags other i ≡ upper_of (character flags name i)) →
      (r t : Result ℕ Refusal) → Answers flags name r → Answers flags other t → r ≡ t

-- by 01's own last sentence, which order 5 replaced: "Units of 256 and above are unchanged."
unfoldable pub upper_before : ℕ → ℕ
upper_before x = cond (nat_le 256 x) x (upper_of x)

-- Which hashes stayed. Proved as `as_before` in proofs/Case.antt.
pub record AsBefore (flags : ℕ) (name : List ℕ) : Type 0 where
  -- that of a name of whose characters order 5 names none is the one by that sentence
  pub unnamed :
      ((i : ℕ) → i < count flags name → Unnamed (character flags name i)) →
      (h : ℕ) → Answers flags name (Ok h) → h ≡ hash_of upper_before (character flags name) (count flags name)
  -- so is that of every name in bytes
  pub bytes :
      units_by flags ≡ false → ((i : ℕ) → byte_at name i < 256) →
      (h : ℕ) → Answers flags name (Ok h) → h ≡ hash_of upper_before (byte_at name) (length name)

-- ---- computed: names of one unit at each end of the ranges and beside it, and a word

abbrev pub one : ℕ → Paper ℕ
one x = name_hash_of 0 (x % 256 ∷ x / 256 ∷ [])

-- the word of units 1076, 1077, 1087, 1086, and the same in upper case
abbrev pub word : List ℕ
word = 0x34 ∷ 4 ∷ 0x35 ∷ 4 ∷ 0x3F ∷ 4 ∷ 0x3E ∷ 4 ∷ []

abbrev pub upper_word : List ℕ
upper_word = 0x14 ∷ 4 ∷ 0x15 ∷ 4 ∷ 0x1F ∷ 4 ∷ 0x1E ∷ 4 ∷ []

-- Proved as `ends` in proofs/Examples.antt.
pub record Ends : Type 0 where
  pub unit_1071 : one 1071 ≡ success 1071
  pub unit_1072 : one 1072 ≡ success 1040
  pub unit_1103 : one 1103 ≡ success 1071
  pub unit_1104 : one 1104 ≡ success 1024
  pub unit_1119 : one 1119 ≡ success 1039
  pub unit_1120 : one 1120 ≡ success 1120
  pub of_word : name_hash_of 0 word ≡ success 54352426
  pub of_upper_word : name_hash_of 0 upper_word ≡ success 54352426
  -- by 01's own last sentence it was another
  pub before : hash_of upper_before (character_of true word) 4 ≡ 56018346
