-- Document 02, order 9, of one list: what is proved of the strict profile (proofs/Profiles.antt).
use Rattle.std.specs.Prelude.{ℕ, ◌+◌, ◌≤◌, ◌<◌, ◌≡◌, ◌↔◌, ◌⊎◌, List, Bool, true, length}
use Rattle.words.specs.Refusals.{BAD_SIZE, NOT_PERMITTED}
use Rattle.words.specs.Paper.{Told, success, by, told}
use Rattle.words.specs.declared.Refusal.{Refusal}
use Rattle.cell.specs.Cells.{magnitude_at, allocated_at}
use Rattle.sub_key_list.specs.Lists.{LF, LH, LI, RI, Listed, kind_at, list_paper}
use Rattle.sub_key_list.specs.Strict.{least_minor, permitted, list_bytes}
use Rattle.sub_key_list.specs.declared.SubKeyList.{SubKeyList}
use Rattle.std.specs.Prelude.{Err}
use Rattle.std.specs.declared.result.Result.{Result}

-- "The permitted kinds are a rule over the minor version, proved once for all kinds": exactly from its least version on, whatever the
-- kind. The four kinds read it off the table.
pub record Rule (minor : ℕ) : Type 0 where
  pub every : (kind : ℕ) → (permitted kind minor ≡ true) ↔ (least_minor kind ≤ minor)
  pub later : (kind next : ℕ) → minor ≤ next → permitted kind minor ≡ true → permitted kind next ≡ true
  pub lf : (permitted LF minor ≡ true) ↔ (2 < minor)
  pub lh : (permitted LH minor ≡ true) ↔ (4 < minor)
  pub li : permitted LI minor ≡ true
  pub ri : permitted RI minor ≡ true

-- what the strict profile asks of a list that can be read
pub record Met (s : List ℕ) (minor : ℕ) (named : Bool) (p : ℕ) : Type 0 where
  pub permitted : least_minor (kind_at s p) ≤ minor
  pub top : named ≡ true → kind_at s p ≡ RI → ⊥
  pub allocated : allocated_at s p ≡ true
  pub large : list_bytes s p ≤ magnitude_at s p
  pub inside : p + magnitude_at s p ≤ length s

-- a refusal that the strict profile adds, of the list at `p`: 20 at position 0, or 3 at the list
abbrev pub Added : ℕ → Told → Type 0
Added p t = (t ≡ by NOT_PERMITTED 0) ⊎ (t ≡ by BAD_SIZE p)

-- of any answer `a` of `strict_list` and any answer `o` of `read_list` on one image and position
pub record OneList (s : List ℕ) (minor : ℕ) (named : Bool) (p : ℕ) (a o : (Result SubKeyList Refusal)) : Type 0 where
  -- what strict accepts is what the ordinary reading answers, and all that it asks is met; and the other way round
  pub accepts : (l : Listed) → (list_paper a ≡ success l) ↔ ((list_paper o ≡ success l) × Met s minor named p)
  -- it refuses as the ordinary reading does, or by 20 or 3
  pub refuses : (f : Refusal) → a ≡ Err f → (o ≡ a) ⊎ Added p (told f)
  -- what the ordinary reading refuses, it refuses alike
  pub keeps : (f : Refusal) → o ≡ Err f → a ≡ o
