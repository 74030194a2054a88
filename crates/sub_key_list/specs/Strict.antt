-- One subkey list read strictly, from document 02, order 9, "Only what the version permits".
use Prim.{Unit, tt}
use Rattle.std.specs.Prelude.{ℕ, ◌+◌, ◌*◌, List, Bool, true, false, cond, not, ltb, leb, eqb}
use Rattle.words.specs.Refusals.{BAD_SIZE, NOT_PERMITTED}
use Rattle.words.specs.Paper.{Paper, success, refused, by, and_then}
use Rattle.cell.specs.Cells.{magnitude_at, allocated_at, bytes_left}
use Rattle.sub_key_list.specs.Lists.{LF, LH, RI, entry_size, Listed, kind_at, count_at, list_at}

-- ---- "The permitted kinds are a rule over the minor version": a table of versions, and one rule for every kind

-- the least minor version at which a kind is permitted: "`lf` .. above minor version 2, `lh` above 4", every other one always
unfoldable pub least_minor : ℕ → ℕ
least_minor kind =
    cond (eqb kind LF) (2 + 1)
    (cond (eqb kind LH) (4 + 1) 0)

-- a kind is permitted from that version on
unfoldable pub permitted : ℕ → ℕ → Bool
permitted kind minor = leb (least_minor kind) minor

-- "an `ri` list may not name an `ri` list": a list of this kind, where `named` says whether an `ri` list names it
unfoldable pub ri_under_ri : Bool → ℕ → Bool
ri_under_ri named kind = cond named (eqb kind RI) false

-- "20 NOT PERMITTED for the kind or for `ri` under `ri`"
unfoldable pub barred : ℕ → Bool → ℕ → Bool
barred minor named kind = cond (permitted kind minor) (ri_under_ri named kind) true

-- ---- "every list's entries must lie inside its own cell, which must be allocated"

-- the cell at `p` is allocated and has the first `needed` bytes: not where its size word is "not negative, too small for the entries
-- or past the image"
unfoldable pub own_cell : List ℕ → ℕ → ℕ → Bool
own_cell s p needed =
    cond (not (allocated_at s p)) false
    (cond (ltb (magnitude_at s p) needed) false
    (cond (ltb (bytes_left s p) (magnitude_at s p)) false
    true))

-- the bytes of a list: its header of 8, and its entries
abbrev pub list_bytes : List ℕ → ℕ → ℕ
list_bytes s p = 8 + entry_size (kind_at s p) * count_at s p

-- ---- "Refusals, after those of a single list in 01 and before it counts as read"

-- 20, "then 3". By document 01 a refusal's position is "0 for .. every number above 16", and "the position of the list" for 3.
unfoldable pub strict_checks : List ℕ → ℕ → Bool → ℕ → Paper (Unit {0})
strict_checks s minor named p =
    cond (barred minor named (kind_at s p)) (refused (by NOT_PERMITTED 0))
    (cond (not (own_cell s p (list_bytes s p))) (refused (by BAD_SIZE p))
    (success tt))

-- the list at a position, read strictly
unfoldable pub strict_at : List ℕ → ℕ → Bool → ℕ → Paper Listed
strict_at s minor named p = and_then (list_at s p) (and_then (strict_checks s minor named p) (list_at s p))
