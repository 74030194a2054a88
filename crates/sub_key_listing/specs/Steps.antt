-- What the private functions promise. Of use inside this crate only.
use Prim.{Unit}
use Rattle.std.specs.Prelude.{ℕ, zero, suc, ◌+◌, ◌*◌, ◌≤◌, ◌<◌, ◌≡◌, List, [], ◌∷◌, Bool, true, cond, ◌&&◌, eqb, length, Option, Some, None, is_some}
use Rattle.words.specs.Words.{word16, word32, word64}
use Rattle.sub_key_listing.specs.declared.Kind.{Kind}
use Rattle.sub_key_listing.specs.declared.Kind.TheVariants as kinds
use Rattle.sub_key_listing.specs.Listing.{OPENS, NAMES, CLOSES}

-- ---- the frame of a listing

-- the number of a kind of record
abbrev pub number_of_kind : Kind → ℕ
number_of_kind kinds.Opens = OPENS
number_of_kind kinds.Names = NAMES
number_of_kind kinds.Closes = CLOSES

-- a record of so many bytes behind its length, and of a kind, begins here
abbrev pub begins : List ℕ → ℕ → ℕ → ℕ → Bool
begins bytes at size kind = eqb (word32 bytes at) size && eqb (word16 bytes (at + 4)) kind

-- `left` records of one offset stand here, one behind another
unfoldable pub all_named : List ℕ → ℕ → ℕ → Bool
all_named bytes zero at = true
all_named bytes (suc left) at = begins bytes at 6 NAMES && all_named bytes left (at + 10)

-- a close with this number stands here
abbrev pub closes : List ℕ → ℕ → ℕ → Bool
closes bytes at n = begins bytes at 6 CLOSES && eqb (word32 bytes (at + 6)) n

-- all of it, with `n` offsets
abbrev pub framed : List ℕ → ℕ → Bool
framed bytes n = begins bytes 0 14 OPENS && all_named bytes n 18 && closes bytes (18 + 10 * n) n

-- ---- comparing

-- the opening's numbers are these
abbrev pub opens_with : List ℕ → ℕ → ℕ → Bool
opens_with bytes base position = eqb (word32 bytes 6) base && eqb (word64 bytes 10) position

-- what is found of an opening; and each number is one that its bytes can hold
pub record Opens (bytes : List ℕ) (base position : ℕ) (r : Bool) : Type 0 where
  pub test : r ≡ opens_with bytes base position
  pub base_fits : base < 4294967296
  pub position_fits : position < 18446744073709551616

-- the place behind a record, if there is one at that place and it holds this number
unfoldable pub matched : List ℕ → Option ℕ → ℕ → Option ℕ
matched bytes None k = None
matched bytes (Some place) k = cond (eqb (word32 bytes (place + 6)) k) (Some (place + 10)) None

-- the same of a row, one behind another
unfoldable pub agreed : List ℕ → List ℕ → Option ℕ → Option ℕ
agreed bytes [] place = place
agreed bytes (k ∷ ks) place = agreed bytes ks (matched bytes place k)

-- a row of which every number stands in its record, from the first record behind an opening on
abbrev pub agrees : List ℕ → List ℕ → Bool
agrees bytes ks = is_some (agreed bytes ks (Some 18))

-- ---- room

-- behind a place there are records for all of a row
abbrev pub Space : List ℕ → ℕ → List ℕ → Type 0
Space ks place bytes = place + 10 * length ks ≤ length bytes

-- the same of a place that may be lost: then no room is asked for
abbrev pub Ahead : List ℕ → Option ℕ → List ℕ → Type 0
Ahead ks None bytes = Unit {0}
Ahead ks (Some place) bytes = Space ks place bytes
