-- Document 02, order 4: "a reader that stands on one cell of the lent bins and tells the cell and the next place". All is said of the
-- bins' own bytes, as in Walk.antt.
use Prim.{Unit}
use Rattle.std.specs.Prelude.{ℕ, zero, suc, ◌+◌, ◌-◌, ◌≤◌, ◌≡◌, List, [], ◌∷◌, map, Bool, true, cond, ◌&&◌, length, ltb, eqb, nat_abs}
use Rattle.words.specs.Refusals.{BAD_BIN, BAD_CELL}
use Rattle.words.specs.Words.{word32}
use Rattle.words.specs.Paper.{Paper, success, refused, by, told, paper_of, on_success}
use Rattle.hive_bin.specs.declared.Spot.{Spot}
use Rattle.hive_bin.specs.declared.CellStep.{CellStep}
use Rattle.hive_bin.specs.Walk.{Found, Walk, found, fault, size_word, good_cell, good_bin, bins_in}
use Rattle.std.specs.Prelude.{Ok, Err}
use Rattle.std.specs.declared.result.Result.{Result}
use Rattle.std.specs.declared.option.Option.{Option}
use Rattle.words.specs.declared.Refusal.{Refusal}
use Rattle.std.specs.declared.option.Option.TheVariants.{Some, None}

-- where a reader stands: at a place of the bin that begins at `bin`. The place of the bin's own start stands for its first cell; where
-- the bins end there, for their end.
abbrev pub spot : ℕ → ℕ → Spot
spot bin place = record { bin = bin; place = place }

abbrev pub start : Spot
start = spot 0 0

-- what a step tells: the cell and the next place, or that no cell is left
pub data Stepped : Type 0 where
  cell : Found → Spot → Stepped
  end : Stepped

-- "the next place", behind a cell that ends at `place`, in the bin from `bin` to `over`: in that bin, or at the start of what follows it
unfoldable pub next_of : ℕ → ℕ → ℕ → Spot
next_of bin over place = cond (eqb place over) (spot over over) (spot bin place)

-- the bytes for a cell at a place of the bin from `bin` to `over`: those up to its end, and none where the place is not behind its header
unfoldable pub left_in : ℕ → ℕ → ℕ → ℕ
left_in bin over place = cond (ltb place (bin + 32)) 0 (over - place)

-- the cell at a place of that bin, "else 11"
unfoldable pub cell_in : List ℕ → ℕ → ℕ → ℕ → Paper Stepped
cell_in b bin over place =
    cond (good_cell (size_word b place) (left_in bin over place))
    (success (cell (record { place = place; size = size_word b place }) (next_of bin over (place + nat_abs (size_word b place)))))
    (refused (by BAD_CELL place))

-- the place of the cell where a reader stands ("From its byte 32 cells fill it")
abbrev pub place_of : Spot → ℕ
place_of s = cond (eqb s.place s.bin) (s.bin + 32) s.place

-- where the bins end
unfoldable pub at_end : List ℕ → Spot → Bool
at_end b s = eqb s.place s.bin && eqb s.bin (length b)

-- A step, from any spot of any bytes: the end; or the cell, or the fault that the check gives there, of the bin ("else 10") and then of
-- the cell. The bin is judged at each step, so that no spot leads over a bin's end.
unfoldable pub step_at : List ℕ → Spot → Paper Stepped
step_at b s =
    cond (at_end b s) (success end)
    (cond (good_bin b s.bin (length b - s.bin))
    (cell_in b s.bin (s.bin + word32 b (s.bin + 8)) (place_of s))
    (refused (by BAD_BIN s.bin)))

-- what the code's answer says
abbrev pub found_in : CellStep → Found
found_in c = record { place = c.place; size = c.size }

abbrev pub stepped : Option CellStep → Stepped
stepped (Some c) = cell (found_in c) c.next
stepped None = end

-- of one cell alone
abbrev pub cell_paper : Result CellStep Refusal → Paper Stepped
cell_paper = paper_of (λ c. stepped (Some c)) told

abbrev pub step_paper : Result (Option CellStep) Refusal → Paper Stepped
step_paper = paper_of stepped told

-- A cell that is told from any spot, also one that no step led to, is a cell by document 01: it stands behind the header of a bin that
-- checks and keeps to that bin. Proved as `told_in_bin` in proofs/Steps.antt.
pub record InBin (b : List ℕ) (s : Spot) (c : Found) : Type 0 where
  pub bin : good_bin b s.bin (length b - s.bin) ≡ true
  pub place : c.place ≡ place_of s
  pub word : c.size ≡ size_word b (place_of s)
  pub behind : s.bin + 32 ≤ place_of s
  pub cell : good_cell (size_word b (place_of s)) (s.bin + word32 b (s.bin + 8) - place_of s) ≡ true

-- ---- from the start to the end

-- the cells that a walk found, or its fault
unfoldable pub cells_of : Walk → Paper (List Found)
cells_of (found n cs) = success cs
cells_of (fault n p) = refused (by n p)

-- what an answer tells and, where it is a cell, what is told from the next place on
abbrev pub and_on : Result (Option CellStep) Refusal → (Spot → Paper (List Found)) → Paper (List Found)
and_on (Ok (Some c)) on = on_success (λ (cs : List Found). found_in c ∷ cs) (on c.next)
and_on (Ok None) on = success []
and_on (Err f) on = refused (told f)

-- the cells that a function's answers tell, spot by spot, each from the place that the one before it told; `suc n` steps at most
unfoldable pub cells_by : (Spot → Result (Option CellStep) Refusal) → ℕ → Spot → Paper (List Found)
cells_by step zero s = and_on (step s) (λ t. success [])
cells_by step (suc n) s = and_on (step s) (cells_by step n)

-- a function keeps the promise of `step_at` at all spots of the bins
abbrev pub Keeps : List ℕ → (Spot → Result (Option CellStep) Refusal) → Type 0
Keeps b step = (s : Spot) → s.bin ≤ length b → s.place ≤ length b → step_paper (step s) ≡ step_at b s

-- From the start to the end its answers tell exactly the cells of the definition, in order, or its first fault: in as many steps as
-- there are bytes, and one for the end. Proved as `tells_all` in proofs/Stepping.antt.
abbrev pub TellsAll : List ℕ → (Spot → Result (Option CellStep) Refusal) → Type 0
TellsAll b step = cells_by step (length b) start ≡ cells_of (bins_in b)

-- ---- the cells' places

abbrev pub places : List Found → List ℕ
places cs = map (λ (c : Found). c.place) cs

-- numbers that rise: the first is no lower than `at`, and each is higher than the one before it, so that each stands once
abbrev pub Rising : ℕ → List ℕ → Type 0
Rising at [] = Unit {0}
Rising at (p ∷ ps) = (at ≤ p) × Rising (suc p) ps
