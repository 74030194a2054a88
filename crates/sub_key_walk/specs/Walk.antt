-- What the private functions promise: the loops over the entries of a leaf list, the walk that measures and the walk that fills. Of use
-- inside this crate, but for `Entries` and `Filled`, by which `sub_key_listing` speaks of its own way through the same lists.
use Rattle.std.specs.Prelude.{ℕ, ◌+◌, ◌*◌, ◌≤◌, ◌<◌, ◌≡◌, List, Bool, true, false, cond, ltb, length}
use Rattle.std.proofs.lemmas.List.Edits.{sets}
use Rattle.words.specs.Refusals.{TOO_MANY, BAD_BUDGET}
use Rattle.words.specs.Paper.{Paper, success}
use Rattle.words.specs.Buffers.{in_room, Answered}
use Rattle.sub_key_list.specs.Lists.{word_of, Listed, leaf, list_at}
use Rattle.sub_key_list.specs.Leaves.{leaf_dropped}
use Rattle.sub_key_list.specs.declared.LeafList.{LeafList}
use Rattle.sub_key_walk.specs.Trace.{Event, trace, ordinary, LEVELS, kept_of, dropped_of}
use Rattle.sub_key_walk.specs.Strict.{strict}
use Rattle.sub_key_walk.specs.Judge.{counts, judge}
use Rattle.sub_key_walk.specs.Answers.{BUDGET_LIMIT, COUNT_LIMIT, from_record, full_of, reached_for, walk_paper}
use Rattle.sub_key_walk.specs.declared.Counts.{Counts}
use Rattle.sub_key_walk.specs.declared.LeafRead.{LeafRead}
use Rattle.sub_key_walk.specs.declared.Profile.{Profile}
use Rattle.sub_key_walk.specs.declared.Profile.TheVariants.{Ordinary, Strict}
use Rattle.std.specs.Prelude.{Ok}
use Rattle.std.specs.declared.result.Result.{Result}
use Rattle.sub_key_walk.specs.declared.WalkRefusal.{WalkRefusal}

-- ---- one leaf list

-- `n` entries of `size` bytes each, the first at `pos`, are there, and a word in each of them
pub record Entries (s : List ℕ) (size n pos : ℕ) : Type 0 where
  pub word : 4 ≤ size
  pub inside : pos + size * n ≤ length s

-- what was read at a position is this leaf list
abbrev pub Stands : List ℕ → ℕ → LeafList → Type 0
Stands s p l = list_at s p ≡ success (leaf (word_of l.kind) l.entry_size l.count)

-- where it is claimed that none of them is dropped, none is
abbrev pub Whole : List ℕ → ℕ → ℕ → ℕ → ℕ → Bool → Type 0
Whole s base size n pos whole = whole ≡ true → leaf_dropped s base size n pos ≡ 0

-- no entry is dropped with a base with which this bound of their offsets is not
abbrev pub Bound : List ℕ → ℕ → ℕ → ℕ → ℕ → Type 0
Bound s size n pos bound = (base : ℕ) → bound + base < 4294967296 → leaf_dropped s base size n pos ≡ 0

-- an entry that has not 4 bytes has 8
abbrev pub Sized : ℕ → Type 0
Sized size = (size ≡ 4 → ⊥) → size ≡ 8

-- the row `ks` is written from a place on, and `r` is the place behind it
pub record Filled (ks old : List ℕ) (place r : ℕ) (new : List ℕ) : Type 0 where
  pub next : r ≡ place + length ks
  pub written : new ≡ sets old place ks

-- ---- the counts

-- the counts of a walk stay small, and every entry is kept or dropped
pub record Bounded (budget : ℕ) (st : Counts) : Type 0 where
  pub every : st.kept + st.dropped ≡ st.entries
  pub some_entries : st.entries ≤ 65535 * st.lists
  pub some_lists : st.lists ≤ budget

-- and so do those of one leaf list
pub record Small (r : LeafRead) : Type 0 where
  pub every : r.kept + r.dropped ≡ r.entries
  pub few : r.entries ≤ 65535

-- the counts with an `ri` list more, which gives nothing itself
abbrev pub with_index : Counts → Counts
with_index st = counts st.kept (st.lists + 1) st.entries st.dropped

-- the counts with a leaf list more, by what it gave
abbrev pub with_leaf : Counts → LeafRead → Counts
with_leaf st r = counts (st.kept + r.kept) (st.lists + 1) (st.entries + r.entries) (st.dropped + r.dropped)

-- ---- the walks

-- how a list is read: strictly with a minor version, or in the ordinary way
abbrev pub reading : Bool → List ℕ → ℕ → ℕ → ℕ → Paper Listed
reading strictly s minor levels p = cond strictly (strict s minor levels p) (ordinary s levels p)

-- the same by a profile of the code
abbrev pub reading_by : Profile → List ℕ → ℕ → ℕ → Paper Listed
reading_by Ordinary s levels p = reading false s 0 levels p
reading_by (Strict minor) s levels p = reading true s minor levels p

-- the walk from a key record's list
abbrev pub walk_by : Profile → List ℕ → ℕ → ℕ → List Event
walk_by profile s base list = trace (reading_by profile s) LEVELS s base list

-- the refusal before any list is reached, by its number; 0 where there is none
unfoldable pub start_fault : ℕ → ℕ → ℕ
start_fault count budget =
    cond (ltb BUDGET_LIMIT budget) BAD_BUDGET
    (cond (ltb COUNT_LIMIT count) TOO_MANY 0)

-- a walk over the lists `es` from the counts `st`: what it answers, and that its counts stay small
pub record Walk (budget : ℕ) (st : Counts) (es : List Event) (r : (Result Counts WalkRefusal)) : Type 0 where
  pub answer : walk_paper r ≡ judge budget st es
  pub bounded : (t : Counts) → r ≡ Ok t → Bounded budget t

-- a buffer has room from a place on for what the lists `es` keep and, where that is claimed, none of their entries is dropped
pub record Roomy (es : List Event) (whole : Bool) (old : List ℕ) (place : ℕ) : Type 0 where
  pub room : place + length (kept_of es) ≤ length old
  pub all : whole ≡ true → dropped_of es ≡ 0

-- what is promised of the subkeys of a key record whose walk reaches the lists `es`: `WalkAnswered` of the ordinary walk, and
-- `StrictAnswered` of the strict one
abbrev pub AnsweredAs : ℕ → ℕ → List Event → List ℕ → (Result Counts WalkRefusal) → List ℕ → Type 0
AnsweredAs count budget es old r new =
    Answered (walk_paper r) (in_room full_of (length old) (from_record count budget es)) (kept_of (reached_for count es)) old new
