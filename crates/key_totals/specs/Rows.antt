-- Document 02, order 7: what holds of the table, said of any answers that the promises of its calls allow, one call on any table and a row of
-- calls that starts with an empty one. proofs/Rows.antt proves it of every image, a row of bytes, as `rows`.
use Rattle.std.specs.Prelude.{◌≡◌, ℕ, ◌+◌, ◌-◌, ◌*◌, ◌^◌, ◌<◌, ◌≤◌, true, false, cond, ◌⊎◌, ◌↔◌, List, [], ◌∷◌, length, get_or, ◌==◌, ◌≢◌, slice_index_or}
use Rattle.words.specs.Refusals.{NOT_FOUND, OTHER_PLACE}
use Rattle.words.specs.Paper.{Paper, success, refused, by}
use Rattle.sub_key_walk.specs.declared.Counts.{Counts}
use Rattle.sub_key_walk.specs.declared.WalkRefusal.{WalkRefusal}
use Rattle.sub_key_walk.specs.Answers.{answer_of, full_of}
use Rattle.cell_key_node.specs.declared.KeyNode.{KeyNode}
use Rattle.key_in_place.specs.Place.{ReadsAs}
use Rattle.key_in_place.specs.Answers.{WalkAnsweredOf}
use Rattle.key_totals.specs.declared.Place.{Place}
use Rattle.key_totals.specs.declared.Totals.{Totals}
use Rattle.key_totals.specs.declared.Changed.{Changed}
use Rattle.key_totals.specs.Table.{PLACES, free, entry, none, counted_in, laid, Outcome, place_of, free_of, number_in, add_of, replace_of, remove_of, number_of, kept_paper, changed_paper}
use Rattle.std.specs.Prelude.{Ok, Err}
use Rattle.std.specs.declared.result.Result.{Result}

-- ---- "the sum over the entries", and their number

-- a number of each place, summed
unfoldable pub total : (Place → ℕ) → List Place → ℕ
total f [] = 0
total f (e ∷ es) = f e + total f es

abbrev pub sum_of : Totals → ℕ
sum_of t = total counted_in t.places

abbrev pub one : Place → ℕ
one e = cond e.taken 1 0

abbrev pub entries_in : Totals → ℕ
entries_in t = total one t.places

-- ---- tables

-- in place i stands the key at p, with the number n
abbrev pub Entry : Totals → ℕ → ℕ → ℕ → Type 0
Entry t i p n = slice_index_or t.places i free ≡ entry p n

-- the key at p is in the table
abbrev pub Has : Totals → ℕ → Type 0
Has t p = (i : ℕ) × (n : ℕ) × Entry t i p n

-- no position stands twice
abbrev pub Once : Totals → Type 0
Once t = (i j p m n : ℕ) → Entry t i p m → Entry t j p n → i ≡ j

-- as many places as the code's table has
abbrev pub Long : Totals → Type 0
Long t = length t.places ≡ PLACES

-- "the total equal to the sum over the entries", in numbers of 32 bits
pub record Summed (t : Totals) : Type 0 where
  pub long : Long t
  pub small : (i : ℕ) → (get_or t.places i free).kept < 2 ^ 32
  pub sum : t.total ≡ sum_of t

-- ---- calls

-- a call with what it is lent beside the table and the image: the key record and the budget, or a position
pub data Call : Type 0 where
  add : KeyNode → ℕ → Call
  replace : KeyNode → ℕ → Call
  remove : ℕ → Call

-- the position that it names
abbrev pub named : Call → ℕ
named (add key budget) = key.position
named (replace key budget) = key.position
named (remove p) = p

-- what its promise says of a table
abbrev pub called : List ℕ → Totals → Call → Outcome
called s t (add key budget) = add_of t s key budget
called s t (replace key budget) = replace_of t s key budget
called s t (remove p) = remove_of t p

-- r is what the call answers
abbrev pub Answers : List ℕ → Totals → Call → Changed → Type 0
Answers s t c r = changed_paper r ≡ called s t c

-- and u is the table after a row of calls, from t on; the image is one: "The table speaks of one image"
abbrev pub After : List ℕ → Totals → List Call → Totals → Type 0
After s t [] u = u ≡ t
After s t (c ∷ cs) u = (r : Changed) × Answers s t c r × After s r.table cs u

-- and from what `empty` answers on
abbrev pub Began : List ℕ → List Call → Totals → Type 0
Began s cs u = (t : Totals) × (t ≡ none) × After s t cs u

-- one of a row of calls
abbrev pub In : Call → List Call → Type 0
In c [] = ⊥
In c (d ∷ ds) = (c ≡ d) ⊎ In c ds

-- ---- what a call that succeeds with a number changes

-- the one place that it changes, and what stands there then
abbrev pub place_for : Totals → Call → ℕ
place_for t (add key budget) = free_of t
place_for t (replace key budget) = place_of t key.position
place_for t (remove p) = place_of t p

abbrev pub content_of : Call → ℕ → Place
content_of (add key budget) n = entry key.position n
content_of (replace key budget) n = entry key.position n
content_of (remove p) n = free

-- what the total loses, and what it gets
abbrev pub lost : Totals → Call → ℕ
lost t (add key budget) = 0
lost t (replace key budget) = number_in t key.position
lost t (remove p) = number_in t p

abbrev pub won : Call → ℕ → ℕ
won (add key budget) n = n
won (replace key budget) n = n
won (remove p) n = 0

-- by how many entries the table grows, and by how many it shrinks
abbrev pub more : Call → ℕ
more (add key budget) = 1
more (replace key budget) = 0
more (remove p) = 0

abbrev pub fewer : Call → ℕ
fewer (add key budget) = 0
fewer (replace key budget) = 0
fewer (remove p) = 1

-- what reading the key that it named then answers
abbrev pub read_after : Call → ℕ → Paper ℕ
read_after (add key budget) n = success n
read_after (replace key budget) n = success n
read_after (remove p) n = refused (by NOT_FOUND 0)

-- what reading the key at p answers behind a call, where it answered h before, and behind a row of calls: what the last one that named
-- it and succeeded left
abbrev pub held_by : Call → ℕ → Paper ℕ → Paper ℕ → Paper ℕ
held_by c p h (success n) = cond (p == named c) (read_after c n) h
held_by c p h (refused u) = h

abbrev pub held_after : List ℕ → Totals → List Call → ℕ → Paper ℕ → Paper ℕ
held_after s t [] p h = h
held_after s t (c ∷ cs) p h = held_after s (called s t c).table cs p (held_by c p h (called s t c).answer)

-- ---- the walk's own number

-- a key record stands in the image, and the walk from it keeps n offsets
pub record Walked (s : List ℕ) (key : KeyNode) (budget n : ℕ) : Type 0 where
  pub stands : ReadsAs s key
  pub counts : Counts
  pub kept : counts.kept ≡ n
  -- with room for them it succeeds, and with less it is refused by 9 with n places needed
  pub roomy : (room : ℕ) → n ≤ room → answer_of s key.base key.number_of_sub_keys key.sub_keys_list_offset_relative budget room ≡ success counts
  pub tight : (room : ℕ) → room < n
      → answer_of s key.base key.number_of_sub_keys key.sub_keys_list_offset_relative budget room ≡ refused (full_of counts)
  -- and so does any answer that the promise of `sub_keys_of` allows
  pub same : (old new : List ℕ) (w : Result Counts WalkRefusal) → WalkAnsweredOf s key budget old w new → n ≤ length old → w ≡ Ok counts

-- a call that adds or replaces, and whose walk keeps n
abbrev pub Own : List ℕ → Call → ℕ → Type 0
Own s (add key budget) n = Walked s key budget n
Own s (replace key budget) n = Walked s key budget n
Own s (remove p) n = ⊥

-- where a call's number comes from: the walk, or the entry that is removed
abbrev pub Gives : List ℕ → Totals → Call → ℕ → Type 0
Gives s t (add key budget) n = Walked s key budget n
Gives s t (replace key budget) n = Walked s key budget n
Gives s t (remove p) n = number_of t p ≡ success n

-- a call with a key record that does not read as itself in the image
abbrev pub Elsewhere : List ℕ → Call → Type 0
Elsewhere s (add key budget) = ReadsAs s key → ⊥
Elsewhere s (replace key budget) = ReadsAs s key → ⊥
Elsewhere s (remove p) = ⊥

-- ---- one call on any table

-- Where the definitions ask for a place: a key has one exactly if it is in the table, and none is free exactly if there are 256 entries.
-- A key's place has the key in it, and the first free place is free.
pub record Finds (t : Totals) : Type 0 where
  pub known : (p : ℕ) → (place_of t p < PLACES) ↔ Has t p
  pub all_taken : (PLACES ≤ free_of t) ↔ (entries_in t ≡ PLACES)
  pub at_place : (p : ℕ) → place_of t p < PLACES → Entry t (place_of t p) p (number_in t p)
  pub at_free : free_of t < PLACES → (get_or t.places (free_of t) free).taken ≡ false
  pub before_free : (i : ℕ) → i < free_of t → (get_or t.places i free).taken ≡ true

-- `r` is what the call `c` answers
pub record Called (s : List ℕ) (t : Totals) (c : Call) (r : Changed) : Type 0 where
  -- "21 OTHER PLACE, before all others": exactly where the key record does not stand in the image
  pub other_place : Elsewhere s c ↔ (kept_paper r.answer ≡ refused (by OTHER_PLACE 0))
  -- "A refused call changes nothing."
  pub refused : (f : WalkRefusal) → r.answer ≡ Err f → r.table ≡ t
  -- one that succeeds changes one place, and says where its number comes from
  pub changes : (n : ℕ) → r.answer ≡ Ok n → (place_for t c < PLACES) × (r.table ≡ laid t (place_for t c) (content_of c n))
  pub gives : (n : ℕ) → r.answer ≡ Ok n → Gives s t c n
  -- the number of entries moves by one, none, minus one
  pub moves : (n : ℕ) → r.answer ≡ Ok n → entries_in r.table + fewer c ≡ entries_in t + more c
  -- an entry that is not named stays in its place, and no other comes; reading it answers the same
  pub stays : (i p n : ℕ) → (p ≢ named c) → Entry t i p n ↔ Entry r.table i p n
  pub others : (p : ℕ) → (p ≢ named c) → number_of r.table p ≡ number_of t p
  -- "keep the total equal to the sum over the entries"
  pub keeps : Summed t → Summed r.table
  -- nothing is turned over: the sums are exact
  pub exact : Summed t → (n : ℕ) → r.answer ≡ Ok n → r.table.total + lost t c ≡ t.total + won c n
  -- no position comes to stand twice, and the named one reads as the call left it
  pub once : Once t → Once r.table
  pub reads : Once t → (n : ℕ) → r.answer ≡ Ok n → number_of r.table (named c) ≡ read_after c n

-- ---- any row of calls that starts with an empty table

pub record Row (s : List ℕ) (cs : List Call) (t : Totals) : Type 0 where
  pub summed : Summed t
  pub once : Once t
  -- the total is far below 64 bits
  pub fits : t.total ≤ 256 * (2 ^ 32 - 1)
  -- a key reads as the last call that named it and succeeded left it, and as not found where none did
  pub last : (p : ℕ) → number_of t p ≡ held_after s none cs p (refused (by NOT_FOUND 0))
  -- the number kept in an entry is the walk's own on that image, by a call of the row that named it
  pub own : (i p n : ℕ) → Entry t i p n → (c : Call) × In c cs × (named c ≡ p) × Own s c n

-- ---- all of it, of an image

pub record Holds (s : List ℕ) : Type 0 where
  pub finds : (t : Totals) → Long t → Finds t
  pub each : (t : Totals) (c : Call) (r : Changed) → Long t → Answers s t c r → Called s t c r
  pub row : (cs : List Call) (t : Totals) → Began s cs t → Row s cs t
