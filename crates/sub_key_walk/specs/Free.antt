-- What demand 3 speaks of, over the lists that the free walk reaches (`Trace`): "read without budget or room".
use Rattle.std.specs.Prelude.{ℕ, ◌+◌, ◌*◌, ◌≤◌, ◌<◌, min, ◌≡◌, List, [], ◌∷◌, cond, ltb, eqb, length}
use Rattle.words.specs.Paper.{Paper, success, refused}
use Rattle.sub_key_list.specs.Lists.{LF, LH, LI, RI, entry_size, kind_at, count_at}
use Rattle.sub_key_walk.specs.Trace.{Event, deep, bad, index, leaf, walk_from, kept_of, lists_of, entries_of, dropped_of}
use Rattle.sub_key_walk.specs.Judge.{counts}
use Rattle.sub_key_walk.specs.Answers.{BUDGET_LIMIT, COUNT_LIMIT}
use Rattle.sub_key_walk.specs.declared.Counts.{Counts}
use Rattle.std.specs.Prelude.{Ok}
use Rattle.std.specs.declared.result.Result.{Result}
use Rattle.sub_key_walk.specs.declared.WalkRefusal.{WalkRefusal}

-- each list of a row
unfoldable pub All : (Event → Type 0) → List Event → Type 0
All P [] = Unit {0}
All P (e ∷ es) = P e × All P es

-- "of a known kind"
pub data Known (kind : ℕ) : Type 0 where
  is_lf : kind ≡ LF → Known kind
  is_lh : kind ≡ LH → Known kind
  is_li : kind ≡ LI → Known kind
  is_ri : kind ≡ RI → Known kind

-- a list at `p` is "of a known kind with header and entries in the image"
pub record Readable (s : List ℕ) (p : ℕ) : Type 0 where
  pub header : p + 8 ≤ length s
  pub known : Known (kind_at s p)
  pub entries : p + 8 + entry_size (kind_at s p) * count_at s p ≤ length s

-- and it does not lie "below level 8"
unfoldable pub Fine : List ℕ → Event → Type 0
Fine s (deep p) = ⊥
Fine s (bad r p) = Readable s p
Fine s (index p n) = Readable s p
Fine s (leaf p l) = Readable s p

-- "every list reached is of a known kind with header and entries in the image and none lies below level 8, the lists read are no
-- more than the budget, and the offsets kept fit the buffer"
pub record Met (s : List ℕ) (base list budget room : ℕ) : Type 0 where
  pub fine : All (Fine s) (walk_from s base list)
  pub within : lists_of (walk_from s base list) ≤ budget
  pub fits : length (kept_of (walk_from s base list)) ≤ room

-- the counts of all lists reached
abbrev pub counts_of : List Event → Counts
counts_of es = counts (length (kept_of es)) (lists_of es) (entries_of es) (dropped_of es)

-- a list that can be read is not empty
unfoldable pub Full : Event → Type 0
Full (deep p) = Unit {0}
Full (bad r p) = Unit {0}
Full (index p n) = 0 < n
Full (leaf p l) = 0 < l.entries

-- the lists in front of the first that can't be read
unfoldable pub front : List Event → List Event
front [] = []
front (deep p ∷ es) = []
front (bad r p ∷ es) = []
front (index p n ∷ es) = index p n ∷ front es
front (leaf p l ∷ es) = leaf p l ∷ front es

-- "the definition's" number of lists: those in front of the first that can't be read, and no more than the budget; none where
-- no list is reached
unfoldable pub lists_read : List ℕ → ℕ → ℕ → ℕ → ℕ → ℕ
lists_read s base count list budget =
    cond (ltb BUDGET_LIMIT budget) 0
    (cond (ltb COUNT_LIMIT count) 0
    (cond (eqb count 0) 0
    (min budget (lists_of (front (walk_from s base list))))))

-- the lists that an answer reports
abbrev pub lists_by : Paper Counts → ℕ
lists_by (success st) = st.lists
lists_by (refused t) = t.lists

-- an answer of the code that succeeds, with its counts
pub record Succeeds (r : (Result Counts WalkRefusal)) : Type 0 where
  pub counts : Counts
  pub is : r ≡ Ok counts
