-- The free walk: every list that is reached from a list, in walk order, with no budget and no buffer (document 01, "The subkey
-- walk"). A list that can't be read has nothing below it, and the walk goes on behind it. `Judge` says what a budget makes of it.
use Rattle.std.specs.Prelude.{ℕ, zero, suc, ◌+◌, List, [], ◌∷◌, ◌++◌}
use Rattle.words.specs.Words.{word32}
use Rattle.words.specs.Paper.{Told, Paper, success, refused}
use Rattle.sub_key_list.specs.Lists.{Listed, list_at}
use Rattle.sub_key_list.specs.Lists as lists
use Rattle.sub_key_list.specs.Leaves.{Leaf, leaf_of}

-- a list that is reached, each with its position
pub data Event : Type 0 where
  -- below the last level
  deep : ℕ → Event
  -- refused: what its reading tells stands first
  bad : Told → ℕ → Event
  -- an `ri` list: the number of its entries
  index : ℕ → ℕ → Event
  -- a leaf list, and what it gives
  leaf : ℕ → Leaf → Event

-- "Entries are followed depth first, in order": what `f` reaches from each of `left` offsets of 4 bytes, the first at `pos`
unfoldable pub each : (ℕ → List Event) → List ℕ → ℕ → ℕ → List Event
each f s zero pos = []
each f s (suc left) pos = f (word32 s pos) ++ each f s left (pos + 4)

-- the lists reached from a list at `p`, given what stands there and what is reached from an offset one level lower: "entries at
-- 8", "a list named in an `ri` list lies one level lower"
unfoldable pub below : (ℕ → List Event) → List ℕ → ℕ → ℕ → Paper Listed → List Event
below f s base p (success (lists.leaf kind size n)) = leaf p (leaf_of s base p size n) ∷ []
below f s base p (success (lists.index n)) = index p n ∷ each f s n (p + 8)
below f s base p (refused t) = bad t p ∷ []

-- the lists reached from the list at an offset, with so many levels left: "On reaching a list, at its offset plus base". `hd` is
-- how a list is read, by the levels left and the position.
unfoldable pub trace : (ℕ → ℕ → Paper Listed) → ℕ → List ℕ → ℕ → ℕ → List Event
trace hd zero s base offset = deep (offset + base) ∷ []
trace hd (suc levels) s base offset = below (trace hd levels s base) s base (offset + base) (hd (suc levels) (offset + base))

-- the ordinary reading: the same at every level
abbrev pub ordinary : List ℕ → ℕ → ℕ → Paper Listed
ordinary s levels p = list_at s p

-- "The top list has level 1", and "a list at level 9" is too deep
abbrev pub LEVELS : ℕ
LEVELS = 8

-- the walk from a key record's list
abbrev pub walk_from : List ℕ → ℕ → ℕ → List Event
walk_from s base list = trace (ordinary s) LEVELS s base list

-- ---- "The answer gives offsets kept, lists read, and leaf entries, dropped ones included" and, by document 02, order 2, "the number
-- dropped as a further number": each from the lists reached

-- a number of each list, summed
unfoldable pub total : (Event → ℕ) → List Event → ℕ
total n [] = 0
total n (e ∷ es) = n e + total n es

unfoldable pub kept_in : Event → List ℕ
kept_in (deep p) = []
kept_in (bad r p) = []
kept_in (index p n) = []
kept_in (leaf p l) = l.kept

unfoldable pub kept_of : List Event → List ℕ
kept_of [] = []
kept_of (e ∷ es) = kept_in e ++ kept_of es

-- "Then it counts as read", "A list reached twice counts twice"
unfoldable pub lists_in : Event → ℕ
lists_in (deep p) = 0
lists_in (bad r p) = 0
lists_in (index p n) = 1
lists_in (leaf p l) = 1

abbrev pub lists_of : List Event → ℕ
lists_of es = total lists_in es

unfoldable pub entries_in : Event → ℕ
entries_in (deep p) = 0
entries_in (bad r p) = 0
entries_in (index p n) = 0
entries_in (leaf p l) = l.entries

abbrev pub entries_of : List Event → ℕ
entries_of es = total entries_in es

unfoldable pub dropped_in : Event → ℕ
dropped_in (deep p) = 0
dropped_in (bad r p) = 0
dropped_in (index p n) = 0
dropped_in (leaf p l) = l.dropped

abbrev pub dropped_of : List Event → ℕ
dropped_of es = total dropped_in es
