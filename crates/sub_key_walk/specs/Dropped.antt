-- Document 02, order 2, of answers of the walk and of one leaf list: "the number dropped as a further number". The statements; their
-- proofs are `counts-drop`, `walk_drops` and `leaf_drops` in proofs/Dropped.antt.
use Rattle.std.specs.Prelude.{ℕ, ◌+◌, ◌≡◌, List}
use Rattle.words.specs.Refusals.{NO_ROOM}
use Rattle.words.specs.Paper.{Told, Paper, success, refused}
use Rattle.sub_key_list.specs.Leaves.{Leaf, leaf_at}
use Rattle.sub_key_walk.specs.Trace.{dropped_of}
use Rattle.sub_key_walk.specs.Answers.{reached_by, full_of, walk_paper}
use Rattle.sub_key_walk.specs.Leaf.{full_leaf, leaf_paper}
use Rattle.std.specs.declared.result.Result.{Result}
use Rattle.sub_key_walk.specs.declared.Counts.{Counts}
use Rattle.sub_key_walk.specs.declared.WalkRefusal.{WalkRefusal}
use Rattle.sub_key_walk.specs.declared.LeafRead.{LeafRead}

-- the entries that a walk from a key record drops, and those that a leaf list drops: each "by its own count over the entries"
abbrev pub dropped_by : List ℕ → ℕ → ℕ → ℕ → ℕ
dropped_by s base count list = dropped_of (reached_by s base count list)

unfoldable pub dropped_from : Paper Leaf → ℕ
dropped_from (success l) = l.dropped
dropped_from (refused t) = 0

-- "It equals entries minus kept (with 9, given too, minus the places needed) and is defined by its own count", which gives `d`
pub record Sums (t : Told) (d : ℕ) : Type 0 where
  pub counted : t.dropped ≡ d
  pub rest : t.entries ≡ t.places + t.dropped

-- An answer tells that `d` entries are dropped, on success and by NO ROOM. A success `v` is told as NO ROOM would tell it, `full v`:
-- the places needed are the offsets kept. A refusal by any other number tells 0.
pub record Drops {A : Type 0} (full : A → Told) (d : ℕ) (a : Paper A) : Type 0 where
  pub read : (v : A) → a ≡ success v → Sums (full v) d
  pub no_room : (t : Told) → a ≡ refused t → t.number ≡ NO_ROOM → Sums t d
  pub other : (t : Told) → a ≡ refused t → (t.number ≡ NO_ROOM → ⊥) → t.dropped ≡ 0

-- any answer that the contract of `sub_keys` or of `sub_key_counts` allows
abbrev pub WalkDrops : List ℕ → ℕ → ℕ → ℕ → (Result Counts WalkRefusal) → Type 0
WalkDrops s base count list r = Drops full_of (dropped_by s base count list) (walk_paper r)

-- and that of `leaf_sub_keys`
abbrev pub LeafDrops : List ℕ → ℕ → ℕ → (Result LeafRead WalkRefusal) → Type 0
LeafDrops s base p r = Drops full_leaf (dropped_from (leaf_at s base p)) (leaf_paper r)
