-- What the code does in one pass over the bins: it counts the keys, and writes those for which there is room.
use Rattle.std.specs.Prelude.{ℕ, ◌+◌, ◌≤◌, ◌≡◌, List, ◌++◌, map, Bool, cond, ◌&&◌, length, drop, set, ltb}
use Rattle.words.specs.Paper.{Paper, success, refused, by, on_success}
use Rattle.hive_bin.specs.Walk.{Found, moved, bins_in}
use Rattle.hive_bin.specs.Steps.{cells_of}
use Rattle.deleted_keys.specs.Deleted.{positions_of, deleted_paper}
use Rattle.std.specs.declared.result.Result.{Result}
use Rattle.words.specs.declared.RoomRefusal.{RoomRefusal}

-- the keys of the cells of bins that stand `base` bytes behind the start of the image, or their fault, with positions in the image
abbrev pub keys_of : List ℕ → ℕ → Paper (List Found) → Paper (List ℕ)
keys_of image base (success cs) = success (positions_of image (map (moved base) cs))
keys_of image base (refused t) = refused (by t.number (base + t.position))

abbrev pub keys_in : List ℕ → ℕ → List ℕ → Paper (List ℕ)
keys_in image base b = keys_of image base (cells_of (bins_in b))

-- what is done with one position, where n are listed and the buffer holds `old`: where it is listed it is counted, and written if there
-- is room
pub record Noted (n room : ℕ) (listed : Bool) (position : ℕ) (old : List ℕ) (r : ℕ) (new : List ℕ) : Type 0 where
  pub count : r ≡ cond listed (n + 1) n
  pub written : new ≡ cond (listed && ltb n room) (set old n position) old

-- a pass with answer r: all are counted; with no room nothing is written, and with enough all are
pub record Scanned (image : List ℕ) (base : ℕ) (b : List ℕ) (room : ℕ) (old : List ℕ) (r : Result ℕ RoomRefusal) (new : List ℕ) : Type 0 where
  pub answer : deleted_paper r ≡ on_success length (keys_in image base b)
  pub none : room ≡ 0 → new ≡ old
  pub all : (ks : List ℕ) → keys_in image base b ≡ success ks → length ks ≤ room → new ≡ ks ++ drop (length ks) old
