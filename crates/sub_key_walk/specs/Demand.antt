-- Demand 3, in the owner's words, of an answer of `sub_keys`: the statement. Its proof is `demand_3` in proofs/Demand.antt.
use Rattle.std.specs.Prelude.{ℕ, ◌*◌, ◌≤◌, ◌≡◌, List, ◌++◌, length, drop}
use Rattle.sub_key_walk.specs.Trace.{walk_from, kept_of, entries_of}
use Rattle.sub_key_walk.specs.Answers.{walk_paper}
use Rattle.sub_key_walk.specs.Free.{All, Met, counts_of, Full, lists_read, lists_by, Succeeds}
use Rattle.sub_key_walk.specs.declared.Counts.{Counts}
use Rattle.sub_key_walk.specs.declared.WalkRefusal.{WalkRefusal}
use Rattle.std.specs.Prelude.{Ok, Err}
use Rattle.std.specs.declared.result.Result.{Result}

-- For a count from 1 to 1,048,576 and a budget up to 65,536, and any answer `r` and buffer `new` that the contract of `sub_keys` allows
pub record Demand3 (s : List ℕ) (base count list budget : ℕ) (old : List ℕ) (r : (Result Counts WalkRefusal)) (new : List ℕ) : Type 0 where
  -- "the subkey walk succeeds exactly when .."
  pub if : Met s base list budget (length old) → Succeeds r
  pub only_if : Succeeds r → Met s base list budget (length old)
  -- "Its reported number of lists is the definition's, refused or not"
  pub reported : lists_by (walk_paper r) ≡ lists_read s base count list budget
  -- "If it succeeds and no list reached is empty, that number is at most 8 times the entries of all leaf lists reached"
  pub few : Succeeds r → All Full (walk_from s base list) → lists_by (walk_paper r) ≤ 8 * entries_of (walk_from s base list)
  -- a success gives the counts of all lists reached, and writes the offsets kept from the first place on
  pub counts : (t : Counts) → r ≡ Ok t → t ≡ counts_of (walk_from s base list)
  pub filled : Succeeds r → new ≡ kept_of (walk_from s base list) ++ drop (length (kept_of (walk_from s base list))) old
  -- a refusal changes no place
  pub untouched : (f : WalkRefusal) → r ≡ Err f → new ≡ old
