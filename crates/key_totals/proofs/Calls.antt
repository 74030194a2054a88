-- What a call answers, by what the code has found: whether the record stands in the image, the place of the key, the walk's answer, the first free place. Assumes nothing.
use Rattle.std.proofs.Common.{◌≡◌, ℕ, ◌<◌, ◌≤◌, Bool, true, false, not, List, get_or, ap, le-ltb, lt-ltb, le-leb, is_some, Option, Some, None}
use borrow.Author.Tests.{lt-leb}
use Rattle.words.specs.Refusals.{NOT_FOUND, ALREADY_IN, OTHER_PLACE}
use Rattle.words.specs.Paper.{success, refused, by}
use Rattle.sub_key_walk.specs.declared.Counts.{Counts}
use Rattle.sub_key_walk.specs.declared.WalkRefusal.{WalkRefusal}
use Rattle.sub_key_walk.specs.Answers.{walk_told, walk_paper}
use Rattle.words.proofs.Tests.{test_passed, test_failed}
use Rattle.cell_key_node.specs.declared.KeyNode.{KeyNode}
use Rattle.key_in_place.specs.Place.{is_in_place}
use Rattle.key_totals.specs.declared.Totals.{Totals}
use Rattle.key_totals.proofs.Places.{found_none, found_some, some_found, not_found}
use Rattle.key_totals.specs.Table.{PLACES, free, found, outcome, refusing, keeping, full, place_of, free_of, walked, laid, add_here, add_of, replace_here, replace_of, remove_of, number_of}
use Rattle.std.specs.Prelude.{Ok, Err}

-- the key record stands in the image, or not: `b` is what the code's test of it found
module _ (t : Totals) (s : List ℕ) (key : KeyNode) (budget : ℕ) (b : Bool) (e : b ≡ is_in_place s key) where
  pub add_elsewhere : not b ≡ true → refusing t (by OTHER_PLACE 0) ≡ add_of t s key budget
  unfolding add_of
  add_elsewhere f = simp (test_failed b e f)

  pub add_in_place : not b ≡ false → add_here t s key budget ≡ add_of t s key budget
  unfolding add_of
  add_in_place f = simp (test_passed b e f)

  pub replace_elsewhere : not b ≡ true → refusing t (by OTHER_PLACE 0) ≡ replace_of t s key budget
  unfolding replace_of
  replace_elsewhere f = simp (test_failed b e f)

  pub replace_in_place : not b ≡ false → replace_here t s key budget ≡ replace_of t s key budget
  unfolding replace_of
  replace_in_place f = simp (test_passed b e f)

-- its key has a place, or none: `o` is what the code found
module _ (t : Totals) (s : List ℕ) (key : KeyNode) (budget : ℕ) where
  module _ (o : Option ℕ) (e : o ≡ found (place_of t key.position)) where
    pub add_there : is_some o ≡ true → refusing t (by ALREADY_IN 0) ≡ add_here t s key budget
    unfolding add_here
    add_there h = simp (lt-ltb _ _ (some_found _ o e h))

    pub add-refused : is_some o ≡ false → (f : WalkRefusal) → walk_paper (Err f) ≡ walked s key budget → refusing t (walk_told f) ≡ add_here t s key budget
    unfolding add_here
    add-refused h f m = simp (le-ltb _ _ (not_found _ o e h), ← m)

    pub add-full : is_some o ≡ false → {c : Counts} → walk_paper (Ok c) ≡ walked s key budget → None ≡ found (free_of t) → refusing t full ≡ add_here t s key budget
    unfolding add_here
    add-full h m g = simp (le-ltb _ _ (not_found _ o e h), ← m, le-leb _ _ (found_none _ g))

    pub add_kept : is_some o ≡ false → {c : Counts} → walk_paper (Ok c) ≡ walked s key budget → {j : ℕ} → Some j ≡ found (free_of t)
        → keeping t j key.position c.kept ≡ add_here t s key budget
    unfolding add_here
    add_kept h m g = let k = found_some _ g in let i = k.0 in simp (le-ltb _ _ (not_found _ o e h), ← m, ← i, lt-leb _ _ k.1)

  pub replace-nowhere : None ≡ found (place_of t key.position) → refusing t (by NOT_FOUND 0) ≡ replace_here t s key budget
  unfolding replace_here
  replace-nowhere e = simp (le-leb _ _ (found_none _ e))

  module _ {i : ℕ} (e : Some i ≡ found (place_of t key.position)) where
    pub replace-refused : (f : WalkRefusal) → walk_paper (Err f) ≡ walked s key budget → refusing t (walk_told f) ≡ replace_here t s key budget
    unfolding replace_here
    replace-refused f m = let k = found_some _ e in let n = k.0 in simp (← n, lt-leb _ _ k.1, ← m)

    pub replace_kept : {c : Counts} → walk_paper (Ok c) ≡ walked s key budget → keeping t i key.position c.kept ≡ replace_here t s key budget
    unfolding replace_here
    replace_kept m = let k = found_some _ e in let n = k.0 in simp (← n, lt-leb _ _ k.1, ← m)

-- the key at a position has a place, `i`, or none
module _ (t : Totals) (p : ℕ) where
  pub remove-nowhere : None ≡ found (place_of t p) → refusing t (by NOT_FOUND 0) ≡ remove_of t p
  unfolding remove_of
  remove-nowhere e = simp (le-leb _ _ (found_none _ e))

  module _ {i : ℕ} (e : Some i ≡ found (place_of t p)) where
    pub removed : outcome (laid t i free) (success (get_or t.places i free).kept) ≡ remove_of t p
    unfolding remove_of
    removed =
        let k = found_some _ e in
        let n = k.0 in
        simp (← n, lt-leb _ _ k.1) (ap (λ (x : ℕ). outcome (laid t i free) (success (get_or t.places x free).kept)) n)

module _ (t : Totals) (p : ℕ) {i : ℕ} (e : i ≡ place_of t p) where
  pub number_nowhere : PLACES ≤ i → refused (by NOT_FOUND 0) ≡ number_of t p
  unfolding number_of
  number_nowhere h = simp (← e, le-leb _ _ h)

  pub number_there : i < PLACES → success (get_or t.places i free).kept ≡ number_of t p
  unfolding number_of
  number_there h = simp (← e, lt-leb _ _ h) (ap (λ (k : ℕ). success (get_or t.places k free).kept) e)
