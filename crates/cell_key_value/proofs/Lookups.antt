-- The lookup, entry by entry: one law for each way in which an entry is settled. Assumes nothing.
use mathlib.Core.Path.{◌≡◌, ◌∙◌}
use mathlib.Core.List.{List}
use mathlib.Core.Bool.{true, false}
use Prim.Native.Nat.{ℕ, suc, ◌+◌, ◌≤◌, ◌<◌}
use native.Mathlib.Numerals.{add-one}
use lib.ListN.{length, drop, drop_of_length-le}
use lib.Seq.{drop-cons}
use lib.IntN.{ℤ}
use Rattle.words.specs.Paper.{Told, Paper, success, refused, by, and_then}
use Rattle.words.specs.Refusals.{NOT_FOUND}
use Rattle.cell_key_node.specs.ValueList.{nowhere, at, place_of, up_to, entry_of, entries_of}
use Rattle.cell_key_node.proofs.Fill.{up_length, up_at}
use Rattle.cell_key_value.specs.Value.{value_at, value_name}
use Rattle.cell_key_value.specs.Text.{matches_of}
use Rattle.cell_key_value.specs.Lookup.{decided, look_through, lookup_of}
use Rattle.cell_key_value.specs.declared.KeyValue.{KeyValue}
use Rattle.cell_key_value.specs.declared.FoundValue.{FoundValue}

module _ (image : List ℕ) (base : ℕ) (name : List ℕ) (f : ℕ → ℕ) (n : ℕ) where
  -- what the entries from i on say
  abbrev pub from : ℕ → Paper FoundValue
  from i = look_through image base name (drop i (up_to f n))

  here : (i : ℕ) → i < n → from i ≡ decided image name (f i + base) (value_at image (f i + base)) (from (suc i))
  unfolding look_through
  here i h =
      let k : i < length (up_to f n) = rw (up_length f n) h in
      rw (drop-cons (up_to f n) i 0 k, up_at f n i h)

  pub none_left : (i : ℕ) → n ≤ i → from i ≡ refused (by NOT_FOUND 0)
  unfolding look_through
  none_left i h =
      let k : length (up_to f n) ≤ i = rw (up_length f n) h in
      rw (drop_of_length-le (up_to f n) k)

  -- entry i, whose record stands at p
  module _ (i : ℕ) (h : i < n) (p : ℕ) (e : p ≡ f i + base) where
    pub unreadable : (t : Told) → value_at image p ≡ refused t → from i ≡ refused t
    unreadable t r = here i h ∙ simp (← e, r)

    pub match : (v : KeyValue) → value_at image p ≡ success v → matches_of v.flags_raw (value_name image p) name ≡ true → from i ≡ success (record { value = v; position = p })
    match v r m = here i h ∙ simp (← e, r, m)

    pub no_match : (v : KeyValue) → value_at image p ≡ success v → matches_of v.flags_raw (value_name image p) name ≡ false → from i ≡ from (i + 1)
    no_match v r m = here i h ∙ simp (← e, r, m, add-one)

-- the lookup, where its list stands nowhere, stands at a place, is refused
module _ (image : List ℕ) (base count : ℕ) (offset : ℤ) (name : List ℕ) where
  pub sought_nowhere : place_of image base count offset ≡ success nowhere → lookup_of image base count offset name ≡ refused (by NOT_FOUND 0)
  unfolding lookup_of entries_of look_through and_then
  sought_nowhere e = rw e

  pub sought_at : (p : ℕ) → place_of image base count offset ≡ success (at p) → lookup_of image base count offset name ≡ look_through image base name (up_to (entry_of (drop p image)) count)
  unfolding lookup_of entries_of and_then
  sought_at p e = rw e

  pub sought_refused : (t : Told) → place_of image base count offset ≡ refused t → lookup_of image base count offset name ≡ refused t
  unfolding lookup_of and_then
  sought_refused t e = rw e
