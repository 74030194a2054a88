-- Document 01, "Value lists and lookup": its sentences on the lookup, at work. Assumes nothing.
use mathlib.Core.Path.{◌≡◌, refl}
use mathlib.Core.List.{List, [], ◌∷◌}
use mathlib.Core.Bool.{true, false}
use Prim.Native.Nat.{ℕ}
use lib.IntN.{ℤ, pos}
use Rattle.words.specs.Paper.{refused, by, and_then}
use Rattle.words.specs.Refusals.{NO_LIST, OUTSIDE, NOT_FOUND}
use Rattle.cell_key_node.specs.ValueList.{place_of, entries_of}
use Rattle.cell_key_value.specs.Text.{lower_of, same_text, matches_of}
use Rattle.cell_key_value.specs.Lookup.{look_through, lookup_of}

-- "Count 0 is NOT FOUND"; "the list's refusals without 9 come first", by the starred examples on value lists;
-- "A stored name matches if both lengths are 0, or if flag 0001 is set and the bytes are equal after ASCII lower case only"
pub record Examples : Type 0 where
  pub no_values : (image : List ℕ) (base : ℕ) (offset : ℤ) (name : List ℕ) → lookup_of image base 0 offset name ≡ refused (by NOT_FOUND 0)
  pub no_offset : (image : List ℕ) (base : ℕ) (name : List ℕ) → lookup_of image base 1 (pos 0) name ≡ refused (by NO_LIST 0)
  pub past_end :
      (a b c d e f g h : ℕ) (name : List ℕ) →
      lookup_of (a ∷ b ∷ c ∷ d ∷ e ∷ f ∷ g ∷ h ∷ []) 4096 1 (pos 7) name ≡ refused (by OUTSIDE 4103)
  pub both_empty : (flags : ℕ) → matches_of flags [] [] ≡ true
  pub one_empty : matches_of 1 [] (65 ∷ []) ≡ false
  pub cases_differ : matches_of 1 (65 ∷ 98 ∷ []) (97 ∷ 66 ∷ []) ≡ true
  pub not_ascii : matches_of 1 (192 ∷ []) (224 ∷ []) ≡ false
  pub flag_clear : matches_of 2 (65 ∷ []) (65 ∷ []) ≡ false

pub examples : Examples
unfolding lookup_of look_through and_then place_of entries_of matches_of same_text lower_of
examples =
    record {
      no_values = λ image base offset name. refl;
      no_offset = λ image base name. refl;
      past_end = λ a b c d e f g h name. refl;
      both_empty = λ flags. refl;
      one_empty = refl;
      cases_differ = refl;
      not_ascii = refl;
      flag_clear = refl;
    }
