-- Document 01, "Examples on both sides": the starred ones on value lists. Assumes nothing.
use mathlib.Core.Path.{◌≡◌, refl}
use mathlib.Core.List.{List, [], ◌∷◌}
use Prim.Native.Nat.{ℕ}
use native.Mathlib.Omega.{arith}
use lib.IntN.{pos}
use Rattle.words.specs.Paper.{success, refused, by}
use Rattle.words.specs.Refusals.{NO_LIST, OUTSIDE}
use Rattle.words.specs.Buffers.{needing, in_room}
use Rattle.words.proofs.Buffers.{room_fits}
use Rattle.cell_key_node.specs.ValueList.{place_of, value_list_of}

-- "Values: count 0, offset 0 succeeds; count 1, offset 0 is 6. Image of 8, base 4096: offset 8 is 6, offset 7 is 2."
pub record Examples : Type 0 where
  pub none : (image : List ℕ) (base room : ℕ) → value_list_of image base 0 (pos 0) room ≡ success 0
  pub no_offset : (image : List ℕ) (base room : ℕ) → value_list_of image base 1 (pos 0) room ≡ refused (by NO_LIST 0)
  pub at-end :
      (a b c d e f g h room : ℕ) →
      value_list_of (a ∷ b ∷ c ∷ d ∷ e ∷ f ∷ g ∷ h ∷ []) 4096 1 (pos 8) room ≡ refused (by NO_LIST 0)
  pub past_end :
      (a b c d e f g h room : ℕ) →
      value_list_of (a ∷ b ∷ c ∷ d ∷ e ∷ f ∷ g ∷ h ∷ []) 4096 1 (pos 7) room ≡ refused (by OUTSIDE 4103)

pub examples : Examples
unfolding value_list_of place_of in_room
examples =
    record {
      none = λ image base room. room_fits needing room 0 (omega arith);
      no_offset = λ image base room. refl;
      at-end = λ a b c d e f g h room. refl;
      past_end = λ a b c d e f g h room. refl;
    }
