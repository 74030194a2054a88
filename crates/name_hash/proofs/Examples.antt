-- Document 01, "Examples on both sides": the starred ones on the hash; and those of document 02, order 5. Assumes nothing.
use Rattle.std.proofs.Common.{◌≡◌, [], ◌∷◌, refl}
use Rattle.words.specs.Paper.{success}
use Rattle.words.specs.Words.{little}
use Rattle.name_hash.specs.Characters.{between, upper_of}
use Rattle.name_hash.specs.Hash.{hash_of, name_hash_of}
use Rattle.name_hash.specs.Case.{upper_before, Ends}

-- "Hash of `A` 65, of `ab` 2471."
pub record Examples : Type 0 where
  pub one : name_hash_of 32 (65 ∷ []) ≡ success 65
  pub two : name_hash_of 32 (97 ∷ 98 ∷ []) ≡ success 2471

pub examples : Examples
unfolding name_hash_of hash_of upper_of between
examples = record { one = refl; two = refl }

pub ends : Ends
unfolding name_hash_of hash_of upper_of between upper_before little
ends =
    record {
      unit_1071 = refl;
      unit_1072 = refl;
      unit_1103 = refl;
      unit_1104 = refl;
      unit_1119 = refl;
      unit_1120 = refl;
      of_word = refl;
      of_upper_word = refl;
      before = refl;
    }
