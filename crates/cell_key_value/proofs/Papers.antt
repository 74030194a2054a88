-- The promises fix the answers: two answers that say the same are the same. Assumes nothing.
use mathlib.Core.Path.{◌≡◌}
use Rattle.words.proofs.Papers.{paper_injective, same-refusal}
use Rattle.cell_key_value.specs.Value.{value_paper}
use Rattle.cell_key_value.specs.Lookup.{lookup_paper}
use Rattle.std.specs.declared.result.Result.{Result}
use Rattle.cell_key_value.specs.declared.KeyValue.{KeyValue}
use Rattle.words.specs.declared.Refusal.{Refusal}
use Rattle.cell_key_value.specs.declared.FoundValue.{FoundValue}

pub value_injective : (r t : Result KeyValue Refusal) → value_paper r ≡ value_paper t → r ≡ t
value_injective = paper_injective (λ v w e. e) same-refusal

pub lookup_injective : (r t : Result FoundValue Refusal) → lookup_paper r ≡ lookup_paper t → r ≡ t
lookup_injective = paper_injective (λ v w e. e) same-refusal
