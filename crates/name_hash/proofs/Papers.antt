-- The promise fixes the answer: two answers that say the same are the same. Assumes nothing.
use Rattle.std.proofs.Common.{◌≡◌, ℕ}
use Rattle.std.specs.declared.result.Result.{Result}
use Rattle.words.specs.declared.Refusal.{Refusal}
use Rattle.words.proofs.Papers.{paper_injective, same-refusal}
use Rattle.name_hash.specs.Hash.{hash_paper}

pub hash_injective : (r t : Result ℕ Refusal) → hash_paper r ≡ hash_paper t → r ≡ t
hash_injective = paper_injective (λ h k e. e) same-refusal
