-- What document 01 says of an answer tells the code's answers apart: two that are allowed for one input are equal. Assumes nothing.
use mathlib.Core.Path.{◌≡◌}
use Prim.Native.Nat.{ℕ}
use Rattle.std.specs.declared.result.Result.{Result}
use Rattle.words.specs.declared.Refusal.{Refusal}
use Rattle.words.proofs.Papers.{paper_injective, same-refusal}
use Rattle.base_block.specs.Answers.{sum_paper, block_paper}
use Rattle.base_block.specs.declared.BaseBlock.{BaseBlock}

pub sum_injective : (a b : Result ℕ Refusal) → sum_paper a ≡ sum_paper b → a ≡ b
sum_injective = paper_injective (λ x y e. e) same-refusal

pub block_injective : (a b : Result BaseBlock Refusal) → block_paper a ≡ block_paper b → a ≡ b
block_injective = paper_injective (λ x y e. e) same-refusal
