-- What document 01 says for each case of the code's answers.
use Rattle.std.specs.Prelude.{ℕ}
use Rattle.std.specs.declared.result.Result.{Result}
use Rattle.words.specs.Paper.{Paper, told, paper_of}
use Rattle.words.specs.declared.Refusal.{Refusal}
use Rattle.base_block.specs.declared.BaseBlock.{BaseBlock}

abbrev pub sum_paper : Result ℕ Refusal → Paper ℕ
sum_paper = paper_of (λ x. x) told

abbrev pub block_paper : Result BaseBlock Refusal → Paper BaseBlock
block_paper = paper_of (λ b. b) told
