-- What document 01 says for each case of the code's answer.
use Rattle.words.specs.Paper.{Paper, told, paper_of}
use Rattle.hive_bin.specs.declared.BinTotals.{BinTotals}
use Rattle.std.specs.declared.result.Result.{Result}
use Rattle.words.specs.declared.Refusal.{Refusal}

abbrev pub bins_paper : Result BinTotals Refusal → Paper BinTotals
bins_paper = paper_of (λ t. t) told
