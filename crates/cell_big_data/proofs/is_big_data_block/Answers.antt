-- The check finds this one too; as an answer it says at which bytes a wrong body fails.
use Rattle.std.proofs.Common.{arith}
use Rattle.std.proofs.lemmas.Bool.Decides.{nat_tests}
use Rattle.cell_big_data.specs.Big.{is_big_data_block}
use Rattle.cell_big_data.proofs.is_big_data_block.Goals as goal

pub returns-in-100 : goal.returns-in-100
unfolding is_big_data_block
returns-in-100 c =
    grind (arith, nat_tests)
