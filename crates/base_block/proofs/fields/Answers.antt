use Rattle.std.proofs.Common.{arith}
use Rattle.std.proofs.lemmas.Grind.{common_steps}
use Rattle.base_block.specs.Block.{first_of, extension_of, fields_of}
use Rattle.base_block.specs.Checksum.{sum_of}
use Rattle.base_block.proofs.fields.Goals as goal

pub returns : goal.returns
unfolding fields_of first_of extension_of sum_of
returns c =
    grind (arith, common_steps)
