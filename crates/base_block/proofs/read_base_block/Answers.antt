use mathlib.Core.Path.{sym, ap, ◌∙◌}
use native.Mathlib.Omega.{arith}
use Rattle.words.specs.Paper.{success}
use Rattle.words.proofs.Papers.{checked_good, fault_refused}
use Rattle.base_block.specs.Block.{block_of}
use Rattle.base_block.proofs.Parts.{head_long}
use Rattle.base_block.proofs.read_base_block.Goals as goal

pub fields-requires : goal.fields-requires
fields-requires c =
    omega (arith, head_long 4096 c.args.image.now (sym c.in-None.ensures))

pub returns-in-None : goal.returns-in-None
unfolding block_of
returns-in-None c =
    ap success c.fields.ensures ∙ sym (checked_good _ _ _ (sym c.in-None.ensures))

pub returns-in-Some : goal.returns-in-Some
unfolding block_of
returns-in-Some c =
    rw (← c.in-Some.ensures) (sym (fault_refused _ 0 c.in-Some.reason))
