use mathlib.Core.Path.{refl, sym, ◌∙◌}
use Rattle.words.proofs.Papers.{numbered}
use Rattle.words.proofs.Parts.{retold, handed_part, handed-none}
use Rattle.base_block.specs.Block.{part_of, part_at}
use Rattle.base_block.proofs.Parts.{in_block}
use Rattle.base_block.proofs.block_part.Goals as goal

pub returns-in-None : goal.returns-in-None
unfolding part_of part_at
returns-in-None c =
    let a = c.args in
    let f = sym c.in-None.ensures in
    handed_part f (retold (in_block a.image.now a.at f c.requires) refl c.part.ensures)

pub returns-in-Some : goal.returns-in-Some
unfolding part_of part_at
returns-in-Some c =
    handed-none _ _ _ (λ e. numbered _ (c.in-Some.ensures ∙ e)) (record { bytes = refl; place = refl })
