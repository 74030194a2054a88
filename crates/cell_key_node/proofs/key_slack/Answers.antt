use mathlib.Core.Path.{refl}
use Rattle.words.proofs.Parts.{handed_part, handed-none}
use Rattle.cell_key_node.specs.Key.{key_slack, key_slack_at, key_fault}
use Rattle.cell_key_node.proofs.Records.{passed, failed}
use Rattle.cell_key_node.proofs.Places.{slack_placed}
use Rattle.cell_key_node.proofs.key_slack.Goals as goal

pub returns-in_default : goal.returns-in_default
unfolding key_slack key_slack_at key_fault
returns-in_default c =
    handed-none _ _ _ (failed _ _ _ _ _ c.in_default.ensures) (record { bytes = refl; place = refl })

pub returns : goal.returns
unfolding key_slack key_slack_at key_fault
returns c =
    let f = passed _ _ _ _ _ c.in-Ok.ensures in
    handed_part f
    (slack_placed c.args.position 80 0x6B6E 76 c.from-cell.ensures f
    c.size_of-size.ensures
    c.u16_at-name.ensures
    c.part-whole.ensures
    c.from.ensures)
