use mathlib.Core.Path.{refl}
use Rattle.words.proofs.Parts.{handed_part, handed-none}
use Rattle.cell_key_node.proofs.Records.{passed, failed}
use Rattle.cell_key_node.proofs.Places.{name_placed}
use Rattle.cell_key_value.specs.Value.{value_name, value_name_at, value_fault}
use Rattle.cell_key_value.proofs.value_name.Goals as goal

pub returns-in_default : goal.returns-in_default
unfolding value_name value_name_at value_fault
returns-in_default c =
    handed-none _ _ _ (failed _ _ _ _ _ c.in_default.ensures) (record { bytes = refl; place = refl })

pub returns : goal.returns
unfolding value_name value_name_at value_fault
returns c =
    let f = passed _ _ _ _ _ c.in-Ok.ensures in
    handed_part f (name_placed c.args.position 24 0x6B76 6 c.from-cell.ensures f c.u16_at-size.ensures c.part.ensures)
