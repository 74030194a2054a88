use Rattle.cell_key_node.specs.ValueList.{entry_of}
use Rattle.value_data.proofs.Copies.{filling_fits, filling_step}
use Rattle.value_data.proofs.copy_segments.Goals as goal

pub copy_bytes-requires : goal.copy_bytes-requires
copy_bytes-requires c =
    let a = c.args in
    let l = c.loop-i in
    filling_fits a.image.now a.base (entry_of a.list.now) a.count a.size a.out.now l.out l.at l.left l.i l.invariant c.loop-i-test.true _ c.entry_position-position.ensures _ c.min-bytes.ensures _ c.cell_bytes-segment.ensures

pub loop-i-preserved : goal.loop-i-preserved
loop-i-preserved c =
    let a = c.args in
    let l = c.loop-i in
    rw c.copy_bytes.ensures (filling_step a.image.now a.base (entry_of a.list.now) a.count a.size a.out.now l.out l.at l.left l.i l.invariant c.loop-i-test.true _ c.entry_position-position.ensures _ c.min-bytes.ensures _ c.cell_bytes-segment.ensures)
