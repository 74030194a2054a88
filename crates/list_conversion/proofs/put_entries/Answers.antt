use Rattle.list_conversion.proofs.Rows.{filling_start, filling_step}
use Rattle.list_conversion.proofs.put_entries.Goals as goal

pub loop-i-init : goal.loop-i-init
loop-i-init g c =
    filling_start g.E.Row.size (g.E.Row.entry c.args.row.now) c.args.count c.args.out.now c.requires

pub loop-i-preserved : goal.loop-i-preserved
loop-i-preserved g c =
    let l = c.loop-i in
    filling_step g.E.Row.size (g.E.Row.entry c.args.row.now) c.args.count c.args.out.now l.out l.i l.invariant c.loop-i-test.true c.size-size.ensures c.entry-entry.ensures c.put_bytes.ensures
