use mathlib.Core.Path.{◌∙◌}
use native.Mathlib.Omega.{arith}
use lib.ListN.{length-set}
use Rattle.cell_key_node.specs.ValueList.{entry_of}
use Rattle.cell_key_node.proofs.Fill.{filled_more}
use Rattle.cell_key_node.proofs.fill_entries.Goals as goal

pub loop-i-preserved : goal.loop-i-preserved
loop-i-preserved c =
    let a = c.args in
    let l = c.loop-i in (
      length-set l.out l.i c.entry.result ∙ l.invariant.0,
      rw (l.invariant.1, c.entry.ensures) (filled_more (entry_of a.list.now) l.i a.out.now (omega (arith, c.requires))),
    )
