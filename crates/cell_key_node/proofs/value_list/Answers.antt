use mathlib.Core.Path.{sym, ap, ◌∙◌}
use Rattle.words.proofs.Signed.{back}
use Rattle.words.specs.Paper.{success}
use Rattle.cell_key_node.specs.ValueList.{placed}
use Rattle.cell_key_node.proofs.ValueLists.{listed}
use Rattle.cell_key_node.proofs.value_list.Goals as goal

pub returns : goal.returns
returns c =
    let v = rw (back c.args.offset c.ranges.offset) at c.in_ok-position.ensures in
    listed _ _ _ _ _ _ _ (sym v ∙ ap (λ q. success (placed q)) c.in-Some.is) c.if-out-places.false
    (rw c.from.ensures.bytes at c.fill_entries.ensures)
