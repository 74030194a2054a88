use mathlib.Core.Path.{sym, ◌∙◌}
use Rattle.cell_key_node.specs.ValueList.{entry_of}
use Rattle.cell_key_value.proofs.Lookups.{match, no_match}
use Rattle.cell_key_value.proofs.find_in.Goals as goal

pub returns-then-name_matches : goal.returns-then-name_matches
returns-then-name_matches c =
    let a = c.args in
    sym (match a.image.now a.base a.name.now (entry_of a.list.now) a.count c.loop-i.i c.loop-i-test.true _ c.entry_position-position.ensures _ (sym c.in_ok-value.ensures)
    (rw (← c.value_name-stored.ensures.bytes) (sym c.name_matches.ensures ∙ c.if-name_matches.true)))
    ∙ c.loop-i.invariant

pub loop-i-preserved : goal.loop-i-preserved
loop-i-preserved c =
    let a = c.args in
    sym (no_match a.image.now a.base a.name.now (entry_of a.list.now) a.count c.loop-i.i c.loop-i-test.true _ c.entry_position-position.ensures _ (sym c.in_ok-value.ensures)
    (rw (← c.value_name-stored.ensures.bytes) (sym c.name_matches.ensures ∙ c.if-name_matches.false)))
    ∙ c.loop-i.invariant
