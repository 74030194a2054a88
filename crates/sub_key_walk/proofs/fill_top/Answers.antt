use mathlib.Core.Path.{sym}
use Rattle.sub_key_walk.specs.Trace.{ordinary, LEVELS}
use Rattle.sub_key_walk.proofs.Walks.{levels_left}
use Rattle.sub_key_walk.proofs.Traces.{leaf_stands}
use Rattle.sub_key_walk.proofs.Entries.{standing_entries}
use Rattle.sub_key_walk.proofs.Fills.{leaf_room, leaf-whole, fill_leaf}
use borrow.Author.Rules.{rules}
use Rattle.sub_key_list.proofs.Papers.{read_as}
use Rattle.sub_key_walk.proofs.fill_top.Goals as goal

pub overflow_add-position-in-Ok-Leaf : goal.overflow_add-position-in-Ok-Leaf
overflow_add-position-in-Ok-Leaf c =
    let h = (leaf_stands _ _ _ _ _ (sym (read_as c.in-Ok-Leaf.field-0-is c.in-Ok-Leaf.ensures))).header in
    search rules

pub fill_whole-requires : goal.fill_whole-requires
fill_whole-requires c =
    let a = c.args in
    let e = (sym (read_as c.in-Ok-Leaf.field-0-is c.in-Ok-Leaf.ensures)) in
    let x = leaf_stands a.image.now _ _ _ _ e in
    record { there = standing_entries x; sized = x.other_size; none_dropped = leaf-whole (ordinary a.image.now) LEVELS a.image.now a.base a.list levels_left e c.requires c.if-whole.true; room = leaf_room (ordinary a.image.now) LEVELS a.image.now a.base a.list levels_left e c.requires }

pub returns-in-Ok-Leaf : goal.returns-in-Ok-Leaf
returns-in-Ok-Leaf c =
    let a = c.args in
    fill_leaf (ordinary a.image.now) LEVELS a.image.now a.base a.list levels_left (sym (read_as c.in-Ok-Leaf.field-0-is c.in-Ok-Leaf.ensures)) c.fill_whole.ensures
