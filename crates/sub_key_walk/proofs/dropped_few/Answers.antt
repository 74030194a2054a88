use native.Mathlib.Omega.{arith}
use Rattle.sub_key_walk.proofs.Traces.{leaf_stands}
use Rattle.sub_key_walk.proofs.Entries.{standing_entries}
use borrow.Author.Rules.{rules}
use Rattle.sub_key_walk.proofs.dropped_few.Goals as goal

pub overflow_add-position : goal.overflow_add-position
overflow_add-position c =
    let a = c.args in
    let h = (leaf_stands a.image.now a.position _ _ _ c.requires).header in
    search rules

pub count_dropped-requires : goal.count_dropped-requires
count_dropped-requires c =
    let a = c.args in
    let x = leaf_stands a.image.now a.position _ _ _ c.requires in
    record { there = standing_entries x; sized = x.other_size; few = omega arith }
