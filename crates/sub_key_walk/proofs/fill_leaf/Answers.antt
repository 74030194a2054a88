use Prim.Native.Nat.{◌+◌}
use Rattle.sub_key_walk.proofs.Traces.{leaf_stands}
use Rattle.sub_key_walk.proofs.Entries.{standing_entries, sized_asks, fill_asks, fill_told}
use borrow.Author.Rules.{rules}
use Rattle.sub_key_walk.proofs.fill_leaf.Goals as goal

pub overflow_add-pos : goal.overflow_add-pos
overflow_add-pos c =
    let a = c.args in
    let h = (leaf_stands a.image.now a.position _ _ _ c.requires.stands).header in
    search rules

pub fill_whole-requires : goal.fill_whole-requires
fill_whole-requires c =
    let a = c.args in
    let x = leaf_stands a.image.now a.position _ _ _ c.requires.stands in
    record { there = standing_entries x; sized = x.other_size; none_dropped = c.requires.kept_whole c.if-whole.true; room = c.requires.room }

pub fill_kept-requires : goal.fill_kept-requires
fill_kept-requires c =
    let a = c.args in
    let x = leaf_stands a.image.now a.position _ _ _ c.requires.stands in
    let y = fill_asks a.image.now a.base a.leaf.entry_size a.leaf.count (a.position + 8) 4 c.if-size-eq4.true a.whole a.out.now a.place (standing_entries x) c.requires.kept_whole c.requires.room in
    record { there = y.0; sized = sized_asks a.image.now a.base a.leaf.entry_size a.leaf.count (a.position + 8) 4 c.if-size-eq4.true x.other_size; room = y.1.1 }

pub fill_kept-requires-else-size-eq4 : goal.fill_kept-requires-else-size-eq4
fill_kept-requires-else-size-eq4 c =
    let a = c.args in
    let x = leaf_stands a.image.now a.position _ _ _ c.requires.stands in
    let y = fill_asks a.image.now a.base a.leaf.entry_size a.leaf.count (a.position + 8) 8 (x.other_size c.if-size-eq4.false) a.whole a.out.now a.place (standing_entries x) c.requires.kept_whole c.requires.room in
    record { there = y.0; sized = sized_asks a.image.now a.base a.leaf.entry_size a.leaf.count (a.position + 8) 8 (x.other_size c.if-size-eq4.false) x.other_size; room = y.1.1 }

pub returns-then-size-eq4 : goal.returns-then-size-eq4
returns-then-size-eq4 c =
    let a = c.args in
    fill_told a.image.now a.base a.leaf.entry_size a.leaf.count (a.position + 8) 4 c.if-size-eq4.true a.out.now a.place c.fill_kept.ensures

pub returns-else-size-eq4 : goal.returns-else-size-eq4
returns-else-size-eq4 c =
    let a = c.args in
    let x = leaf_stands a.image.now a.position _ _ _ c.requires.stands in
    fill_told a.image.now a.base a.leaf.entry_size a.leaf.count (a.position + 8) 8 (x.other_size c.if-size-eq4.false) a.out.now a.place c.fill_kept-else-size-eq4.ensures
