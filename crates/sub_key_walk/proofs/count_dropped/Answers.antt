use Rattle.sub_key_walk.proofs.Entries.{entries_asks, dropped_told}
use Rattle.sub_key_walk.proofs.count_dropped.Goals as goal

pub dropped_of-requires : goal.dropped_of-requires
dropped_of-requires c =
    let a = c.args in
    record { there = entries_asks a.image.now a.base a.size a.n a.pos 4 c.if-size-eq4.true c.requires.there; few = c.requires.few }

pub dropped_of-requires-else-size-eq4 : goal.dropped_of-requires-else-size-eq4
dropped_of-requires-else-size-eq4 c =
    let a = c.args in
    record { there = entries_asks a.image.now a.base a.size a.n a.pos 8 (c.requires.sized c.if-size-eq4.false) c.requires.there; few = c.requires.few }

pub returns-then-size-eq4 : goal.returns-then-size-eq4
returns-then-size-eq4 c =
    let a = c.args in
    dropped_told a.image.now a.base a.size a.n a.pos 4 c.if-size-eq4.true c.dropped_of.ensures

pub returns-else-size-eq4 : goal.returns-else-size-eq4
returns-else-size-eq4 c =
    let a = c.args in
    dropped_told a.image.now a.base a.size a.n a.pos 8 (c.requires.sized c.if-size-eq4.false) c.dropped_of-else-size-eq4.ensures
