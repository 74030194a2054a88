use mathlib.Core.Path.{refl}
use mathlib.Core.Bool.{true}
use Rattle.sub_key_walk.proofs.Entries.{fill_asks, fill_told}
use Rattle.sub_key_walk.proofs.fill_whole.Goals as goal

pub whole_of-requires : goal.whole_of-requires
whole_of-requires c =
    let a = c.args in
    let q = c.requires in
    let x = fill_asks a.image.now a.base a.size a.n a.pos 4 c.if-size-eq4.true true a.out.now a.place q.there (λ t. q.none_dropped) q.room in
    record { there = x.0; none_dropped = x.1.0 refl; room = x.1.1 }

pub whole_of-requires-else-size-eq4 : goal.whole_of-requires-else-size-eq4
whole_of-requires-else-size-eq4 c =
    let a = c.args in
    let q = c.requires in
    let x = fill_asks a.image.now a.base a.size a.n a.pos 8 (c.requires.sized c.if-size-eq4.false) true a.out.now a.place q.there (λ t. q.none_dropped) q.room in
    record { there = x.0; none_dropped = x.1.0 refl; room = x.1.1 }

pub returns-then-size-eq4 : goal.returns-then-size-eq4
returns-then-size-eq4 c =
    let a = c.args in
    fill_told a.image.now a.base a.size a.n a.pos 4 c.if-size-eq4.true a.out.now a.place c.whole_of.ensures

pub returns-else-size-eq4 : goal.returns-else-size-eq4
returns-else-size-eq4 c =
    let a = c.args in
    fill_told a.image.now a.base a.size a.n a.pos 8 (c.requires.sized c.if-size-eq4.false) a.out.now a.place c.whole_of-else-size-eq4.ensures
