use native.Mathlib.Omega.{arith}
use Rattle.sub_key_walk.proofs.Entries.{entries_asks, bound_told}
use Rattle.sub_key_walk.proofs.Pieces.{bound_whole}
use Rattle.sub_key_walk.proofs.fits.Goals as goal

pub bound_of-requires : goal.bound_of-requires
bound_of-requires c =
    let a = c.args in
    entries_asks a.image.now a.base a.size a.n a.pos 4 c.if-size-eq4.true c.requires.there

pub bound_of-requires-else-size-eq4 : goal.bound_of-requires-else-size-eq4
bound_of-requires-else-size-eq4 c =
    let a = c.args in
    entries_asks a.image.now a.base a.size a.n a.pos 8 (c.requires.sized c.if-size-eq4.false) c.requires.there

pub returns-then-size-eq4 : goal.returns-then-size-eq4
returns-then-size-eq4 c =
    let a = c.args in
    bound_whole a.image.now a.base a.size a.n a.pos c.bound_of.result (omega arith) (bound_told a.image.now a.base a.size a.n a.pos 4 c.if-size-eq4.true c.bound_of.result c.bound_of.ensures)

pub returns-else-size-eq4 : goal.returns-else-size-eq4
returns-else-size-eq4 c =
    let a = c.args in
    bound_whole a.image.now a.base a.size a.n a.pos c.bound_of-else-size-eq4.result (omega arith) (bound_told a.image.now a.base a.size a.n a.pos 8 (c.requires.sized c.if-size-eq4.false) c.bound_of-else-size-eq4.result c.bound_of-else-size-eq4.ensures)
