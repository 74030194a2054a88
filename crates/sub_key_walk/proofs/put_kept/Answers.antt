use mathlib.Core.Path.{◌≡◌, ap}
use mathlib.Core.List.{[]}
use Prim.Native.Nat.{◌+◌}
use native.Mathlib.Omega.{arith}
use lib.ListN.{length}
use Rattle.sub_key_list.specs.Leaves.{keep}
use Rattle.sub_key_list.proofs.Leaves.{keep_kept}
use Rattle.sub_key_walk.proofs.Entries.{put_kept, put_dropped}
use borrow.Author.Rules.{rules}
use Rattle.sub_key_walk.proofs.put_kept.Goals as goal

pub bounds-out-to : goal.bounds-out-to
bounds-out-to c =
    let a = c.args in
    let e : length (keep (a.v + a.base) []) ≡ 1 = ap length (keep_kept (a.v + a.base) c.in-Some.ensures.0) in
    search rules

pub returns-in-Some : goal.returns-in-Some
returns-in-Some c =
    let a = c.args in rw (c.in-Some.ensures.1) (put_kept (a.v + a.base) a.to a.out.now c.in-Some.ensures.0)

pub returns-in-None : goal.returns-in-None
returns-in-None c =
    let a = c.args in put_dropped (a.v + a.base) a.to a.out.now (omega (arith, c.in-None.ensures))
