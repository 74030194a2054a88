use Prim.Native.Nat.{◌+◌, ◌≤◌}
use borrow.Author.Rules.{rules}
use lib.ListN.{length}
use Rattle.sub_key_walk.proofs.Traces.{leaf_stands}
use Rattle.sub_key_walk.proofs.Entries.{standing_entries}
use Rattle.sub_key_walk.proofs.Uses.{passing_start, passing_there, passing_ready, passing_step, passing_end}
use Rattle.sub_key_listing.proofs.take_leaf.Goals as goal

pub overflow_add-at : goal.overflow_add-at
overflow_add-at g c =
    let l : c.args.position + 8 ≤ length c.args.image.now = (leaf_stands _ _ _ _ _ c.requires.stands).header in
    search rules

pub loop-i-init : goal.loop-i-init
loop-i-init g c =
    passing_start _ _ _ _ _ _ _ (standing_entries (leaf_stands _ _ _ _ _ c.requires.stands)) c.requires.ready

pub take_kept-to-requires : goal.take_kept-to-requires
take_kept-to-requires g c =
    passing_ready _ _ _ _ _ _ _ _ _ _ c.loop-i.invariant c.loop-i-test.true (leaf_stands _ _ _ _ _ c.requires.stands).word c.u32_at-v.ensures

pub overflow_add-at-in-loop-i : goal.overflow_add-at-in-loop-i
overflow_add-at-in-loop-i g c =
    let l = passing_there _ _ _ _ _ _ _ _ _ _ c.loop-i.invariant c.loop-i-test.true (leaf_stands _ _ _ _ _ c.requires.stands).word in
    search rules

pub loop-i-preserved : goal.loop-i-preserved
loop-i-preserved g c =
    passing_step _ _ _ _ _ _ _ _ _ _ c.loop-i.invariant c.loop-i-test.true (leaf_stands _ _ _ _ _ c.requires.stands).word c.u32_at-v.ensures c.take_kept-to.ensures

pub returns : goal.returns
returns g c =
    passing_end _ _ _ _ _ _ _ _ _ _ c.loop-i.invariant c.loop-i-test.false
