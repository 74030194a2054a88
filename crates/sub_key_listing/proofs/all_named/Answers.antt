use Rattle.sub_key_listing.proofs.Naming.{naming_fails, naming_step, naming_end}
use Rattle.sub_key_listing.proofs.all_named.Goals as goal

pub returns-then-not-begins_at : goal.returns-then-not-begins_at
returns-then-not-begins_at c =
    naming_fails c.args.listing.now c.args.n c.loop-i.i c.loop-i.invariant c.loop-i-test.true c.begins_at.ensures c.if-not-begins_at.true

pub loop-i-preserved : goal.loop-i-preserved
loop-i-preserved c =
    naming_step c.args.listing.now c.args.n c.loop-i.i c.loop-i.invariant c.loop-i-test.true c.begins_at.ensures c.if-not-begins_at.false

pub returns : goal.returns
returns c =
    naming_end c.args.listing.now c.args.n c.loop-i.i c.loop-i.invariant c.loop-i-test.false
