use Rattle.sub_key_listing.proofs.Records.{opening-put}
use Rattle.sub_key_listing.proofs.put_opening.Goals as goal

pub returns : goal.returns
returns c =
    opening-put c.args.out.now c.args.base c.args.position c.requires c.number.ensures c.put_u32.ensures c.put_u16.ensures c.put_u32-2.ensures c.put_u64.ensures
