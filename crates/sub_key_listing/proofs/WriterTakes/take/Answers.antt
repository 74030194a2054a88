use Rattle.sub_key_listing.proofs.Records.{record_room, record_put}
use Rattle.sub_key_listing.proofs.WriterTakes.take.Goals as goal

pub put_plain-requires : goal.put_plain-requires
put_plain-requires c =
    record_room c.args.k c.args.self.place c.args.out.now c.requires

pub returns : goal.returns
returns c =
    record_put c.args.k c.args.self.place c.args.out.now c.requires c.put_plain.ensures
