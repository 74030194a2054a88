use mathlib.Core.Path.{refl}
use Rattle.sub_key_listing.proofs.Right.{put-none, put_room, put_some}
use Rattle.sub_key_listing.proofs.put_offsets.Goals as goal

pub returns-then-kept-eq0 : goal.returns-then-kept-eq0
returns-then-kept-eq0 c =
    put-none c.args.image.now c.args.key c.args.kept c.requires.counted c.args.out.now c.if-kept-eq0.true

pub take_walk-requires : goal.take_walk-requires
take_walk-requires c =
    put_room c.args.image.now c.args.key c.args.kept c.requires.counted c.args.out.now c.if-kept-eq0.false c.requires.room

pub returns : goal.returns
returns c =
    put_some c.args.image.now c.args.key c.args.kept c.requires.counted c.args.out.now c.if-kept-eq0.false c.take_walk.ensures refl
