use mathlib.Core.Path.{◌∙◌}
use Rattle.sub_key_listing.proofs.Right.{agree_none, agree_room, agree_some}
use Rattle.sub_key_listing.proofs.offsets_agree.Goals as goal

pub returns-then-n-eq0 : goal.returns-then-n-eq0
returns-then-n-eq0 c =
    agree_none c.args.image.now c.args.key c.args.n c.requires.counted c.args.listing.now c.if-n-eq0.true

pub take_walk-compared-requires : goal.take_walk-compared-requires
take_walk-compared-requires c =
    agree_room c.args.image.now c.args.key c.args.n c.requires.counted c.args.listing.now c.if-n-eq0.false c.requires.room

pub returns : goal.returns
returns c =
    c.is_some.ensures ∙ agree_some c.args.image.now c.args.key c.args.n c.requires.counted c.args.listing.now c.if-n-eq0.false c.take_walk-compared.ensures.1
