use native.Mathlib.Omega.{arith}
use Rattle.sub_key_listing.specs.Answers.{offsets_of}
use Rattle.sub_key_listing.proofs.Right.{opened_room, close_room, closed_put}
use Rattle.sub_key_listing.proofs.put_listing.Goals as goal

pub put_offsets-end-requires : goal.put_offsets-end-requires
put_offsets-end-requires c =
    let a = c.args in
    record { counted = c.requires.counted; room = omega (arith, c.requires.counted, opened_room a.out.now a.key.base a.key.position (offsets_of a.image.now a.key) (omega (arith, c.requires.counted, c.requires.room)) c.put_opening.ensures) }

pub put_plain-requires : goal.put_plain-requires
put_plain-requires c =
    let a = c.args in
    close_room a.out.now a.key.base a.key.position (offsets_of a.image.now a.key) (omega (arith, c.requires.counted, c.requires.room)) c.put_opening.ensures c.put_offsets-end.ensures

pub returns : goal.returns
returns c =
    let a = c.args in
    closed_put a.out.now a.key.base a.key.position (offsets_of a.image.now a.key) (omega (arith, c.requires.counted, c.requires.room)) c.put_opening.ensures c.put_offsets-end.ensures c.requires.counted c.put_plain.ensures
