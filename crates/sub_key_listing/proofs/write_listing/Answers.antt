use mathlib.Core.Path.{sym}
use Rattle.sub_key_listing.proofs.Answers.{kept_number, refusal_of, write_refused, write_full, write_written}
use Rattle.sub_key_listing.proofs.write_listing.Goals as goal

pub returns-in_err-walk : goal.returns-in_err-walk
returns-in_err-walk c =
    let a = c.args in
    write_refused a.image.now a.key a.budget a.out.now c.in_err-walk.ensures _ (refusal_of _ _ c.from_residual.ensures)

pub returns-then-out-whole : goal.returns-then-out-whole
returns-then-out-whole c =
    let a = c.args in
    write_full a.image.now a.key a.budget a.out.now c.in_ok-walk.ensures c.all_told-whole.ensures c.if-out-whole.true _ c.no_room.ensures

pub put_listing-requires-clause-counted : goal.put_listing-requires-clause-counted
put_listing-requires-clause-counted c =
    kept_number c.args.image.now c.args.key c.args.budget _ (sym c.in_ok-walk.ensures)

pub returns : goal.returns
returns c =
    let a = c.args in
    write_written a.image.now a.key a.budget a.out.now c.in_ok-walk.ensures c.all_told-whole.ensures c.if-out-whole.false c.put_listing.ensures
