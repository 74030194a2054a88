use mathlib.Core.Path.{ap, ◌∙◌}
use Rattle.words.proofs.Papers.{handed_on}
use Rattle.name_hash.specs.Hash.{hash_paper}
use Rattle.list_conversion.proofs.Entries.{hash_outside, hash_unread, hash_read}
use Rattle.list_conversion.proofs.key_hash.Goals as goal

pub returns-then-place-ge-ADDRESSES : goal.returns-then-place-ge-ADDRESSES
returns-then-place-ge-ADDRESSES c =
    hash_outside c.args.image.now c.args.place c.if-place-ge-ADDRESSES.true

pub returns-in_err-key : goal.returns-in_err-key
returns-in_err-key c =
    ap hash_paper (handed_on _ c.from_residual.ensures) ∙ hash_unread c.args.image.now c.args.place c.if-place-ge-ADDRESSES.false c.in_err-key.ensures

pub returns : goal.returns
returns c =
    hash_read c.args.image.now c.args.place c.if-place-ge-ADDRESSES.false c.in_ok-key.ensures c.key_name-name.ensures.bytes c.name_hash.ensures
