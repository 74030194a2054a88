use mathlib.Core.Path.{refl}
use Rattle.std.specs.Prelude.{Err}
use native.Mathlib.Omega.{arith}
use Rattle.words.specs.declared.Reason.TheVariants.{CutShort, NoRoom}
use Rattle.words.proofs.Papers.{handed_on}
use Rattle.deleted_keys.proofs.Keys.{part_fits}
use Rattle.deleted_keys.proofs.Answers.{too_short, bins_refused, no_room, lists}
use Rattle.deleted_keys.proofs.deleted_keys.Goals as goal

pub returns-then-image-start : goal.returns-then-image-start
returns-then-image-start c = too_short _ _ _ _ c.if-image-start.true (Err (record { reason = CutShort; position = c.args.base; places = 0 })) refl

pub scan-requires : goal.scan-requires
scan-requires c = (part_fits _ _ _ _ c.part-bins.ensures.bytes c.if-image-start.false, omega arith)

pub returns-in_err-n : goal.returns-in_err-n
returns-in_err-n c =
    bins_refused _ _ _ _ c.if-image-start.false _ c.part-bins.ensures.bytes c.scan.ensures c.in_err-n.was (handed_on _ c.from_residual.ensures)

pub returns-then-out-n : goal.returns-then-out-n
returns-then-out-n c =
    no_room _ _ _ _ c.if-image-start.false _ c.part-bins.ensures.bytes c.scan.ensures c.in_ok-n.was c.if-out-n.true (Err (record { reason = NoRoom; position = 0; places = c.in_ok-n.n })) refl

pub scan-requires-2 : goal.scan-requires-2
scan-requires-2 c = (part_fits _ _ _ _ c.part-bins.ensures.bytes c.if-image-start.false, omega arith)

pub returns : goal.returns
returns c =
    lists _ _ _ _ c.if-image-start.false _ c.part-bins.ensures.bytes c.scan.ensures c.in_ok-n.was c.if-out-n.false c.scan-2.ensures
