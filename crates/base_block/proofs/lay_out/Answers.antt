use Rattle.base_block.proofs.Sheets.{copied}
use Rattle.base_block.proofs.lay_out.Goals as goal

pub returns : goal.returns
returns c =
    rw c.copy_from_slice.ensures.after (copied 508 c.args.s.now c.args.sheet.now c.requires.0)
