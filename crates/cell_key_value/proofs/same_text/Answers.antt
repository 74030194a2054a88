use Rattle.cell_key_value.proofs.Texts.{same_decided}
use Rattle.cell_key_value.proofs.same_text.Goals as goal

pub returns : goal.returns
returns c =
    same_decided _ _ _ c.eq_ignore_ascii_case.ensures.test
