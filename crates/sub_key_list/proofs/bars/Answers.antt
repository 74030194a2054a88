use Rattle.sub_key_list.proofs.ListKinds.{bars_early, bars_ri, bars_leaf}
use Rattle.sub_key_list.proofs.bars.Goals as goal

pub returns-then-minor-least_minor : goal.returns-then-minor-least_minor
returns-then-minor-least_minor c =
    let a = c.args in bars_early a.minor a.named a.kind c.least_minor.ensures c.if-minor-least_minor.true

pub returns-in-Ri : goal.returns-in-Ri
returns-in-Ri c =
    let a = c.args in bars_ri a.minor a.named a.kind c.least_minor.ensures c.if-minor-least_minor.false c.in-Ri.is

pub returns-in_default : goal.returns-in_default
returns-in_default c =
    let a = c.args in bars_leaf a.minor a.named a.kind c.least_minor.ensures c.if-minor-least_minor.false c.in_default.not-Ri
