use Rattle.value_data.proofs.Pieces.{cell_verdict}
use Rattle.value_data.proofs.check_cell.Goals as goal

pub returns-in-Held : goal.returns-in-Held
returns-in-Held c =
    cell_verdict _ _ _ c.in_ok-cell_at.ensures c.in-Held.is

pub returns-in-TooSmall : goal.returns-in-TooSmall
returns-in-TooSmall c =
    cell_verdict _ _ _ c.in_ok-cell_at.ensures c.in-TooSmall.is
