use native.Mathlib.Omega.{arith}
use Rattle.bins_arriving.proofs.Feeding.{remains}
use Rattle.bins_arriving.proofs.take_part.Goals as goal

pub take_bytes-requires : goal.take_bytes-requires
take_bytes-requires c = remains c.args.state c.settled.ensures c.saturating_sub-remaining.ensures (omega arith)
