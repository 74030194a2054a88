use native.Mathlib.Omega.{arith}
use lib.ListN.{length-take}
use Rattle.sub_key_cases.proofs.case.Goals as goal

pub slice_bounds-walk-end : goal.slice_bounds-walk-end
slice_bounds-walk-end c =
    simp length-take (omega arith)
