use mathlib.Core.Path.{◌≡◌, ap₂}
use Prim.Native.Nat.{◌*◌}
use native.Mathlib.Omega.{arith}
use lib.Bits.{bit_xor}
use Rattle.base_block.proofs.Sheets.{written_none, written_more}
use Rattle.base_block.proofs.fold.Goals as goal

pub loop-i-init : goal.loop-i-init
loop-i-init c =
    written_none

pub loop-i-preserved : goal.loop-i-preserved
loop-i-preserved c =
    let l = c.loop-i in
    let w = l.invariant in
    written_more _ (omega (arith, c.requires)) (ap₂ bit_xor (w.rest l.i (omega arith)) (w.rest _ (omega arith))) w

pub returns : goal.returns
returns c =
    let all : c.loop-i.i ≡ 4 * c.args.rows = omega arith in rw all at c.loop-i.invariant
