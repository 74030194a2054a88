use native.Mathlib.Nat.{div-add-mod}
use native.Mathlib.Omega.{arith}
use Prim.Native.Nat.{◌+◌, ◌-◌}
use mathlib.Core.Path.{◌≡◌}
use Rattle.list_conversion.proofs.Rows.{header-put}
use Rattle.list_conversion.proofs.put_header.Goals as goal

pub returns : goal.returns
returns c =
    let a = c.args in
    let w : c.wrapping_neg.result ≡ 4294967296 - a.size =
    omega (arith, c.requires.le_size, c.ranges.size.fits, c.wrapping_neg.type_inv, c.wrapping_neg.ensures, div-add-mod (c.wrapping_neg.result + a.size) 4294967296) in
    header-put a.out.now a.size a.kind a.count c.requires.in_bounds w c.put_u32.ensures c.put_u16.ensures c.put_u16-2.ensures
