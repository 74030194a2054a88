use mathlib.Core.Path.{ap, ◌∙◌}
use Prim.Native.Nat.{ℕ, ◌-◌}
use native.Mathlib.Omega.{arith}
use Rattle.writing.specs.Writing.{with_bytes, bytes_of}
use Rattle.writing.proofs.Writing.{put_true, put_written}
use Rattle.list_conversion.proofs.put_rest.Goals as goal

pub returns : goal.returns
returns c =
    let a = c.args in
    let q = c.requires in
    let e = c.bytes_of-end.ensures in
    let w = c.put_bytes.ensures in
    put_written w (put_true w (omega (arith, e, q.size_in_bounds, q.count_bound))) ∙ ap (λ (k : ℕ). with_bytes a.out.now k (bytes_of (a.size - k) 0)) e
