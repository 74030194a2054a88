use Rattle.std.proofs.Common.{rules}
use native.Mathlib.Omega.{arith}
use Rattle.bins_arriving.proofs.Feeding.{ends, first_byte, no_byte, all_from, header_next, goes_byte, pass_fits, pass_within, goes_pass}
use Rattle.bins_arriving.proofs.BinsSoFar.take_bytes.Goals as goal

pub next_byte-known-requires : goal.next_byte-known-requires
next_byte-known-requires c =
    let so = c.loop-byte.invariant in
    let f = first_byte _ c.in-Some.ensures.value in
    (omega (arith, so.fits), header_next _ _ c.to_pass-bytes.ensures f.0 c.if-bytes-eq0.true)

pub loop-byte-preserved-then-bytes-eq0 : goal.loop-byte-preserved-then-bytes-eq0
loop-byte-preserved-then-bytes-eq0 c =
    let f = first_byte _ c.in-Some.ensures.value in
    rw all_from (goes_byte c.loop-byte.invariant f.0 f.1 c.next_byte-known.ensures)

pub pass_over-known-requires : goal.pass_over-known-requires
pass_over-known-requires c = pass_fits c.loop-byte.invariant c.to_pass-bytes.ensures (omega arith)

pub slice_bounds-rest-count-else-bytes-eq0 : goal.slice_bounds-rest-count-else-bytes-eq0
slice_bounds-rest-count-else-bytes-eq0 c = pass_within c.loop-byte.invariant c.to_pass-bytes.ensures

pub slice_bounds-rest-start-else-bytes-eq0 : goal.slice_bounds-rest-start-else-bytes-eq0
slice_bounds-rest-start-else-bytes-eq0 c = let l = pass_within c.loop-byte.invariant c.to_pass-bytes.ensures in search rules

pub loop-byte-preserved : goal.loop-byte-preserved
loop-byte-preserved c = rw all_from (goes_pass c.loop-byte.invariant c.to_pass-bytes.ensures (omega arith) c.pass_over-known.ensures)

pub returns : goal.returns
returns c = ends c.loop-byte.invariant (no_byte _ c.in_default.ensures.value)
