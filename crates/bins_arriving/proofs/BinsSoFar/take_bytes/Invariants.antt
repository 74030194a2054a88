use lib.ListN.{length}
use Rattle.bins_arriving.proofs.Feeding.{Known}
use Rattle.bins_arriving.proofs.BinsSoFar.take_bytes.Given as goal

abbrev pub invariant-loop-byte : goal.invariant-loop-byte
invariant-loop-byte l = Known l.initial.known l.part l.known l.rest

abbrev pub decreases-loop-byte : goal.decreases-loop-byte
decreases-loop-byte l = length l.rest
