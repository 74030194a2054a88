use Rattle.std.proofs.Common.{◌≡◌, length}
use Rattle.bins_listing.proofs.bins.read_bins.Given as goal

abbrev pub invariant-loop-remaining : goal.invariant-loop-remaining
invariant-loop-remaining g l =
    length l.page ≡ length l.initial.page

abbrev pub decreases-loop-remaining : goal.decreases-loop-remaining
decreases-loop-remaining g l =
    l.remaining
