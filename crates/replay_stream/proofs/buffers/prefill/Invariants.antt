use Rattle.std.proofs.Common.{◌≡◌, ℕ, ◌<◌, slice_get, Some}
use Rattle.replay_stream.proofs.buffers.prefill.Given as goal

abbrev pub invariant-loop-place : goal.invariant-loop-place
invariant-loop-place g l =
    g.T.Pattern.holds l.place-index l.x
    × ((i : ℕ) (x : _) → i < l.place-index → slice_get l.out i ≡ Some x → g.T.Pattern.holds i x)
