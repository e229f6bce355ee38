use Rattle.std.proofs.Common.{◌≡◌, ℕ, ◌%◌, ◌^◌, ◌<◌, ◌≤◌, slice_index}
use Rattle.filter.proofs.walks.acts.retreat.Given as goal

abbrev pub invariant-loop-mask : goal.invariant-loop-mask
invariant-loop-mask l =
    ((k : ℕ) → k < l.mask-index → slice_index l.masks k ≡ slice_index l.initial.masks k % 2 ^ l.depth)
    × ((k : ℕ) → l.mask-index ≤ k → slice_index l.masks k ≡ slice_index l.initial.masks k)
