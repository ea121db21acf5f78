use Rattle.std.proofs.Common.{◌≡◌, ℕ, ◌<◌, length, slice_index}
use Rattle.surf_life.proofs.life.as_bytes.Given as goal

abbrev pub invariant-loop-place : goal.invariant-loop-place
invariant-loop-place l = record {
  size : length l.bytes.items ≡ length l.cells;
  written : (k : ℕ) → k < l.place → slice_index l.bytes.items k ≡ slice_index l.cells k;
}
