use Rattle.std.proofs.Common.{◌≡◌, ℕ, ◌&&◌, if◌then◌else◌, nat_le, nat_lt, slice_index}
use Rattle.surf_rle.proofs.sheet.fill.Given as goal

abbrev pub invariant-loop-place : goal.invariant-loop-place
invariant-loop-place l = (k : ℕ) → slice_index l.cells k ≡ (if nat_le l.from k && nat_lt k l.place then 1 else slice_index l.initial.cells k)
