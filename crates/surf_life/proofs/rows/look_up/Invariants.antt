use Rattle.std.proofs.Common.{◌≡◌, ℕ, ◌+◌, ◌<◌, slice_index}
use Rattle.surf_life.proofs.rows.look_up.Given as goal

abbrev pub invariant-loop-x : goal.invariant-loop-x
invariant-loop-x l = record {
  written : (k : ℕ) → k < l.x → slice_index l.next (l.first + k) ≡ slice_index l.table (slice_index l.keys k);
  kept : (i : ℕ) → i < l.first → slice_index l.next i ≡ slice_index l.initial.next i;
}
