use Rattle.std.proofs.Common.{◌≡◌, ℕ, false, length, slice_index_or}
use Rattle.surf_rules.specs.Sums.{is_first_among}
use Rattle.surf_rules.proofs.sums.paired_names.Given as goal

abbrev pub invariant-loop-place : goal.invariant-loop-place
invariant-loop-place l = record {
  long : length l.flags.items ≡ l.count;
  at : (a : ℕ) → slice_index_or l.flags.items a false ≡ is_first_among l.rules a l.place;
}
