use Rattle.std.proofs.Common.{◌≡◌, ℕ, length, slice_index}
use Rattle.surf_rules.specs.Books.{is_alone}
use Rattle.surf_rules.specs.Sums.{sum_among}
use Rattle.surf_rules.proofs.sums.alone_sums.Given as goal

abbrev pub invariant-loop-place : goal.invariant-loop-place
invariant-loop-place l = record {
  long : length l.sums.items ≡ l.count;
  at : (a : ℕ) → slice_index l.sums.items a ≡ sum_among l.rules (is_alone a) l.place;
}
