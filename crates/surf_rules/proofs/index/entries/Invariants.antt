use Rattle.std.proofs.Common.{◌≡◌, ◌≤◌, ℕ, length, filter, slice_get, false}
use Rattle.std.specs.Option.{option_map_or}
use Rattle.std.specs.List.{range_with_len}
use Rattle.surf_rules.specs.Sides.{is_side, numbers_of}
use Rattle.surf_rules.proofs.index.entries.Given as goal

abbrev pub invariant-loop-place : goal.invariant-loop-place
invariant-loop-place l = record {
  few : length l.entries.items ≤ l.place;
  same : (a r : ℕ) → numbers_of a r l.entries.items ≡ filter (λ k. option_map_or (is_side a r) (slice_get l.rules k) false) (range_with_len 0 l.place);
}
