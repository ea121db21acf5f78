use Rattle.std.proofs.Common.{◌≡◌, ℕ, ◌+◌, ◌*◌, ◌<◌, ◌≤◌, length, slice_index}
use Rattle.surf_auto.specs.Counts.{looked_up}
use Rattle.surf_life.proofs.life.table_of.Given as goal

abbrev pub invariant-loop-own : goal.invariant-loop-own
invariant-loop-own l = record {
  size : length l.table ≡ 18;
  before : (o n : ℕ) → o < l.own → n ≤ 8 → slice_index l.table (o * 9 + n) ≡ looked_up l.local o n;
}

abbrev pub invariant-loop-count : goal.invariant-loop-count
invariant-loop-count l = record {
  size : length l.table ≡ 18;
  before : (o n : ℕ) → o < l.own → n ≤ 8 → slice_index l.table (o * 9 + n) ≡ looked_up l.local o n;
  row : (n : ℕ) → n < l.count → slice_index l.table (l.own * 9 + n) ≡ looked_up l.local l.own n;
}
