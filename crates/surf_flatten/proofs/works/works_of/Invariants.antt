use Rattle.std.proofs.Common.{◌≡◌, ◌-◌, length, drop}
use Rattle.surf_flatten.specs.Laws.{HasWorks}
use Rattle.surf_flatten.proofs.works.works_of.Given as goal

abbrev pub invariant-loop-count : goal.invariant-loop-count
invariant-loop-count l = record {
  works : HasWorks l.models l.table.items (drop (length l.done - l.count) l.done);
  same : length l.table.items ≡ length l.models;
}
