use Rattle.std.proofs.Common.{◌≡◌, ◌*◌, ◌≤◌}
use Rattle.surf_auto.specs.Locals.{sum_below}
use Rattle.surf_sync.proofs.phase.place_count.Given as goal

abbrev pub invariant-loop-before : goal.invariant-loop-before
invariant-loop-before g l = record {
  count : l.count ≡ sum_below ((g.L.Local.rule l.local).accs l.phase) l.before;
  few : l.count ≤ 2048 * l.before;
}
