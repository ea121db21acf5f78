use Rattle.std.proofs.Common.{◌≡◌, ◌*◌, ◌^◌, ◌≤◌}
use Rattle.surf_auto.specs.Locals.{reader_count, sight_count, sum_below}
use Rattle.surf_sync.proofs.rules.count_rules.Given as goal

abbrev pub invariant-loop-phase : goal.invariant-loop-phase
invariant-loop-phase g l = record {
  count : l.count ≡ sum_below (λ f. reader_count l.turns (g.L.Local.rule l.local) f * sight_count (g.L.Local.rule l.local) f) l.phase;
  few : l.count ≤ l.phase * 2 ^ 102;
}
