use Rattle.std.proofs.Common.{◌≡◌, ℕ, List, length, map}
use Rattle.surf_sync.specs.Codes.{protocol, read}
use Rattle.surf_sync.specs.Codes.Mark.{Cell}
use Rattle.surf_sync.specs.Listing.{Name}
use Rattle.surf_sync.specs.Phases.{NamesAll}
use Rattle.surf_sync.specs.Rules.{below}
use Rattle.surf_sync.specs.Spelling.{spell}
use Rattle.surf_sync.proofs.phase.number_afters.Given as goal

abbrev pub invariant-loop-state : goal.invariant-loop-state
invariant-loop-state g l = record {
  count : length l.afters.items ≡ l.state;
  named : (texts : List (List ℕ)) → NamesAll (protocol (g.L.Local.rule l.stage.local.now) l.stage.edge l.stage.last) texts l.stage.table.now →
      Name texts l.afters.items (map (λ s. spell (Cell (read (protocol (g.L.Local.rule l.stage.local.now) l.stage.edge l.stage.last) l.reader s))) (below l.state));
}
