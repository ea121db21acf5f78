use Rattle.std.proofs.Common.{◌≡◌}
use Rattle.surf_auto.specs.Locals.{gathered}
use Rattle.surf_auto.specs.Sync.{universe, seen, state_at}
use Rattle.surf_auto.proofs.phase.gather.Given as goal

abbrev pub invariant-loop-direction : goal.invariant-loop-direction
invariant-loop-direction g l =
    let U = universe (g.G.Lattice.grid l.grid) (g.L.Local.rule l.local) l.edge l.cells in
    l.acc ≡ gathered (g.L.Local.rule l.local) l.phase (seen U (state_at U) l.site) l.direction
