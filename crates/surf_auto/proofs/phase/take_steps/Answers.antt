use Rattle.std.proofs.Common.{◌≡◌, map, refl, ap, ◌∙◌, arith}
use Rattle.surf_lattice.specs.Grids.{sites}
use Rattle.surf_auto.specs.Sync.{universe, sync}
use Rattle.surf_auto.proofs.Phases.{no_step, is_universe, steps_add}
use Rattle.surf_auto.proofs.phase.take_steps.Goals as goal

pub loop-step-init : goal.loop-step-init
loop-step-init g c = record {
  cells = no_step (universe (g.G.Lattice.grid c.args.grid.now) (g.L.Local.rule c.args.local.now) c.args.edge c.args.cells.now.items) c.requires.stands 0 refl;
  room = c.requires.room;
}

pub take_step-requires-clause-stands : goal.take_step-requires-clause-stands
take_step-requires-clause-stands g c =
    is_universe (universe (g.G.Lattice.grid c.args.grid.now) (g.L.Local.rule c.args.local.now) c.args.edge c.args.cells.now.items) c.requires.stands c.loop-step._step c.loop-step.cells.items c.loop-step.invariant.cells

pub loop-step-preserved : goal.loop-step-preserved
loop-step-preserved g c = record {
  cells = steps_add (universe (g.G.Lattice.grid c.args.grid.now) (g.L.Local.rule c.args.local.now) c.args.edge c.args.cells.now.items) c.loop-step._step 1 c.loop-step.cells.items c.take_step.new.cells.items c.loop-step.invariant.cells c.take_step.ensures.cells;
  room = c.take_step.ensures.room;
}

pub returns-clause-cells : goal.returns-clause-cells
returns-clause-cells g c =
    let U = universe (g.G.Lattice.grid c.args.grid.now) (g.L.Local.rule c.args.local.now) c.args.edge c.args.cells.now.items in
    let t = c.loop-step-test.false in
    let a = c.loop-step.auto._step-end in
    let last : c.loop-step._step ≡ c.args.times = omega arith in
    c.loop-step.invariant.cells ∙ ap (λ k. map (sync U k) (sites U.grid)) last

pub returns-clause-stands : goal.returns-clause-stands
returns-clause-stands g c =
    is_universe (universe (g.G.Lattice.grid c.args.grid.now) (g.L.Local.rule c.args.local.now) c.args.edge c.args.cells.now.items) c.requires.stands c.loop-step._step c.loop-step.cells.items c.loop-step.invariant.cells
