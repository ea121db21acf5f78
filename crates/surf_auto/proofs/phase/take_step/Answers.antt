use Rattle.std.proofs.Common.{◌≡◌, ℕ, ◌+◌, ◌<◌, length, map, sym, ap, ◌∙◌, add-one, arith}
use Rattle.std.proofs.lemmas.List.{with_items_is}
use Rattle.surf_lattice.specs.Grids.{sites}
use Rattle.surf_auto.specs.Sync.{universe, phase_sync}
use Rattle.surf_auto.proofs.Phases.{stands, no_phase, next_cells, step_done, sites_length}
use Rattle.surf_auto.proofs.phase.take_step.Goals as goal

pub loop-phase-init : goal.loop-phase-init
loop-phase-init g c = record {
  cells = no_phase (universe (g.G.Lattice.grid c.args.grid.now) (g.L.Local.rule c.args.local.now) c.args.edge c.args.cells.now.items) c.requires.stands.one_per_site;
  room = c.requires.room;
}

pub write_phase-requires-clause-stands : goal.write_phase-requires-clause-stands
write_phase-requires-clause-stands g c =
    let R = g.L.Local.rule c.args.local.now in
    let f : ℕ = c.loop-phase.phase in
    let t = c.loop-phase-test.true in
    let n = c.phases-phase-end.ensures in
    let below : f < R.phases = omega arith in
    stands (universe (g.G.Lattice.grid c.args.grid.now) R c.args.edge c.args.cells.now.items) c.requires.stands f below c.deref.result.now (c.deref.ensures.value ∙ c.loop-phase.invariant.cells)

pub loop-phase-preserved : goal.loop-phase-preserved
loop-phase-preserved g c =
    let G = g.G.Lattice.grid c.args.grid.now in
    let R = g.L.Local.rule c.args.local.now in
    let U = universe G R c.args.edge c.args.cells.now.items in
    let f : ℕ = c.loop-phase.phase in
    let t = c.loop-phase-test.true in
    let n = c.phases-phase-end.ensures in
    let below : f < R.phases = omega arith in
    let swapped : c.swap.new.x.items ≡ c.write_phase.new.next = ap (λ v. v.items) c.swap.ensures.x_after ∙ with_items_is c.loop-phase.spare c.write_phase.new.next (c.write_phase.auto.next ∙ c.deref_mut.ensures.len) in
    let kept : c.swap.new.y.items ≡ c.loop-phase.cells.items = ap (λ v. v.items) c.swap.ensures.y_after in
    let written : c.write_phase.new.next ≡ map (phase_sync U (f + 1)) (sites G) =
    next_cells U f below c.deref.result.now c.write_phase.new.next (c.deref.ensures.value ∙ c.loop-phase.invariant.cells) c.write_phase.ensures
    ∙ ap (λ k. map (phase_sync U k) (sites G)) (sym (add-one f)) in
    record {
      cells = swapped ∙ written;
      room = ap length kept ∙ ap length c.loop-phase.invariant.cells ∙ sites_length G (phase_sync U f) ∙ sym (sites_length G (phase_sync U (f + 1))) ∙ sym (ap length (swapped ∙ written));
    }

pub returns-clause-cells : goal.returns-clause-cells
returns-clause-cells g c =
    let R = g.L.Local.rule c.args.local.now in
    let t = c.loop-phase-test.false in
    let a = c.loop-phase.auto.phase-end in
    let n = c.phases-phase-end.ensures in
    let last : c.loop-phase.phase ≡ R.phases = omega arith in
    step_done (universe (g.G.Lattice.grid c.args.grid.now) R c.args.edge c.args.cells.now.items) c.loop-phase.phase c.loop-phase.cells.items last c.loop-phase.invariant.cells
