use Rattle.std.proofs.Common.{arith, ◌≡◌, ◌<◌, ◌≤◌, ℕ, sym, ap, ◌∙◌, subst, add-one}
use Rattle.surf_auto.specs.Locals.{gathered}
use Rattle.surf_auto.specs.Sync.{universe, seen, state_at}
use Rattle.surf_auto.proofs.Cells.{seen_within, gathered_within}
use Rattle.surf_auto.proofs.phase.gather.Goals as goal

pub add-acc-requires-clause-acc : goal.add-acc-requires-clause-acc
add-acc-requires-clause-acc g c =
    let R = g.L.Local.rule c.args.local.now in
    let f : ℕ = c.args.phase in
    let d : ℕ = c.loop-direction.direction in
    let U = universe (g.G.Lattice.grid c.args.grid.now) R c.args.edge c.args.cells.now in
    let t = c.loop-direction-test.true in
    let n = c.degree-direction-end.ensures.number in
    let le : d ≤ R.degree = omega arith in
    subst (λ a. a < R.accs f d) (sym c.loop-direction.invariant)
    (gathered_within R c.degree-direction-end.ensures.law f c.requires.stands.in_phase (seen U (state_at U) c.args.site) (seen_within U f c.requires.stands c.args.site c.requires.inside) d le)

pub add-acc-requires-clause-state : goal.add-acc-requires-clause-state
add-acc-requires-clause-state g c =
    let R = g.L.Local.rule c.args.local.now in
    let U = universe (g.G.Lattice.grid c.args.grid.now) R c.args.edge c.args.cells.now in
    subst (λ a. a < R.states c.args.phase) (sym c.state_seen-state.ensures) (seen_within U c.args.phase c.requires.stands c.args.site c.requires.inside c.loop-direction.direction)

pub loop-direction-preserved : goal.loop-direction-preserved
loop-direction-preserved g c =
    let R = g.L.Local.rule c.args.local.now in
    let f : ℕ = c.args.phase in
    let d : ℕ = c.loop-direction.direction in
    let U = universe (g.G.Lattice.grid c.args.grid.now) R c.args.edge c.args.cells.now in
    let see = seen U (state_at U) c.args.site in
    c.add-acc.ensures
    ∙ ap (λ a. R.add f a d c.state_seen-state.result) c.loop-direction.invariant
    ∙ ap (R.add f (gathered R f see d) d) c.state_seen-state.ensures
    ∙ ap (gathered R f see) (sym (add-one d))

pub returns-clause-within : goal.returns-clause-within
returns-clause-within g c =
    let R = g.L.Local.rule c.args.local.now in
    let f : ℕ = c.args.phase in
    let d : ℕ = c.loop-direction.direction in
    let U = universe (g.G.Lattice.grid c.args.grid.now) R c.args.edge c.args.cells.now in
    let t = c.loop-direction-test.false in
    let a = c.loop-direction.auto.direction-end in
    let n = c.degree-direction-end.ensures.number in
    let le : d ≤ R.degree = omega arith in
    let e : d ≡ R.degree = omega arith in
    subst (λ m. c.loop-direction.acc < R.accs f m) e
    (subst (λ v. v < R.accs f d) (sym c.loop-direction.invariant)
    (gathered_within R c.degree-direction-end.ensures.law f c.requires.stands.in_phase (seen U (state_at U) c.args.site) (seen_within U f c.requires.stands c.args.site c.requires.inside) d le))
