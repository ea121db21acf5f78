use Rattle.std.proofs.Common.{◌≡◌, ◌+◌, ℕ, List, arith, sym, subst}
use Rattle.std.specs.List.{flat_map}
use Rattle.surf_world.specs.Systems.{Rule}
use Rattle.surf_sync.specs.Codes.{Mark, protocol}
use Rattle.surf_sync.specs.Listing.{Adds}
use Rattle.surf_sync.specs.Rules.{below, readers_of, rules_of}
use Rattle.surf_sync.proofs.Loops.{flat_one_more}
use Rattle.surf_sync.proofs.Rows.{phase_is}
use Rattle.surf_sync.proofs.Said.{adds_more}
use Rattle.surf_sync.proofs.rules.push_phases.Goals as goal

pub loop-phase-preserved : goal.loop-phase-preserved
loop-phase-preserved g c = λ texts names.
    let P = protocol (g.L.Local.rule c.args.local.now) c.args.edge c.args.last in
    let k : ℕ = c.loop-phase.phase in
    let of : ℕ → List (Rule Mark) = λ f. flat_map (rules_of P f) (readers_of P f) in
    adds_more texts c.args.out.now.items (flat_map of (below k)) (of k) (flat_map of (below (k + 1))) c.loop-phase.out.items c.push_phase.new.out.items
    (c.loop-phase.invariant texts names)
    (subst (λ ws. Adds texts c.loop-phase.out.items ws c.push_phase.new.out.items) (sym (phase_is P k)) (c.in_ok-push_phase.ensures texts names))
    (flat_one_more of k)

pub returns : goal.returns
returns g c = λ texts names.
    let R = g.L.Local.rule c.args.local.now in
    let P = protocol R c.args.edge c.args.last in
    let t = c.loop-phase-test.false in
    let a = c.loop-phase.auto.phase-end in
    let n = c.phases-phase-end.ensures in
    let last : c.loop-phase.phase ≡ R.phases = omega arith in
    subst (λ k. Adds texts c.args.out.now.items (flat_map (λ f. flat_map (rules_of P f) (readers_of P f)) (below k)) c.loop-phase.out.items) last (c.loop-phase.invariant texts names)
