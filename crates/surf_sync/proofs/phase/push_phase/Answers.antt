use Rattle.std.proofs.Common.{◌≡◌, ◌<◌, ◌+◌, ℕ, List, arith, rules, sym, subst}
use Rattle.std.specs.List.{flat_map}
use Rattle.surf_world.specs.Systems.{Rule}
use Rattle.surf_sync.specs.Codes.{Mark, protocol}
use Rattle.surf_sync.specs.Listing.{Adds}
use Rattle.surf_sync.specs.Phases.{AreListed, turn_rules}
use Rattle.surf_sync.specs.Rules.{below}
use Rattle.surf_sync.specs.Shapes.{by_previous}
use Rattle.surf_sync.proofs.Loops.{flat_one_more}
use Rattle.surf_sync.proofs.Rows.{row_listed}
use Rattle.surf_sync.proofs.Said.{adds_more, adds_none}
use Rattle.surf_sync.proofs.phase.push_phase.Goals as goal

pub push_turns-requires-clause-row : goal.push_turns-requires-clause-row
push_turns-requires-clause-row g c =
    let R = g.L.Local.rule c.args.stage.now.local.now in
    let P = protocol R c.args.stage.now.edge c.args.stage.now.last in
    let f : ℕ = c.args.stage.now.number in
    let k : ℕ = c.loop-current.current in
    let test = c.loop-current-test.true in
    let n = c.states-current-end.ensures in
    let lt : k < R.states f = omega arith in
    let is : c.deref.result.now ≡ by_previous R f k = search rules in
    subst (AreListed P f) (sym is) (row_listed P f k lt)

pub loop-current-init : goal.loop-current-init
loop-current-init g c = λ texts names. adds_none texts c.args.out.now.items

pub loop-current-preserved : goal.loop-current-preserved
loop-current-preserved g c = λ texts names.
    let R = g.L.Local.rule c.args.stage.now.local.now in
    let P = protocol R c.args.stage.now.edge c.args.stage.now.last in
    let f : ℕ = c.args.stage.now.number in
    let k : ℕ = c.loop-current.current in
    let of : ℕ → List (Rule Mark) = λ current. turn_rules P f (by_previous R f current) in
    let is : c.deref.result.now ≡ by_previous R f k = search rules in
    adds_more texts c.args.out.now.items (flat_map of (below k)) (of k) (flat_map of (below (k + 1))) c.loop-current.out.items c.push_turns.new.out.items
    (c.loop-current.invariant texts names) (subst (λ row. Adds texts c.loop-current.out.items (turn_rules P f row) c.push_turns.new.out.items) is (c.in_ok-push_turns.ensures texts names)) (flat_one_more of k)

pub returns : goal.returns
returns g c = λ texts names.
    let R = g.L.Local.rule c.args.stage.now.local.now in
    let P = protocol R c.args.stage.now.edge c.args.stage.now.last in
    let f : ℕ = c.args.stage.now.number in
    let t = c.loop-current-test.false in
    let a = c.loop-current.auto.current-end in
    let n = c.states-current-end.ensures in
    let last : c.loop-current.current ≡ R.states f = omega arith in
    subst (λ k. Adds texts c.args.out.now.items (flat_map (λ current. turn_rules P f (by_previous R f current)) (below k)) c.loop-current.out.items) last (c.loop-current.invariant texts names)
