use Rattle.std.proofs.Common.{◌≡◌, ◌+◌, ℕ, suc, arith, subst}
use Rattle.std.specs.List.{flat_map}
use Rattle.surf_sync.specs.Codes.{protocol}
use Rattle.surf_sync.specs.Listing.{Adds}
use Rattle.surf_sync.specs.Phases.{row_rules}
use Rattle.surf_sync.specs.Rules.{below}
use Rattle.surf_sync.proofs.Loops.{flat_one_more}
use Rattle.surf_sync.proofs.Said.{adds_more, adds_none}
use Rattle.surf_sync.proofs.phase.push_colours.Goals as goal

pub loop-colour-init : goal.loop-colour-init
loop-colour-init g c = λ texts names. adds_none texts c.args.out.now.items

pub loop-colour-preserved : goal.loop-colour-preserved
loop-colour-preserved g c = λ texts names.
    let P = protocol (g.L.Local.rule c.args.stage.now.local.now) c.args.stage.now.edge c.args.stage.now.last in
    let f = c.args.stage.now.number in
    let k : ℕ = c.loop-colour.colour in
    let of = row_rules P f c.args.row.now c.args.generation in
    adds_more texts c.args.out.now.items (flat_map of (below k)) (of k) (flat_map of (below (k + 1))) c.loop-colour.out.items c.push_row.new.out.items
    (c.loop-colour.invariant texts names) (c.in_ok-push_row.ensures texts names) (flat_one_more of k)

pub returns : goal.returns
returns g c = λ texts names.
    let R = g.L.Local.rule c.args.stage.now.local.now in
    let P = protocol R c.args.stage.now.edge c.args.stage.now.last in
    let f = c.args.stage.now.number in
    let t = c.loop-colour-test.false in
    let a = c.loop-colour.auto.colour-end in
    let n = c.degree-colour-end.ensures.number in
    let last : c.loop-colour.colour ≡ suc R.degree = omega arith in
    subst (λ k. Adds texts c.args.out.now.items (flat_map (row_rules P f c.args.row.now c.args.generation) (below k)) c.loop-colour.out.items) last (c.loop-colour.invariant texts names)
