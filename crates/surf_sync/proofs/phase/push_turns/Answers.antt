use Rattle.std.proofs.Common.{◌≡◌, ◌<◌, ◌+◌, ◌*◌, ℕ, List, arith, ap, sym, subst, ◌∙◌}
use Rattle.std.specs.List.{flat_map}
use Rattle.surf_world.specs.Systems.{Rule}
use Rattle.surf_sync.specs.Codes.{Mark, OpenBy, fields_by, protocol}
use Rattle.surf_sync.specs.Listing.{Adds}
use Rattle.surf_sync.specs.Phases.{colour_rules}
use Rattle.surf_sync.specs.Rules.{below, turns_by}
use Rattle.surf_sync.proofs.Listed.{turn_field, turn_opens}
use Rattle.surf_sync.proofs.Loops.{flat_one_more}
use Rattle.surf_sync.proofs.Said.{adds_more, adds_none}
use Rattle.surf_sync.proofs.phase.push_turns.Goals as goal

pub push_colours-requires-clause-listed : goal.push_colours-requires-clause-listed
push_colours-requires-clause-listed g c =
    let R = g.L.Local.rule c.args.stage.now.local.now in
    let last = c.args.stage.now.last in
    let t : ℕ = c.loop-turn.turn in
    let f : ℕ = c.args.stage.now.number in
    let test = c.loop-turn-test.true in
    let n : c.turn_count-turn-end.result ≡ turns_by last R.phases = c.turn_count-turn-end.ensures ∙ ap (turns_by last) c.phases-phases.ensures in
    let lt : t < turns_by last R.phases = omega arith in
    let opened = turn_opens last R.phases t f c.degree-degree.ensures.law.some_phase c.requires.stands.whole lt c.requires.stands.in_phase in
    subst (λ p. t * p + f < fields_by last R.phases) (sym c.phases-phases.ensures) (turn_field last R.phases t f lt c.requires.stands.in_phase opened)

pub push_colours-requires-clause-opened : goal.push_colours-requires-clause-opened
push_colours-requires-clause-opened g c =
    let R = g.L.Local.rule c.args.stage.now.local.now in
    let last = c.args.stage.now.last in
    let t : ℕ = c.loop-turn.turn in
    let f : ℕ = c.args.stage.now.number in
    let test = c.loop-turn-test.true in
    let n : c.turn_count-turn-end.result ≡ turns_by last R.phases = c.turn_count-turn-end.ensures ∙ ap (turns_by last) c.phases-phases.ensures in
    let lt : t < turns_by last R.phases = omega arith in
    subst (λ p. OpenBy last (t * p + f)) (sym c.phases-phases.ensures) (turn_opens last R.phases t f c.degree-degree.ensures.law.some_phase c.requires.stands.whole lt c.requires.stands.in_phase)

pub loop-turn-init : goal.loop-turn-init
loop-turn-init g c = λ texts names. adds_none texts c.args.out.now.items

pub loop-turn-preserved : goal.loop-turn-preserved
loop-turn-preserved g c = λ texts names.
    let R = g.L.Local.rule c.args.stage.now.local.now in
    let P = protocol R c.args.stage.now.edge c.args.stage.now.last in
    let f : ℕ = c.args.stage.now.number in
    let t : ℕ = c.loop-turn.turn in
    let of : ℕ → List (Rule Mark) = λ turn. colour_rules P f c.args.row.now (turn * R.phases + f) in
    let one : Adds texts c.loop-turn.out.items (of t) c.push_colours.new.out.items =
    subst (λ p. Adds texts c.loop-turn.out.items (colour_rules P f c.args.row.now (t * p + f)) c.push_colours.new.out.items) c.phases-phases.ensures (c.in_ok-push_colours.ensures texts names) in
    adds_more texts c.args.out.now.items (flat_map of (below t)) (of t) (flat_map of (below (t + 1))) c.loop-turn.out.items c.push_colours.new.out.items
    (c.loop-turn.invariant texts names) one (flat_one_more of t)
