use Rattle.std.proofs.Common.{ℕ, rules, arith, ◌≡◌, ◌-◌, ◌+◌, ◌∙◌, ap, suc}
use Rattle.rand_pcg.specs.Pcg.{pcg64}
use Rattle.rand_core.specs.Steps.{stream_of, steps_u64_low}
use Rattle.surf_pick.specs.Draws.{tried}
use Rattle.surf_pick.proofs.DrawLemmas.{counted, passed, last, drawn}
use Rattle.surf_pick.proofs.draw.Draw.below.Goals as goal

pub returns-then-counts-clause-draw : goal.returns-then-counts-clause-draw
returns-then-counts-clause-draw c =
    let view = stream_of (steps_u64_low pcg64) in
    let more : 15 - c.loop-turn.turn ≡ suc (15 - (c.loop-turn.turn + 1)) = omega arith in
    ap (λ (r : ℕ). (r, view c.wide-word.new.self)) c.remainder.ensures
    ∙ drawn c.args.total (15 - c.loop-turn.turn) (view c.args.self.now) (view c.loop-turn.self) (view c.wide-word.new.self) c.wide-word.result c.loop-turn.invariant
    (ap (λ k. tried c.args.total k (view c.loop-turn.self)) more ∙ counted c.args.total (15 - (c.loop-turn.turn + 1)) (view c.loop-turn.self) (view c.wide-word.new.self) c.wide-word.result c.wide-word.ensures (search rules))

pub loop-turn-preserved : goal.loop-turn-preserved
loop-turn-preserved c =
    let view = stream_of (steps_u64_low pcg64) in
    let more : 15 - c.loop-turn.turn ≡ suc (15 - (c.loop-turn.turn + 1)) = omega arith in
    c.loop-turn.invariant ∙ ap (λ k. tried c.args.total k (view c.loop-turn.self)) more
    ∙ passed c.args.total (15 - (c.loop-turn.turn + 1)) (view c.loop-turn.self) (view c.wide-word.new.self) c.wide-word.result c.wide-word.ensures (search rules)

pub returns-clause-draw : goal.returns-clause-draw
returns-clause-draw c =
    let view = stream_of (steps_u64_low pcg64) in
    let none : 15 - c.loop-turn.turn ≡ 0 = omega arith in
    ap (λ (r : ℕ). (r, view c.wide.new.self)) c.remainder-2.ensures
    ∙ drawn c.args.total (15 - c.loop-turn.turn) (view c.args.self.now) (view c.loop-turn.self) (view c.wide.new.self) c.wide.result c.loop-turn.invariant
    (ap (λ k. tried c.args.total k (view c.loop-turn.self)) none ∙ last c.args.total (view c.loop-turn.self) (view c.wide.new.self) c.wide.result c.wide.ensures)
