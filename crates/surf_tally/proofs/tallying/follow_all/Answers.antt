use Rattle.std.proofs.Common.{rules, ◌≡◌, ◌<◌, ◌≤◌, ◌∙◌, sym, arith}
use Rattle.surf_tally.proofs.Going.{begun, counted, stopped, went_on}
use Rattle.surf_tally.proofs.Moved.{counted_there, moved_on, stopped_there, unmoved}
use Rattle.surf_tally.proofs.tallying.follow_all.Goals as goal

pub loop-n-init : goal.loop-n-init
loop-n-init g c = record {
  going = begun c.args.shown.now c.args.watched c.args.count c.args.sim.now c.args.counts.now c.requires.below c.requires.sites c.requires.none c.requires.right;
  moved = unmoved c.args.sim.now c.args.count;
}

pub loop-n-preserved : goal.loop-n-preserved
loop-n-preserved g c =
    let lt : c.loop-n.n < c.args.count = search rules in
    record {
      going = went_on c.args.shown.now c.args.watched c.args.count c.loop-n.n c.args.sim.now c.loop-n.sim c.args.counts.now c.loop-n.counts c.loop-n.invariant.going c.follow.new.sim c.in-Some._event c.in-Some.ensures.step c.follow.new.counts lt c.in-Some.ensures.noted c.follow.ensures.below c.follow.ensures.sites;
      moved = moved_on c.args.sim.now c.args.count c.loop-n.n c.loop-n.sim c.loop-n.invariant.moved lt c.follow.new.sim c.in-Some._event c.in-Some.ensures.step c.follow.ensures.counted c.follow.ensures.few;
    }

pub returns-in-None-clause-events : goal.returns-in-None-clause-events
returns-in-None-clause-events g c =
    let lt : c.loop-n.n < c.args.count = search rules in
    c.from.ensures ∙ (stopped c.args.shown.now c.args.watched c.args.count c.loop-n.n c.args.sim.now c.loop-n.sim c.args.counts.now c.loop-n.counts c.loop-n.invariant.going lt c.in-None.ensures.step.0 c.follow.new.counts c.in-None.ensures.none).0

pub returns-in-None-clause-ended : goal.returns-in-None-clause-ended
returns-in-None-clause-ended g c =
    let lt : c.loop-n.n < c.args.count = search rules in
    (stopped c.args.shown.now c.args.watched c.args.count c.loop-n.n c.args.sim.now c.loop-n.sim c.args.counts.now c.loop-n.counts c.loop-n.invariant.going lt c.in-None.ensures.step.0 c.follow.new.counts c.in-None.ensures.none).1

pub returns-clause-ended : goal.returns-clause-ended
returns-clause-ended g c =
    let ge : c.args.count ≤ c.loop-n.n = search rules in
    (counted c.args.shown.now c.args.watched c.args.count c.loop-n.n c.args.sim.now c.loop-n.sim c.args.counts.now c.loop-n.counts c.loop-n.invariant.going ge).1

pub returns-in-None-clause-after : goal.returns-in-None-clause-after
returns-in-None-clause-after g c =
    let lt : c.loop-n.n < c.args.count = search rules in
    stopped_there c.args.sim.now c.args.count c.loop-n.n c.loop-n.sim c.loop-n.invariant.moved lt c.follow.new.sim c.in-None.ensures.step
    (stopped c.args.shown.now c.args.watched c.args.count c.loop-n.n c.args.sim.now c.loop-n.sim c.args.counts.now c.loop-n.counts c.loop-n.invariant.going lt c.in-None.ensures.step.0 c.follow.new.counts c.in-None.ensures.none).0

pub returns-clause-after : goal.returns-clause-after
returns-clause-after g c =
    let ge : c.args.count ≤ c.loop-n.n = search rules in
    let within = c.loop-n.invariant.going.within in
    let all : c.args.count ≡ c.loop-n.n = omega (arith, ge, within) in
    counted_there c.args.sim.now c.args.count c.loop-n.n c.loop-n.sim c.loop-n.invariant.moved ge
    (sym all ∙ (counted c.args.shown.now c.args.watched c.args.count c.loop-n.n c.args.sim.now c.loop-n.sim c.args.counts.now c.loop-n.counts c.loop-n.invariant.going ge).0)
