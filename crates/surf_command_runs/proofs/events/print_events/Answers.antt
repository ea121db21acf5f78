use Rattle.std.proofs.Common.{rules, arith, ◌<◌, ◌≤◌, ◌+◌, ap, sym, ◌∙◌, subst, IsErr}
use Rattle.surf_pick.specs.Draws.{words_of}
use Rattle.surf_world.specs.Worlds.{Placed}
use Rattle.surf_command_runs.specs.Prints.{SoFar}
use Rattle.surf_command_runs.proofs.Simulated.{begun, went_on, stopped, stopped_world, counted, counted_world, cut_short}
use Rattle.surf_command_runs.proofs.events.print_events.Goals as goal

pub returns-in-None-clause-emits : goal.returns-in-None-clause-emits
returns-in-None-clause-emits g c =
    let lt : c.loop-n.n < c.args.count = search rules in
    stopped c.args.sim.now.placed (words_of c.args.sim.now.generator) c.args.count c.loop-n.n c.loop-n.sim.placed (words_of c.loop-n.sim.generator) _ _ _ _ _ _ c.loop-n.invariant.later lt c.loop-n.invariant.so_far c.in-None.ensures.step.0

pub returns-in-None-clause-world : goal.returns-in-None-clause-world
returns-in-None-clause-world g c =
    let lt : c.loop-n.n < c.args.count = search rules in
    ap (λ v. v.placed) c.in-None.ensures.step.1
    ∙ stopped_world c.args.sim.now.placed (words_of c.args.sim.now.generator) c.args.count c.loop-n.n c.loop-n.sim.placed (words_of c.loop-n.sim.generator) _ _ _ _ lt c.loop-n.invariant.so_far c.in-None.ensures.step.0

pub returns-in_err-print_event-in-Some-clause-emits : goal.returns-in_err-print_event-in-Some-clause-emits
returns-in_err-print_event-in-Some-clause-emits g c =
    let lt : c.loop-n.n < c.args.count = search rules in
    let failed : IsErr c.print_event.result = search rules in
    cut_short c.args.sim.now.placed (words_of c.args.sim.now.generator) c.args.count c.loop-n.n c.loop-n.sim.placed (words_of c.loop-n.sim.generator) (words_of c.step.new.self.generator)
    _ _ _ _ _ _ _ _ _ c.in-Some.event c.print_event.result _ c.loop-n.invariant.later lt c.loop-n.invariant.so_far c.in-Some.ensures.step.0 failed c.from_residual.ensures.0 c.print_event.ensures

pub loop-n-preserved : goal.loop-n-preserved
loop-n-preserved g c =
    let lt : c.loop-n.n < c.args.count = search rules in
    record {
      so_far =
          subst (λ (v : Placed). SoFar c.args.sim.now.placed (words_of c.args.sim.now.generator) c.args.count (c.loop-n.n + 1) v (words_of c.step.new.self.generator) (g.K.Sink.written c.args.out.now) (g.K.Sink.written c.print_event.new.out) c.args.outbox.now c.print_event.new.outbox)
          (sym c.in-Some.ensures.step.1)
          (went_on c.args.sim.now.placed (words_of c.args.sim.now.generator) c.args.count c.loop-n.n c.loop-n.sim.placed (words_of c.loop-n.sim.generator) (words_of c.step.new.self.generator)
          _ _ _ _ _ _ c.in-Some.event lt c.loop-n.invariant.so_far c.in-Some.ensures.step.0 c.in_ok-print_event-in-Some.ensures.whole);
      later = omega (arith, c.loop-n.invariant.later, c.print_event.ensures.later);
    }

pub loop-n-init : goal.loop-n-init
loop-n-init g c = record { so_far = begun c.args.sim.now.placed (words_of c.args.sim.now.generator) c.args.count _ _; later = search rules }

pub returns-clause-emits : goal.returns-clause-emits
returns-clause-emits g c =
    let ge : c.args.count ≤ c.loop-n.n = search rules in
    counted c.args.sim.now.placed (words_of c.args.sim.now.generator) c.args.count c.loop-n.n c.loop-n.sim.placed (words_of c.loop-n.sim.generator) _ _ _ _ _ _ c.loop-n.invariant.later ge c.loop-n.invariant.so_far

pub returns-clause-world : goal.returns-clause-world
returns-clause-world g c =
    let ge : c.args.count ≤ c.loop-n.n = search rules in
    counted_world c.args.sim.now.placed (words_of c.args.sim.now.generator) c.args.count c.loop-n.n c.loop-n.sim.placed (words_of c.loop-n.sim.generator) _ _ _ _ ge c.loop-n.invariant.so_far
