use Rattle.std.proofs.Common.{◌≡◌, ◌*◌, ◌∙◌, ap, subst, sym, length}
use Rattle.std.proofs.lemmas.Bool.{false≢true}
use Rattle.std.proofs.lemmas.List.{take_all}
use Rattle.surf_world.specs.Systems.{IsRun}
use Rattle.surf_world.specs.Worlds.{Placed}
use Rattle.surf_trace.specs.Sights.{seen}
use Rattle.surf_trace.proofs.Runs.{read_at, run_on, left_on, bad_here}
use Rattle.surf_trace.proofs.Followed.{below_next, told_next, open_next, told_last}
use Rattle.surf_trace.proofs.observing.follow_all.Goals as goal

pub returns-then-not-is_enabled-clause-verdict : goal.returns-then-not-is_enabled-clause-verdict
returns-then-not-is_enabled-clause-verdict g c =
    bad_here c.args.world.now c.loop-i.world c.args.events.now c.loop-i.i _ (read_at c.args.events.now c.loop-i.i _ c.loop-i-test.true) c.loop-i.invariant.run c.loop-i.invariant.left (λ enabled. false≢true (sym c.if-not-is_enabled.true ∙ c.is_enabled.ensures.1 enabled))

pub loop-i-preserved : goal.loop-i-preserved
loop-i-preserved g c =
    let at = read_at c.args.events.now c.loop-i.i _ c.loop-i-test.true in
    let enabled = c.is_enabled.ensures.0 c.if-not-is_enabled.false in
    let long : length c.follow.new.kept ≡ length c.loop-i.kept = c.follow.auto.kept in
    record {
      run = run_on c.args.world.now c.loop-i.world c.args.events.now c.loop-i.i _ at c.loop-i.invariant.run c.loop-i.invariant.left enabled;
      left = left_on c.args.world.now c.loop-i.world c.args.events.now c.loop-i.i _ at c.loop-i.invariant.run c.loop-i.invariant.left _ c.follow.ensures.world;
      below = below_next c.args.sights.now c.loop-i.world _ enabled c.follow.new.world c.follow.ensures.world (length c.args.sights.now) c.loop-i.invariant.below;
      sites = long ∙ c.loop-i.invariant.sites ∙ sym (ap (λ (u : Placed). u.surface.grid.width * u.surface.grid.height) c.follow.ensures.world);
      unfinished = open_next c.loop-i.kept c.follow.new.kept (seen c.args.sights.now c.loop-i.world) (seen c.args.sights.now c.follow.new.world) c.follow.ensures.noted c.loop-i.invariant.unfinished;
      told = λ p. told_next c.args.sights.now c.loop-i.world _ enabled c.follow.new.world c.follow.ensures.world c.args.events.now c.loop-i.i at c.loop-i.kept c.follow.new.kept c.follow.ensures.noted p ∙ c.loop-i.invariant.told p;
    }

pub returns-clause-verdict : goal.returns-clause-verdict
returns-clause-verdict g c = subst (IsRun c.args.world.now.surface c.args.world.now.names) (take_all c.loop-i.i c.args.events.now c.loop-i-test.false) c.loop-i.invariant.run

pub returns-clause-told : goal.returns-clause-told
returns-clause-told g c = λ valid p. told_last c.args.sights.now c.loop-i.world c.args.events.now c.loop-i.i c.loop-i.kept c.loop-i-test.false c.loop-i.invariant.unfinished p ∙ c.loop-i.invariant.told p
