use Rattle.std.proofs.Common.{◌≡◌, ◌+◌, ap, subst, ◌∙◌, sym}
use Rattle.std.proofs.lemmas.Bool.{false≢true}
use Rattle.std.proofs.lemmas.List.{take_all}
use Rattle.surf_world.specs.Systems.{IsRun}
use Rattle.surf_trace.specs.declared.verdict.Verdict.TheVariants.{NotEnabled}
use Rattle.surf_trace.specs.Replays.{FirstBad}
use Rattle.surf_trace.proofs.Runs.{read_at, run_on, left_on, bad_here, run_not_bad, one_bad}
use Rattle.surf_trace.proofs.verdict.replay.Goals as goal

module _ (g : _) (c : goal.Then-not-is_enabled g) where
  bad : FirstBad c.args.world.now.surface c.args.world.now.names c.args.events.now (c.loop-i.i + 1)
  bad = bad_here c.args.world.now c.loop-i.world c.args.events.now c.loop-i.i _ (read_at c.args.events.now c.loop-i.i _ c.loop-i-test.true) c.loop-i.invariant.run c.loop-i.invariant.left (λ enabled. false≢true (sym c.if-not-is_enabled.true ∙ c.is_enabled.ensures.1 enabled))

pub returns-then-not-is_enabled-clause-valid : goal.returns-then-not-is_enabled-clause-valid
returns-then-not-is_enabled-clause-valid g c = (λ e. cc, λ run. absurd (run_not_bad _ _ _ _ run (bad g c)))

pub returns-then-not-is_enabled-clause-not_enabled : goal.returns-then-not-is_enabled-clause-not_enabled
returns-then-not-is_enabled-clause-not_enabled g c k = (
  λ e. let same : c.loop-i.i + 1 ≡ k = cc in subst (FirstBad c.args.world.now.surface c.args.world.now.names c.args.events.now) same (bad g c),
  λ other. ap NotEnabled (one_bad _ _ _ _ _ (bad g c) other),
)

pub loop-i-preserved : goal.loop-i-preserved
loop-i-preserved g c =
    let at = read_at c.args.events.now c.loop-i.i _ c.loop-i-test.true in
    record {
      run = run_on c.args.world.now c.loop-i.world c.args.events.now c.loop-i.i _ at c.loop-i.invariant.run c.loop-i.invariant.left (c.is_enabled.ensures.0 c.if-not-is_enabled.false);
      left = left_on c.args.world.now c.loop-i.world c.args.events.now c.loop-i.i _ at c.loop-i.invariant.run c.loop-i.invariant.left _ c.apply.ensures;
    }

pub returns-clause-not_enabled : goal.returns-clause-not_enabled
returns-clause-not_enabled g c k = (λ e. cc, λ bad. absurd (run_not_bad _ _ _ k (subst (IsRun c.args.world.now.surface c.args.world.now.names) (take_all c.loop-i.i c.args.events.now c.loop-i-test.false) c.loop-i.invariant.run) bad))
