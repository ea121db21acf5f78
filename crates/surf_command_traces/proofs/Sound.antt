-- A recorded run that is refused, or that has an event that is not enabled, has no text.
use Rattle.std.proofs.Common.{ℕ, List, Result, Ok, Err, subst}
use Rattle.surf_world.specs.declared.event.Event.{Event}
use Rattle.surf_manifest.specs.Grammar.{ManifestText}
use Rattle.surf_trace.proofs.Runs.{run_not_bad}
use Rattle.surf_status.specs.declared.status.Refusal.{Refusal}
use Rattle.surf_status.specs.Calls.{IsExclusive}
use Rattle.surf_command_traces.specs.Calls.{replay_call, outputs_call, observe_call}
use Rattle.surf_command_traces.specs.Finals.{Recorded, recorded, IsEnded, EndsBad}
use Rattle.surf_command_traces.specs.Observed.{IsObserved, IsObserveRefused, ObservesBad}
use Rattle.surf_command_traces.specs.Traced.{replay_input, IsBadAt, IsValid}

not_observed : (p : Result (ManifestText × List Event) Refusal) (r : Refusal) → IsObserveRefused p r → IsObserved p → ⊥
not_observed (Ok p) r is ok = is.0 ok.0
not_observed (Err e) r is ok = ok

valid_not_bad : (p : Result (ManifestText × List Event) Refusal) (k : ℕ) → IsBadAt p k → IsValid p → ⊥
valid_not_bad (Ok p) k bad run = run_not_bad (p.0).system.surface (p.0).system.start p.1 k run bad
valid_not_bad (Err r) k bad run = run

ended_not_bad : (p : Result Recorded Refusal) (k : ℕ) → EndsBad p k → IsEnded p → ⊥
ended_not_bad (Ok p) k bad run = run_not_bad p.manifest.system.surface p.manifest.system.start p.events k run bad
ended_not_bad (Err r) k bad run = run

observed_not_bad : (p : Result (ManifestText × List Event) Refusal) (k : ℕ) → ObservesBad p k → IsObserved p → ⊥
observed_not_bad (Ok p) k bad ok = run_not_bad (p.0).system.surface (p.0).system.start p.1 k ok.1 bad.1
observed_not_bad (Err r) k bad ok = ok

pub replay_exclusive : (input : List ℕ) → IsExclusive (replay_call input)
replay_exclusive input = record {
  refused = λ r is ok. subst (λ (p : Result (ManifestText × List Event) Refusal). IsValid p) is ok;
  bad = valid_not_bad (replay_input input);
}

pub outputs_exclusive : (input : List ℕ) → IsExclusive (outputs_call input)
outputs_exclusive input = record {
  refused = λ r is ok. subst (λ (p : Result Recorded Refusal). IsEnded p) is ok;
  bad = ended_not_bad (recorded input);
}

pub observe_exclusive : (k : ℕ) (input : List ℕ) → IsExclusive (observe_call k input)
observe_exclusive k input =
    record { refused = not_observed (replay_input input); bad = observed_not_bad (replay_input input) }
