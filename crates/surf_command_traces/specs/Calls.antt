-- What `replay`, `outputs` and `observe` promise of an input.
use Rattle.std.specs.Prelude.{ℕ, ◌≡◌, List, Err}
use Rattle.surf_status.specs.Calls.{Call}
use Rattle.surf_command_traces.specs.Traced.{replay_input, IsValid, IsValidText, IsBadAt}
use Rattle.surf_command_traces.specs.Finals.{recorded, IsEnded, IsEndedText, EndsBad}
use Rattle.surf_command_traces.specs.Observed.{IsObserved, IsObservedText, IsObserveRefused, ObservesBad}

-- `replay`
abbrev pub replay_call : List ℕ → Call
replay_call input = record {
  Is = IsValidText (replay_input input);
  Has = IsValid (replay_input input);
  Refuses = λ r. replay_input input ≡ Err r;
  Bad = IsBadAt (replay_input input);
  Shows = λ text. Unit {0};
}

-- `outputs`
abbrev pub outputs_call : List ℕ → Call
outputs_call input = record {
  Is = IsEndedText (recorded input);
  Has = IsEnded (recorded input);
  Refuses = λ r. recorded input ≡ Err r;
  Bad = EndsBad (recorded input);
  Shows = λ text. Unit {0};
}

-- `observe K`
abbrev pub observe_call : ℕ → List ℕ → Call
observe_call k input = record {
  Is = IsObservedText k (replay_input input);
  Has = IsObserved (replay_input input);
  Refuses = IsObserveRefused (replay_input input);
  Bad = ObservesBad (replay_input input);
  Shows = λ text. Unit {0};
}
