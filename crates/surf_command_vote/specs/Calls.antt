-- What `demo vote` promises.
use Rattle.std.specs.Prelude.{ℕ}
use Rattle.surf_status.specs.Calls.{Call}
use Rattle.surf_command_vote.specs.Shown.{IsVoteShown}

-- `demo vote N`, which reads no input
abbrev pub vote_call : ℕ → Call
vote_call n = record {
  Is = IsVoteShown n;
  Has = Unit {0};
  Refuses = λ r. ⊥;
  Bad = λ k. ⊥;
  Shows = λ text. Unit {0};
}
