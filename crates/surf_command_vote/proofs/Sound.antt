-- A vote has a text, and nothing of it is refused.
use Rattle.std.proofs.Common.{ℕ}
use Rattle.surf_status.specs.Calls.{IsExclusive}
use Rattle.surf_command_vote.specs.Calls.{vote_call}

pub vote_exclusive : (n : ℕ) → IsExclusive (vote_call n)
vote_exclusive n = record { refused = λ r is has. is; bad = λ k is has. is }
