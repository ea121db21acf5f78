-- What is known of the universe of a vote.
use Rattle.std.proofs.Common.{ℕ, ◌≡◌, ◌*◌, Ok, ap, ◌∙◌}
use Rattle.surf_auto.specs.Sync.{Universe}
use Rattle.surf_rle.specs.Rle.{rle_of}
use Rattle.surf_rle.specs.Sources.{Plain}
use Rattle.surf_tally.specs.declared.summary.Tally.{Tally}
use Rattle.surf_demo.specs.Votes.{vote_text}
use Rattle.surf_command_vote.specs.Shown.{IsVoteShown, tally_lines, vote_tally}

pub told : (n count : ℕ) (U : Universe) (t : Tally) → rle_of 0 (vote_text n) ≡ Ok (Plain U) → count ≡ 8 * n * n * n → t ≡ vote_tally U count → IsVoteShown n (tally_lines t)
told n count U t spelled many is = record { universe = U; spelled = spelled; is = ap tally_lines is ∙ ap (λ m. tally_lines (vote_tally U m)) many }
