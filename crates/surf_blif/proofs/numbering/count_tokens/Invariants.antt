use Rattle.std.proofs.Common.{◌≡◌, ◌≤◌, ◌+◌, length}
use Rattle.surf_text.specs.Bytes.{tokens_of}
use Rattle.surf_blif.proofs.numbering.count_tokens.Given as goal

abbrev pub invariant-loop-after : goal.invariant-loop-after
invariant-loop-after l = record {
  counted : l.count + length (tokens_of l.rest) ≡ length (tokens_of l.line);
  within : l.count + length l.rest ≤ length l.line;
}

abbrev pub decreases-loop-after : goal.decreases-loop-after
decreases-loop-after l = length l.rest
