use Rattle.std.proofs.Common.{◌≡◌, ◌≤◌, ◌<◌, ◌-◌, ◌++◌, length, map, All}
use Rattle.surf_text.specs.Bytes.{tokens_of}
use Rattle.surf_rules.specs.Names.{text_of}
use Rattle.surf_blif.specs.Drafts.{IsGrown}
use Rattle.surf_blif.proofs.numbering.numbers_of.Given as goal

abbrev pub invariant-loop-token : goal.invariant-loop-token
invariant-loop-token l = record {
  tokens : map (text_of l.names) l.numbers.items ++ tokens_of l.rest ≡ tokens_of l.line;
  below : All (λ k. k < length l.names) l.numbers.items;
  within : length l.rest ≤ length l.line;
  grown : IsGrown (length l.line - length l.rest) l.initial.names l.names;
}

abbrev pub decreases-loop-token : goal.decreases-loop-token
decreases-loop-token l = length l.rest
