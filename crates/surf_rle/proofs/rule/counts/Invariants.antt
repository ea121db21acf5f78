use Rattle.std.proofs.Common.{◌≡◌, take}
use Rattle.surf_rle.specs.RuleTexts.{counts_of}
use Rattle.surf_rle.proofs.rule.counts.Given as goal

abbrev pub invariant-loop-digit : goal.invariant-loop-digit
invariant-loop-digit l = l.table ≡ counts_of 9 (take l.digit-index l.digits)
