use Rattle.std.proofs.Common.{◌≡◌, length}
use Rattle.surf_text.specs.Bytes.{tokens_of}
use Rattle.surf_table.specs.TableLines.{numbers}
use Rattle.surf_table.specs.Readings.{onto}
use Rattle.surf_table.proofs.words.add_numbers.Given as goal

abbrev pub invariant-loop-word : goal.invariant-loop-word
invariant-loop-word l = record {
  read : onto l.fn.kept.items (numbers l.count l.limit (tokens_of l.rest)) ≡ onto l.kept.items (numbers l.left l.limit (tokens_of l.words));
}

abbrev pub decreases-loop-word : goal.decreases-loop-word
decreases-loop-word l = length l.words
