use Rattle.std.proofs.Common.{◌≡◌, ◌+◌, length, take}
use Rattle.surf_sync.specs.Listing.{Keeps, Numbers}
use Rattle.surf_sync.specs.Moved.{block_texts}
use Rattle.surf_sync.proofs.naming.number_block.Given as goal

abbrev pub invariant-loop-code : goal.invariant-loop-code
invariant-loop-code l = record {
  numbers : Numbers l.initial.names l.initial.numbers.items (block_texts (take l.code-index l.codes) l.generation l.colour) l.names l.numbers.items;
  count : length l.numbers.items ≡ length l.initial.numbers.items + l.code-index;
  keeps : Keeps l.initial.names l.names;
}
