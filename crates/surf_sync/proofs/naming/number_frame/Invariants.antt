use Rattle.std.proofs.Common.{◌≡◌, ◌+◌, length}
use Rattle.surf_sync.specs.Listing.{Keeps, Numbers}
use Rattle.surf_sync.specs.Moved.{frame_texts}
use Rattle.surf_sync.proofs.naming.number_frame.Given as goal

abbrev pub invariant-loop-colour : goal.invariant-loop-colour
invariant-loop-colour l = record {
  numbers : Numbers l.initial.names l.initial.numbers.items (frame_texts l.colour) l.names l.numbers.items;
  count : length l.numbers.items ≡ length l.initial.numbers.items + l.colour;
  keeps : Keeps l.initial.names l.names;
}
