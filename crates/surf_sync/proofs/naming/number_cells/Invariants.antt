use Rattle.std.proofs.Common.{◌≡◌, ◌+◌, length, map}
use Rattle.surf_sync.specs.Listing.{Keeps, Numbers}
use Rattle.surf_sync.specs.Moved.{all_texts}
use Rattle.surf_sync.specs.Rules.{below}
use Rattle.surf_sync.proofs.naming.number_cells.Given as goal

abbrev pub invariant-loop-generation : goal.invariant-loop-generation
invariant-loop-generation g l = record {
  numbers : Numbers l.initial.names l.initial.numbers.items (all_texts (g.L.Local.rule l.local) l.generation) l.names l.numbers.items;
  starts : l.starts.items ≡ map (λ j. length l.initial.numbers.items + length (all_texts (g.L.Local.rule l.local) j)) (below l.generation);
  count : length l.numbers.items ≡ length l.initial.numbers.items + length (all_texts (g.L.Local.rule l.local) l.generation);
  keeps : Keeps l.initial.names l.names;
}
