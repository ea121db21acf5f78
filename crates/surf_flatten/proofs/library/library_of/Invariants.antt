use Rattle.std.proofs.Common.{◌≡◌, ℕ, List, [], length, drop}
use Rattle.surf_logic.specs.Order.{or_else}
use Rattle.surf_flatten.specs.Reaching.{place_from, place_of}
use Rattle.surf_flatten.specs.Faults.{model_twice}
use Rattle.surf_flatten.specs.Tables.{found_in}
use Rattle.surf_flatten.proofs.library.library_of.Given as goal

abbrev pub invariant-loop-place : goal.invariant-loop-place
invariant-loop-place l = record {
  found : (t : List ℕ) → or_else (found_in l.library.names l.library.places.items t) (place_from l.place (drop l.place l.models) t) ≡ place_of l.models t;
  twice : model_twice l.library.names (drop l.place l.models) ≡ model_twice [] l.models;
  paired : length l.library.names ≡ length l.library.places.items;
}
