use Rattle.std.proofs.Common.{◌≡◌, length, drop}
use Rattle.surf_flatten.specs.Tables.{place_in}
use Rattle.surf_flatten.specs.Groups.{sources_with}
use Rattle.surf_flatten.proofs.groups.add_sources.Given as goal

abbrev pub invariant-loop-item : goal.invariant-loop-item
invariant-loop-item l = record {
  all : sources_with (place_in l.library) l.sources l.place (drop l.item-index l.items) ≡ sources_with (place_in l.library) l.initial.sources l.place l.items;
  same : length l.sources ≡ length l.initial.sources;
}
