use Rattle.std.proofs.Common.{◌≡◌, length, drop}
use Rattle.surf_flatten.specs.Tables.{place_in}
use Rattle.surf_flatten.specs.Groups.{all_sources}
use Rattle.surf_flatten.proofs.groups.add_all.Given as goal

abbrev pub invariant-loop-place : goal.invariant-loop-place
invariant-loop-place l = record {
  all : all_sources (place_in l.library) l.models l.sources (drop l.place-index l.done) ≡ all_sources (place_in l.library) l.models l.initial.sources l.done;
  same : length l.sources ≡ length l.initial.sources;
}
