use Rattle.std.proofs.Common.{◌≡◌, length, drop}
use Rattle.surf_flatten.specs.Groups.{numbered}
use Rattle.surf_flatten.proofs.groups.number_all.Given as goal

abbrev pub invariant-loop-place : goal.invariant-loop-place
invariant-loop-place l = record {
  all : numbered l.numbers l.number (drop l.place-index l.places) ≡ numbered l.initial.numbers l.number l.places;
  same : length l.numbers ≡ length l.initial.numbers;
}
