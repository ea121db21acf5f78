use Rattle.std.proofs.Common.{◌≡◌, map, take}
use Rattle.surf_tally.specs.Showings.{shown_of}
use Rattle.surf_tally.proofs.shown.list_shown.Given as goal

abbrev pub invariant-loop-id : goal.invariant-loop-id
invariant-loop-id l = l.shown.items ≡ map shown_of (take l.id l.names)
