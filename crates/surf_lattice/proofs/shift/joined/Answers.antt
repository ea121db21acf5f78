use Rattle.std.proofs.Common.{ap}
use Rattle.surf_lattice.specs.Shifts.{shift_of}
use Rattle.surf_lattice.proofs.Moves.{moved_round}
use Rattle.surf_lattice.proofs.shift.joined.Goals as goal

pub returns-in-Back : goal.returns-in-Back
returns-in-Back c = moved_round c.args.side c.args.x (shift_of c.args.shift) c.requires c.if-x-eq0.true (ap shift_of c.in-Back.is)
