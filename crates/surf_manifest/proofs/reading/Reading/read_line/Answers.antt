use Rattle.std.proofs.Common.{arith, sym, ◌≡◌, ◌+◌}
use Rattle.surf_manifest.specs.Drafts.{held_by}
use Rattle.surf_manifest_lines.specs.Kinds.{line_of_kind}
use Rattle.surf_manifest.specs.Limits.{counted}
use Rattle.surf_manifest.specs.Readings.{reached_by}
use Rattle.surf_manifest.proofs.ReadingLemmas.{line_room, number_more}
use Rattle.surf_manifest.proofs.reading.Reading.read_line.Goals as goal

pub take-requires-clause-room : goal.take-requires-clause-room
take-requires-clause-room c =
    rw (sym c.kind_of.ensures) (line_room (held_by c.args.self.now.draft) c.args.line.now c.requires.room)

pub overflow_add-self : goal.overflow_add-self
overflow_add-self c =
    let e : c.take.new.self.number + 1 ≡ c.args.self.now.number + 1 = number_more (reached_by c.args.self.now) (counted (reached_by c.take.new.self)) (line_of_kind c.kind_of.result) c.in_ok-take.ensures.step in
    omega (arith, e, c.requires.number)
