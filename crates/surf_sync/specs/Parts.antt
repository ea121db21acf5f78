-- What the reader of names holds.
use Rattle.std.specs.Option.{option_map}
use Rattle.surf_sync.specs.declared.code.Part.{Part}
use Rattle.surf_sync.specs.Spelling as spelling

abbrev pub part_by : Part → spelling.Part
part_by p = record { number = p.number; rest = option_map (λ t. t.now) p.rest }
