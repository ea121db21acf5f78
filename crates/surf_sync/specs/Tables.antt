-- The numbers of all names of a colony.
use Rattle.std.specs.Prelude.{◌≡◌, ℕ, ◌+◌, ◌*◌, ◌<◌, length, slice_index}
use Rattle.surf_auto.specs.Locals.{code_count}
use Rattle.surf_sync.specs.declared.code.Code.{Code}
use Rattle.surf_sync.specs.declared.table.Table.{Table}
use Rattle.surf_sync.specs.Codes.{Protocol, fields_by, phase}
use Rattle.surf_sync.specs.Listing.{marks_of, start_of}
use Rattle.surf_sync.specs.Numbering.{code_number}

-- the place of a code among all names
abbrev pub place_of : Protocol → Code → ℕ
place_of P c =
    start_of P c.generation
    + c.colour * code_count P.rule (phase P.rule c.generation)
    + code_number P (phase P.rule c.generation) c

-- one number for each name, and where each generation begins
pub record IsTable (P : Protocol) (T : Table) : Type 0 where
  pub whole : length T.numbers.items ≡ length (marks_of P)
  pub generations : length T.starts.items ≡ fields_by P.last P.rule.phases
  pub starts : (g : ℕ) → g < fields_by P.last P.rule.phases →
      slice_index T.starts.items g ≡ start_of P g
