-- A legend that is being read.
use Rattle.std.specs.Prelude.{◌≡◌, ℕ, Option, None}
use Rattle.std.specs.Ordering.{nat_cmp, ordering_then}
use Rattle.std.specs.declared.cmp.Ordering.{Ordering}
use Rattle.std.specs.BTreeSet.{contains}
use Rattle.surf_lattice.specs.declared.site.Site.{Site}
use Rattle.surf_manifest_print.specs.declared.legend_error.LegendError.{LegendError}
use Rattle.surf_manifest_print.specs.declared.legend_error.LegendError.TheVariants.{BadLegend, NoLegend, NoMemory}
use Rattle.surf_manifest_print.specs.declared.legend_reader.LegendReading.{LegendReading}
use Rattle.surf_manifest_print.specs.Legends.{has_site}
use Rattle.surf_manifest_print.specs.LegendTexts.{LegendParts}

abbrev pub parts_of : LegendReading → LegendParts
parts_of r = record { inputs = r.inputs.items; outputs = r.outputs.items; events = r.events }

-- sites are ordered by their rows, and within a row by their columns
abbrev pub key_cmp : (ℕ × ℕ) → (ℕ × ℕ) → Ordering
key_cmp a b = ordering_then (nat_cmp a.0 b.0) (nat_cmp a.1 b.1)

-- the set has the sites of the inputs
abbrev pub KnowsSites : LegendReading → Type 0
KnowsSites r = (s : Site) → contains key_cmp r.taken (s.y, s.x) ≡ has_site r.inputs.items s

-- the line of this number is faulty, or memory fails
abbrev pub LineRefuses : ℕ → Option LegendParts → LegendError → Type 0
LineRefuses n o (BadLegend m) = (m ≡ n) × (o ≡ None)
LineRefuses n o NoLegend = ⊥
LineRefuses n o NoMemory = Unit {0}
