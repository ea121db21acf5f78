-- Systems whose inputs are set to bits.
use Rattle.std.specs.Prelude.{ℕ, ◌≡◌, Bool, true, false, ◌&&◌, ◌==◌, nat_lt, bytes_eq, codes, List, [], ◌∷◌, length, map, Option, Some, None, if◌then◌else◌, slice_get}
use Rattle.surf_lattice.specs.declared.site.Site.{Site}
use Rattle.surf_lattice.specs.Grids.{Grid, place}
use Rattle.surf_rules.specs.Names.{with_text}
use Rattle.surf_world.specs.Systems.{System}
use Rattle.surf_tiles.specs.States.{digit}
use Rattle.surf_settle.specs.Settling as settling
use Rattle.surf_manifest.specs.Grammar.{ManifestText}
use Rattle.surf_manifest_print.specs.declared.legend.Place.{Place}
use Rattle.surf_manifest_print.specs.Legends.{LegendText}
use Rattle.surf_inputs.specs.declared.inputs.SetError.{SetError}
use Rattle.surf_inputs.specs.declared.inputs.SetError.TheVariants.{Length, NotInput, NoMemory}

-- the name of a bit
abbrev pub bit_name : Bool → List ℕ
bit_name b = digit b ∷ []

-- the names with `0` and then `1`, where they are lacking
abbrev pub with_bit_names : List (List ℕ) → List (List ℕ)
with_bit_names names = with_text (with_text names (bit_name false)) (bit_name true)

-- the configuration with the name of each bit at the site of its place, and every other site as it
-- was
abbrev pub with_bits : Grid → List (List ℕ) → List Place → List Bool → List (List ℕ)
with_bits g c places bits = settling.with_inputs g c (map (λ p. p.site) places) bits

-- the system with these bits at the legend's inputs, in order
abbrev pub with_inputs : System (List ℕ) → LegendText → List Bool → System (List ℕ)
with_inputs S l bits =
    record { surface = S.surface; start = with_bits S.surface.grid S.start l.inputs bits }

-- the manifest of that system
abbrev pub with_system : ManifestText → System (List ℕ) → ManifestText
with_system m S = record { system = S; options = m.options; colormap = m.colormap }

abbrev pub is_text : Option (List ℕ) → List ℕ → Bool
is_text None t = false
is_text (Some name) t = bytes_eq name t

-- the site is inside and holds `?`
abbrev pub is_unset : System (List ℕ) → Site → Bool
is_unset S s =
    nat_lt s.x S.surface.grid.width
    && (nat_lt s.y S.surface.grid.height && is_text (slice_get S.start (place S.surface.grid s))
    (codes "?"))

-- the first of the places that is no unset input
abbrev pub first_set : System (List ℕ) → List Place → Option SetError
first_set S [] = None
first_set S (p ∷ ps) = if is_unset S p.site then first_set S ps else Some (NotInput p.site)

-- why the inputs can't be set, if they can't
abbrev pub set_fault : System (List ℕ) → LegendText → List Bool → Option SetError
set_fault S l bits =
    if length bits == length l.inputs then first_set S l.inputs
    else Some (Length (length bits) (length l.inputs))

-- the refusal is this fault, or there is none and memory fails
abbrev pub SetRefuses : Option SetError → SetError → Type 0
SetRefuses fault (Length found wanted) = fault ≡ Some (Length found wanted)
SetRefuses fault (NotInput s) = fault ≡ Some (NotInput s)
SetRefuses fault NoMemory = fault ≡ None
