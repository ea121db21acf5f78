-- The canonical text of a manifest.
use Rattle.std.specs.Prelude.{ℕ, ◌+◌, ◌/◌, ◌%◌, ◌≡◌, Bool, true, false, ◌==◌, List, [], ◌∷◌, ◌++◌, map, codes, Option, Some, None, Result, Ok, Err, if◌then◌else◌}
use Rattle.std.specs.Fmt.{decimal}
use Rattle.surf_lattice.specs.declared.site.Site.{Site}
use Rattle.surf_lattice.specs.declared.site.GridKind.{GridKind}
use Rattle.surf_lattice.specs.declared.site.GridKind.TheVariants.{Square, Hex}
use Rattle.surf_world.specs.Systems as systems
use Rattle.surf_manifest_lines.specs.declared.error.ManifestError.{ManifestError}
use Rattle.surf_manifest_lines.specs.declared.options.OptionLine.{OptionLine}
use Rattle.surf_text.specs.Bytes.{ended, spaced, rows_of, without_end, is_filled}
use Rattle.surf_manifest.specs.Grammar.{ManifestText, manifest_of}
use Rattle.surf_manifest.specs.WellFormed.{IsWellFormed}
use Rattle.surf_manifest_print.specs.declared.legend.Place.{Place}
use Rattle.surf_manifest_print.specs.Legends.{LegendText, IsLegend}

-- six digits
abbrev pub six_digits : ℕ → List ℕ
six_digits m =
    (48 + m / 100000) ∷ (48 + m / 10000 % 10) ∷ (48 + m / 1000 % 10) ∷ (48 + m / 100 % 10)
    ∷ (48 + m / 10 % 10) ∷ (48 + m % 10) ∷ []

-- a point and the digits of the millionths without zeros at the end, unless there are none
abbrev pub fraction_text : ℕ → List ℕ
fraction_text m = if m == 0 then [] else 46 ∷ without_end (λ d. d == 48) (six_digits m)

abbrev pub rate_text : ℕ → List ℕ
rate_text rate = decimal (rate / 1000000) ++ fraction_text (rate % 1000000)

-- one name, or two with a plus between them
abbrev pub side_tokens : List ℕ → Option (List ℕ) → List (List ℕ)
side_tokens a None = a ∷ []
side_tokens a (Some b) = a ∷ codes "+" ∷ b ∷ []

abbrev pub rule_tokens : systems.Rule (List ℕ) → List (List ℕ)
rule_tokens r = side_tokens r.left r.right ++ (codes "->" ∷ side_tokens r.left_after r.right_after)

abbrev pub rule_text : systems.Rule (List ℕ) → List ℕ
rule_text r = 40 ∷ (rate_text r.rate ++ (41 ∷ 32 ∷ spaced (rule_tokens r)))

abbrev pub option_text : OptionLine → List ℕ
option_text o = o.key ++ (if is_filled o.value then codes " = " ++ o.value else codes " =")

abbrev pub geometry_text : GridKind → List ℕ
geometry_text Square = codes "geometry = square"
geometry_text Hex = codes "geometry = hex"

abbrev pub wrap_text : Bool → List ℕ
wrap_text true = codes "wrap = true"
wrap_text false = codes "wrap = false"

abbrev pub site_text : Site → List ℕ
site_text s = spaced (decimal s.x ∷ decimal s.y ∷ [])

abbrev pub place_text : List ℕ → Place → List ℕ
place_text word p =
    spaced (codes "#" ∷ codes "surf" ∷ word ∷ p.name ∷ decimal p.site.x ∷ decimal p.site.y ∷ [])

abbrev pub events_text : ℕ → List ℕ
events_text n = spaced (codes "#" ∷ codes "surf" ∷ codes "events" ∷ decimal n ∷ [])

abbrev pub legend_lines : Option LegendText → List (List ℕ)
legend_lines None = []
legend_lines (Some l) =
    map (place_text (codes "input")) l.inputs ++ (map (place_text (codes "output")) l.outputs
    ++ (events_text l.events ∷ []))

abbrev pub colour_lines : Option (List (List ℕ)) → List (List ℕ)
colour_lines None = []
colour_lines (Some texts) = codes "!START_COLORMAP" ∷ (texts ++ (codes "!END_COLORMAP" ∷ []))

abbrev pub state_block : ManifestText → List (List ℕ)
state_block m =
    codes "!START_INIT_STATE"
    ∷ (map spaced (rows_of m.system.surface.grid.width m.system.surface.grid.height
    m.system.start) ++ (codes "!END_INIT_STATE" ∷ []))

abbrev pub rule_block : ManifestText → List (List ℕ)
rule_block m =
    codes "!START_TRANSITION_RULES" ∷ (map rule_text m.system.surface.rules
    ++ (codes "!END_TRANSITION_RULES" ∷ []))

abbrev pub block_lines : ManifestText → List (List ℕ)
block_lines m = rule_block m ++ (state_block m ++ colour_lines m.colormap)

abbrev pub print_lines : ManifestText → Option LegendText → List (List ℕ)
print_lines m l =
    legend_lines l ++ (geometry_text m.system.surface.grid.kind
    ∷ wrap_text m.system.surface.grid.wrap ∷ (map option_text m.options ++ block_lines m))

-- the canonical text, with the legend's lines where one is given
abbrev pub print_of : ManifestText → Option LegendText → List ℕ
print_of m l = ended (print_lines m l)

-- the grammar reads what is printed
abbrev pub ReadsPrint : Type 0
ReadsPrint = (m : ManifestText) (l : Option LegendText) → IsWellFormed m → IsLegend l →
    manifest_of (print_of m l) ≡ Ok m

-- the canonical text of the manifest that a text spells
abbrev pub formatted_manifest : Result ManifestText ManifestError → Result (List ℕ) ManifestError
formatted_manifest (Ok m) = Ok (print_of m None)
formatted_manifest (Err f) = Err f

abbrev pub formatted : List ℕ → Result (List ℕ) ManifestError
formatted bytes = formatted_manifest (manifest_of bytes)

-- what is formatted is formatted as itself
abbrev pub KeepsFormat : Type 0
KeepsFormat = (bytes text : List ℕ) → formatted bytes ≡ Ok text → formatted text ≡ Ok text
