-- The reader's step: what it keeps of the lines so far.
use Rattle.std.specs.Prelude.{ℕ, ◌+◌, ◌≡◌, false, ◌||◌, ◌==◌, List, [], ◌∷◌, ◌++◌, length, map, Some, None, Result, Ok, Err, if◌then◌else◌}
use Rattle.surf_lattice.specs.declared.site.GridKind.TheVariants.{Square}
use Rattle.surf_manifest_lines.specs.declared.error.ManifestError.{ManifestError}
use Rattle.surf_text.specs.Bytes.{lines_of}
use Rattle.surf_manifest_lines.specs.declared.line.BlockKind.TheVariants.{Rules, State, Colormap}
use Rattle.surf_manifest_lines.specs.Line.{is_block, Line, Skipped, Opens, Closes, Includes, Unknown, Content, line_of}
use Rattle.surf_manifest_lines.specs.Item.{Item, Geometry, Wrap, Kept, Rule, Row, Colour, item_of}
use Rattle.surf_manifest.specs.Grammar.{ManifestText, Parts, Known, line_fault, finish, unless_fault, manifest_of}

abbrev pub with_part : Parts → Item → Parts
with_part p (Geometry k) = record p { kind = k }
with_part p (Wrap b) = record p { wrap = b }
with_part p (Kept o) = record p { options = p.options ++ o ∷ [] }
with_part p (Rule r) = record p { rules = p.rules ++ r ∷ [] }
with_part p (Row names) =
    record p {
      width = if p.height == 0 then length names else p.width;
      height = p.height + 1;
      start = p.start ++ names;
    }
with_part p (Colour t) = record p { colours = p.colours ++ t ∷ [] }

abbrev pub with_result : Parts → Result Item ManifestError → Parts
with_result p (Ok i) = with_part p i
with_result p (Err f) = p

abbrev pub next : Known → Line → Known
next c Skipped = record c { number = c.number + 1 }
next c (Opens p) = record c {
  number = c.number + 1;
  block = Some p;
  opened = c.number;
  has_rules = is_block Rules p || c.has_rules;
  has_state = is_block State p || c.has_state;
  has_colours = is_block Colormap p || c.has_colours;
}
next c (Closes p) = record c { number = c.number + 1; block = None }
next c Includes = record c { number = c.number + 1 }
next c Unknown = record c { number = c.number + 1 }
next c (Content t) =
    record c { number = c.number + 1; parts = with_result c.parts (item_of c.number c.block t) }

abbrev pub nothing : Known
nothing = record {
  number = 1;
  block = None;
  opened = 0;
  has_rules = false;
  has_state = false;
  has_colours = false;
  parts = record {
    kind = Square;
    wrap = false;
    options = [];
    rules = [];
    width = 0;
    height = 0;
    start = [];
    colours = [];
  };
}

-- the step of one line
abbrev pub step_of : Known → Line → Result Known ManifestError
step_of c l = unless_fault (line_fault c l) (Ok (next c l))

-- the steps of all lines, up to the first fault
abbrev pub run_from : Known → List Line → Result ManifestText ManifestError
run_from c [] = finish c
run_from c (l ∷ ls) = unless_fault (line_fault c l) (run_from (next c l) ls)

-- the steps give the manifest of the grammar
abbrev pub StepsRead : Type 0
StepsRead = (bytes : List ℕ) → run_from nothing (map line_of (lines_of bytes)) ≡ manifest_of bytes
