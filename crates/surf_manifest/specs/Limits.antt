-- What a reader keeps of the lines so far: rules and sites within the limits, and the numbers of
-- all of them.
use Rattle.std.specs.Prelude.{ℕ, ◌+◌, ◌-◌, Bool, false, not, ◌&&◌, ◌||◌, ◌==◌, nat_lt, List, [], ◌∷◌, ◌++◌, length, take, Option, Some, None, is_some, Result, Ok, Err, if◌then◌else◌}
use Rattle.surf_lattice.specs.declared.site.GridKind.{GridKind}
use Rattle.surf_lattice.specs.declared.site.GridKind.TheVariants.{Square}
use Rattle.surf_world.specs.Systems as systems
use Rattle.surf_manifest_lines.specs.declared.options.OptionLine.{OptionLine}
use Rattle.surf_manifest_lines.specs.declared.error.ManifestError.{ManifestError}
use Rattle.surf_manifest_lines.specs.declared.error.ManifestError.TheVariants as faults
use Rattle.surf_manifest_lines.specs.declared.error.Block.TheVariants as blocks
use Rattle.surf_manifest_lines.specs.declared.line.BlockKind.{BlockKind}
use Rattle.surf_manifest_lines.specs.declared.line.BlockKind.TheVariants.{Rules, State, Colormap}
use Rattle.surf_manifest_lines.specs.Line.{is_block, Line, Skipped, Opens, Closes, Includes, Unknown, Content}
use Rattle.surf_manifest_lines.specs.Item.{Item, Geometry, Wrap, Kept, Rule, Row, Colour, item_of}
use Rattle.surf_manifest.specs.Naming.{rule_names, with_texts}
use Rattle.surf_manifest.specs.Grammar.{ManifestText, Parts, Known, item_fault, line_fault, manifest_from, unless_fault}

pub record Held : Type 0 where
  pub kind : GridKind
  pub wrap : Bool
  pub options : List OptionLine
  pub rules : List (systems.Rule (List ℕ))
  pub rule_count : ℕ
  pub width : ℕ
  pub height : ℕ
  pub start : List (List ℕ)
  pub site_count : ℕ
  pub colours : List (List ℕ)
  pub names : List (List ℕ)

-- what is held of these parts, with these names
abbrev pub held_of : List (List ℕ) → Parts → Held
held_of names p = record {
  kind = p.kind;
  wrap = p.wrap;
  options = p.options;
  rules = take 1048576 p.rules;
  rule_count = length p.rules;
  width = p.width;
  height = p.height;
  start = take 33554432 p.start;
  site_count = length p.start;
  colours = p.colours;
  names = names;
}

abbrev pub with_rule : Held → systems.Rule (List ℕ) → Held
with_rule h r = record h {
  rules = take 1048576 (h.rules ++ r ∷ []);
  rule_count = h.rule_count + 1;
  names = if nat_lt (length h.rules) 1048576 then with_texts h.names (rule_names r) else h.names;
}

-- further sites in the row that is read
abbrev pub with_names : Held → List (List ℕ) → Held
with_names h names = record h {
  start = take 33554432 (h.start ++ names);
  site_count = h.site_count + length names;
  names = with_texts h.names (take (33554432 - length h.start) names);
}

-- the row of so many names ends
abbrev pub with_row : Held → ℕ → Held
with_row h n = record h { width = if h.height == 0 then n else h.width; height = h.height + 1 }

abbrev pub holding : Held → Item → Held
holding h (Geometry k) = record h { kind = k }
holding h (Wrap b) = record h { wrap = b }
holding h (Kept o) = record h { options = h.options ++ o ∷ [] }
holding h (Rule r) = with_rule h r
holding h (Row names) = with_row (with_names h names) (length names)
holding h (Colour t) = record h { colours = h.colours ++ t ∷ [] }

abbrev pub holding_result : Held → Result Item ManifestError → Held
holding_result h (Ok i) = holding h i
holding_result h (Err f) = h

-- what is held, and where the next line stands
pub record Reached : Type 0 where
  pub number : ℕ
  pub block : Option BlockKind
  pub opened : ℕ
  pub has_rules : Bool
  pub has_state : Bool
  pub has_colours : Bool
  pub held : Held

abbrev pub reached : List (List ℕ) → Known → Reached
reached names c = record {
  number = c.number;
  block = c.block;
  opened = c.opened;
  has_rules = c.has_rules;
  has_state = c.has_state;
  has_colours = c.has_colours;
  held = held_of names c.parts;
}

abbrev pub parts_held : Held → Parts
parts_held h = record {
  kind = h.kind;
  wrap = h.wrap;
  options = h.options;
  rules = h.rules;
  width = h.width;
  height = h.height;
  start = h.start;
  colours = h.colours;
}

abbrev pub known_by : Reached → Known
known_by s = record {
  number = s.number;
  block = s.block;
  opened = s.opened;
  has_rules = s.has_rules;
  has_state = s.has_state;
  has_colours = s.has_colours;
  parts = parts_held s.held;
}

abbrev pub opened_block : Reached → BlockKind → Reached
opened_block s p = record s {
  block = Some p;
  opened = s.number;
  has_rules = is_block Rules p || s.has_rules;
  has_state = is_block State p || s.has_state;
  has_colours = is_block Colormap p || s.has_colours;
}

-- one line more is counted
abbrev pub counted : Reached → Reached
counted s = record s { number = s.number + 1 }

abbrev pub after_line : Reached → Line → Reached
after_line s Skipped = counted s
after_line s (Opens p) = counted (opened_block s p)
after_line s (Closes p) = counted (record s { block = None })
after_line s Includes = counted s
after_line s Unknown = counted s
after_line s (Content t) =
    counted (record s { held = holding_result s.held (item_of s.number s.block t) })

-- after all of these lines
abbrev pub after_lines : Reached → List Line → Reached
after_lines s [] = s
after_lines s (l ∷ ls) = after_lines (after_line s l) ls

-- the step of one line
abbrev pub line_step : Reached → Line → Result Reached ManifestError
line_step s l = unless_fault (line_fault (known_by s) l) (Ok (after_line s l))

-- the fault of a text whose lines have none
abbrev pub end_fault : Reached → Held → Option ManifestError
end_fault s h =
    if is_some s.block then Some (faults.Unclosed s.opened)
    else (if not s.has_rules then Some (faults.MissingBlock blocks.Rules)
    else (if not s.has_state then Some (faults.MissingBlock blocks.State)
    else (if h.height == 0 then Some faults.NoSites
    else (if nat_lt 1048576 h.rule_count then Some (faults.TooManyRules h.rule_count)
    else (if nat_lt 33554432 h.site_count then Some (faults.TooManySites h.site_count)
    else (if h.wrap && (nat_lt h.width 3 || nat_lt h.height 3) then Some faults.WrapSize
    else None))))))

abbrev pub finished : Reached → Result ManifestText ManifestError
finished s =
    unless_fault (end_fault s s.held) (Ok (manifest_from s.has_colours (parts_held s.held)))

-- the steps of all lines, up to the first fault
abbrev pub read_on : Reached → List Line → Result ManifestText ManifestError
read_on s [] = finished s
read_on s (l ∷ ls) = unless_fault (line_fault (known_by s) l) (read_on (after_line s l) ls)

-- nothing is read so far
abbrev pub at_start : Reached
at_start = record {
  number = 1;
  block = None;
  opened = 0;
  has_rules = false;
  has_state = false;
  has_colours = false;
  held = record {
    kind = Square;
    wrap = false;
    options = [];
    rules = [];
    rule_count = 0;
    width = 0;
    height = 0;
    start = [];
    site_count = 0;
    colours = [];
    names = [];
  };
}

-- what is held after an item, or its fault
abbrev pub item_step : ℕ → Held → Result Item ManifestError → Result Held ManifestError
item_step n h r = unless_fault (item_fault n (parts_held h) r) (Ok (holding_result h r))
