-- The manifest that a text spells, or the text's first fault.
use Rattle.std.specs.Prelude.{ℕ, ◌+◌, Bool, false, not, ◌&&◌, ◌||◌, ◌==◌, nat_lt, List, [], ◌∷◌, ◌++◌, length, map, Option, Some, None, is_some, Result, Ok, Err, if◌then◌else◌}
use Rattle.std.specs.List.{filter_map}
use Rattle.surf_lattice.specs.declared.site.GridKind.{GridKind}
use Rattle.surf_lattice.specs.declared.site.GridKind.TheVariants.{Square}
use Rattle.surf_world.specs.Systems.{System}
use Rattle.surf_world.specs.Systems as systems
use Rattle.surf_manifest_lines.specs.declared.options.OptionLine.{OptionLine}
use Rattle.surf_manifest_lines.specs.declared.error.ManifestError.{ManifestError}
use Rattle.surf_manifest_lines.specs.declared.error.ManifestError.TheVariants as faults
use Rattle.surf_manifest_lines.specs.declared.error.Block.TheVariants as blocks
use Rattle.surf_text.specs.Bytes.{lines_of}
use Rattle.surf_manifest_lines.specs.declared.line.BlockKind.{BlockKind}
use Rattle.surf_manifest_lines.specs.declared.line.BlockKind.TheVariants.{Rules, State, Colormap}
use Rattle.surf_manifest_lines.specs.Line.{is_block, Line, Skipped, Opens, Closes, Includes, Unknown, Content, line_of}
use Rattle.surf_manifest_lines.specs.Item.{Item, Geometry, Wrap, Kept, Rule, Row, Colour, item_of}

-- a system with the options that are kept and the lines of its colormap
pub record ManifestText : Type 0 where
  pub system : System (List ℕ)
  pub options : List OptionLine
  pub colormap : Option (List (List ℕ))

-- Below, `above` is a list of lines from the nearest to the first.

-- the number of the next line
abbrev pub line_number : List Line → ℕ
line_number [] = 1
line_number (l ∷ above) = line_number above + 1

-- the block of the next line: the last one started and not ended
abbrev pub block_of : List Line → Option BlockKind
block_of [] = None
block_of (Opens p ∷ above) = Some p
block_of (Closes p ∷ above) = None
block_of (Skipped ∷ above) = block_of above
block_of (Includes ∷ above) = block_of above
block_of (Unknown ∷ above) = block_of above
block_of (Content t ∷ above) = block_of above

-- the number of the line that opened the last block
abbrev pub opened_at : List Line → ℕ
opened_at [] = 0
opened_at (Opens p ∷ above) = line_number above
opened_at (Closes p ∷ above) = opened_at above
opened_at (Skipped ∷ above) = opened_at above
opened_at (Includes ∷ above) = opened_at above
opened_at (Unknown ∷ above) = opened_at above
opened_at (Content t ∷ above) = opened_at above

-- a line opens this block
abbrev pub opens : BlockKind → Line → Bool
opens p (Opens q) = is_block p q
opens p (Closes q) = false
opens p Skipped = false
opens p Includes = false
opens p Unknown = false
opens p (Content t) = false

abbrev pub is_opened : BlockKind → List Line → Bool
is_opened p [] = false
is_opened p (l ∷ above) = opens p l || is_opened p above

abbrev pub with_item : List Item → Result Item ManifestError → List Item
with_item is (Ok i) = is ++ i ∷ []
with_item is (Err f) = is

-- what the content lines say, each in its block, from the first to the nearest
abbrev pub items : List Line → List Item
items [] = []
items (Content t ∷ above) = with_item (items above) (item_of (line_number above) (block_of above) t)
items (Opens p ∷ above) = items above
items (Closes p ∷ above) = items above
items (Skipped ∷ above) = items above
items (Includes ∷ above) = items above
items (Unknown ∷ above) = items above

-- of several settings the last counts
abbrev pub kind_in : GridKind → List Item → GridKind
kind_in k [] = k
kind_in k (Geometry new ∷ is) = kind_in new is
kind_in k (Wrap b ∷ is) = kind_in k is
kind_in k (Kept o ∷ is) = kind_in k is
kind_in k (Rule r ∷ is) = kind_in k is
kind_in k (Row names ∷ is) = kind_in k is
kind_in k (Colour t ∷ is) = kind_in k is

abbrev pub wrap_in : Bool → List Item → Bool
wrap_in b [] = b
wrap_in b (Wrap new ∷ is) = wrap_in new is
wrap_in b (Geometry k ∷ is) = wrap_in b is
wrap_in b (Kept o ∷ is) = wrap_in b is
wrap_in b (Rule r ∷ is) = wrap_in b is
wrap_in b (Row names ∷ is) = wrap_in b is
wrap_in b (Colour t ∷ is) = wrap_in b is

abbrev pub kept_in : Item → Option OptionLine
kept_in (Kept o) = Some o
kept_in (Geometry k) = None
kept_in (Wrap b) = None
kept_in (Rule r) = None
kept_in (Row names) = None
kept_in (Colour t) = None

abbrev pub rule_in : Item → Option (systems.Rule (List ℕ))
rule_in (Rule r) = Some r
rule_in (Geometry k) = None
rule_in (Wrap b) = None
rule_in (Kept o) = None
rule_in (Row names) = None
rule_in (Colour t) = None

abbrev pub row_in : Item → Option (List (List ℕ))
row_in (Row names) = Some names
row_in (Geometry k) = None
row_in (Wrap b) = None
row_in (Kept o) = None
row_in (Rule r) = None
row_in (Colour t) = None

abbrev pub colour_in : Item → Option (List ℕ)
colour_in (Colour t) = Some t
colour_in (Geometry k) = None
colour_in (Wrap b) = None
colour_in (Kept o) = None
colour_in (Rule r) = None
colour_in (Row names) = None

-- the length of the first row, and 0 where there is none
abbrev pub width_of : List (List (List ℕ)) → ℕ
width_of [] = 0
width_of (r ∷ rs) = length r

-- the names of the rows, one row after another
abbrev pub joined : List (List (List ℕ)) → List (List ℕ)
joined [] = []
joined (r ∷ rs) = r ++ joined rs

-- what lines say together
pub record Parts : Type 0 where
  pub kind : GridKind
  pub wrap : Bool
  pub options : List OptionLine
  pub rules : List (systems.Rule (List ℕ))
  pub width : ℕ
  pub height : ℕ
  pub start : List (List ℕ)
  pub colours : List (List ℕ)

abbrev pub parts_of : List Item → Parts
parts_of is = record {
  kind = kind_in Square is;
  wrap = wrap_in false is;
  options = filter_map kept_in is;
  rules = filter_map rule_in is;
  width = width_of (filter_map row_in is);
  height = length (filter_map row_in is);
  start = joined (filter_map row_in is);
  colours = filter_map colour_in is;
}

-- what is known of a line by the lines above it
pub record Known : Type 0 where
  pub number : ℕ
  pub block : Option BlockKind
  pub opened : ℕ
  pub has_rules : Bool
  pub has_state : Bool
  pub has_colours : Bool
  pub parts : Parts

abbrev pub known : List Line → Known
known above = record {
  number = line_number above;
  block = block_of above;
  opened = opened_at above;
  has_rules = is_opened Rules above;
  has_state = is_opened State above;
  has_colours = is_opened Colormap above;
  parts = parts_of (items above);
}

abbrev pub has_block : Known → BlockKind → Bool
has_block c Rules = c.has_rules
has_block c State = c.has_state
has_block c Colormap = c.has_colours

-- a block is opened outside of blocks, and once
abbrev pub open_fault : Known → BlockKind → Option BlockKind → Option ManifestError
open_fault c p None = if has_block c p then Some (faults.BlockTwice c.number) else None
open_fault c p (Some q) = Some (faults.BadLine c.number)

-- a block is closed by its own end
abbrev pub close_fault : ℕ → BlockKind → Option BlockKind → Option ManifestError
close_fault n p None = Some (faults.BadLine n)
close_fault n p (Some q) = if is_block p q then None else Some (faults.BadLine n)

-- each row is as long as the first
abbrev pub row_fault : ℕ → Parts → List (List ℕ) → Option ManifestError
row_fault n p names =
    if (p.height == 0) || (length names == p.width) then None else Some (faults.Ragged n)

abbrev pub item_fault : ℕ → Parts → Result Item ManifestError → Option ManifestError
item_fault n p (Err f) = Some f
item_fault n p (Ok (Row names)) = row_fault n p names
item_fault n p (Ok (Geometry k)) = None
item_fault n p (Ok (Wrap b)) = None
item_fault n p (Ok (Kept o)) = None
item_fault n p (Ok (Rule r)) = None
item_fault n p (Ok (Colour t)) = None

-- the fault of a line, by what is known of it
abbrev pub line_fault : Known → Line → Option ManifestError
line_fault c Skipped = None
line_fault c (Opens p) = open_fault c p c.block
line_fault c (Closes p) = close_fault c.number p c.block
line_fault c Includes = Some (faults.Include c.number)
line_fault c Unknown = Some (faults.BadLine c.number)
line_fault c (Content t) = item_fault c.number c.parts (item_of c.number c.block t)

-- the fault of a text whose lines have none
abbrev pub text_fault : Known → Parts → Option ManifestError
text_fault c p =
    if is_some c.block then Some (faults.Unclosed c.opened)
    else (if not c.has_rules then Some (faults.MissingBlock blocks.Rules)
    else (if not c.has_state then Some (faults.MissingBlock blocks.State)
    else (if p.height == 0 then Some faults.NoSites
    else (if nat_lt 1048576 (length p.rules) then Some (faults.TooManyRules (length p.rules))
    else (if nat_lt 33554432 (length p.start) then Some (faults.TooManySites (length p.start))
    else (if p.wrap && (nat_lt p.width 3 || nat_lt p.height 3) then Some faults.WrapSize
    else None))))))

abbrev pub manifest_from : Bool → Parts → ManifestText
manifest_from has_colours p = record {
  system = record {
    surface = record {
      grid = record { kind = p.kind; wrap = p.wrap; width = p.width; height = p.height };
      rules = p.rules;
    };
    start = p.start;
  };
  options = p.options;
  colormap = if has_colours then Some p.colours else None;
}

abbrev pub unless_fault : {M : Type 0} → Option ManifestError → Result M ManifestError →
    Result M ManifestError
unless_fault None r = r
unless_fault (Some f) r = Err f

-- the manifest, where no line has a fault
abbrev pub finish : Known → Result ManifestText ManifestError
finish c = unless_fault (text_fault c c.parts) (Ok (manifest_from c.has_colours c.parts))

-- the first line that has a fault by the lines above it gives the fault
abbrev pub read_from : List Line → List Line → Result ManifestText ManifestError
read_from above [] = finish (known above)
read_from above (l ∷ ls) = unless_fault (line_fault (known above) l) (read_from (l ∷ above) ls)

abbrev pub manifest_of : List ℕ → Result ManifestText ManifestError
manifest_of bytes = read_from [] (map line_of (lines_of bytes))
