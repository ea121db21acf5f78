-- The names of a colony's sites, and how a cell reads its neighbours one after another.
use Rattle.std.specs.Prelude.{◌≡◌, ℕ, suc, ◌+◌, ◌-◌, ◌*◌, ◌%◌, ◌<◌, if◌then◌else◌, ◌==◌, List, Option, Some, None, slice_get}
use Rattle.surf_lattice.specs.Grids.{shift_x, shift_y}
use Rattle.surf_world.specs.Systems.{Rule}
use Rattle.surf_auto.specs.Locals.{LocalRule, following, preceding}
use Rattle.surf_sync.specs.declared.code.Code.{Code}

-- what stands at a site: a frame of a colour, or a cell's code
pub data Mark : Type 0 where
  Frame : ℕ → Mark
  Cell : Code → Mark

-- ---- generations, which count the phases that a cell has gone through

-- The field of a code is the generation modulo three times the phases, or the generation itself
-- where a last one is stated.
abbrev pub field_by : Option ℕ → ℕ → ℕ → ℕ
field_by None phases g = g % (3 * phases)
field_by (Some last) phases g = g

abbrev pub next_by : Option ℕ → ℕ → ℕ → ℕ
next_by None phases field = following (3 * phases) field
next_by (Some last) phases field = suc field

abbrev pub fields_by : Option ℕ → ℕ → ℕ
fields_by None phases = 3 * phases
fields_by (Some last) phases = suc last

-- a cell at this field or generation may read
abbrev pub OpenBy : Option ℕ → ℕ → Type 0
OpenBy None field = Unit {0}
OpenBy (Some last) field = field < last

-- a stated last generation is a whole number of rounds through the phases
abbrev pub WholeBy : Option ℕ → ℕ → Type 0
WholeBy None phases = Unit {0}
WholeBy (Some last) phases = (n : ℕ) × (last ≡ n * phases)

-- ---- reading

-- what the rules of a colony depend on: its local rule, its edge state, and the last generation, if
-- one is stated
pub record Protocol : Type 0 where
  pub rule : LocalRule
  pub edge : ℕ
  pub last : Option ℕ

abbrev pub protocol : LocalRule → ℕ → Option ℕ → Protocol
protocol R edge last = record { rule = R; edge = edge; last = last }

abbrev pub field_at : Protocol → ℕ → ℕ
field_at P g = field_by P.last P.rule.phases g

abbrev pub next_field : Protocol → ℕ → ℕ
next_field P field = next_by P.last P.rule.phases field

abbrev pub phase : LocalRule → ℕ → ℕ
phase R field = field % R.phases

-- the colour of the neighbour in a direction of a site of this colour, by the law of colours of
-- grids
unfoldable pub beside : ℕ → ℕ → ℕ → ℕ
beside degree colour i = (colour + (suc degree + shift_x i + 2 * shift_y i - 3)) % suc degree

-- the state that a reader with this code sees in a neighbour, if it may read it now
abbrev pub sight : Protocol → Code → Mark → Option ℕ
sight P r (Frame k) = if k == beside P.rule.degree r.colour r.reads then Some P.edge else None
sight P r (Cell n) =
    if n.colour == beside P.rule.degree r.colour r.reads
    then (if n.generation == r.generation
    then Some n.current
    else (if n.generation == next_field P r.generation then Some n.previous else None))
    else None

-- the code after a read of the state v
abbrev pub read : Protocol → Code → ℕ → Code
read P r v =
    if suc r.reads == P.rule.degree
    then record {
      current = P.rule.finish (phase P.rule r.generation) r.current
          (P.rule.add (phase P.rule r.generation) r.acc r.reads v);
      generation = next_field P r.generation;
      colour = r.colour;
      previous = r.current;
      reads = 0;
      acc = P.rule.start (phase P.rule (next_field P r.generation));
    }
    else record {
      current = r.current;
      generation = r.generation;
      colour = r.colour;
      previous = r.previous;
      reads = suc r.reads;
      acc = P.rule.add (phase P.rule r.generation) r.acc r.reads v;
    }

-- a read leaves the neighbour as it is; its rate is 1
abbrev pub read_rule : Protocol → Code → Mark → ℕ → Rule Mark
read_rule P r m v = record {
  rate = 1000000;
  left = Cell r;
  right = Some m;
  left_after = Cell (read P r v);
  right_after = Some m;
}

-- the codes for which rules are listed
pub record IsCode (R : LocalRule) (last : Option ℕ) (c : Code) : Type 0 where
  pub generation_within : c.generation < fields_by last R.phases
  pub current_within : c.current < R.states (phase R c.generation)
  pub previous_within : c.previous < R.states (preceding R.phases (phase R c.generation))
  pub colour_within : c.colour < suc R.degree
  pub reads_within : c.reads < R.degree
  pub acc_within : c.acc < R.accs (phase R c.generation) c.reads

abbrev pub IsMark : Protocol → Mark → Type 0
IsMark P (Frame k) = k < suc P.rule.degree
IsMark P (Cell c) = IsCode P.rule P.last c

-- the list holds the read rules and no others
pub record HoldsReads (P : Protocol) (rules : List (Rule Mark)) : Type 0 where
  pub only : (k : ℕ) (r : Rule Mark) → slice_get rules k ≡ Some r →
      (c : Code) × (m : Mark) × (v : ℕ) × (sight P c m ≡ Some v) × (r ≡ read_rule P c m v)
      × OpenBy P.last c.generation × IsCode P.rule P.last c × IsMark P m
  pub each : (c : Code) (m : Mark) (v : ℕ) →
      IsCode P.rule P.last c → OpenBy P.last c.generation → IsMark P m → sight P c m ≡ Some v →
      (k : ℕ) × (slice_get rules k ≡ Some (read_rule P c m v))
