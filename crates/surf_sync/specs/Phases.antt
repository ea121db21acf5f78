-- What the writer of rules knows, and what it adds.
use Rattle.std.specs.Prelude.{◌≡◌, ℕ, suc, ◌*◌, ◌+◌, ◌%◌, ◌^◌, ◌<◌, List, map, length, slice_get, Some, None}
use Rattle.std.specs.List.{flat_map}
use Rattle.surf_world.specs.Systems as systems
use Rattle.surf_auto.specs.Locals.{following}
use Rattle.surf_sync.specs.declared.code.Code.{Code}
use Rattle.surf_sync.specs.declared.phase.Shown.{Shown}
use Rattle.surf_sync.specs.declared.phase.Shown.TheVariants.{Current, Previous}
use Rattle.surf_sync.specs.declared.table.Table.{Table}
use Rattle.surf_sync.specs.Codes.{Mark, Protocol, IsCode, WholeBy, fields_by, protocol, read, read_rule}
use Rattle.surf_sync.specs.Codes.Mark.{Cell}
use Rattle.surf_sync.specs.Listing.{Name, marks_of}
use Rattle.surf_sync.specs.Moved.{moved}
use Rattle.surf_sync.specs.Rules.{below, codes_of, rules_of, turns_of}
use Rattle.surf_sync.specs.Shapes.{by_previous}
use Rattle.surf_sync.specs.Spelling.{spell}
use Rattle.surf_sync.specs.Tables.{IsTable}

-- a rule of a read, over numbers
abbrev pub read_by : ℕ → ℕ → ℕ → systems.Rule ℕ
read_by left right after = record {
  rate = 1000000;
  left = left;
  right = Some right;
  left_after = after;
  right_after = Some right;
}

abbrev pub state_of : Shown → Code → ℕ
state_of Current c = c.current
state_of Previous c = c.previous

-- the texts of all numbers of the table
abbrev pub NamesAll : Protocol → List (List ℕ) → Table → Type 0
NamesAll P texts T = Name texts T.numbers.items (map spell (marks_of (protocol P.rule 0 P.last)))

-- the number of a reader, and by each state that it may see the number of what it becomes
pub record Knows (texts : List (List ℕ)) (P : Protocol) (reader : Code) (left : ℕ)
    (afters : List ℕ) : Type 0 where
  pub own : slice_get texts left ≡ Some (spell (Cell reader))
  pub turned : Name texts afters (map (λ s. spell (Cell (read P reader s))) (below (length afters)))

-- from this place on stand the numbers of these codes
abbrev pub StandFrom : List (List ℕ) → List ℕ → ℕ → List Code → Type 0
StandFrom texts numbers start codes =
    (i : ℕ) (c : Code) → slice_get codes i ≡ Some c →
    (k : ℕ) × (slice_get numbers (start + i) ≡ Some k) × (slice_get texts k ≡ Some (spell (Cell c)))

-- the rules by which a reader reads these codes
abbrev pub reads_of : Protocol → Code → Shown → ℕ → ℕ → List Code → List (systems.Rule Mark)
reads_of P reader shown generation colour codes =
    map (λ c. read_rule P reader (Cell (moved generation colour c)) (state_of shown c)) codes

-- what is known of a phase
pub record IsPhase (P : Protocol) (f : ℕ) (T : Table) (codes next : List Code) : Type 0 where
  pub in_phase : f < P.rule.phases
  pub edge : P.edge < P.rule.states f
  pub table : IsTable (protocol P.rule 0 P.last) T
  pub listed : codes ≡ codes_of (protocol P.rule 0 None) f 0 0
  pub following_listed : next ≡ codes_of (protocol P.rule 0 None) (following P.rule.phases f) 0 0
  pub small : fields_by P.last P.rule.phases < 2 ^ 32
  pub whole : WholeBy P.last P.rule.phases

-- ---- the rules of a phase, as loops make them

-- those of the readers that differ from each other in their state before and in what they read
abbrev pub row_rules : Protocol → ℕ → List Code → ℕ → ℕ → List (systems.Rule Mark)
row_rules P f row generation colour = flat_map (λ c. rules_of P f (moved generation colour c)) row

-- and in their colour
abbrev pub colour_rules : Protocol → ℕ → List Code → ℕ → List (systems.Rule Mark)
colour_rules P f row generation =
    flat_map (row_rules P f row generation) (below (suc P.rule.degree))

-- and in their generation
abbrev pub turn_rules : Protocol → ℕ → List Code → List (systems.Rule Mark)
turn_rules P f row =
    flat_map (λ turn. colour_rules P f row (turn * P.rule.phases + f)) (below (turns_of P))

-- and in their state
abbrev pub current_rules : Protocol → ℕ → List (systems.Rule Mark)
current_rules P f =
    flat_map (λ current. turn_rules P f (by_previous P.rule f current)) (below (P.rule.states f))

-- these codes are listed at every generation of the phase and every colour
abbrev pub AreListed : Protocol → ℕ → List Code → Type 0
AreListed P f row =
    (g k i : ℕ) (c : Code) → g < fields_by P.last P.rule.phases → g % P.rule.phases ≡ f →
    k < suc P.rule.degree → slice_get row i ≡ Some c → IsCode P.rule P.last (moved g k c)
