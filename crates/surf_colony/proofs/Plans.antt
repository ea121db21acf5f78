-- Colonies by the places of their sites: which places are cells, and what holds of every run.
use Rattle.std.specs.Prelude.{◌≡◌, ℕ, zero, suc, ◌+◌, ◌*◌, ◌%◌, ◌<◌, ◌≤◌, ◌≢◌, Bool, true, false, if◌then◌else◌, List, length, Option, Some, slice_get}
use Rattle.surf_lattice.specs.declared.site.Site.{Site}
use Rattle.surf_lattice.specs.Grids.{IsInside, Adjacent, place}
use Rattle.surf_world.specs.declared.event.Event.{Event}
use Rattle.surf_world.specs.Systems.{System, Enabled, IsRun, left_by}
use Rattle.surf_auto.specs.Locals.{LocalRule, IsLocal, gathered}
use Rattle.surf_sync.specs.declared.code.Code.{Code}
use Rattle.surf_sync.specs.Codes.{Protocol, Mark, OpenBy, beside, field_at, IsCode, HoldsReads}
use Rattle.surf_sync.specs.Codes.Mark.{Frame, Cell}
use Rattle.surf_sync.specs.Spelling.{Showing, shown_at}
use Rattle.surf_trace.specs.Generations.{generation}
use Rattle.surf_colony.specs.InStep.{EndsBy}

-- the places of a surface, which of them are cells, and the neighbours of a cell in the order of directions
pub record Board : Type 0 where
  pub places : ℕ
  pub cell : ℕ → Bool
  pub neighbour : ℕ → ℕ → ℕ
  pub colour : ℕ → ℕ

-- what the proofs use of a board of this degree
pub record IsBoard (degree : ℕ) (S : Board) : Type 0 where
  pub some_direction : 0 < degree
  pub within : (p : ℕ) → S.cell p ≡ true → p < S.places
  pub inside : (p i : ℕ) → S.cell p ≡ true → i < degree → S.neighbour p i < S.places
  pub apart : (p i : ℕ) → S.cell p ≡ true → i < degree → S.neighbour p i ≢ p
  pub back : (p i : ℕ) → S.cell p ≡ true → i < degree → S.cell (S.neighbour p i) ≡ true → (j : ℕ) × (j < degree) × (S.neighbour (S.neighbour p i) j ≡ p)
  pub in_colours : (p : ℕ) → S.colour p < suc degree
  pub coloured : (p i : ℕ) → S.cell p ≡ true → i < degree → S.colour (S.neighbour p i) ≡ beside degree (S.colour p) i
  pub one_direction : (k i j : ℕ) → k < suc degree → i < degree → j < degree → beside degree k i ≡ beside degree k j → i ≡ j

pub record Plan : Type 0 where
  pub board : Board
  pub rule : LocalRule
  pub edge : ℕ
  -- the start state of the cell at a place
  pub begins : ℕ → ℕ
  -- the last generation, if one is stated
  pub last : Option ℕ

pub record IsPlan (A : Plan) : Type 0 where
  pub is_board : IsBoard A.rule.degree A.board
  pub is_local : IsLocal A.rule
  pub edge_within : (f : ℕ) → f < A.rule.phases → A.edge < A.rule.states f
  pub begins_within : (p f : ℕ) → A.board.cell p ≡ true → f < A.rule.phases → A.begins p < A.rule.states f

abbrev pub protocol_of : Plan → Protocol
protocol_of A = record { rule = A.rule; edge = A.edge; last = A.last }

abbrev pub seen_by : Plan → (ℕ → ℕ) → ℕ → ℕ → ℕ
seen_by A state p i = if A.board.cell (A.board.neighbour p i) then state (A.board.neighbour p i) else A.edge

-- what the cell at p shows after g phases, in which all cells take their next state at once
abbrev pub shown_after : Plan → ℕ → ℕ → ℕ
shown_after A zero p = A.begins p
shown_after A (suc g) p =
    A.rule.finish (g % A.rule.phases) (shown_after A g p)
    (gathered A.rule (g % A.rule.phases) (seen_by A (λ q. shown_after A g q) p) A.rule.degree)

-- the sum of f over the cells below n, and how many they are
abbrev pub sum_to : Board → (ℕ → ℕ) → ℕ → ℕ
sum_to S f zero = 0
sum_to S f (suc n) = (if S.cell n then f n else 0) + sum_to S f n

abbrev pub cells_to : Board → ℕ → ℕ
cells_to S zero = 0
cells_to S (suc n) = (if S.cell n then 1 else 0) + cells_to S n

-- Any two cells are within this distance: what falls by at most one from a cell to its neighbour falls by no more than that in all.
abbrev pub IsWithin : ℕ → Board → ℕ → Type 0
IsWithin degree S reach =
    (f : ℕ → ℕ) → ((p i : ℕ) → S.cell p ≡ true → i < degree → S.cell (S.neighbour p i) ≡ true → f p ≤ suc (f (S.neighbour p i))) →
    (p q : ℕ) → S.cell p ≡ true → S.cell q ≡ true → f p ≤ f q + reach

-- what stands at first at the place of a cell
abbrev pub first_code : Plan → ℕ → Code
first_code A p = record {
  current = A.begins p;
  generation = 0;
  colour = A.board.colour p;
  previous = A.begins p;
  reads = 0;
  acc = A.rule.start 0;
}

-- the system is the colony of the plan
pub record IsColony (A : Plan) (S : System Mark) : Type 0 where
  pub holds : HoldsReads (protocol_of A) S.surface.rules
  -- the neighbours of a cell are those of the board
  pub direction : (s t : Site) → IsInside S.surface.grid s → A.board.cell (place S.surface.grid s) ≡ true → Adjacent S.surface.grid s t → (i : ℕ) × (i < A.rule.degree) × (A.board.neighbour (place S.surface.grid s) i ≡ place S.surface.grid t)
  pub reached : (p i : ℕ) → A.board.cell p ≡ true → i < A.rule.degree → (s : Site) × (t : Site) × (place S.surface.grid s ≡ p) × (place S.surface.grid t ≡ A.board.neighbour p i) × IsInside S.surface.grid s × IsInside S.surface.grid t × Adjacent S.surface.grid s t
  pub size : length S.start ≡ A.board.places
  pub start_cell : (p : ℕ) → A.board.cell p ≡ true → slice_get S.start p ≡ Some (Cell (first_code A p))
  pub start_frame : (p : ℕ) → A.board.cell p ≡ false → p < A.board.places → slice_get S.start p ≡ Some (Frame (A.board.colour p))

-- what names show of listed codes
abbrev pub Tells : Plan → (Mark → Option Showing) → Type 0
Tells A show = (c : Code) → IsCode A.rule A.last c → show (Cell c) ≡ Some (record { state = c.current; generation = c.generation })

pub record Synchronous (A : Plan) (S : System Mark) (show : Mark → Option Showing) (reach : ℕ) (es : List Event) : Type 0 where
  -- a cell shows the state of its generation
  pub shows : (p : ℕ) → A.board.cell p ≡ true →
      shown_at show (slice_get (left_by S.surface S.start es) p) ≡ Some (record { state = shown_after A (generation show S.surface S.start es p) p; generation = field_at (protocol_of A) (generation show S.surface S.start es p) })
  -- neighbours are within one generation
  pub within_one : (p i : ℕ) → A.board.cell p ≡ true → i < A.rule.degree → A.board.cell (A.board.neighbour p i) ≡ true →
      generation show S.surface S.start es p ≤ suc (generation show S.surface S.start es (A.board.neighbour p i))
  -- some event may happen, exactly where some cell isn't at the last generation
  pub goes_on : (p : ℕ) → A.board.cell p ≡ true → OpenBy A.last (generation show S.surface S.start es p) → (e : Event) × Enabled S.surface (left_by S.surface S.start es) e
  pub stops : (e : Event) → Enabled S.surface (left_by S.surface S.start es) e → (p : ℕ) × (A.board.cell p ≡ true) × OpenBy A.last (generation show S.surface S.start es p)
  -- so many events bring every cell to generation k
  pub pace : (k p : ℕ) → A.board.cell p ≡ true → A.rule.degree * cells_to A.board A.board.places * (k + reach) ≤ length es → k ≤ generation show S.surface S.start es p
  pub ends : EndsBy A.last (A.rule.degree * cells_to A.board A.board.places) (length es) (λ p. A.board.cell p ≡ true) (generation show S.surface S.start es)
      ((e : Event) → Enabled S.surface (left_by S.surface S.start es) e → ⊥)

-- for every plan with a cell, and every run of its colony
abbrev pub LocalSynchrony : Type 0
LocalSynchrony =
    (A : Plan) (S : System Mark) (show : Mark → Option Showing) (reach : ℕ) (es : List Event) →
    IsPlan A → IsColony A S → Tells A show → IsWithin A.rule.degree A.board reach →
    (p : ℕ) × (A.board.cell p ≡ true) →
    IsRun S.surface S.start es → Synchronous A S show reach es
