-- Systems of rules on the sites of a grid, their events and their runs. N is any kind of name, and
-- a configuration is the row-major list of the names.
use Rattle.std.specs.Prelude.{◌≡◌, ℕ, ◌<◌, List, [], ◌∷◌, Option, Some, None, slice_get, slice_set}
use Rattle.surf_lattice.specs.declared.site.Site.{Site}
use Rattle.surf_lattice.specs.Grids.{Grid, IsInside, Adjacent, place}
use Rattle.surf_world.specs.declared.event.Event.{Event}

-- a rule: its rate in millionths, the names that it asks for, and what they become
pub record Rule (N : Type 0) : Type 0 where
  pub rate : ℕ
  pub left : N
  pub right : Option N
  pub left_after : N
  pub right_after : Option N

-- a grid and the rules of its sites
pub record Surface (N : Type 0) : Type 0 where
  pub grid : Grid
  pub rules : List (Rule N)

-- a surface and the configuration that it starts in
pub record System (N : Type 0) : Type 0 where
  pub surface : Surface N
  pub start : List N

-- the site is inside and holds this name
abbrev pub Holds : {N : Type 0} → Grid → List N → Site → N → Type 0
Holds g c p a = IsInside g p × (slice_get c (place g p) ≡ Some a)

-- the second site is as the rule asks: adjacent and of its name, or absent
abbrev pub FitsSecond : {N : Type 0} → Grid → List N → Site → Option N → Option Site → Type 0
FitsSecond g c p None None = Unit {0}
FitsSecond g c p (Some b) (Some q) = Adjacent g p q × Holds g c q b
FitsSecond g c p None (Some q) = ⊥
FitsSecond g c p (Some b) None = ⊥

abbrev pub Fits : {N : Type 0} → Grid → List N → Event → Option (Rule N) → Type 0
Fits g c e None = ⊥
Fits g c e (Some r) =
    (0 < r.rate) × Holds g c e.first r.left × FitsSecond g c e.first r.right e.second

-- the event may happen in the configuration
abbrev pub Enabled : {N : Type 0} → Surface N → List N → Event → Type 0
Enabled S c e = Fits S.grid c e (slice_get S.rules e.rule)

abbrev pub with_second : {N : Type 0} → Grid → List N → Option N → Option Site → List N
with_second g c None q = c
with_second g c (Some b) None = c
with_second g c (Some b) (Some q) = slice_set c (place g q) b

abbrev pub with_rule : {N : Type 0} → Grid → List N → Event → Option (Rule N) → List N
with_rule g c e None = c
with_rule g c e (Some r) =
    with_second g (slice_set c (place g e.first) r.left_after) r.right_after e.second

-- the configuration after the event
abbrev pub after : {N : Type 0} → Surface N → List N → Event → List N
after S c e = with_rule S.grid c e (slice_get S.rules e.rule)

-- each event is enabled at its turn
abbrev pub IsRun : {N : Type 0} → Surface N → List N → List Event → Type 0
IsRun S c [] = Unit {0}
IsRun S c (e ∷ es) = Enabled S c e × IsRun S (after S c e) es

-- the configuration that the events leave
abbrev pub left_by : {N : Type 0} → Surface N → List N → List Event → List N
left_by S c [] = c
left_by S c (e ∷ es) = left_by S (after S c e) es

-- no event may happen
abbrev pub Stuck : {N : Type 0} → Surface N → List N → Type 0
Stuck S c = (e : Event) → Enabled S c e → ⊥
