-- The surface of a layout, and what it is for the surface to settle.
use Rattle.std.specs.Prelude.{◌≡◌, ℕ, ◌≤◌, ◌⊎◌, Bool, if◌then◌else◌, Option, Some, None, List, [], ◌∷◌, map, sum, length, slice_get, slice_set}
use Rattle.surf_lattice.specs.declared.site.Site.{Site}
use Rattle.surf_lattice.specs.Grids.{Grid, IsInside, place}
use Rattle.surf_world.specs.declared.event.Event.{Event}
use Rattle.surf_world.specs.Systems.{Surface, IsRun, left_by, Stuck}
use Rattle.surf_world.specs.Systems as systems
use Rattle.surf_tiles.specs.declared.reaction.Reaction.{Reaction}
use Rattle.surf_tiles.specs.declared.state.State.{State}
use Rattle.surf_tiles.specs.declared.state.State.TheVariants.{Dot, Unset, Bit, BlankWire, Held, BlankP, BlankQ, OneGate, TwoGate, WaitsA, WaitsB, Crossing}
use Rattle.surf_tiles.specs.Netlists.{net_meaning, value_in}
use Rattle.surf_tiles.specs.Kinds.{name_of, changes_of}
use Rattle.surf_tiles.specs.Reactions.{giver, reader, outcome, reactions}
use Rattle.surf_tiles.specs.States.{digit, spell}
use Rattle.surf_settle.specs.Law.{Plan, Lists, LocalLaw, slot, grid_of}

-- a reaction as a rule over texts: its rate is 1, in millionths, and the first site keeps its name
abbrev pub rule_of : Reaction → systems.Rule (List ℕ)
rule_of r = record {
  rate = 1000000;
  left = spell (giver r);
  right = Some (spell (reader r));
  left_after = spell (giver r);
  right_after = Some (spell (outcome r));
}

-- the 122 rules, over texts
abbrev pub circuit_rules : List (systems.Rule (List ℕ))
circuit_rules = map rule_of reactions

-- the surface of a layout, and the names that its sites begin with
abbrev pub surface_of : Plan → Surface (List ℕ)
surface_of L = record { grid = grid_of L; rules = circuit_rules }

abbrev pub blank_names : Plan → List (List ℕ)
blank_names L = map name_of L.kinds

-- the names with `0` or `1` by these bits at these sites
abbrev pub with_inputs : Grid → List (List ℕ) → List Site → List Bool → List (List ℕ)
with_inputs g c [] bits = c
with_inputs g c (s ∷ ss) [] = c
with_inputs g c (s ∷ ss) (b ∷ bits) = with_inputs g (slice_set c (place g s) (digit b ∷ [])) ss bits

-- the names of a layout whose inputs are set
abbrev pub start_of : Plan → List Bool → List (List ℕ)
start_of L bits = with_inputs (grid_of L) (blank_names L) L.inputs bits

-- the names after these events
abbrev pub names_after : Plan → List Bool → List Event → List (List ℕ)
names_after L bits es = left_by (surface_of L) (start_of L bits) es

abbrev pub IsRunOf : Plan → List Bool → List Event → Type 0
IsRunOf L bits es = IsRun (surface_of L) (start_of L bits) es

-- it is a run that can't go on
abbrev pub IsDone : Plan → List Bool → List Event → Type 0
IsDone L bits es = IsRunOf L bits es × Stuck (surface_of L) (names_after L bits es)

-- the number of events of a layout
abbrev pub events_of : Plan → ℕ
events_of L = sum (map changes_of L.kinds)

-- the value that a slot of a site with this name is filled with; `down` says that it is the
-- vertical slot of a centre
abbrev pub slot_value : State → (down : Bool) → Option Bool
slot_value Dot down = None
slot_value Unset down = None
slot_value (Bit b) down = if down then None else Some b
slot_value BlankWire down = None
slot_value (Held port held) down = if down then None else held
slot_value BlankP down = None
slot_value BlankQ down = None
slot_value (OneGate zero one) down = None
slot_value (TwoGate t00 t01 t10 t11) down = None
slot_value (WaitsA zero one) down = None
slot_value (WaitsB zero one) down = None
slot_value (Crossing across below) down = if down then below else across

-- the name of a site after these events
abbrev pub name_after : Plan → List Bool → List Event → Site → Option (List ℕ)
name_after L bits es s = slice_get (names_after L bits es) (place (grid_of L) s)

-- a filled slot holds the value of its net, whichever lists show that the law holds
abbrev pub FilledRight : Plan → List Bool → Type 0
FilledRight L bits = (l : Lists) → LocalLaw L l → (es : List Event) → IsRunOf L bits es →
    (s : Site) → IsInside (grid_of L) s → (name : State) →
    name_after L bits es s ≡ Some (spell name) →
    (down v : Bool) → slot_value name down ≡ Some v → v
    ≡ value_in (net_meaning L.netlist bits) (l.net (slot s down))

abbrev pub wire_name : List ℕ
wire_name = 119 ∷ []

-- the site shows the value of the net
abbrev pub Shows : Plan → List Bool → List Event → Site → ℕ → Type 0
Shows L bits es s net =
    name_after L bits es s ≡ Some (digit (value_in (net_meaning L.netlist bits) net) ∷ [])

-- a fact of each output's site and its net
abbrev pub EachOutput : Plan → (Site → ℕ → Type 0) → Type 0
EachOutput L P = (i : ℕ) (s : Site) (net : ℕ) → slice_get L.outputs i ≡ Some s →
    slice_get L.netlist.outputs i ≡ Some net → P s net

-- what every run of a layout does whose inputs are set to these bits
pub record Settles (L : Plan) (bits : List Bool) : Type 0 where
  pub filled : FilledRight L bits
  -- an output is a blank wire or shows its net's value
  pub safe : (es : List Event) → IsRunOf L bits es →
      EachOutput L (λ s net. (name_after L bits es s ≡ Some wire_name) ⊎ Shows L bits es s net)
  pub at_most : (es : List Event) → IsRunOf L bits es → length es ≤ events_of L
  pub exactly : (es : List Event) → IsDone L bits es → length es ≡ events_of L
  pub settled : (es : List Event) → IsDone L bits es → EachOutput L (λ s net. Shows L bits es s net)
  pub one_end : (es es' : List Event) → IsDone L bits es → IsDone L bits es' →
      names_after L bits es ≡ names_after L bits es'

-- for all bits
abbrev pub SettlesAlways : Plan → Type 0
SettlesAlways L = (bits : List Bool) → length bits ≡ L.netlist.inputs → Settles L bits
