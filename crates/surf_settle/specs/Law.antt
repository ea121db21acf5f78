-- A layout and its local law: each site reads what its neighbours give, along slots of rising rank.
use Rattle.std.specs.Prelude.{◌≡◌, ℕ, ◌*◌, ◌<◌, ◌⊎◌, Bool, true, false, Some, List, length, slice_get, slice_index_or}
use Rattle.surf_tiles.specs.declared.kind.Kind.{Kind}
use Rattle.surf_tiles.specs.declared.kind.Kind.TheVariants.{Empty, Input, Value, Wire, A, B, H, V, P, Q, Gate1, Gate2, Centre}
use Rattle.surf_tiles.specs.declared.netlist.Gate.TheVariants.{Constant, One, Two}
use Rattle.surf_lattice.specs.declared.site.Site.{Site}
use Rattle.surf_lattice.specs.declared.site.GridKind.TheVariants.{Square}
use Rattle.surf_tiles.specs.Netlists.{NetlistOf, IsGate, IsOrdered}
use Rattle.surf_settle.specs.Ways.{Way, offers, wants}
use Rattle.surf_lattice.specs.Grids.{Grid, IsInside, Adjacent, place}

-- a netlist, the sites in row-major order by their kinds, and where the inputs and outputs stand
pub record Plan : Type 0 where
  pub netlist : NetlistOf
  pub width : ℕ
  pub height : ℕ
  pub kinds : List Kind
  pub inputs : List Site
  pub outputs : List Site

-- its sites lie on a square grid without wrap
abbrev pub square_grid : (width height : ℕ) → Grid
square_grid width height = record { kind = Square; wrap = false; width = width; height = height }

abbrev pub grid_of : Plan → Grid
grid_of L = square_grid L.width L.height

-- a slot is a site, or one of the two slots of a crossing's centre: `down` says that it is the
-- vertical one
pub record Slot : Type 0 where
  pub site : Site
  pub down : Bool

-- what the law says exists: the net and the rank of each slot, and the slot that feeds the first
-- and the second read of each site
pub record Lists : Type 0 where
  pub net : Slot → ℕ
  pub rank : Slot → ℕ
  pub feeder : Site → Bool → Slot

abbrev pub slot : Site → Bool → Slot
slot s down = record { site = s; down = down }

abbrev pub kind_at : List Kind → ℕ → Kind
kind_at kinds place = slice_index_or kinds place Empty

abbrev pub kind_of : Plan → Site → Kind
kind_of L s = kind_at L.kinds (place (grid_of L) s)

-- the slot of a site that waits for a read
abbrev pub slot_of : Kind → Bool → Bool
slot_of Centre i = i
slot_of _ i = false

-- a read of a site has a feeder at a neighbouring site, of lower rank than the slot that waits for
-- it, which offers its value on the way that is wanted
pub record IsFed (L : Plan) (l : Lists) (s : Site) (i : Bool) (w : Way) : Type 0 where
  pub beside : Adjacent (grid_of L) (l.feeder s i).site s
  pub offered : offers (kind_of L (l.feeder s i).site) (l.feeder s i).down ≡ Some w
  pub lower : l.rank (l.feeder s i) < l.rank (slot s (slot_of (kind_of L s) i))

-- a slot of p feeds a read of q
abbrev pub Feeds : Plan → Lists → Site → Site → Type 0
Feeds L l p q = (i : Bool) × (w : Way) × (u : Bool) × (wants (kind_of L q) i ≡ Some w)
    × (l.feeder q i ≡ slot p u)

-- the nets of a site's slots follow from those that it reads
abbrev pub NetLaw : NetlistOf → Kind → (own below one two : ℕ) → Type 0
NetLaw N Empty own below one two = Unit {0}
NetLaw N Input own below one two = Unit {0}
NetLaw N (Value v) own below one two = IsGate N own (Constant v)
NetLaw N Wire own below one two = own ≡ one
NetLaw N A own below one two = own ≡ one
NetLaw N B own below one two = own ≡ one
NetLaw N H own below one two = own ≡ one
NetLaw N V own below one two = own ≡ one
NetLaw N P own below one two = own ≡ one
NetLaw N Q own below one two = own ≡ one
NetLaw N (Gate1 zero o) own below one two = IsGate N own (One zero o one)
NetLaw N (Gate2 t00 t01 t10 t11) own below one two = IsGate N own (Two t00 t01 t10 t11 one two)
NetLaw N Centre own below one two = (own ≡ one) × (below ≡ two)

pub record LocalLaw (L : Plan) (l : Lists) : Type 0 where
  pub ordered : IsOrdered L.netlist
  pub long : length L.kinds ≡ L.width * L.height
  pub fed : (s : Site) → IsInside (grid_of L) s → (i : Bool) (w : Way) →
      wants (kind_of L s) i ≡ Some w → IsFed L l s i w
  -- what q could read of its neighbour p, it reads of it, or q feeds p
  pub linked : (p q : Site) → Adjacent (grid_of L) p q → (u i : Bool) (w : Way) →
      offers (kind_of L p) u ≡ Some w → wants (kind_of L q) i ≡ Some w → (l.feeder q i ≡ slot p u)
      ⊎ Feeds L l q p
  pub nets : (s : Site) → IsInside (grid_of L) s →
      NetLaw L.netlist (kind_of L s) (l.net (slot s false)) (l.net (slot s true))
      (l.net (l.feeder s false)) (l.net (l.feeder s true))
  -- the i-th input site is an input slot of the i-th input's net, and no other slot is one
  pub as_many_inputs : length L.inputs ≡ L.netlist.inputs
  pub input : (i : ℕ) (s : Site) → slice_get L.inputs i ≡ Some s → IsInside (grid_of L) s
      × (kind_of L s ≡ Input) × (l.net (slot s false) ≡ i)
  pub inputs_only : (s : Site) → IsInside (grid_of L) s → kind_of L s ≡ Input →
      (i : ℕ) × (slice_get L.inputs i ≡ Some s)
  -- the i-th output site is a wire of that output's net
  pub as_many_outputs : length L.outputs ≡ length L.netlist.outputs
  pub output : (i : ℕ) (s : Site) (net : ℕ) → slice_get L.outputs i ≡ Some s →
      slice_get L.netlist.outputs i ≡ Some net → IsInside (grid_of L) s × (kind_of L s ≡ Wire)
      × (l.net (slot s false) ≡ net)

abbrev pub IsLawful : Plan → Type 0
IsLawful L = (l : Lists) × LocalLaw L l
