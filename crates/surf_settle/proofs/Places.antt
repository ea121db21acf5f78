-- The local law over places. A site is named by its place in row-major order, and a slot by its site and, at a crossing's centre, whether it is the vertical one.
use Rattle.std.specs.Prelude.{◌≡◌, ℕ, ◌*◌, ◌<◌, ◌⊎◌, Bool, true, false, cond, Some, List, length, slice_get}
use Rattle.surf_tiles.specs.declared.kind.Kind.{Kind}
use Rattle.surf_tiles.specs.declared.kind.Kind.TheVariants.{Empty, Input, Value, Wire, A, B, H, V, P, Q, Gate1, Gate2, Centre}
use Rattle.surf_lattice.specs.declared.site.Site.{Site}
use Rattle.surf_tiles.specs.Netlists.{IsOrdered}
use Rattle.surf_settle.specs.Law.{Plan, kind_at, slot_of, NetLaw}
use Rattle.surf_settle.proofs.Squares.{place_of, Near}
use Rattle.surf_settle.specs.Ways.{Way, offers, wants}

pub record Slot : Type 0 where
  pub place : ℕ
  pub down : Bool

-- what the law says exists: the net and the rank of each slot, and for each site the slot that feeds its first read and its second
pub record Lists : Type 0 where
  pub net : ℕ → Bool → ℕ
  pub rank : ℕ → Bool → ℕ
  pub feeder : ℕ → Bool → Slot

-- read i of site q has a feeder at a neighbouring site, of lower rank, which offers the value on the way that is wanted
pub record IsFed (kinds : List Kind) (near : ℕ → ℕ → Type 0) (l : Lists) (q : ℕ) (i : Bool) (w : Way) : Type 0 where
  pub beside : near (l.feeder q i).place q
  pub offered : offers (kind_at kinds (l.feeder q i).place) (l.feeder q i).down ≡ Some w
  pub lower : l.rank (l.feeder q i).place (l.feeder q i).down < l.rank q (slot_of (kind_at kinds q) i)

-- a slot of p feeds a read of q
abbrev pub Feeds : List Kind → Lists → ℕ → ℕ → Type 0
Feeds kinds l p q = (i : Bool) × (w : Way) × (u : Bool) × (wants (kind_at kinds q) i ≡ Some w) × (l.feeder q i ≡ record { place = p; down = u })

-- the part of the law on feeders and neighbours
pub record IsWired (kinds : List Kind) (near : ℕ → ℕ → Type 0) (l : Lists) : Type 0 where
  pub fed : (q : ℕ) (i : Bool) (w : Way) → wants (kind_at kinds q) i ≡ Some w → IsFed kinds near l q i w
  -- what a neighbour could read by the rules, it reads by the lists, or the other way round
  pub linked : (p q : ℕ) → near p q → (u i : Bool) (w : Way) → offers (kind_at kinds p) u ≡ Some w → wants (kind_at kinds q) i ≡ Some w →
      (l.feeder q i ≡ record { place = p; down = u }) ⊎ Feeds kinds l q p

-- the value of each slot of a site follows from those that it reads
abbrev pub Fed : Kind → (own below one two : Bool) → Type 0
Fed Empty own below one two = Unit {0}
Fed Input own below one two = Unit {0}
Fed (Value v) own below one two = own ≡ v
Fed Wire own below one two = own ≡ one
Fed A own below one two = own ≡ one
Fed B own below one two = own ≡ one
Fed H own below one two = own ≡ one
Fed V own below one two = own ≡ one
Fed P own below one two = own ≡ one
Fed Q own below one two = own ≡ one
Fed (Gate1 z o) own below one two = own ≡ cond one o z
Fed (Gate2 t00 t01 t10 t11) own below one two = own ≡ cond one (cond two t11 t10) (cond two t01 t00)
Fed Centre own below one two = (own ≡ one) × (below ≡ two)

-- the value of the slot that feeds read i of q
abbrev pub fed_value : (ℕ → Bool) → Lists → ℕ → Bool → Bool
fed_value val l q i = val (l.net (l.feeder q i).place (l.feeder q i).down)

abbrev pub IsValued : List Kind → Lists → (ℕ → Bool) → Type 0
IsValued kinds l val = (q : ℕ) → Fed (kind_at kinds q) (val (l.net q false)) (val (l.net q true)) (fed_value val l q false) (fed_value val l q true)

-- the net of the slot that feeds read i of q
abbrev pub fed_net : Lists → ℕ → Bool → ℕ
fed_net l q i = l.net (l.feeder q i).place (l.feeder q i).down

pub record PlaceLaw (L : Plan) (l : Lists) : Type 0 where
  pub ordered : IsOrdered L.netlist
  pub long : length L.kinds ≡ L.width * L.height
  pub wired : IsWired L.kinds (Near L.width L.height) l
  pub nets : (q : ℕ) → NetLaw L.netlist (kind_at L.kinds q) (l.net q false) (l.net q true) (fed_net l q false) (fed_net l q true)
  -- the i-th input site is an input slot of the i-th input's net, and there is no other
  pub as_many_inputs : length L.inputs ≡ L.netlist.inputs
  pub input : (i : ℕ) (s : Site) → slice_get L.inputs i ≡ Some s → (kind_at L.kinds (place_of L.width s) ≡ Input) × (l.net (place_of L.width s) false ≡ i)
  pub inputs_only : (q : ℕ) → kind_at L.kinds q ≡ Input → (i : ℕ) × (s : Site) × (slice_get L.inputs i ≡ Some s) × (place_of L.width s ≡ q)
  -- the i-th output site is a wire of that output's net
  pub as_many_outputs : length L.outputs ≡ length L.netlist.outputs
  pub output : (i : ℕ) (s : Site) (net : ℕ) → slice_get L.outputs i ≡ Some s → slice_get L.netlist.outputs i ≡ Some net → (kind_at L.kinds (place_of L.width s) ≡ Wire) × (l.net (place_of L.width s) false ≡ net)
