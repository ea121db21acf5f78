-- The local law in the words of names and rules: what a site can be named, and who could react with
-- whom.
use Rattle.std.specs.Prelude.{◌≡◌, ℕ, ◌*◌, ◌<◌, ◌⊎◌, Bool, true, false, cond, Some, List, [], ◌∷◌, length, slice_get}
use Rattle.surf_tiles.specs.declared.kind.Kind.{Kind}
use Rattle.surf_tiles.specs.declared.kind.Kind.TheVariants.{Empty, Input, Value, Wire, A, B, H, V, P, Q, Gate1, Gate2, Centre}
use Rattle.surf_tiles.specs.declared.netlist.Gate.TheVariants.{Constant, One, Two}
use Rattle.surf_lattice.specs.declared.site.Site.{Site}
use Rattle.surf_tiles.specs.Netlists.{IsGate, IsOrdered, nets_of}
use Rattle.surf_tiles.specs.declared.state.State.{State}
use Rattle.surf_tiles.specs.declared.state.State.TheVariants.{Bit}
use Rattle.surf_tiles.specs.declared.reaction.Reaction.{Reaction}
use Rattle.surf_tiles.specs.Reactions.{giver, reader, outcome}
use Rattle.surf_lattice.specs.Grids.{IsInside, Adjacent}
use Rattle.surf_settle.specs.Law.{Plan, Slot, slot, kind_of, grid_of, IsLawful}
use Rattle.surf_tiles.specs.Kinds.{blank}

-- the three lists
pub record SlotLists : Type 0 where
  pub net : Slot → ℕ
  pub rank : Slot → ℕ
  pub feeders : Slot → List Slot

abbrev pub IsSlotOf : Kind → Bool → Type 0
IsSlotOf Empty u = ⊥
IsSlotOf Centre u = Unit {0}
IsSlotOf _ u = u ≡ false

abbrev pub IsSlot : Plan → Slot → Type 0
IsSlot L t = IsInside (grid_of L) t.site × IsSlotOf (kind_of L t.site) t.down

-- a feeder is a slot at a neighbouring site, of lower rank
pub record IsFeeder (L : Plan) (l : SlotLists) (f s : Slot) : Type 0 where
  pub is_slot : IsSlot L f
  pub beside : Adjacent (grid_of L) f.site s.site
  pub lower : l.rank f < l.rank s

-- the kinds that feed a wire, a port or a one-input gate
abbrev pub IsPlain : Kind → Type 0
IsPlain Empty = ⊥
IsPlain Input = Unit {0}
IsPlain (Value v) = Unit {0}
IsPlain Wire = Unit {0}
IsPlain A = ⊥
IsPlain B = ⊥
IsPlain H = ⊥
IsPlain V = ⊥
IsPlain P = Unit {0}
IsPlain Q = Unit {0}
IsPlain (Gate1 zero one) = Unit {0}
IsPlain (Gate2 t00 t01 t10 t11) = Unit {0}
IsPlain Centre = ⊥

abbrev pub HasOne : Plan → SlotLists → Slot → (Slot → Type 0) → Type 0
HasOne L l s F = (f : Slot) × (l.feeders s ≡ f ∷ []) × IsFeeder L l f s × F f

abbrev pub Carries : Plan → SlotLists → Slot → (Slot → Type 0) → Type 0
Carries L l s F = HasOne L l s (λ f. (l.net s ≡ l.net f) × F f)

-- parts 1 to 3, for a slot of a site of this kind
abbrev pub SlotLaw : Plan → SlotLists → Kind → Slot → Type 0
SlotLaw L l Empty s = Unit {0}
SlotLaw L l Input s = l.feeders s ≡ []
SlotLaw L l (Value v) s = (l.feeders s ≡ []) × IsGate L.netlist (l.net s) (Constant v)
SlotLaw L l Wire s = Carries L l s (λ f. IsPlain (kind_of L f.site))
SlotLaw L l A s = Carries L l s (λ f. IsPlain (kind_of L f.site))
SlotLaw L l B s = Carries L l s (λ f. IsPlain (kind_of L f.site))
SlotLaw L l H s = Carries L l s (λ f. IsPlain (kind_of L f.site))
SlotLaw L l V s = Carries L l s (λ f. IsPlain (kind_of L f.site))
SlotLaw L l P s = Carries L l s (λ f. (kind_of L f.site ≡ Centre) × (f.down ≡ false))
SlotLaw L l Q s = Carries L l s (λ f. (kind_of L f.site ≡ Centre) × (f.down ≡ true))
SlotLaw L l (Gate1 zero one) s =
    HasOne L l s (λ f. IsGate L.netlist (l.net s) (One zero one (l.net f))
    × IsPlain (kind_of L f.site))
SlotLaw L l (Gate2 t00 t01 t10 t11) s =
    (f : Slot) × (g : Slot) × (l.feeders s ≡ f ∷ g ∷ []) × IsFeeder L l f s × IsFeeder L l g s
    × (kind_of L f.site ≡ A) × (kind_of L g.site ≡ B)
    × IsGate L.netlist (l.net s) (Two t00 t01 t10 t11 (l.net f) (l.net g))
SlotLaw L l Centre s = Carries L l s (λ f. kind_of L f.site ≡ cond s.down V H)

-- the names that a site of this kind can take
pub data CanTake (k : Kind) : State → Type 0 where
  Begins : (s : State) → s ≡ blank k → CanTake k s
  Is_set : (s : State) (b : Bool) → k ≡ Input → s ≡ Bit b → CanTake k s
  Is_put : (s : State) (r : Reaction) → CanTake k (reader r) → s ≡ outcome r → CanTake k s

abbrev pub Among : Slot → List Slot → Type 0
Among t [] = ⊥
Among t (f ∷ fs) = (t ≡ f) ⊎ Among t fs

pub record LiteralLaw (L : Plan) (l : SlotLists) : Type 0 where
  pub ordered : IsOrdered L.netlist
  pub long : length L.kinds ≡ L.width * L.height
  pub in_range : (s : Slot) → IsSlot L s → l.net s < nets_of L.netlist
  pub slots : (s : Slot) → IsSlot L s → SlotLaw L l (kind_of L s.site) s
  pub neighbours : (p q : Site) → Adjacent (grid_of L) p q → (r : Reaction) →
      CanTake (kind_of L p) (giver r) → CanTake (kind_of L q) (reader r) →
      (u : Bool) × (v : Bool) × IsSlot L (slot p u) × IsSlot L (slot q v)
      × (Among (slot p u) (l.feeders (slot q v)) ⊎ Among (slot q v) (l.feeders (slot p u)))
  pub as_many_inputs : length L.inputs ≡ L.netlist.inputs
  pub input : (i : ℕ) (s : Site) → slice_get L.inputs i ≡ Some s → IsInside (grid_of L) s
      × (kind_of L s ≡ Input) × (l.net (slot s false) ≡ i)
  pub inputs_only : (s : Site) → IsInside (grid_of L) s → kind_of L s ≡ Input →
      (i : ℕ) × (slice_get L.inputs i ≡ Some s)
  pub as_many_outputs : length L.outputs ≡ length L.netlist.outputs
  pub output : (i : ℕ) (s : Site) (net : ℕ) → slice_get L.outputs i ≡ Some s →
      slice_get L.netlist.outputs i ≡ Some net → IsInside (grid_of L) s × (kind_of L s ≡ Wire)
      × (l.net (slot s false) ≡ net)

-- the law in these words gives the law of ways
abbrev pub GivesWays : Type 0
GivesWays = (L : Plan) (l : SlotLists) → LiteralLaw L l → IsLawful L

-- and follows from it
abbrev pub FollowsFromWays : Type 0
FollowsFromWays = (L : Plan) → IsLawful L → (l : SlotLists) × LiteralLaw L l
