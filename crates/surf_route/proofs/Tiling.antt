-- Facts on the tables of tiles.
use Rattle.std.proofs.Common.{◌≡◌, ℕ, Bool, true, false, cond, Some, refl, sym, ap, subst}
use Rattle.surf_tiles.specs.declared.kind.Kind.{Kind}
use Rattle.surf_tiles.specs.declared.kind.Kind.TheVariants.{Empty, Input, Wire}
use Rattle.surf_tiles.specs.declared.state.Port.TheVariants.{AtA, AtB, AtH, AtV}
use Rattle.surf_settle.specs.Ways.{Way, Plain, By, Across, Down, offers, wants}
use Rattle.surf_settle.specs.Law.{slot_of, NetLaw}
use Rattle.surf_tiles.specs.Tiles.{Side, North, East, South, West, Spot, Mid, Corner, At, kind_in}
use Rattle.surf_tiles.specs.declared.tile.Tile.{Tile}
use Rattle.surf_tiles.specs.declared.tile.Tile.TheVariants.{Empty as NoTile, Wire as Wires, Input as Inputs, Constant as Constants, Gate1 as Ones, Gate2 as Twos, Cross as Crosses, Output as Outputs}
use Rattle.surf_route.specs.TileLaw.{same_side, Shut, In, Out, flow, enters, joined, IsEntered, TileNets}
use Rattle.surf_tiles.specs.Netlists.{NetlistOf}
use Rattle.surf_tiles.specs.declared.tile.Heading.TheVariants.{East as Eastward, West as Westward}

wires_shut : (b c : Bool) → cond b (cond c In Out) Shut ≡ Shut → cond b Wire Empty ≡ Empty
wires_shut true true h = cc
wires_shut true false h = cc
wires_shut false c h = refl

wires_in : (b c : Bool) → cond b (cond c In Out) Shut ≡ In → (b ≡ true) × (c ≡ true)
wires_in true true h = (refl, refl)
wires_in true false h = absurd cc
wires_in false c h = absurd cc

wires_out : (b c : Bool) → cond b (cond c In Out) Shut ≡ Out → b ≡ true
wires_out true true h = cc
wires_out true false h = refl
wires_out false c h = cc

wire_port : (b i : Bool) (v : Way) → wants (cond b Wire Empty) i ≡ Some v → (i ≡ false) × (v ≡ Plain)
wire_port true true v h = absurd cc
wire_port true false v h = (refl, cc)
wire_port false i v h = absurd cc

wire_port_offers : (b u : Bool) (v : Way) → offers (cond b Wire Empty) u ≡ Some v → (u ≡ false) × (v ≡ Plain)
wire_port_offers true true v h = absurd cc
wire_port_offers true false v h = (refl, cc)
wire_port_offers false u v h = absurd cc

wire_mid : (i : Bool) (v : Way) → wants Wire i ≡ Some v → (i ≡ false) × (v ≡ Plain)
wire_mid true v h = absurd cc
wire_mid false v h = (refl, cc)

wire_mid_offers : (u : Bool) (v : Way) → offers Wire u ≡ Some v → (u ≡ false) × (v ≡ Plain)
wire_mid_offers true v h = absurd cc
wire_mid_offers false v h = (refl, cc)

pub same_side-eq : (a b : Side) → same_side a b ≡ true → a ≡ b
same_side-eq North North h = refl
same_side-eq East East h = refl
same_side-eq South South h = refl
same_side-eq West West h = refl
same_side-eq _ _ h = cc

-- a side through which nothing goes has no site of a kind
pub shut_empty : (side : Side) (t : Tile) (entry : Side) → flow t entry side ≡ Shut → kind_in t (At side) ≡ Empty
shut_empty North (Wires sides) entry h = wires_shut _ _ h
shut_empty North (Crosses Eastward) entry h = cc
shut_empty North (Outputs true) entry h = cc
shut_empty East (Wires sides) entry h = wires_shut _ _ h
shut_empty East (Crosses Eastward) entry h = cc
shut_empty East (Outputs true) entry h = cc
shut_empty South (Wires sides) entry h = wires_shut _ _ h
shut_empty South (Crosses Eastward) entry h = cc
shut_empty South (Outputs true) entry h = cc
shut_empty West (Wires sides) entry h = wires_shut _ _ h
shut_empty West (Crosses Eastward) entry h = cc
shut_empty West (Outputs true) entry h = cc
shut_empty _ _ entry h = cc

-- a way out offers a plain value
pub in_offered : (side : Side) (t : Tile) (entry : Side) → flow t entry side ≡ Out → offers (kind_in t (At side)) false ≡ Some Plain
in_offered North (Wires sides) entry h = (let p = wires_out _ _ h in rw p refl)
in_offered North (Crosses Eastward) entry h = cc
in_offered North (Outputs true) entry h = cc
in_offered East (Wires sides) entry h = (let p = wires_out _ _ h in rw p refl)
in_offered East (Crosses Eastward) entry h = cc
in_offered East (Outputs true) entry h = cc
in_offered South (Wires sides) entry h = (let p = wires_out _ _ h in rw p refl)
in_offered South (Crosses Eastward) entry h = cc
in_offered South (Outputs true) entry h = cc
in_offered West (Wires sides) entry h = (let p = wires_out _ _ h in rw p refl)
in_offered West (Crosses Eastward) entry h = cc
in_offered West (Outputs true) entry h = cc
in_offered _ _ entry h = cc

-- a port wants one value
pub port_wants : (i : Bool) (side : Side) (t : Tile) (v : Way) → wants (kind_in t (At side)) i ≡ Some v → i ≡ false
port_wants true North (Wires sides) v h = (wire_port _ _ v h).0
port_wants true North (Crosses Eastward) v h = cc
port_wants true North (Outputs true) v h = cc
port_wants true East (Wires sides) v h = (wire_port _ _ v h).0
port_wants true East (Crosses Eastward) v h = cc
port_wants true East (Outputs true) v h = cc
port_wants true South (Wires sides) v h = (wire_port _ _ v h).0
port_wants true South (Crosses Eastward) v h = cc
port_wants true South (Outputs true) v h = cc
port_wants true West (Wires sides) v h = (wire_port _ _ v h).0
port_wants true West (Crosses Eastward) v h = cc
port_wants true West (Outputs true) v h = cc
port_wants false North (Wires sides) v h = (wire_port _ _ v h).0
port_wants false North (Crosses Eastward) v h = cc
port_wants false North (Outputs true) v h = cc
port_wants false East (Wires sides) v h = (wire_port _ _ v h).0
port_wants false East (Crosses Eastward) v h = cc
port_wants false East (Outputs true) v h = cc
port_wants false South (Wires sides) v h = (wire_port _ _ v h).0
port_wants false South (Crosses Eastward) v h = cc
port_wants false South (Outputs true) v h = cc
port_wants false West (Wires sides) v h = (wire_port _ _ v h).0
port_wants false West (Crosses Eastward) v h = cc
port_wants false West (Outputs true) v h = cc
port_wants _ _ _ v h = cc

-- a port offers one value
pub port_offers : (u : Bool) (side : Side) (t : Tile) (v : Way) → offers (kind_in t (At side)) u ≡ Some v → u ≡ false
port_offers true North (Wires sides) v h = (wire_port_offers _ _ v h).0
port_offers true North (Crosses Eastward) v h = cc
port_offers true North (Outputs true) v h = cc
port_offers true East (Wires sides) v h = (wire_port_offers _ _ v h).0
port_offers true East (Crosses Eastward) v h = cc
port_offers true East (Outputs true) v h = cc
port_offers true South (Wires sides) v h = (wire_port_offers _ _ v h).0
port_offers true South (Crosses Eastward) v h = cc
port_offers true South (Outputs true) v h = cc
port_offers true West (Wires sides) v h = (wire_port_offers _ _ v h).0
port_offers true West (Crosses Eastward) v h = cc
port_offers true West (Outputs true) v h = cc
port_offers false North (Wires sides) v h = (wire_port_offers _ _ v h).0
port_offers false North (Crosses Eastward) v h = cc
port_offers false North (Outputs true) v h = cc
port_offers false East (Wires sides) v h = (wire_port_offers _ _ v h).0
port_offers false East (Crosses Eastward) v h = cc
port_offers false East (Outputs true) v h = cc
port_offers false South (Wires sides) v h = (wire_port_offers _ _ v h).0
port_offers false South (Crosses Eastward) v h = cc
port_offers false South (Outputs true) v h = cc
port_offers false West (Wires sides) v h = (wire_port_offers _ _ v h).0
port_offers false West (Crosses Eastward) v h = cc
port_offers false West (Outputs true) v h = cc
port_offers _ _ _ v h = cc

-- a way in wants a plain value
pub in_wants : (i : Bool) (side : Side) (t : Tile) (entry : Side) (v : Way) → flow t entry side ≡ In → wants (kind_in t (At side)) i ≡ Some v → v ≡ Plain
in_wants true North (Wires sides) entry v h k = (wire_port _ _ v k).1
in_wants true North (Crosses Eastward) entry v h k = cc
in_wants true North (Outputs true) entry v h k = cc
in_wants true East (Wires sides) entry v h k = (wire_port _ _ v k).1
in_wants true East (Crosses Eastward) entry v h k = cc
in_wants true East (Outputs true) entry v h k = cc
in_wants true South (Wires sides) entry v h k = (wire_port _ _ v k).1
in_wants true South (Crosses Eastward) entry v h k = cc
in_wants true South (Outputs true) entry v h k = cc
in_wants true West (Wires sides) entry v h k = (wire_port _ _ v k).1
in_wants true West (Crosses Eastward) entry v h k = cc
in_wants true West (Outputs true) entry v h k = cc
in_wants false North (Wires sides) entry v h k = (wire_port _ _ v k).1
in_wants false North (Crosses Eastward) entry v h k = cc
in_wants false North (Outputs true) entry v h k = cc
in_wants false East (Wires sides) entry v h k = (wire_port _ _ v k).1
in_wants false East (Crosses Eastward) entry v h k = cc
in_wants false East (Outputs true) entry v h k = cc
in_wants false South (Wires sides) entry v h k = (wire_port _ _ v k).1
in_wants false South (Crosses Eastward) entry v h k = cc
in_wants false South (Outputs true) entry v h k = cc
in_wants false West (Wires sides) entry v h k = (wire_port _ _ v k).1
in_wants false West (Crosses Eastward) entry v h k = cc
in_wants false West (Outputs true) entry v h k = cc
in_wants _ _ _ entry v h k = cc

wires_slot : (b i : Bool) → slot_of (cond b Wire Empty) i ≡ false
wires_slot true i = refl
wires_slot false i = refl

pub port_slot : (side : Side) (t : Tile) (i : Bool) → slot_of (kind_in t (At side)) i ≡ false
port_slot North (Wires sides) i = wires_slot _ i
port_slot North (Crosses Eastward) i = refl
port_slot North (Outputs true) i = refl
port_slot East (Wires sides) i = wires_slot _ i
port_slot East (Crosses Eastward) i = refl
port_slot East (Outputs true) i = refl
port_slot South (Wires sides) i = wires_slot _ i
port_slot South (Crosses Eastward) i = refl
port_slot South (Outputs true) i = refl
port_slot West (Wires sides) i = wires_slot _ i
port_slot West (Crosses Eastward) i = refl
port_slot West (Outputs true) i = refl
port_slot _ _ i = refl

-- the middle offers what a way out wants
pub out_wants : (i : Bool) (side : Side) (t : Tile) (entry : Side) (v : Way) → flow t entry side ≡ Out → wants (kind_in t (At side)) i ≡ Some v → offers (kind_in t Mid) (joined t side) ≡ Some v
out_wants true North (Wires sides) entry v h k = ap (λ (x : Way). Some x) (sym (wire_port _ _ v k).1)
out_wants true North (Crosses Eastward) entry v h k = cc
out_wants true North (Outputs true) entry v h k = cc
out_wants true East (Wires sides) entry v h k = ap (λ (x : Way). Some x) (sym (wire_port _ _ v k).1)
out_wants true East (Crosses Eastward) entry v h k = cc
out_wants true East (Outputs true) entry v h k = cc
out_wants true South (Wires sides) entry v h k = ap (λ (x : Way). Some x) (sym (wire_port _ _ v k).1)
out_wants true South (Crosses Eastward) entry v h k = cc
out_wants true South (Outputs true) entry v h k = cc
out_wants true West (Wires sides) entry v h k = ap (λ (x : Way). Some x) (sym (wire_port _ _ v k).1)
out_wants true West (Crosses Eastward) entry v h k = cc
out_wants true West (Outputs true) entry v h k = cc
out_wants false North (Wires sides) entry v h k = ap (λ (x : Way). Some x) (sym (wire_port _ _ v k).1)
out_wants false North (Crosses Eastward) entry v h k = cc
out_wants false North (Outputs true) entry v h k = cc
out_wants false East (Wires sides) entry v h k = ap (λ (x : Way). Some x) (sym (wire_port _ _ v k).1)
out_wants false East (Crosses Eastward) entry v h k = cc
out_wants false East (Outputs true) entry v h k = cc
out_wants false South (Wires sides) entry v h k = ap (λ (x : Way). Some x) (sym (wire_port _ _ v k).1)
out_wants false South (Crosses Eastward) entry v h k = cc
out_wants false South (Outputs true) entry v h k = cc
out_wants false West (Wires sides) entry v h k = ap (λ (x : Way). Some x) (sym (wire_port _ _ v k).1)
out_wants false West (Crosses Eastward) entry v h k = cc
out_wants false West (Outputs true) entry v h k = cc
out_wants _ _ _ entry v h k = cc

-- what a way out reads of the middle is the slot that it is joined to
pub out_meets : (u : Bool) (side : Side) (t : Tile) (entry : Side) (v : Way) → flow t entry side ≡ Out → offers (kind_in t Mid) u ≡ Some v → wants (kind_in t (At side)) false ≡ Some v → u ≡ joined t side
out_meets true North (Wires sides) entry v h o k = (wire_mid_offers _ v o).0
out_meets true North (Crosses Eastward) entry v h o k = cc
out_meets true North (Outputs true) entry v h o k = cc
out_meets true East (Wires sides) entry v h o k = (wire_mid_offers _ v o).0
out_meets true East (Crosses Eastward) entry v h o k = cc
out_meets true East (Outputs true) entry v h o k = cc
out_meets true South (Wires sides) entry v h o k = (wire_mid_offers _ v o).0
out_meets true South (Crosses Eastward) entry v h o k = cc
out_meets true South (Outputs true) entry v h o k = cc
out_meets true West (Wires sides) entry v h o k = (wire_mid_offers _ v o).0
out_meets true West (Crosses Eastward) entry v h o k = cc
out_meets true West (Outputs true) entry v h o k = cc
out_meets false North (Wires sides) entry v h o k = (wire_mid_offers _ v o).0
out_meets false North (Crosses Eastward) entry v h o k = cc
out_meets false North (Outputs true) entry v h o k = cc
out_meets false East (Wires sides) entry v h o k = (wire_mid_offers _ v o).0
out_meets false East (Crosses Eastward) entry v h o k = cc
out_meets false East (Outputs true) entry v h o k = cc
out_meets false South (Wires sides) entry v h o k = (wire_mid_offers _ v o).0
out_meets false South (Crosses Eastward) entry v h o k = cc
out_meets false South (Outputs true) entry v h o k = cc
out_meets false West (Wires sides) entry v h o k = (wire_mid_offers _ v o).0
out_meets false West (Crosses Eastward) entry v h o k = cc
out_meets false West (Outputs true) entry v h o k = cc
out_meets _ _ _ entry v h o k = cc

-- what the middle reads of a way in is what it enters by
pub in_meets : (i : Bool) (side : Side) (t : Tile) (entry : Side) (v : Way) → flow t entry side ≡ In → offers (kind_in t (At side)) false ≡ Some v → wants (kind_in t Mid) i ≡ Some v → enters t entry i ≡ side
in_meets true North (Wires sides) entry v h o k = (let p = (wires_in _ _ h).1 in sym (same_side-eq _ _ p))
in_meets true North (Crosses Eastward) entry v h o k = cc
in_meets true North (Outputs true) entry v h o k = cc
in_meets true East (Wires sides) entry v h o k = (let p = (wires_in _ _ h).1 in sym (same_side-eq _ _ p))
in_meets true East (Crosses Eastward) entry v h o k = cc
in_meets true East (Outputs true) entry v h o k = cc
in_meets true South (Wires sides) entry v h o k = (let p = (wires_in _ _ h).1 in sym (same_side-eq _ _ p))
in_meets true South (Crosses Eastward) entry v h o k = cc
in_meets true South (Outputs true) entry v h o k = cc
in_meets true West (Wires sides) entry v h o k = (let p = (wires_in _ _ h).1 in sym (same_side-eq _ _ p))
in_meets true West (Crosses Eastward) entry v h o k = cc
in_meets true West (Outputs true) entry v h o k = cc
in_meets false North (Wires sides) entry v h o k = (let p = (wires_in _ _ h).1 in sym (same_side-eq _ _ p))
in_meets false North (Crosses Eastward) entry v h o k = cc
in_meets false North (Outputs true) entry v h o k = cc
in_meets false East (Wires sides) entry v h o k = (let p = (wires_in _ _ h).1 in sym (same_side-eq _ _ p))
in_meets false East (Crosses Eastward) entry v h o k = cc
in_meets false East (Outputs true) entry v h o k = cc
in_meets false South (Wires sides) entry v h o k = (let p = (wires_in _ _ h).1 in sym (same_side-eq _ _ p))
in_meets false South (Crosses Eastward) entry v h o k = cc
in_meets false South (Outputs true) entry v h o k = cc
in_meets false West (Wires sides) entry v h o k = (let p = (wires_in _ _ h).1 in sym (same_side-eq _ _ p))
in_meets false West (Crosses Eastward) entry v h o k = cc
in_meets false West (Outputs true) entry v h o k = cc
in_meets _ _ _ entry v h o k = cc

same_side-refl : (a : Side) → same_side a a ≡ true
same_side-refl North = refl
same_side-refl East = refl
same_side-refl South = refl
same_side-refl West = refl

pub record MidRead (t : Tile) (entry : Side) (i : Bool) (v : Way) : Type 0 where
  pub comes_in : flow t entry (enters t entry i) ≡ In
  pub offered : offers (kind_in t (At (enters t entry i))) false ≡ Some v

wires_entered : (b c : Bool) → b ≡ true → c ≡ true → cond b (cond c In Out) Shut ≡ In
wires_entered b c p q = cc

wires_offered : (b : Bool) (v : Way) → b ≡ true → v ≡ Plain → offers (cond b Wire Empty) false ≡ Some v
wires_offered b v p q = cc

-- what the middle wants comes in by a side, and is offered there
pub mid_read : (i : Bool) (t : Tile) (entry : Side) (v : Way) → IsEntered t entry → wants (kind_in t Mid) i ≡ Some v → MidRead t entry i v
mid_read false (Wires sides) entry v h k = record { comes_in = wires_entered _ _ h (same_side-refl entry); offered = wires_offered _ v h (wire_mid false v k).1 }
mid_read false (Ones z o) entry v h k = record { comes_in = refl; offered = cc }
mid_read false (Twos t00 t01 t10 t11) entry v h k = record { comes_in = refl; offered = cc }
mid_read true (Twos t00 t01 t10 t11) entry v h k = record { comes_in = refl; offered = cc }
mid_read false (Crosses Eastward) entry v h k = record { comes_in = refl; offered = cc }
mid_read false (Crosses Westward) entry v h k = record { comes_in = refl; offered = cc }
mid_read true (Crosses Eastward) entry v h k = record { comes_in = refl; offered = cc }
mid_read true (Crosses Westward) entry v h k = record { comes_in = refl; offered = cc }
mid_read false (Outputs true) entry v h k = record { comes_in = refl; offered = cc }
mid_read false (Outputs false) entry v h k = record { comes_in = refl; offered = cc }
mid_read _ _ entry v h k = absurd cc

pub record InRead (t : Tile) (entry side : Side) : Type 0 where
  pub which : Bool
  pub way : Way
  pub wanted : wants (kind_in t Mid) which ≡ Some way
  pub enters_by : enters t entry which ≡ side

-- a way in is read by the middle
pub in_read : (side : Side) (t : Tile) (entry : Side) → flow t entry side ≡ In → InRead t entry side
in_read North (Wires sides) entry h = record { which = false; way = Plain; wanted = refl; enters_by = (let p = (wires_in _ _ h).1 in sym (same_side-eq _ _ p)) }
in_read East (Wires sides) entry h = record { which = false; way = Plain; wanted = refl; enters_by = (let p = (wires_in _ _ h).1 in sym (same_side-eq _ _ p)) }
in_read South (Wires sides) entry h = record { which = false; way = Plain; wanted = refl; enters_by = (let p = (wires_in _ _ h).1 in sym (same_side-eq _ _ p)) }
in_read West (Wires sides) entry h = record { which = false; way = Plain; wanted = refl; enters_by = (let p = (wires_in _ _ h).1 in sym (same_side-eq _ _ p)) }
in_read North (Ones z o) entry h = record { which = false; way = Plain; wanted = refl; enters_by = refl }
in_read North (Twos t00 t01 t10 t11) entry h = record { which = false; way = By AtA; wanted = refl; enters_by = refl }
in_read East (Twos t00 t01 t10 t11) entry h = record { which = true; way = By AtB; wanted = refl; enters_by = refl }
in_read North (Crosses Eastward) entry h = record { which = true; way = By AtV; wanted = refl; enters_by = refl }
in_read North (Crosses Westward) entry h = record { which = true; way = By AtV; wanted = refl; enters_by = refl }
in_read West (Crosses Eastward) entry h = record { which = false; way = By AtH; wanted = refl; enters_by = refl }
in_read East (Crosses Westward) entry h = record { which = false; way = By AtH; wanted = refl; enters_by = refl }
in_read North (Outputs south) entry h = record { which = false; way = Plain; wanted = refl; enters_by = refl }
in_read South (Outputs true) entry h = absurd cc
in_read South (Outputs false) entry h = absurd cc
in_read _ _ entry h = absurd cc

pub kind_corner : (t : Tile) → kind_in t Corner ≡ Empty
kind_corner NoTile = refl
kind_corner _ = refl

-- the middle's slot that waits for a read is the one that its side is joined to
pub enters_joined : (i : Bool) (t : Tile) (entry : Side) → joined t (enters t entry i) ≡ slot_of (kind_in t Mid) i
enters_joined true (Wires sides) entry = refl
enters_joined false (Wires sides) entry = refl
enters_joined true (Crosses Eastward) entry = refl
enters_joined true (Crosses Westward) entry = refl
enters_joined false (Crosses Eastward) entry = refl
enters_joined false (Crosses Westward) entry = refl
enters_joined _ _ entry = refl

wires_wants : (b : Bool) → b ≡ true → wants (cond b Wire Empty) false ≡ Some Plain
wires_wants b p = rw p refl

-- a way in wants a plain value
pub in_wanting : (side : Side) (t : Tile) (entry : Side) → flow t entry side ≡ In → wants (kind_in t (At side)) false ≡ Some Plain
in_wanting North (Wires sides) entry h = wires_wants _ (wires_in _ _ h).0
in_wanting North (Crosses Eastward) entry h = cc
in_wanting North (Outputs true) entry h = cc
in_wanting East (Wires sides) entry h = wires_wants _ (wires_in _ _ h).0
in_wanting East (Crosses Eastward) entry h = cc
in_wanting East (Outputs true) entry h = cc
in_wanting South (Wires sides) entry h = wires_wants _ (wires_in _ _ h).0
in_wanting South (Crosses Eastward) entry h = cc
in_wanting South (Outputs true) entry h = cc
in_wanting West (Wires sides) entry h = wires_wants _ (wires_in _ _ h).0
in_wanting West (Crosses Eastward) entry h = cc
in_wanting West (Outputs true) entry h = cc
in_wanting _ _ entry h = cc

pub record Wanted (k : Kind) : Type 0 where
  pub way : Way
  pub wanted : wants k false ≡ Some way

wanted_wire : (b : Bool) → b ≡ true → Wanted (cond b Wire Empty)
wanted_wire b p = record { way = Plain; wanted = wires_wants b p }

-- a way out wants something
pub out_wanting : (side : Side) (t : Tile) (entry : Side) → flow t entry side ≡ Out → Wanted (kind_in t (At side))
out_wanting North (Wires sides) entry h = wanted_wire _ (wires_out _ _ h)
out_wanting East (Wires sides) entry h = wanted_wire _ (wires_out _ _ h)
out_wanting South (Wires sides) entry h = wanted_wire _ (wires_out _ _ h)
out_wanting West (Wires sides) entry h = wanted_wire _ (wires_out _ _ h)
out_wanting East (Crosses Eastward) entry h = record { way = Across; wanted = refl }
out_wanting West (Crosses Westward) entry h = record { way = Across; wanted = refl }
out_wanting South (Crosses heading) entry h = record { way = Down; wanted = refl }
out_wanting South (Outputs true) entry h = record { way = Plain; wanted = refl }
out_wanting East Inputs entry h = record { way = Plain; wanted = refl }
out_wanting East (Constants v) entry h = record { way = Plain; wanted = refl }
out_wanting East (Ones z o) entry h = record { way = Plain; wanted = refl }
out_wanting South (Twos t00 t01 t10 t11) entry h = record { way = Plain; wanted = refl }
out_wanting North (Outputs south) entry h = absurd cc
out_wanting North (Crosses heading) entry h = absurd cc
out_wanting _ _ entry h = absurd cc

wire_net : (N : NetlistOf) (b : Bool) (own below one two : ℕ) → own ≡ one → NetLaw N (cond b Wire Empty) own below one two
wire_net N true own below one two e = e
wire_net N false own below one two e = tt

-- a port carries what it reads
pub port_nets : (side : Side) (t : Tile) (N : NetlistOf) (own below one two : ℕ) → own ≡ one → NetLaw N (kind_in t (At side)) own below one two
port_nets North (Wires sides) N own below one two e = wire_net N _ own below one two e
port_nets East (Wires sides) N own below one two e = wire_net N _ own below one two e
port_nets South (Wires sides) N own below one two e = wire_net N _ own below one two e
port_nets West (Wires sides) N own below one two e = wire_net N _ own below one two e
port_nets North (Ones z o) N own below one two e = e
port_nets East (Ones z o) N own below one two e = e
port_nets North (Twos t00 t01 t10 t11) N own below one two e = e
port_nets East (Twos t00 t01 t10 t11) N own below one two e = e
port_nets South (Twos t00 t01 t10 t11) N own below one two e = e
port_nets East Inputs N own below one two e = e
port_nets East (Constants v) N own below one two e = e
port_nets North (Crosses x) N own below one two e = e
port_nets South (Crosses x) N own below one two e = e
port_nets East (Crosses Eastward) N own below one two e = e
port_nets East (Crosses Westward) N own below one two e = e
port_nets West (Crosses Eastward) N own below one two e = e
port_nets West (Crosses Westward) N own below one two e = e
port_nets North (Outputs x) N own below one two e = e
port_nets South (Outputs x) N own below one two e = wire_net N x own below one two e
port_nets _ _ N own below one two e = tt

-- a way out carries the net of the slot that it is joined to
pub out_net : (side : Side) (t : Tile) (entry : Side) (N : NetlistOf) (mid : Bool → ℕ) (ports : Side → ℕ) → flow t entry side ≡ Out → TileNets N t mid ports → ports side ≡ mid (joined t side)
out_net North (Wires sides) entry N mid ports h n = n North (wires_out _ _ h)
out_net East (Wires sides) entry N mid ports h n = n East (wires_out _ _ h)
out_net South (Wires sides) entry N mid ports h n = n South (wires_out _ _ h)
out_net West (Wires sides) entry N mid ports h n = n West (wires_out _ _ h)
out_net East Inputs entry N mid ports h n = n
out_net East (Constants v) entry N mid ports h n = n.0
out_net East (Ones z o) entry N mid ports h n = n.0
out_net South (Twos t00 t01 t10 t11) entry N mid ports h n = n.0
out_net East (Crosses Eastward) entry N mid ports h n = n.0
out_net West (Crosses Westward) entry N mid ports h n = n.1
out_net South (Crosses heading) entry N mid ports h n = n.3
out_net South (Outputs true) entry N mid ports h n = n.1 refl
out_net South (Outputs false) entry N mid ports h n = absurd cc
out_net North (Crosses heading) entry N mid ports h n = absurd cc
out_net _ _ entry N mid ports h n = absurd cc

-- the middle's nets follow from those of the sides by which it is entered
pub mid_nets : (t : Tile) (entry : Side) (N : NetlistOf) (mid : Bool → ℕ) (ports : Side → ℕ) → IsEntered t entry → TileNets N t mid ports → NetLaw N (kind_in t Mid) (mid false) (mid true) (ports (enters t entry false)) (ports (enters t entry true))
mid_nets NoTile entry N mid ports h n = tt
mid_nets (Wires sides) entry N mid ports h n = sym (n entry h)
mid_nets Inputs entry N mid ports h n = tt
mid_nets (Constants v) entry N mid ports h n = n.1
mid_nets (Ones z o) entry N mid ports h n = n.1
mid_nets (Twos t00 t01 t10 t11) entry N mid ports h n = n.1
mid_nets (Crosses Eastward) entry N mid ports h n = (sym n.1, sym n.2)
mid_nets (Crosses Westward) entry N mid ports h n = (sym n.0, sym n.2)
mid_nets (Outputs south) entry N mid ports h n = sym n.0

pub same_nets : (N : NetlistOf) (k : Kind) (own below one two own' below' one' two' : ℕ) → own' ≡ own → below' ≡ below → one' ≡ one → two' ≡ two → NetLaw N k own below one two → NetLaw N k own' below' one' two'
same_nets N k own below one two own' below' one' two' e f g h law =
    subst (λ (n : ℕ). NetLaw N k n below' one' two') (sym e) (subst (λ (n : ℕ). NetLaw N k own n one' two') (sym f) (subst (λ (n : ℕ). NetLaw N k own below n two') (sym g) (subst (λ (n : ℕ). NetLaw N k own below one n) (sym h) law)))

wire_not_input : (b : Bool) → cond b Wire Empty ≡ Input → ⊥
wire_not_input true e = absurd cc
wire_not_input false e = absurd cc

-- an input site is the middle of an input tile
pub input_tile : (p : Spot) (t : Tile) → kind_in t p ≡ Input → (p ≡ Mid) × (t ≡ Inputs)
input_tile Mid Inputs e = (refl, refl)
input_tile Mid _ e = absurd cc
input_tile Corner NoTile e = absurd cc
input_tile Corner _ e = absurd cc
input_tile (At North) (Wires sides) e = absurd (wire_not_input _ e)
input_tile (At North) (Crosses Eastward) e = absurd cc
input_tile (At North) (Outputs true) e = absurd cc
input_tile (At East) (Wires sides) e = absurd (wire_not_input _ e)
input_tile (At East) (Crosses Eastward) e = absurd cc
input_tile (At East) (Outputs true) e = absurd cc
input_tile (At South) (Wires sides) e = absurd (wire_not_input _ e)
input_tile (At South) (Crosses Eastward) e = absurd cc
input_tile (At South) (Outputs true) e = absurd cc
input_tile (At West) (Wires sides) e = absurd (wire_not_input _ e)
input_tile (At West) (Crosses Eastward) e = absurd cc
input_tile (At West) (Outputs true) e = absurd cc
input_tile _ _ e = absurd cc

pub empty_nets : (N : NetlistOf) (k : Kind) (own below one two : ℕ) → k ≡ Empty → NetLaw N k own below one two
empty_nets N k own below one two e = subst (λ (x : Kind). NetLaw N x own below one two) (sym e) tt
