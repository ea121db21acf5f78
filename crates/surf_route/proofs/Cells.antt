-- What is drawn in one column of one row fits the edges round it.
use Rattle.std.proofs.Common.{◌≡◌, ℕ, suc, ◌+◌, ◌-◌, ◌<◌, Bool, true, false, cond, Option, Some, None, refl, sym, subst, arith}
use Rattle.std.specs.Prelude.{is_some}
use Rattle.surf_tiles.specs.Netlists.{NetlistOf}
use Rattle.surf_tiles.specs.Tiles.{wires, Side, North, East, South, West}
use Rattle.surf_tiles.specs.declared.tile.Tile.{Tile}
use Rattle.surf_tiles.specs.declared.tile.Tile.TheVariants.{Wire as Wires, Input as Inputs, Constant as Constants, Gate1 as Ones, Gate2 as Twos}
use Rattle.surf_route.specs.TileLaw.{flow, joined, IsEntered, TileNets}
use Rattle.surf_place.specs.Drawing.{Row, Source, Tap, Ends, net_of, found, Place, Device, Left, Own, Right, tile_in}
use Rattle.surf_place.proofs.Rows.{IsBreak, turn_down, turn_out, Follows, Begins_input, Begins_constant, Begins_tap, Begins_one, Begins_two, Begins_out, Begins_end}
use Rattle.surf_route.proofs.Edges.{Edge, Nothing, Runs, edge_net, Fits}

-- the side by which a wire is entered
abbrev pub entry_in : Row → Place → Side
entry_in (Source n device) Device = North
entry_in (Source n device) Left = West
entry_in (Source n device) Own = West
entry_in (Source n device) Right = North
entry_in (Tap n gate device) Device = East
entry_in (Tap n gate device) Left = East
entry_in (Tap n gate device) Own = North
entry_in (Tap n gate device) Right = North
entry_in (Ends n) place = North

abbrev pub device_net : Tile → (net gate : ℕ) → ℕ
device_net (Twos t00 t01 t10 t11) net gate = gate
device_net device net gate = net

-- the nets of a middle's slots
abbrev pub mid_in : Row → Place → (passing : ℕ) → Bool → ℕ
mid_in (Source n device) Device passing u = n
mid_in (Source n device) Left passing u = cond u passing n
mid_in (Source n device) Own passing u = n
mid_in (Source n device) Right passing u = passing
mid_in (Tap n gate device) Device passing u = device_net device n gate
mid_in (Tap n gate device) Left passing u = cond u passing n
mid_in (Tap n gate device) Own passing u = n
mid_in (Tap n gate device) Right passing u = passing
mid_in (Ends n) Device passing u = n
mid_in (Ends n) Left passing u = passing
mid_in (Ends n) Own passing u = n
mid_in (Ends n) Right passing u = passing

-- their levels, in a row whose levels begin at `base`. What goes down has the least one, and what goes along the row has its way from the row's own lane or device
abbrev pub along : Row → (base c lane : ℕ) → ℕ
along (Source n device) base c lane = base + c
along (Tap n gate device) base c lane = base + (lane - c)
along (Ends n) base c lane = base

abbrev pub level_in : Row → Place → (base c lane : ℕ) → Bool → ℕ
level_in row Device base c lane u = along row base c lane
level_in row Left base c lane u = cond u base (along row base c lane)
level_in row Own base c lane u = along row base c lane
level_in row Right base c lane u = base

-- the edge between columns c and c + 1 of a row. `left` says that it is left of the row's own lane
abbrev pub edge_in : Row → (left : Bool) → (base c lane : ℕ) → Edge
edge_in (Source n device) left base c lane = cond left (Runs true n (base + c + 1)) Nothing
edge_in (Tap n gate device) left base c lane = cond left (Runs false n (base + (lane - c))) Nothing
edge_in (Ends n) left base c lane = Nothing

-- the edge above a row whose levels begin at `base`
abbrev pub carried : Option ℕ → (base : ℕ) → Edge
carried None base = Nothing
carried (Some n) base = Runs true n base

-- what a row's device takes from the one above it
abbrev pub taken : (above row : Row) → Option ℕ
taken above (Source n (Ones z o)) = Some (net_of above)
taken above (Source n (Wires ports)) = Some n
taken above (Tap n gate (Twos t00 t01 t10 t11)) = Some (net_of above)
taken above row = None

abbrev pub ports : (north east south west : Edge) → Side → ℕ
ports north east south west North = edge_net north
ports north east south west East = edge_net east
ports north east south west South = edge_net south
ports north east south west West = edge_net west

pub record Fitting (N : NetlistOf) (tile : Tile) (entry : Side) (mid level : Bool → ℕ) (north east south west : Edge) : Type 0 where
  pub entered : IsEntered tile entry
  pub nets : TileNets N tile mid (ports north east south west)
  pub at_north : Fits north false (flow tile entry North) (level (joined tile North))
  pub at_east : Fits east true (flow tile entry East) (level (joined tile East))
  pub at_south : Fits south true (flow tile entry South) (level (joined tile South))
  pub at_west : Fits west false (flow tile entry West) (level (joined tile West))

off : {X : Type 0} → false ≡ true → X
off h = absurd cc

wire_nets : (N : NetlistOf) (n e s w : Bool) (mid : Bool → ℕ) (north east south west : Edge) → (n ≡ true → edge_net north ≡ mid false) → (e ≡ true → edge_net east ≡ mid false) → (s ≡ true → edge_net south ≡ mid false) → (w ≡ true → edge_net west ≡ mid false) →
    TileNets N (wires n e s w) mid (ports north east south west)
wire_nets N n e s w mid north east south west hn he hs hw North = hn
wire_nets N n e s w mid north east south west hn he hs hw East = he
wire_nets N n e s w mid north east south west hn he hs hw South = hs
wire_nets N n e s w mid north east south west hn he hs hw West = hw

-- the devices' column
abbrev pub Above : NetlistOf → Row → (below : Bool) → (passing : Option ℕ) → (base next lane : ℕ) → (north south : Option ℕ) → Type 0
Above N row below passing base next lane north south =
    Fitting N (tile_in row Device (is_some passing) below) (entry_in row Device) (mid_in row Device (found passing)) (level_in row Device base 0 lane) (carried north base) (edge_in row true base 0 lane) (carried south next) Nothing

not_break : (row : Row) (n gate : ℕ) (device : Tile) → row ≡ Tap n gate device → IsBreak row → ⊥
not_break row n gate device e h = subst IsBreak e h

pub none_after : (N : NetlistOf) (row under : Row) → IsBreak row → Follows N row under → taken row under ≡ None
none_after N row under h (Begins_input n k) = refl
none_after N row under h (Begins_constant n v k g) = refl
none_after N row under h (Begins_tap n gate k) = refl
none_after N row under h (Begins_one n m z o e g) = absurd (not_break row _ _ _ e h)
none_after N row under h (Begins_two a b n t00 t01 t10 t11 e g) = absurd (not_break row _ _ _ e h)
none_after N row under h (Begins_out b n t00 t01 t10 t11 e) = absurd (not_break row _ _ _ e h)
none_after N row under h (Begins_end n k) = refl

turned_after : (N : NetlistOf) (n gate : ℕ) (under : Row) → Follows N (Tap n gate turn_down) under → taken (Tap n gate turn_down) under ≡ Some n
turned_after N n gate under (Begins_input n' k) = absurd k
turned_after N n gate under (Begins_constant n' v k g) = absurd k
turned_after N n gate under (Begins_tap n' gate' k) = absurd k
turned_after N n gate under (Begins_one n' m z o e g) = refl
turned_after N n gate under (Begins_two a b n' t00 t01 t10 t11 e g) = refl
turned_after N n gate under (Begins_out b n' t00 t01 t10 t11 e) = absurd cc
turned_after N n gate under (Begins_end n' k) = absurd k

gate_after : (N : NetlistOf) (n gate : ℕ) (s00 s01 s10 s11 : Bool) (under : Row) → Follows N (Tap n gate (Twos s00 s01 s10 s11)) under → taken (Tap n gate (Twos s00 s01 s10 s11)) under ≡ Some gate
gate_after N n gate s00 s01 s10 s11 under (Begins_input n' k) = absurd k
gate_after N n gate s00 s01 s10 s11 under (Begins_constant n' v k g) = absurd k
gate_after N n gate s00 s01 s10 s11 under (Begins_tap n' gate' k) = absurd k
gate_after N n gate s00 s01 s10 s11 under (Begins_one n' m z o e g) = absurd cc
gate_after N n gate s00 s01 s10 s11 under (Begins_two a b n' t00 t01 t10 t11 e g) = absurd cc
gate_after N n gate s00 s01 s10 s11 under (Begins_out b n' t00 t01 t10 t11 e) = cc
gate_after N n gate s00 s01 s10 s11 under (Begins_end n' k) = absurd k

pub device_given : (N : NetlistOf) (above row under : Row) (below : Bool) (passing : Option ℕ) (base next lane : ℕ) → base + lane < next → Follows N above row → Follows N row under → Above N row below passing base next lane (taken above row) (taken row under)
device_given N above row under below passing base next lane b (Begins_input n k) f =
    subst (Above N (Source n Inputs) below passing base next lane None) (sym (none_after N (Source n Inputs) under tt f)) (record { entered = tt; nets = refl; at_north = refl; at_east = (refl, omega arith); at_south = refl; at_west = refl })
device_given N above row under below passing base next lane b (Begins_constant n v k g) f =
    subst (Above N (Source n (Constants v)) below passing base next lane None) (sym (none_after N (Source n (Constants v)) under tt f)) (record { entered = tt; nets = (refl, g); at_north = refl; at_east = (refl, omega arith); at_south = refl; at_west = refl })
device_given N above row under below passing base next lane b (Begins_tap n gate k) f =
    subst (Above N (Tap n gate turn_down) below passing base next lane None) (sym (turned_after N n gate under f)) (record { entered = refl; nets = wire_nets N false true true false (mid_in (Tap n gate turn_down) Device (found passing)) Nothing (edge_in (Tap n gate turn_down) true base 0 lane) (carried (Some n) next) Nothing off (λ h. refl) (λ h. refl) off; at_north = refl; at_east = (refl, omega arith); at_south = (refl, omega arith); at_west = refl })
device_given N above row under below passing base next lane b (Begins_one n m z o e g) f =
    subst (Above N (Source n (Ones z o)) below passing base next lane (taken above (Source n (Ones z o)))) (sym (none_after N (Source n (Ones z o)) under tt f))
    (subst (λ (x : Row). Above N (Source n (Ones z o)) below passing base next lane (taken x (Source n (Ones z o))) None) (sym e)
    (record { entered = tt; nets = (refl, g); at_north = (refl, omega arith); at_east = (refl, omega arith); at_south = refl; at_west = refl }))
device_given N above row under below passing base next lane b (Begins_two a c n t00 t01 t10 t11 e g) f =
    subst (Above N (Tap c n (Twos t00 t01 t10 t11)) below passing base next lane (taken above (Tap c n (Twos t00 t01 t10 t11)))) (sym (gate_after N c n t00 t01 t10 t11 under f))
    (subst (λ (x : Row). Above N (Tap c n (Twos t00 t01 t10 t11)) below passing base next lane (taken x (Tap c n (Twos t00 t01 t10 t11))) (Some n)) (sym e)
    (record { entered = tt; nets = (refl, g); at_north = (refl, omega arith); at_east = (refl, omega arith); at_south = (refl, omega arith); at_west = refl }))
device_given N above row under below passing base next lane b (Begins_out c n t00 t01 t10 t11 e) f =
    subst (Above N (Source n turn_out) below passing base next lane (Some n)) (sym (none_after N (Source n turn_out) under tt f)) (record { entered = refl; nets = wire_nets N true true false false (mid_in (Source n turn_out) Device (found passing)) (carried (Some n) base) (edge_in (Source n turn_out) true base 0 lane) Nothing Nothing (λ h. refl) (λ h. refl) off off; at_north = (refl, omega arith); at_east = (refl, omega arith); at_south = refl; at_west = refl })
device_given N above row under below passing base next lane b (Begins_end n k) f =
    subst (Above N (Ends n) below passing base next lane None) (sym (none_after N (Ends n) under tt f)) (record { entered = tt; nets = tt; at_north = refl; at_east = refl; at_south = refl; at_west = refl })

-- the other columns
abbrev pub Stands : Place → (c lane : ℕ) → Type 0
Stands Device c lane = ⊥
Stands Left c lane = c < lane
Stands Own c lane = c ≡ lane
Stands Right c lane = lane < c

abbrev pub left_in : Place → Bool
left_in Device = true
left_in Left = true
left_in Own = false
left_in Right = false

abbrev pub after_left : Place → Bool
after_left Device = false
after_left Left = true
after_left Own = true
after_left Right = false

-- the nets over the edges above and below
abbrev pub north_in : Row → Place → (passing : Option ℕ) → Option ℕ
north_in (Source n device) Own passing = None
north_in row Own passing = Some (net_of row)
north_in row place passing = passing

abbrev pub south_in : Row → Place → (passing : Option ℕ) → (below : Bool) → Option ℕ
south_in row Own passing below = cond below (Some (net_of row)) None
south_in row place passing below = passing

abbrev pub Beside : NetlistOf → Row → Place → (passing : Option ℕ) → (below : Bool) → (base next c lane : ℕ) → Type 0
Beside N row place passing below base next c lane =
    Fitting N (tile_in row place (is_some passing) below) (entry_in row place) (mid_in row place (found passing)) (level_in row place base (suc c) lane)
    (carried (north_in row place passing) base) (edge_in row (left_in place) base (suc c) lane) (carried (south_in row place passing below) next) (edge_in row (after_left place) base c lane)

pub beside_fits : (N : NetlistOf) (row : Row) (place : Place) (passing : Option ℕ) (below : Bool) (base next c lane : ℕ) → Stands place (suc c) lane → base + lane < next → Beside N row place passing below base next c lane
beside_fits N row Device passing below base next c lane h b = absurd h
beside_fits N (Source n device) Left None below base next c lane h b = record {
  entered = refl;
  nets = wire_nets N false true false true (λ u. cond u 0 n) Nothing (Runs true n (base + suc c + 1)) Nothing (Runs true n (base + c + 1)) off (λ e. refl) off (λ e. refl);
  at_north = refl;
  at_east = (refl, omega arith);
  at_south = refl;
  at_west = (refl, omega arith);
}
beside_fits N (Source n device) Left (Some m) below base next c lane h b = record {
  entered = tt;
  nets = (refl, refl, refl, refl);
  at_north = (refl, omega arith);
  at_east = (refl, omega arith);
  at_south = (refl, omega arith);
  at_west = (refl, omega arith);
}
beside_fits N (Source n device) Own passing true base next c lane h b = record {
  entered = refl;
  nets = wire_nets N false false true true (λ u. n) Nothing Nothing (Runs true n next) (Runs true n (base + c + 1)) off off (λ e. refl) (λ e. refl);
  at_north = refl;
  at_east = refl;
  at_south = (refl, omega arith);
  at_west = (refl, omega arith);
}
beside_fits N (Source n device) Own passing false base next c lane h b = record {
  entered = refl;
  nets = wire_nets N false false false true (λ u. n) Nothing Nothing Nothing (Runs true n (base + c + 1)) off off off (λ e. refl);
  at_north = refl;
  at_east = refl;
  at_south = refl;
  at_west = (refl, omega arith);
}
beside_fits N (Source n device) Right None below base next c lane h b = record { entered = tt; nets = tt; at_north = refl; at_east = refl; at_south = refl; at_west = refl }
beside_fits N (Source n device) Right (Some m) below base next c lane h b = record {
  entered = refl;
  nets = wire_nets N true false true false (λ u. m) (Runs true m base) Nothing (Runs true m next) Nothing (λ e. refl) off (λ e. refl) off;
  at_north = (refl, omega arith);
  at_east = refl;
  at_south = (refl, omega arith);
  at_west = refl;
}
beside_fits N (Tap n gate device) Left None below base next c lane h b = record {
  entered = refl;
  nets = wire_nets N false true false true (λ u. cond u 0 n) Nothing (Runs false n (base + (lane - suc c))) Nothing (Runs false n (base + (lane - c))) off (λ e. refl) off (λ e. refl);
  at_north = refl;
  at_east = (refl, omega arith);
  at_south = refl;
  at_west = (refl, omega arith);
}
beside_fits N (Tap n gate device) Left (Some m) below base next c lane h b = record {
  entered = tt;
  nets = (refl, refl, refl, refl);
  at_north = (refl, omega arith);
  at_east = (refl, omega arith);
  at_south = (refl, omega arith);
  at_west = (refl, omega arith);
}
beside_fits N (Tap n gate device) Own passing true base next c lane h b = record {
  entered = refl;
  nets = wire_nets N true false true true (λ u. n) (Runs true n base) Nothing (Runs true n next) (Runs false n (base + (lane - c))) (λ e. refl) off (λ e. refl) (λ e. refl);
  at_north = (refl, omega arith);
  at_east = refl;
  at_south = (refl, omega arith);
  at_west = (refl, omega arith);
}
beside_fits N (Tap n gate device) Own passing false base next c lane h b = record {
  entered = refl;
  nets = wire_nets N true false false true (λ u. n) (Runs true n base) Nothing Nothing (Runs false n (base + (lane - c))) (λ e. refl) off off (λ e. refl);
  at_north = (refl, omega arith);
  at_east = refl;
  at_south = refl;
  at_west = (refl, omega arith);
}
beside_fits N (Tap n gate device) Right None below base next c lane h b = record { entered = tt; nets = tt; at_north = refl; at_east = refl; at_south = refl; at_west = refl }
beside_fits N (Tap n gate device) Right (Some m) below base next c lane h b = record {
  entered = refl;
  nets = wire_nets N true false true false (λ u. m) (Runs true m base) Nothing (Runs true m next) Nothing (λ e. refl) off (λ e. refl) off;
  at_north = (refl, omega arith);
  at_east = refl;
  at_south = (refl, omega arith);
  at_west = refl;
}
beside_fits N (Ends n) Left None below base next c lane h b = record { entered = tt; nets = tt; at_north = refl; at_east = refl; at_south = refl; at_west = refl }
beside_fits N (Ends n) Left (Some m) below base next c lane h b = record {
  entered = refl;
  nets = wire_nets N true false true false (λ u. m) (Runs true m base) Nothing (Runs true m next) Nothing (λ e. refl) off (λ e. refl) off;
  at_north = (refl, omega arith);
  at_east = refl;
  at_south = (refl, omega arith);
  at_west = refl;
}
beside_fits N (Ends n) Own passing true base next c lane h b = record {
  entered = tt;
  nets = (refl, λ e. refl);
  at_north = (refl, omega arith);
  at_east = refl;
  at_south = (refl, omega arith);
  at_west = refl;
}
beside_fits N (Ends n) Own passing false base next c lane h b = record {
  entered = tt;
  nets = (refl, off);
  at_north = (refl, omega arith);
  at_east = refl;
  at_south = refl;
  at_west = refl;
}
beside_fits N (Ends n) Right None below base next c lane h b = record { entered = tt; nets = tt; at_north = refl; at_east = refl; at_south = refl; at_west = refl }
beside_fits N (Ends n) Right (Some m) below base next c lane h b = record {
  entered = refl;
  nets = wire_nets N true false true false (λ u. m) (Runs true m base) Nothing (Runs true m next) Nothing (λ e. refl) off (λ e. refl) off;
  at_north = (refl, omega arith);
  at_east = refl;
  at_south = (refl, omega arith);
  at_west = refl;
}
