-- A law over the edges between tiles gives the law over tiles.
use Rattle.std.proofs.Common.{◌≡◌, ℕ, zero, suc, ◌+◌, ◌-◌, ◌<◌, ◌≤◌, Bool, true, false, refl, sym, ◌∙◌, subst, arith}
use Rattle.surf_tiles.specs.Netlists.{NetlistOf}
use Rattle.surf_tiles.specs.Tiles.{Side, North, East, South, West}
use Rattle.surf_route.specs.TileLaw.{Flow, Shut, In, Out, joined, IsEntered, Tiling, HasBeyond, column_beyond, row_beyond, opposite, flow_at, TileNets, TileLaw}

-- what goes over an edge: nothing, or a net, forward (to the east or the south) or back, above a level
pub data Edge : Type 0 where
  Nothing : Edge
  Runs : (forward : Bool) → (net above : ℕ) → Edge

abbrev pub edge_net : Edge → ℕ
edge_net Nothing = 0
edge_net (Runs forward net above) = net

-- a side of a tile fits an edge. `outward` says that forward leads out of the tile
abbrev pub Fits : (edge : Edge) → (outward : Bool) → (f : Flow) → (level : ℕ) → Type 0
Fits Nothing outward f level = f ≡ Shut
Fits (Runs true net above) true f level = (f ≡ Out) × (level < above)
Fits (Runs true net above) false f level = (f ≡ In) × (above ≤ level)
Fits (Runs false net above) true f level = (f ≡ In) × (above ≤ level)
Fits (Runs false net above) false f level = (f ≡ Out) × (level < above)

abbrev pub before : (ℕ → Edge) → ℕ → Edge
before edges zero = Nothing
before edges (suc n) = edges n

-- `across c r` is the edge east of the tile (c, r), and `down c r` the one south of it
pub record EdgeLaw (N : NetlistOf) (columns rows : ℕ) (t : Tiling) (across down : ℕ → ℕ → Edge) : Type 0 where
  pub entered : (c r : ℕ) → c < columns → r < rows → IsEntered (t.tile c r) (t.entry c r)
  pub nets : (c r : ℕ) → c < columns → r < rows → TileNets N (t.tile c r) (t.mid_net c r) (t.port_net c r)
  pub east : (c r : ℕ) → c < columns → r < rows → Fits (across c r) true (flow_at t c r East) (t.level c r (joined (t.tile c r) East))
  pub west : (c r : ℕ) → c < columns → r < rows → Fits (before (λ x. across x r) c) false (flow_at t c r West) (t.level c r (joined (t.tile c r) West))
  pub south : (c r : ℕ) → c < columns → r < rows → Fits (down c r) true (flow_at t c r South) (t.level c r (joined (t.tile c r) South))
  pub north : (c r : ℕ) → c < columns → r < rows → Fits (before (down c) r) false (flow_at t c r North) (t.level c r (joined (t.tile c r) North))
  pub net_east : (c r : ℕ) → t.port_net c r East ≡ edge_net (across c r)
  pub net_west : (c r : ℕ) → t.port_net c r West ≡ edge_net (before (λ x. across x r) c)
  pub net_south : (c r : ℕ) → t.port_net c r South ≡ edge_net (down c r)
  pub net_north : (c r : ℕ) → t.port_net c r North ≡ edge_net (before (down c) r)
  pub ends_east : (c r net above : ℕ) (forward : Bool) → c < columns → r < rows → across c r ≡ Runs forward net above → c + 1 < columns
  pub ends_south : (c r net above : ℕ) (forward : Bool) → c < columns → r < rows → down c r ≡ Runs forward net above → r + 1 < rows

abbrev flip : Bool → Bool
flip true = false
flip false = true

-- what a way in or out says of its edge, and of the other side of the edge
record Met (edge : Edge) (outward : Bool) (level : ℕ) (there : Flow) : Type 0 where
  forward : Bool
  net : ℕ
  above : ℕ
  runs : edge ≡ Runs forward net above
  other : (f : Flow) (level' : ℕ) → Fits edge (flip outward) f level' → f ≡ there
  lower : (f : Flow) (level' : ℕ) → Fits edge (flip outward) f level' → there ≡ Out → level' < level

met_in : (edge : Edge) (outward : Bool) (f : Flow) (level : ℕ) → Fits edge outward f level → f ≡ In → Met edge outward level Out
met_in Nothing outward f level h e = absurd cc
met_in (Runs true net above) true f level h e = absurd (cc (h.0, e))
met_in (Runs true net above) false f level h e = record { forward = true; net = net; above = above; runs = refl; other = λ f' level' h'. h'.0; lower = λ f' level' h' e'. omega (arith, h.1, h'.1) }
met_in (Runs false net above) true f level h e = record { forward = false; net = net; above = above; runs = refl; other = λ f' level' h'. h'.0; lower = λ f' level' h' e'. omega (arith, h.1, h'.1) }
met_in (Runs false net above) false f level h e = absurd (cc (h.0, e))

met_out : (edge : Edge) (outward : Bool) (f : Flow) (level : ℕ) → Fits edge outward f level → f ≡ Out → Met edge outward level In
met_out Nothing outward f level h e = absurd cc
met_out (Runs true net above) true f level h e = record { forward = true; net = net; above = above; runs = refl; other = λ f' level' h'. h'.0; lower = λ f' level' h' e'. absurd cc }
met_out (Runs true net above) false f level h e = absurd (cc (h.0, e))
met_out (Runs false net above) true f level h e = absurd (cc (h.0, e))
met_out (Runs false net above) false f level h e = record { forward = false; net = net; above = above; runs = refl; other = λ f' level' h'. h'.0; lower = λ f' level' h' e'. absurd cc }

-- an edge, the side of the tile at (c, r) that it is on, and the tile beyond
record Beyond (N : NetlistOf) (columns rows : ℕ) (t : Tiling) (c r : ℕ) (side : Side) (there : Flow) : Type 0 where
  has : HasBeyond columns rows side c r
  other : flow_at t (column_beyond side c) (row_beyond side r) (opposite side) ≡ there
  same_net : t.port_net c r side ≡ t.port_net (column_beyond side c) (row_beyond side r) (opposite side)
  lower : there ≡ Out → t.level (column_beyond side c) (row_beyond side r) (joined (t.tile (column_beyond side c) (row_beyond side r)) (opposite side)) < t.level c r (joined (t.tile c r) side)

beyond : (N : NetlistOf) (columns rows : ℕ) (t : Tiling) (across down : ℕ → ℕ → Edge) → EdgeLaw N columns rows t across down → (c r : ℕ) → c < columns → r < rows → (side : Side) (there : Flow) →
    ((edge : Edge) (outward : Bool) (f : Flow) (level : ℕ) → Fits edge outward f level → f ≡ flow_at t c r side → Met edge outward level there) → Beyond N columns rows t c r side there
beyond N columns rows t across down law c r b d East there met =
    let m = met (across c r) true (flow_at t c r East) (t.level c r (joined (t.tile c r) East)) (law.east c r b d) refl in
    let has = law.ends_east c r m.net m.above m.forward b d m.runs in
    let e : c + 1 ≡ suc c = omega arith in
    let fits : Fits (across c r) false (flow_at t (c + 1) r West) (t.level (c + 1) r (joined (t.tile (c + 1) r) West)) = subst (λ (x : ℕ). Fits (before (λ y. across y r) x) false (flow_at t (c + 1) r West) (t.level (c + 1) r (joined (t.tile (c + 1) r) West))) e (law.west (c + 1) r has d) in
    let same : t.port_net (c + 1) r West ≡ edge_net (across c r) = subst (λ (x : ℕ). t.port_net (c + 1) r West ≡ edge_net (before (λ y. across y r) x)) e (law.net_west (c + 1) r) in
    record { has = has; other = m.other _ _ fits; same_net = law.net_east c r ∙ sym same; lower = m.lower _ _ fits }
beyond N columns rows t across down law c r b d South there met =
    let m = met (down c r) true (flow_at t c r South) (t.level c r (joined (t.tile c r) South)) (law.south c r b d) refl in
    let has = law.ends_south c r m.net m.above m.forward b d m.runs in
    let e : r + 1 ≡ suc r = omega arith in
    let fits : Fits (down c r) false (flow_at t c (r + 1) North) (t.level c (r + 1) (joined (t.tile c (r + 1)) North)) = subst (λ (x : ℕ). Fits (before (down c) x) false (flow_at t c (r + 1) North) (t.level c (r + 1) (joined (t.tile c (r + 1)) North))) e (law.north c (r + 1) b has) in
    let same : t.port_net c (r + 1) North ≡ edge_net (down c r) = subst (λ (x : ℕ). t.port_net c (r + 1) North ≡ edge_net (before (down c) x)) e (law.net_north c (r + 1)) in
    record { has = has; other = m.other _ _ fits; same_net = law.net_south c r ∙ sym same; lower = m.lower _ _ fits }
beyond N columns rows t across down law zero r b d West there met =
    let m = met Nothing false (flow_at t zero r West) (t.level zero r (joined (t.tile zero r) West)) (law.west zero r b d) refl in absurd (cc (m.runs))
beyond N columns rows t across down law (suc c) r b d West there met =
    let m = met (across c r) false (flow_at t (suc c) r West) (t.level (suc c) r (joined (t.tile (suc c) r) West)) (law.west (suc c) r b d) refl in
    let e : c ≡ suc c - 1 = omega arith in
    let b' : c < columns = omega arith in
    record {
      has = omega arith;
      other = subst (λ (x : ℕ). flow_at t x r East ≡ there) e (m.other _ _ (law.east c r b' d));
      same_net = subst (λ (x : ℕ). t.port_net (suc c) r West ≡ t.port_net x r East) e (law.net_west (suc c) r ∙ sym (law.net_east c r));
      lower = subst (λ (x : ℕ). there ≡ Out → t.level x r (joined (t.tile x r) East) < t.level (suc c) r (joined (t.tile (suc c) r) West)) e (m.lower _ _ (law.east c r b' d));
    }
beyond N columns rows t across down law c zero b d North there met =
    let m = met Nothing false (flow_at t c zero North) (t.level c zero (joined (t.tile c zero) North)) (law.north c zero b d) refl in absurd (cc (m.runs))
beyond N columns rows t across down law c (suc r) b d North there met =
    let m = met (down c r) false (flow_at t c (suc r) North) (t.level c (suc r) (joined (t.tile c (suc r)) North)) (law.north c (suc r) b d) refl in
    let e : r ≡ suc r - 1 = omega arith in
    let d' : r < rows = omega arith in
    record {
      has = omega arith;
      other = subst (λ (x : ℕ). flow_at t c x South ≡ there) e (m.other _ _ (law.south c r b d'));
      same_net = subst (λ (x : ℕ). t.port_net c (suc r) North ≡ t.port_net c x South) e (law.net_north c (suc r) ∙ sym (law.net_south c r));
      lower = subst (λ (x : ℕ). there ≡ Out → t.level c x (joined (t.tile c x) South) < t.level c (suc r) (joined (t.tile c (suc r)) North)) e (m.lower _ _ (law.south c r b d'));
    }

pub edges_give : (N : NetlistOf) (columns rows : ℕ) (t : Tiling) (across down : ℕ → ℕ → Edge) → EdgeLaw N columns rows t across down → TileLaw N columns rows t
edges_give N columns rows t across down law = record {
  entered = law.entered;
  comes_in = λ c r b d side h.
      let x = beyond N columns rows t across down law c r b d side Out (λ edge outward f level fits e. met_in edge outward f level fits (e ∙ h)) in
      record { there = x.has; opens = x.other; same_net = x.same_net; lower = x.lower refl };
  goes_out = λ c r b d side h.
      let x = beyond N columns rows t across down law c r b d side In (λ edge outward f level fits e. met_out edge outward f level fits (e ∙ h)) in
      (x.has, x.other);
  nets = law.nets;
}
