-- The law over tiles gives the local law over sites: feeders, ranks, and which neighbours react.
use Rattle.std.proofs.Common.{◌≡◌, ℕ, ◌+◌, ◌*◌, ◌-◌, ◌/◌, ◌<◌, Bool, true, false, Some, length, refl, sym, ap, ◌∙◌, subst, ◌⊎◌, inl, inr, arith}
use Rattle.std.specs.Prelude.{slice_get}
use Rattle.surf_tiles.specs.declared.kind.Kind.{Kind}
use Rattle.surf_tiles.specs.declared.kind.Kind.TheVariants.{Empty, Wire}
use Rattle.surf_lattice.specs.declared.site.Site.{Site}
use Rattle.surf_settle.specs.Ways.{Way, Plain, offers, wants}
use Rattle.surf_settle.proofs.Squares.{IsMoved, adjacent_moved, moved_adjacent}
use Rattle.surf_lattice.specs.Grids.{IsInside, Adjacent}
use Rattle.surf_settle.specs.Law.{grid_of, Plan, Slot, Lists, slot, kind_of, slot_of, IsFed, Feeds, NetLaw, LocalLaw}
use Rattle.surf_tiles.specs.Netlists.{IsOrdered}
use Rattle.surf_tiles.specs.Tiles.{Side, North, East, South, West, Spot, Mid, Corner, At, kind_in}
use Rattle.surf_tiles.specs.declared.tile.Tile.{Tile}
use Rattle.surf_tiles.specs.declared.tile.Tile.TheVariants.{Input as Inputs}
use Rattle.surf_route.specs.TileLaw.{opposite, Flow, Shut, In, Out, enters, joined, Tiling, column_beyond, row_beyond, HasBeyond, flow_at, TileLaw}
use Rattle.surf_route.proofs.Tiling.{shut_empty, in_offered, port_wants, port_offers, in_wants, out_wants, out_meets, in_meets, mid_read, in_read, kind_corner, enters_joined, in_wanting, out_wanting, port_nets, out_net, mid_nets, input_tile, same_nets, empty_nets}
use Rattle.surf_route.proofs.Spots.{spot, spot_is, place_in_tile, Beyond, SameTile, Into, From, Over, meets}

-- where a site stands in its tile
abbrev pub across : Spot → ℕ
across Mid = 1
across Corner = 0
across (At North) = 1
across (At East) = 2
across (At South) = 1
across (At West) = 0

abbrev pub down_by : Spot → ℕ
down_by Mid = 1
down_by Corner = 0
down_by (At North) = 0
down_by (At East) = 1
down_by (At South) = 2
down_by (At West) = 1

abbrev pub site_in : ℕ → ℕ → Spot → Site
site_in c r p = record { x = 3 * c + across p; y = 3 * r + down_by p }

abbrev pub IsReal : Spot → Type 0
IsReal Corner = ⊥
IsReal _ = Unit {0}

column_in : (c r : ℕ) (p : Spot) → (site_in c r p).x / 3 ≡ c
column_in c r Mid = omega arith
column_in c r Corner = omega arith
column_in c r (At North) = omega arith
column_in c r (At East) = omega arith
column_in c r (At South) = omega arith
column_in c r (At West) = omega arith

row_in : (c r : ℕ) (p : Spot) → (site_in c r p).y / 3 ≡ r
row_in c r Mid = omega arith
row_in c r Corner = omega arith
row_in c r (At North) = omega arith
row_in c r (At East) = omega arith
row_in c r (At South) = omega arith
row_in c r (At West) = omega arith

spot_in : (c r : ℕ) (p : Spot) → IsReal p → spot (site_in c r p) ≡ p
spot_in c r Mid h = spot_is (site_in c r Mid) 1 1 (omega arith) (omega arith)
spot_in c r Corner h = absurd h
spot_in c r (At North) h = spot_is (site_in c r (At North)) 1 0 (omega arith) (omega arith)
spot_in c r (At East) h = spot_is (site_in c r (At East)) 2 1 (omega arith) (omega arith)
spot_in c r (At South) h = spot_is (site_in c r (At South)) 1 2 (omega arith) (omega arith)
spot_in c r (At West) h = spot_is (site_in c r (At West)) 0 1 (omega arith) (omega arith)

pub site_is : (s : Site) (a b : ℕ) → s.x ≡ a → s.y ≡ b → s ≡ record { x = a; y = b }
site_is s a b e f = rw (← e, ← f) refl

-- a site is the one that stands there in its tile
site_from : (s : Site) (p : Spot) → spot s ≡ p → IsReal p → s ≡ site_in (s.x / 3) (s.y / 3) p
site_from s Mid e h = let (a, b) = place_in_tile s Mid e in site_is s _ _ (omega arith) (omega arith)
site_from s Corner e h = absurd h
site_from s (At North) e h = let (a, b) = place_in_tile s (At North) e in site_is s _ _ (omega arith) (omega arith)
site_from s (At East) e h = let (a, b) = place_in_tile s (At East) e in site_is s _ _ (omega arith) (omega arith)
site_from s (At South) e h = let (a, b) = place_in_tile s (At South) e in site_is s _ _ (omega arith) (omega arith)
site_from s (At West) e h = let (a, b) = place_in_tile s (At West) e in site_is s _ _ (omega arith) (omega arith)

-- the lists
abbrev side_rank : Flow → ℕ → ℕ
side_rank Shut n = 0
side_rank In n = 3 * n
side_rank Out n = 3 * n + 2

abbrev rank_at : Tiling → ℕ → ℕ → Spot → Bool → ℕ
rank_at t c r Mid u = 3 * t.level c r u + 1
rank_at t c r Corner u = 0
rank_at t c r (At side) u = side_rank (flow_at t c r side) (t.level c r (joined (t.tile c r) side))

abbrev side_feeder : Flow → Tiling → ℕ → ℕ → Side → Slot
side_feeder Shut t c r side = slot (site_in c r (At side)) false
side_feeder In t c r side = slot (site_in (column_beyond side c) (row_beyond side r) (At (opposite side))) false
side_feeder Out t c r side = slot (site_in c r Mid) (joined (t.tile c r) side)

abbrev feeder_at : Tiling → ℕ → ℕ → Spot → Bool → Slot
feeder_at t c r Mid i = slot (site_in c r (At (enters (t.tile c r) (t.entry c r) i))) false
feeder_at t c r Corner i = slot (site_in c r Corner) false
feeder_at t c r (At side) i = side_feeder (flow_at t c r side) t c r side

abbrev net_at : Tiling → ℕ → ℕ → Spot → Bool → ℕ
net_at t c r Mid u = t.mid_net c r u
net_at t c r Corner u = 0
net_at t c r (At side) u = t.port_net c r side

abbrev pub by_sites : Tiling → Lists
by_sites t = record {
  net = λ s. net_at t (s.site.x / 3) (s.site.y / 3) (spot s.site) s.down;
  rank = λ s. rank_at t (s.site.x / 3) (s.site.y / 3) (spot s.site) s.down;
  feeder = λ s i. feeder_at t (s.x / 3) (s.y / 3) (spot s) i;
}

-- a plan whose sites are those of these tiles
pub record IsTiled (L : Plan) (columns rows : ℕ) (t : Tiling) : Type 0 where
  pub wide : L.width ≡ 3 * columns
  pub high : L.height ≡ 3 * rows
  pub kinds : (s : Site) → IsInside (grid_of L) s → kind_of L s ≡ kind_in (t.tile (s.x / 3) (s.y / 3)) (spot s)

rank_in : (t : Tiling) (c r : ℕ) (p : Spot) (u : Bool) → IsReal p → (by_sites t).rank (slot (site_in c r p) u) ≡ rank_at t c r p u
rank_in t c r p u h =
    ap (λ (x : ℕ). rank_at t x ((site_in c r p).y / 3) (spot (site_in c r p)) u) (column_in c r p) ∙ ap (λ (y : ℕ). rank_at t c y (spot (site_in c r p)) u) (row_in c r p) ∙ ap (λ (q : Spot). rank_at t c r q u) (spot_in c r p h)

net_in : (t : Tiling) (c r : ℕ) (p : Spot) (u : Bool) → IsReal p → (by_sites t).net (slot (site_in c r p) u) ≡ net_at t c r p u
net_in t c r p u h =
    ap (λ (x : ℕ). net_at t x ((site_in c r p).y / 3) (spot (site_in c r p)) u) (column_in c r p) ∙ ap (λ (y : ℕ). net_at t c y (spot (site_in c r p)) u) (row_in c r p) ∙ ap (λ (q : Spot). net_at t c r q u) (spot_in c r p h)

feeder_in : (t : Tiling) (c r : ℕ) (p : Spot) (i : Bool) → IsReal p → (by_sites t).feeder (site_in c r p) i ≡ feeder_at t c r p i
feeder_in t c r p i h =
    ap (λ (x : ℕ). feeder_at t x ((site_in c r p).y / 3) (spot (site_in c r p)) i) (column_in c r p) ∙ ap (λ (y : ℕ). feeder_at t c y (spot (site_in c r p)) i) (row_in c r p) ∙ ap (λ (q : Spot). feeder_at t c r q i) (spot_in c r p h)

inside_in : (L : Plan) (columns rows : ℕ) (t : Tiling) → IsTiled L columns rows t → (c r : ℕ) (p : Spot) → c < columns → r < rows → IsInside (grid_of L) (site_in c r p)
inside_in L columns rows t tiled c r Mid b d = let w = tiled.wide in let h = tiled.high in (omega arith, omega arith)
inside_in L columns rows t tiled c r Corner b d = let w = tiled.wide in let h = tiled.high in (omega arith, omega arith)
inside_in L columns rows t tiled c r (At North) b d = let w = tiled.wide in let h = tiled.high in (omega arith, omega arith)
inside_in L columns rows t tiled c r (At East) b d = let w = tiled.wide in let h = tiled.high in (omega arith, omega arith)
inside_in L columns rows t tiled c r (At South) b d = let w = tiled.wide in let h = tiled.high in (omega arith, omega arith)
inside_in L columns rows t tiled c r (At West) b d = let w = tiled.wide in let h = tiled.high in (omega arith, omega arith)

kind_at_spot : (L : Plan) (columns rows : ℕ) (t : Tiling) → IsTiled L columns rows t → (c r : ℕ) (p : Spot) → IsReal p → c < columns → r < rows → kind_of L (site_in c r p) ≡ kind_in (t.tile c r) p
kind_at_spot L columns rows t tiled c r p h b d =
    tiled.kinds (site_in c r p) (inside_in L columns rows t tiled c r p b d) ∙
    ap (λ (x : ℕ). kind_in (t.tile x ((site_in c r p).y / 3)) (spot (site_in c r p))) (column_in c r p) ∙ ap (λ (y : ℕ). kind_in (t.tile c y) (spot (site_in c r p))) (row_in c r p) ∙ ap (λ (q : Spot). kind_in (t.tile c r) q) (spot_in c r p h)

-- what makes a read fed
fed_make : (L : Plan) (columns rows : ℕ) (t : Tiling) → IsTiled L columns rows t → (c r : ℕ) (p : Spot) (i : Bool) (w : Way) (c' r' : ℕ) (p' : Spot) (u : Bool) → IsReal p → IsReal p' → c < columns → r < rows → c' < columns → r' < rows →
    feeder_at t c r p i ≡ slot (site_in c' r' p') u → IsMoved (site_in c' r' p') (site_in c r p) → offers (kind_in (t.tile c' r') p') u ≡ Some w → rank_at t c' r' p' u < rank_at t c r p (slot_of (kind_in (t.tile c r) p) i) → IsFed L (by_sites t) (site_in c r p) i w
fed_make L columns rows t tiled c r p i w c' r' p' u real real' b d b' d' e m o lower =
    let is : slot (site_in c' r' p') u ≡ (by_sites t).feeder (site_in c r p) i = sym (feeder_in t c r p i real ∙ e) in
    record {
      beside = subst (λ (x : Slot). Adjacent (grid_of L) x.site (site_in c r p)) is (moved_adjacent L.width L.height _ _ (inside_in L columns rows t tiled c' r' p' b' d') (inside_in L columns rows t tiled c r p b d) m);
      offered = subst (λ (x : Slot). offers (kind_of L x.site) x.down ≡ Some w) is (subst (λ (k : Kind). offers k u ≡ Some w) (sym (kind_at_spot L columns rows t tiled c' r' p' real' b' d')) o);
      lower = subst (λ (x : Slot). (by_sites t).rank x < (by_sites t).rank (slot (site_in c r p) (slot_of (kind_of L (site_in c r p)) i))) is
          (subst (λ (k : Kind). (by_sites t).rank (slot (site_in c' r' p') u) < (by_sites t).rank (slot (site_in c r p) (slot_of k i))) (sym (kind_at_spot L columns rows t tiled c r p real b d))
          (let g = rank_in t c' r' p' u real' in let h = rank_in t c r p (slot_of (kind_in (t.tile c r) p) i) real in omega (arith, g, h, lower)));
    }

flow_cases : (f : Flow) → (f ≡ Shut) ⊎ (f ≡ In) ⊎ (f ≡ Out)
flow_cases Shut = inl refl
flow_cases In = inr (inl refl)
flow_cases Out = inr (inr refl)

moved_out : (c r : ℕ) (side : Side) → IsMoved (site_in c r Mid) (site_in c r (At side))
moved_out c r North = inr (inr (inl (omega arith, omega arith)))
moved_out c r East = inr (inl (omega arith, omega arith))
moved_out c r South = inr (inr (inr (omega arith, omega arith)))
moved_out c r West = inl (omega arith, omega arith)

moved_in : (c r : ℕ) (side : Side) → IsMoved (site_in c r (At side)) (site_in c r Mid)
moved_in c r North = inr (inr (inr (omega arith, omega arith)))
moved_in c r East = inl (omega arith, omega arith)
moved_in c r South = inr (inr (inl (omega arith, omega arith)))
moved_in c r West = inr (inl (omega arith, omega arith))

moved_over : (columns rows c r : ℕ) (side : Side) → HasBeyond columns rows side c r → IsMoved (site_in (column_beyond side c) (row_beyond side r) (At (opposite side))) (site_in c r (At side))
moved_over columns rows c r North h = inr (inr (inr (omega arith, omega arith)))
moved_over columns rows c r East h = inl (omega arith, omega arith)
moved_over columns rows c r South h = inr (inr (inl (omega arith, omega arith)))
moved_over columns rows c r West h = inr (inl (omega arith, omega arith))

beyond_inside : (columns rows c r : ℕ) (side : Side) → HasBeyond columns rows side c r → c < columns → r < rows → (column_beyond side c < columns) × (row_beyond side r < rows)
beyond_inside columns rows c r North h b d = (b, omega arith)
beyond_inside columns rows c r East h b d = (h, d)
beyond_inside columns rows c r South h b d = (b, h)
beyond_inside columns rows c r West h b d = (omega arith, d)

wants_none : (i : Bool) (w : Way) (k : Kind) → k ≡ Empty → wants k i ≡ Some w → ⊥
wants_none i w k e n = let p = subst (λ (x : Kind). wants x i ≡ Some w) e n in absurd cc

offers_none : (u : Bool) (w : Way) (k : Kind) → k ≡ Empty → offers k u ≡ Some w → ⊥
offers_none u w k e n = let p = subst (λ (x : Kind). offers x u ≡ Some w) e n in absurd cc

fed_mid : (L : Plan) (columns rows : ℕ) (t : Tiling) → IsTiled L columns rows t → TileLaw L.netlist columns rows t → (c r : ℕ) → c < columns → r < rows → (i : Bool) (w : Way) → wants (kind_in (t.tile c r) Mid) i ≡ Some w → IsFed L (by_sites t) (site_in c r Mid) i w
fed_mid L columns rows t tiled law c r b d i w n =
    let m = mid_read i (t.tile c r) (t.entry c r) w (law.entered c r b d) n in
    let side : Side = enters (t.tile c r) (t.entry c r) i in
    let e : rank_at t c r (At side) false ≡ 3 * t.level c r (joined (t.tile c r) side) = ap (λ (f : Flow). side_rank f (t.level c r (joined (t.tile c r) side))) m.comes_in in
    let g : t.level c r (joined (t.tile c r) side) ≡ t.level c r (slot_of (kind_in (t.tile c r) Mid) i) = ap (t.level c r) (enters_joined i (t.tile c r) (t.entry c r)) in
    fed_make L columns rows t tiled c r Mid i w c r (At side) false tt tt b d b d refl (moved_in c r side) m.offered (omega (arith, e, g))

fed_side_in : (L : Plan) (columns rows : ℕ) (t : Tiling) → IsTiled L columns rows t → TileLaw L.netlist columns rows t → (c r : ℕ) → c < columns → r < rows → (side : Side) (i : Bool) (w : Way) → flow_at t c r side ≡ In → wants (kind_in (t.tile c r) (At side)) i ≡ Some w → IsFed L (by_sites t) (site_in c r (At side)) i w
fed_side_in L columns rows t tiled law c r b d side i w h n =
    let f = law.comes_in c r b d side h in
    let c' : ℕ = column_beyond side c in
    let r' : ℕ = row_beyond side r in
    let (b', d') = beyond_inside columns rows c r side f.there b d in
    let e : rank_at t c r (At side) false ≡ 3 * t.level c r (joined (t.tile c r) side) = ap (λ (x : Flow). side_rank x (t.level c r (joined (t.tile c r) side))) h in
    let g : rank_at t c' r' (At (opposite side)) false ≡ 3 * t.level c' r' (joined (t.tile c' r') (opposite side)) + 2 = ap (λ (x : Flow). side_rank x (t.level c' r' (joined (t.tile c' r') (opposite side)))) f.opens in
    fed_make L columns rows t tiled c r (At side) i w c' r' (At (opposite side)) false tt tt b d b' d' (ap (λ (x : Flow). side_feeder x t c r side) h) (moved_over columns rows c r side f.there)
    (in_offered (opposite side) (t.tile c' r') (t.entry c' r') f.opens ∙ ap (λ (x : Way). Some x) (sym (in_wants i side (t.tile c r) (t.entry c r) w h n))) (let l = f.lower in omega (arith, e, g, l))

fed_side_out : (L : Plan) (columns rows : ℕ) (t : Tiling) → IsTiled L columns rows t → (c r : ℕ) → c < columns → r < rows → (side : Side) (i : Bool) (w : Way) → flow_at t c r side ≡ Out → wants (kind_in (t.tile c r) (At side)) i ≡ Some w → IsFed L (by_sites t) (site_in c r (At side)) i w
fed_side_out L columns rows t tiled c r b d side i w h n =
    let e : rank_at t c r (At side) false ≡ 3 * t.level c r (joined (t.tile c r) side) + 2 = ap (λ (x : Flow). side_rank x (t.level c r (joined (t.tile c r) side))) h in
    fed_make L columns rows t tiled c r (At side) i w c r Mid (joined (t.tile c r) side) tt tt b d b d (ap (λ (x : Flow). side_feeder x t c r side) h) (moved_out c r side) (out_wants i side (t.tile c r) (t.entry c r) w h n) (omega (arith, e))

fed_in : (L : Plan) (columns rows : ℕ) (t : Tiling) → IsTiled L columns rows t → TileLaw L.netlist columns rows t → (c r : ℕ) → c < columns → r < rows → (p : Spot) → IsReal p → (i : Bool) (w : Way) → wants (kind_in (t.tile c r) p) i ≡ Some w → IsFed L (by_sites t) (site_in c r p) i w
fed_in L columns rows t tiled law c r b d Mid real i w n = fed_mid L columns rows t tiled law c r b d i w n
fed_in L columns rows t tiled law c r b d Corner real i w n = absurd real
fed_in L columns rows t tiled law c r b d (At side) real i w n =
    elim (flow_cases (flow_at t c r side)) [
      | inl h ↦ absurd (wants_none i w _ (shut_empty side (t.tile c r) (t.entry c r) h) n)
      | inr h' ↦ elim h' [
        | inl h ↦ fed_side_in L columns rows t tiled law c r b d side i w h n
        | inr h ↦ fed_side_out L columns rows t tiled c r b d side i w h n
      ]
    ]

real_or_corner : (p : Spot) → IsReal p ⊎ (p ≡ Corner)
real_or_corner Mid = inl tt
real_or_corner Corner = inr refl
real_or_corner (At side) = inl tt

corner_empty : (L : Plan) (columns rows : ℕ) (t : Tiling) → IsTiled L columns rows t → (s : Site) → IsInside (grid_of L) s → spot s ≡ Corner → kind_of L s ≡ Empty
corner_empty L columns rows t tiled s b e = tiled.kinds s b ∙ ap (kind_in (t.tile (s.x / 3) (s.y / 3))) e ∙ kind_corner (t.tile (s.x / 3) (s.y / 3))

column_within : (L : Plan) (columns rows : ℕ) (t : Tiling) → IsTiled L columns rows t → (s : Site) → IsInside (grid_of L) s → (s.x / 3 < columns) × (s.y / 3 < rows)
column_within L columns rows t tiled s (b, d) = let w = tiled.wide in let h = tiled.high in (omega arith, omega arith)

pub fed : (L : Plan) (columns rows : ℕ) (t : Tiling) → IsTiled L columns rows t → TileLaw L.netlist columns rows t → (s : Site) → IsInside (grid_of L) s → (i : Bool) (w : Way) → wants (kind_of L s) i ≡ Some w → IsFed L (by_sites t) s i w
fed L columns rows t tiled law s b i w n =
    elim (real_or_corner (spot s)) [
      | inl real ↦ (
          let (bc, br) = column_within L columns rows t tiled s b in
          subst (λ (x : Site). IsFed L (by_sites t) x i w) (sym (site_from s (spot s) refl real)) (fed_in L columns rows t tiled law (s.x / 3) (s.y / 3) bc br (spot s) real i w (subst (λ (k : Kind). wants k i ≡ Some w) (tiled.kinds s b) n)))
      | inr e ↦ absurd (wants_none i w (kind_of L s) (corner_empty L columns rows t tiled s b e) n)
    ]

-- what q could read of p it reads, or q feeds p
abbrev Linked : Plan → Lists → (p q : Site) → (u i : Bool) → Type 0
Linked L l p q u i = (l.feeder q i ≡ slot p u) ⊎ Feeds L l q p

linked_into : (L : Plan) (columns rows : ℕ) (t : Tiling) → IsTiled L columns rows t → (c r : ℕ) → c < columns → r < rows → (side : Side) (u i : Bool) (w : Way) → offers (kind_in (t.tile c r) Mid) u ≡ Some w → wants (kind_in (t.tile c r) (At side)) i ≡ Some w → Linked L (by_sites t) (site_in c r Mid) (site_in c r (At side)) u i
linked_into L columns rows t tiled c r b d side u i w o n =
    elim (flow_cases (flow_at t c r side)) [
      | inl h ↦ absurd (wants_none i w _ (shut_empty side (t.tile c r) (t.entry c r) h) n)
      | inr h' ↦ elim h' [
        | inl h ↦ (
            let k = in_read side (t.tile c r) (t.entry c r) h in
            inr (
              k.which,
              k.way,
              false,
              subst (λ (x : Kind). wants x k.which ≡ Some k.way) (sym (kind_at_spot L columns rows t tiled c r Mid tt b d)) k.wanted,
              feeder_in t c r Mid k.which tt ∙ ap (λ (x : Side). slot (site_in c r (At x)) false) k.enters_by,
            ))
        | inr h ↦ (
            let z : i ≡ false = port_wants i side (t.tile c r) w n in
            let g : u ≡ joined (t.tile c r) side = out_meets u side (t.tile c r) (t.entry c r) w h o (subst (λ (x : Bool). wants (kind_in (t.tile c r) (At side)) x ≡ Some w) z n) in
            inl (feeder_in t c r (At side) i tt ∙ ap (λ (x : Flow). side_feeder x t c r side) h ∙ ap (slot (site_in c r Mid)) (sym g)))
      ]
    ]

linked_from : (L : Plan) (columns rows : ℕ) (t : Tiling) → IsTiled L columns rows t → (c r : ℕ) → c < columns → r < rows → (side : Side) (u i : Bool) (w : Way) → offers (kind_in (t.tile c r) (At side)) u ≡ Some w → wants (kind_in (t.tile c r) Mid) i ≡ Some w → Linked L (by_sites t) (site_in c r (At side)) (site_in c r Mid) u i
linked_from L columns rows t tiled c r b d side u i w o n =
    elim (flow_cases (flow_at t c r side)) [
      | inl h ↦ absurd (offers_none u w _ (shut_empty side (t.tile c r) (t.entry c r) h) o)
      | inr h' ↦ elim h' [
        | inl h ↦ (
            let z : u ≡ false = port_offers u side (t.tile c r) w o in
            let g : enters (t.tile c r) (t.entry c r) i ≡ side = in_meets i side (t.tile c r) (t.entry c r) w h (subst (λ (x : Bool). offers (kind_in (t.tile c r) (At side)) x ≡ Some w) z o) n in
            inl (feeder_in t c r Mid i tt ∙ ap (λ (x : Side). slot (site_in c r (At x)) false) g ∙ ap (slot (site_in c r (At side))) (sym z)))
        | inr h ↦ (
            let k = out_wanting side (t.tile c r) (t.entry c r) h in
            inr (
              false,
              k.way,
              joined (t.tile c r) side,
              subst (λ (x : Kind). wants x false ≡ Some k.way) (sym (kind_at_spot L columns rows t tiled c r (At side) tt b d)) k.wanted,
              feeder_in t c r (At side) false tt ∙ ap (λ (x : Flow). side_feeder x t c r side) h,
            ))
      ]
    ]

back_again : (columns rows c r : ℕ) (side : Side) → HasBeyond columns rows side c r → site_in (column_beyond (opposite side) (column_beyond side c)) (row_beyond (opposite side) (row_beyond side r)) (At (opposite (opposite side))) ≡ site_in c r (At side)
back_again columns rows c r North h = let e : r - 1 + 1 ≡ r = omega arith in rw e refl
back_again columns rows c r East h = let e : c + 1 - 1 ≡ c = omega arith in rw e refl
back_again columns rows c r South h = let e : r + 1 - 1 ≡ r = omega arith in rw e refl
back_again columns rows c r West h = let e : c - 1 + 1 ≡ c = omega arith in rw e refl

linked_over : (L : Plan) (columns rows : ℕ) (t : Tiling) → IsTiled L columns rows t → TileLaw L.netlist columns rows t → (c r : ℕ) → c < columns → r < rows → (side : Side) (u i : Bool) (w : Way) → offers (kind_in (t.tile c r) (At side)) u ≡ Some w →
    Linked L (by_sites t) (site_in c r (At side)) (site_in (column_beyond side c) (row_beyond side r) (At (opposite side))) u i
linked_over L columns rows t tiled law c r b d side u i w o =
    elim (flow_cases (flow_at t c r side)) [
      | inl h ↦ absurd (offers_none u w _ (shut_empty side (t.tile c r) (t.entry c r) h) o)
      | inr h' ↦ elim h' [
        | inl h ↦ inr (
          false,
          Plain,
          false,
          subst (λ (x : Kind). wants x false ≡ Some Plain) (sym (kind_at_spot L columns rows t tiled c r (At side) tt b d)) (in_wanting side (t.tile c r) (t.entry c r) h),
          feeder_in t c r (At side) false tt ∙ ap (λ (x : Flow). side_feeder x t c r side) h,
        )
        | inr h ↦ (
            let (there, comes) = law.goes_out c r b d side h in
            let z : u ≡ false = port_offers u side (t.tile c r) w o in
            inl (feeder_in t (column_beyond side c) (row_beyond side r) (At (opposite side)) i tt ∙ ap (λ (x : Flow). side_feeder x t (column_beyond side c) (row_beyond side r) (opposite side)) comes ∙
            ap (λ (s : Site). slot s false) (back_again columns rows c r side there) ∙ ap (slot (site_in c r (At side))) (sym z)))
      ]
    ]

-- the site over a side
over_is : (p q : Site) (side : Side) → spot q ≡ At (opposite side) → Beyond side p q → q ≡ site_in (column_beyond side (p.x / 3)) (row_beyond side (p.y / 3)) (At (opposite side))
over_is p q North e b = site_from q (At South) e tt ∙ (let (f, g) = b in let g' : q.y / 3 ≡ p.y / 3 - 1 = omega arith in rw (f, g') refl)
over_is p q East e b = site_from q (At West) e tt ∙ (let (f, g) = b in rw (f, g) refl)
over_is p q South e b = site_from q (At North) e tt ∙ (let (f, g) = b in rw (f, g) refl)
over_is p q West e b = site_from q (At East) e tt ∙ (let (f, g) = b in let f' : q.x / 3 ≡ p.x / 3 - 1 = omega arith in rw (f', g) refl)

here_is : (p q : Site) (s : Spot) → spot q ≡ s → IsReal s → SameTile p q → q ≡ site_in (p.x / 3) (p.y / 3) s
here_is p q s e h (f, g) = site_from q s e h ∙ ap (λ (x : ℕ). site_in x (q.y / 3) s) f ∙ ap (λ (y : ℕ). site_in (p.x / 3) y s) g

kind_there : (L : Plan) (columns rows : ℕ) (t : Tiling) → IsTiled L columns rows t → (s : Site) (c r : ℕ) (p : Spot) → IsReal p → c < columns → r < rows → s ≡ site_in c r p → kind_of L s ≡ kind_in (t.tile c r) p
kind_there L columns rows t tiled s c r p h b d e = ap (kind_of L) e ∙ kind_at_spot L columns rows t tiled c r p h b d

pub linked : (L : Plan) (columns rows : ℕ) (t : Tiling) → IsTiled L columns rows t → TileLaw L.netlist columns rows t → (p q : Site) → Adjacent (grid_of L) p q → (u i : Bool) (w : Way) → offers (kind_of L p) u ≡ Some w → wants (kind_of L q) i ≡ Some w → Linked L (by_sites t) p q u i
linked L columns rows t tiled law p q a u i w o n =
    let inside = a.first in
    let within = a.second in
    let moved = adjacent_moved L.width L.height p q a in
    let (b, d) = column_within L columns rows t tiled p inside in
    elim (meets p q moved (λ e. offers_none u w _ (corner_empty L columns rows t tiled p inside e) o) (λ e. wants_none i w _ (corner_empty L columns rows t tiled q within e) n)) [
      | Into side e f same ↦ (
          let ip : p ≡ site_in (p.x / 3) (p.y / 3) Mid = site_from p Mid e tt in
          let iq : q ≡ site_in (p.x / 3) (p.y / 3) (At side) = here_is p q (At side) f tt same in
          let k = kind_there L columns rows t tiled p (p.x / 3) (p.y / 3) Mid tt b d ip in
          let k' = kind_there L columns rows t tiled q (p.x / 3) (p.y / 3) (At side) tt b d iq in
          subst (λ (x : Site). Linked L (by_sites t) x q u i) (sym ip) (subst (λ (y : Site). Linked L (by_sites t) (site_in (p.x / 3) (p.y / 3) Mid) y u i) (sym iq)
          (linked_into L columns rows t tiled (p.x / 3) (p.y / 3) b d side u i w (subst (λ (x : Kind). offers x u ≡ Some w) k o) (subst (λ (x : Kind). wants x i ≡ Some w) k' n))))
      | From side e f same ↦ (
          let ip : p ≡ site_in (p.x / 3) (p.y / 3) (At side) = site_from p (At side) e tt in
          let iq : q ≡ site_in (p.x / 3) (p.y / 3) Mid = here_is p q Mid f tt same in
          let k = kind_there L columns rows t tiled p (p.x / 3) (p.y / 3) (At side) tt b d ip in
          let k' = kind_there L columns rows t tiled q (p.x / 3) (p.y / 3) Mid tt b d iq in
          subst (λ (x : Site). Linked L (by_sites t) x q u i) (sym ip) (subst (λ (y : Site). Linked L (by_sites t) (site_in (p.x / 3) (p.y / 3) (At side)) y u i) (sym iq)
          (linked_from L columns rows t tiled (p.x / 3) (p.y / 3) b d side u i w (subst (λ (x : Kind). offers x u ≡ Some w) k o) (subst (λ (x : Kind). wants x i ≡ Some w) k' n))))
      | Over side e f beyond ↦ (
          let ip : p ≡ site_in (p.x / 3) (p.y / 3) (At side) = site_from p (At side) e tt in
          let iq = over_is p q side f beyond in
          let k = kind_there L columns rows t tiled p (p.x / 3) (p.y / 3) (At side) tt b d ip in
          subst (λ (x : Site). Linked L (by_sites t) x q u i) (sym ip) (subst (λ (y : Site). Linked L (by_sites t) (site_in (p.x / 3) (p.y / 3) (At side)) y u i) (sym iq)
          (linked_over L columns rows t tiled law (p.x / 3) (p.y / 3) b d side u i w (subst (λ (x : Kind). offers x u ≡ Some w) k o))))
    ]

nets_side : (L : Plan) (columns rows : ℕ) (t : Tiling) → TileLaw L.netlist columns rows t → (c r : ℕ) → c < columns → r < rows → (side : Side) →
    NetLaw L.netlist (kind_in (t.tile c r) (At side)) ((by_sites t).net (slot (site_in c r (At side)) false)) ((by_sites t).net (slot (site_in c r (At side)) true)) ((by_sites t).net ((by_sites t).feeder (site_in c r (At side)) false)) ((by_sites t).net ((by_sites t).feeder (site_in c r (At side)) true))
nets_side L columns rows t law c r b d side =
    elim (flow_cases (flow_at t c r side)) [
      | inl h ↦ empty_nets L.netlist _ _ _ _ _ (shut_empty side (t.tile c r) (t.entry c r) h)
      | inr h' ↦ elim h' [
        | inl h ↦ port_nets side (t.tile c r) L.netlist _ _ _ _
            (net_in t c r (At side) false tt ∙ (law.comes_in c r b d side h).same_net ∙ sym (net_in t (column_beyond side c) (row_beyond side r) (At (opposite side)) false tt) ∙
            ap (by_sites t).net (sym (feeder_in t c r (At side) false tt ∙ ap (λ (x : Flow). side_feeder x t c r side) h)))
        | inr h ↦ port_nets side (t.tile c r) L.netlist _ _ _ _
            (net_in t c r (At side) false tt ∙ out_net side (t.tile c r) (t.entry c r) L.netlist (t.mid_net c r) (t.port_net c r) h (law.nets c r b d) ∙ sym (net_in t c r Mid (joined (t.tile c r) side) tt) ∙
            ap (by_sites t).net (sym (feeder_in t c r (At side) false tt ∙ ap (λ (x : Flow). side_feeder x t c r side) h)))
      ]
    ]

nets_mid : (L : Plan) (columns rows : ℕ) (t : Tiling) → TileLaw L.netlist columns rows t → (c r : ℕ) → c < columns → r < rows →
    NetLaw L.netlist (kind_in (t.tile c r) Mid) ((by_sites t).net (slot (site_in c r Mid) false)) ((by_sites t).net (slot (site_in c r Mid) true)) ((by_sites t).net ((by_sites t).feeder (site_in c r Mid) false)) ((by_sites t).net ((by_sites t).feeder (site_in c r Mid) true))
nets_mid L columns rows t law c r b d =
    let one : (by_sites t).net ((by_sites t).feeder (site_in c r Mid) false) ≡ t.port_net c r (enters (t.tile c r) (t.entry c r) false) = ap (by_sites t).net (feeder_in t c r Mid false tt) ∙ net_in t c r (At (enters (t.tile c r) (t.entry c r) false)) false tt in
    let two : (by_sites t).net ((by_sites t).feeder (site_in c r Mid) true) ≡ t.port_net c r (enters (t.tile c r) (t.entry c r) true) = ap (by_sites t).net (feeder_in t c r Mid true tt) ∙ net_in t c r (At (enters (t.tile c r) (t.entry c r) true)) false tt in
    same_nets L.netlist (kind_in (t.tile c r) Mid) _ _ _ _ _ _ _ _ (net_in t c r Mid false tt) (net_in t c r Mid true tt) one two
    (mid_nets (t.tile c r) (t.entry c r) L.netlist (t.mid_net c r) (t.port_net c r) (law.entered c r b d) (law.nets c r b d))

nets_at : (L : Plan) (columns rows : ℕ) (t : Tiling) → TileLaw L.netlist columns rows t → (c r : ℕ) → c < columns → r < rows → (p : Spot) → IsReal p →
    NetLaw L.netlist (kind_in (t.tile c r) p) ((by_sites t).net (slot (site_in c r p) false)) ((by_sites t).net (slot (site_in c r p) true)) ((by_sites t).net ((by_sites t).feeder (site_in c r p) false)) ((by_sites t).net ((by_sites t).feeder (site_in c r p) true))
nets_at L columns rows t law c r b d Mid h = nets_mid L columns rows t law c r b d
nets_at L columns rows t law c r b d Corner h = absurd h
nets_at L columns rows t law c r b d (At side) h = nets_side L columns rows t law c r b d side

pub nets : (L : Plan) (columns rows : ℕ) (t : Tiling) → IsTiled L columns rows t → TileLaw L.netlist columns rows t → (s : Site) → IsInside (grid_of L) s →
    NetLaw L.netlist (kind_of L s) ((by_sites t).net (slot s false)) ((by_sites t).net (slot s true)) ((by_sites t).net ((by_sites t).feeder s false)) ((by_sites t).net ((by_sites t).feeder s true))
nets L columns rows t tiled law s b =
    elim (real_or_corner (spot s)) [
      | inl real ↦ (
          let (bc, br) = column_within L columns rows t tiled s b in
          subst (λ (k : Kind). NetLaw L.netlist k ((by_sites t).net (slot s false)) ((by_sites t).net (slot s true)) ((by_sites t).net ((by_sites t).feeder s false)) ((by_sites t).net ((by_sites t).feeder s true))) (sym (tiled.kinds s b))
          (subst (λ (x : Site). NetLaw L.netlist (kind_in (t.tile (s.x / 3) (s.y / 3)) (spot s)) ((by_sites t).net (slot x false)) ((by_sites t).net (slot x true)) ((by_sites t).net ((by_sites t).feeder x false)) ((by_sites t).net ((by_sites t).feeder x true)))
          (sym (site_from s (spot s) refl real)) (nets_at L columns rows t law (s.x / 3) (s.y / 3) bc br (spot s) real)))
      | inr e ↦ empty_nets L.netlist _ _ _ _ _ (corner_empty L columns rows t tiled s b e)
    ]

-- where the inputs and outputs stand, in tiles
pub record HasEnds (L : Plan) (columns rows : ℕ) (t : Tiling) : Type 0 where
  pub as_many_inputs : length L.inputs ≡ L.netlist.inputs
  pub input : (i : ℕ) (s : Site) → slice_get L.inputs i ≡ Some s → IsInside (grid_of L) s × (spot s ≡ Mid) × (t.tile (s.x / 3) (s.y / 3) ≡ Inputs) × (t.mid_net (s.x / 3) (s.y / 3) false ≡ i)
  pub inputs_only : (s : Site) → IsInside (grid_of L) s → spot s ≡ Mid → t.tile (s.x / 3) (s.y / 3) ≡ Inputs → (i : ℕ) × (slice_get L.inputs i ≡ Some s)
  pub as_many_outputs : length L.outputs ≡ length L.netlist.outputs
  pub output : (i : ℕ) (s : Site) (net : ℕ) → slice_get L.outputs i ≡ Some s → slice_get L.netlist.outputs i ≡ Some net → IsInside (grid_of L) s × (spot s ≡ Mid) × (kind_in (t.tile (s.x / 3) (s.y / 3)) Mid ≡ Wire) × (t.mid_net (s.x / 3) (s.y / 3) false ≡ net)

-- the law over tiles gives the law over sites
pub tiled_law : (L : Plan) (columns rows : ℕ) (t : Tiling) → IsOrdered L.netlist → length L.kinds ≡ L.width * L.height → IsTiled L columns rows t → TileLaw L.netlist columns rows t → HasEnds L columns rows t → LocalLaw L (by_sites t)
tiled_law L columns rows t ordered long tiled law ends = record {
  ordered = ordered;
  long = long;
  fed = fed L columns rows t tiled law;
  linked = linked L columns rows t tiled law;
  nets = nets L columns rows t tiled law;
  as_many_inputs = ends.as_many_inputs;
  input = λ i s e.
      let h = ends.input i s e in
      (h.0, tiled.kinds s h.0 ∙ ap (λ (x : Tile). kind_in x (spot s)) h.2 ∙ ap (kind_in Inputs) h.1, ap (λ (p : Spot). net_at t (s.x / 3) (s.y / 3) p false) h.1 ∙ h.3);
  inputs_only = λ s b e.
      let (m, i) = input_tile (spot s) (t.tile (s.x / 3) (s.y / 3)) (sym (tiled.kinds s b) ∙ e) in
      ends.inputs_only s b m i;
  as_many_outputs = ends.as_many_outputs;
  output = λ i s net o n.
      let h = ends.output i s net o n in
      (h.0, tiled.kinds s h.0 ∙ ap (kind_in (t.tile (s.x / 3) (s.y / 3))) h.1 ∙ h.2, ap (λ (p : Spot). net_at t (s.x / 3) (s.y / 3) p false) h.1 ∙ h.3);
}
