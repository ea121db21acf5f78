-- The layout of a drawing is lawful, and so its surface settles.
use Rattle.std.proofs.Common.{◌≡◌, ℕ, zero, suc, ◌+◌, ◌-◌, ◌*◌, ◌/◌, ◌%◌, ◌<◌, ◌≤◌, Bool, true, false, cond, Some, List, [], ◌∷◌, map, length, get_or, refl, sym, ap, ◌∙◌, subst, ◌⊎◌, inl, inr, arith}
use Rattle.std.specs.Prelude.{slice_get, is_some, nat_lt, nat_eq}
use Rattle.std.specs.List.{range_with_len}
use Rattle.std.proofs.lemmas.List.{length-map}
use Rattle.std.proofs.lemmas.List.FromFn.{length-range_with_len, length-map-range_with_len, get_or-map-range_with_len}
use Rattle.std.proofs.lemmas.Option.{slice_get_past}
use Rattle.std.proofs.lemmas.Bool.{eq-eqb, le-ltb}
use Rattle.std.proofs.lemmas.Nat.{div-mul-add, mod-mul-add}
use Rattle.surf_tiles.specs.declared.kind.Kind.TheVariants.{Empty, Wire}
use Rattle.surf_lattice.specs.declared.site.Site.{Site}
use Rattle.surf_tiles.specs.Netlists.{IsNetlist, NetlistOf}
use Rattle.surf_settle.proofs.Squares.{place_of}
use Rattle.surf_lattice.specs.Grids.{IsInside}
use Rattle.surf_settle.specs.Law.{square_grid, kind_of, IsLawful}
use Rattle.surf_tiles.specs.Tiles.{Mid, spot_of, kind_in}
use Rattle.surf_tiles.specs.declared.tile.Tile.{Tile}
use Rattle.surf_tiles.specs.declared.tile.Tile.TheVariants.{Input as Inputs}
use Rattle.surf_place.specs.Drawing.{Row, Source, Tap, Ends, net_of, rows_of, row_at, found, last_row, Placement, IsPlacement, Place, Device, Left, Own, Right, place_in, tile_in, passing, tile_of}
use Rattle.surf_route.specs.Sealed.{kind_drawn, centre, input_sites, output_sites, sealed}
use Rattle.surf_place.proofs.Rows.{rows_sound, follows_at, Follows, Begins_input, Begins_constant, Begins_tap, Begins_one, Begins_two, Begins_out, Begins_end}
use Rattle.surf_place.proofs.Nets.{height_of}
use Rattle.surf_route.proofs.Spots.{spot, spot_is, place_in_tile}
use Rattle.surf_route.proofs.FromTiles.{site_is, IsTiled, HasEnds, by_sites, tiled_law}
use Rattle.surf_route.proofs.Cells.{mid_in}
use Rattle.surf_route.proofs.Drawn.{drawn, drawing_law, place_at, lane_at}
use Rattle.surf_route.proofs.EndRows.{input_row, input_only, output_row}

kind_sealed : (N : NetlistOf) (p : Placement) (s : Site) → IsInside (square_grid (3 * p.columns) (3 * height_of N)) s → kind_of (sealed N p) s ≡ kind_in (tile_of N p (s.x / 3) (s.y / 3)) (spot s)
kind_sealed N p s (b, d) =
    let w : ℕ = 3 * p.columns in
    let e : get_or (sealed N p).kinds (place_of w s) Empty ≡ kind_drawn N p w (place_of w s) =
    get_or-map-range_with_len (kind_drawn N p w) 0 (w * (3 * height_of N)) (place_of w s) (place_of w s) Empty (within s.y s.x w (3 * height_of N) b d) (omega arith) in
    e ∙ ap (λ (x : ℕ). kind_in (tile_of N p (x / 3) (place_of w s / w / 3)) (spot_of (x % 3) (place_of w s / w % 3))) (mod-mul-add s.y w s.x b) ∙
    ap (λ (y : ℕ). kind_in (tile_of N p (s.x / 3) (y / 3)) (spot_of (s.x % 3) (y % 3))) (div-mul-add s.y w s.x b)
  where
    within : (y x w h : ℕ) → x < w → y < h → y * w + x < w * h
    within y x w h b' d' = grind arith

tiled : (N : NetlistOf) (p : Placement) → IsTiled (sealed N p) p.columns (height_of N) (drawn N p)
tiled N p = record { wide = refl; high = refl; kinds = kind_sealed N p }

-- the centre of a tile
centre_x : (c r : ℕ) → (centre c r).x / 3 ≡ c
centre_x c r = omega arith

centre_y : (c r : ℕ) → (centre c r).y / 3 ≡ r
centre_y c r = omega arith

centre_spot : (c r : ℕ) → spot (centre c r) ≡ Mid
centre_spot c r = spot_is (centre c r) 1 1 (omega arith) (omega arith)

input_site : (count from i : ℕ) (s : Site) → slice_get (map (centre 0) (range_with_len from count)) i ≡ Some s → (i < count) × (s ≡ centre 0 (from + i))
input_site zero from i s e = absurd (cc (sym (slice_get_past [] i (omega arith)) ∙ e))
input_site (suc count) from zero s e = let f : centre 0 from ≡ s = cc (e) in let g : from ≡ from + 0 = omega arith in (omega arith, sym f ∙ ap (centre 0) g)
input_site (suc count) from (suc i) s e =
    let (b, f) = input_site count (from + 1) i s e in let g : from + 1 + i ≡ from + suc i = omega arith in (omega arith, f ∙ ap (centre 0) g)

site_input : (count from i : ℕ) → i < count → slice_get (map (centre 0) (range_with_len from count)) i ≡ Some (centre 0 (from + i))
site_input zero from i b = absurd (omega arith)
site_input (suc count) from zero b = let g : from ≡ from + 0 = omega arith in ap (λ (x : ℕ). Some (centre 0 x)) g
site_input (suc count) from (suc i) b = let g : from + 1 + i ≡ from + suc i = omega arith in site_input count (from + 1) i (omega arith) ∙ ap (λ (x : ℕ). Some (centre 0 x)) g

output_site : (p : Placement) (outputs : List ℕ) (row i net : ℕ) (s : Site) → slice_get (output_sites p row outputs) i ≡ Some s → slice_get outputs i ≡ Some net → s ≡ centre (p.column net) (row + i)
output_site p [] row i net s e f = absurd (cc (sym (slice_get_past [] i (omega arith)) ∙ f))
output_site p (m ∷ outputs) row zero net s e f = let g : centre (p.column m) row ≡ s = cc (e) in let h : m ≡ net = cc (f) in let k : row ≡ row + 0 = omega arith in sym g ∙ ap (λ (x : ℕ). centre (p.column x) row) h ∙ ap (centre (p.column net)) k
output_site p (m ∷ outputs) row (suc i) net s e f = let g : row + 1 + i ≡ row + suc i = omega arith in output_site p outputs (row + 1) i net s e f ∙ ap (centre (p.column net)) g

pub output_count : (p : Placement) (outputs : List ℕ) (row : ℕ) → length (output_sites p row outputs) ≡ length outputs
output_count p [] row = refl
output_count p (m ∷ outputs) row = ap suc (output_count p outputs (row + 1))

-- a tile of an input stands in the devices' column
input_place : (row : Row) (place : Place) (passed below : Bool) → tile_in row place passed below ≡ Inputs → (place ≡ Device) × ((n : ℕ) × (row ≡ Source n Inputs)) ⊎ (n : ℕ) × (gate : ℕ) × (row ≡ Tap n gate Inputs)
input_place (Source n device) Device passed below e = inl (refl, (n, ap (λ (x : Tile). Source n x) e))
input_place (Source n device) Left true below e = absurd cc
input_place (Source n device) Left false below e = absurd cc
input_place (Source n device) Own passed below e = absurd cc
input_place (Source n device) Right true below e = absurd cc
input_place (Source n device) Right false below e = absurd cc
input_place (Tap n gate device) Device passed below e = inr (n, gate, ap (λ (x : Tile). Tap n gate x) e)
input_place (Tap n gate device) Left true below e = absurd cc
input_place (Tap n gate device) Left false below e = absurd cc
input_place (Tap n gate device) Own passed below e = absurd cc
input_place (Tap n gate device) Right true below e = absurd cc
input_place (Tap n gate device) Right false below e = absurd cc
input_place (Ends n) Device passed below e = absurd cc
input_place (Ends n) Left true below e = absurd cc
input_place (Ends n) Left false below e = absurd cc
input_place (Ends n) Own passed below e = absurd cc
input_place (Ends n) Right true below e = absurd cc
input_place (Ends n) Right false below e = absurd cc

no_input_tap : (N : NetlistOf) (above row : Row) (n gate : ℕ) → Follows N above row → row ≡ Tap n gate Inputs → ⊥
no_input_tap N above row n gate (Begins_input m h) e = absurd cc
no_input_tap N above row n gate (Begins_constant m v h g) e = absurd cc
no_input_tap N above row n gate (Begins_tap m g h) e = absurd cc
no_input_tap N above row n gate (Begins_one m k z o h g) e = absurd cc
no_input_tap N above row n gate (Begins_two a b m t00 t01 t10 t11 h g) e = absurd cc
no_input_tap N above row n gate (Begins_out b m t00 t01 t10 t11 h) e = absurd cc
no_input_tap N above row n gate (Begins_end m h) e = absurd cc

device_column : (c lane : ℕ) → place_in c lane ≡ Device → c ≡ 0
device_column zero lane e = refl
device_column (suc c) lane e = go (nat_lt (suc c) lane) (nat_eq (suc c) lane) e
  where
    go : (a b : Bool) → cond a Left (cond b Own Right) ≡ Device → suc c ≡ 0
    go true b h = absurd cc
    go false true h = absurd cc
    go false false h = absurd cc

pub own_place : (c : ℕ) → 1 ≤ c → place_in c c ≡ Own
own_place zero b = absurd (omega arith)
own_place (suc c) b = ap (λ (x : Bool). cond x Left (cond (nat_eq (suc c) (suc c)) Own Right)) (le-ltb _ _ (omega arith)) ∙ ap (λ (x : Bool). cond x Own Right) (eq-eqb (suc c) (suc c) refl)

ends : (N : NetlistOf) (p : Placement) → IsNetlist N → IsPlacement N p → HasEnds (sealed N p) p.columns (height_of N) (drawn N p)
ends N p good placed = record {
  as_many_inputs = length-map (range_with_len 0 N.inputs) (centre 0) ∙ length-range_with_len 0 N.inputs;
  input = λ i s e.
      let (b, f) = input_site N.inputs 0 i s e in
      let g : s ≡ centre 0 i = f ∙ (let k : 0 + i ≡ i = omega arith in ap (centre 0) k) in
      subst (IsInput i) (sym g) (input_there i b);
  inputs_only = λ s b m e.
      elim (input_place (row_at N (s.y / 3)) (place_at N p (s.x / 3) (s.y / 3)) (is_some (passing N p (s.x / 3) (s.y / 3))) (nat_lt (s.y / 3) (last_row N (net_of (row_at N (s.y / 3))))) e) as (λ x. (i : ℕ) × (slice_get (input_sites N) i ≡ Some s)) [
        | inl h ↦ (
            let c : s.x / 3 ≡ 0 = device_column (s.x / 3) (lane_at N p (s.y / 3)) h.0 in
            let l = input_only N (s.y / 3) h.1.0 h.1.1 in
            (s.y / 3, site_input N.inputs 0 (s.y / 3) l ∙ ap (λ (x : Site). Some x) (sym (at_centre s m c))))
        | inr h ↦ absurd (no_input_tap N (get_or (Ends 0 ∷ rows_of N) (s.y / 3) (Ends 0)) (row_at N (s.y / 3)) h.0 h.1 (follows_here (s.y / 3)) h.2)
      ];
  as_many_outputs = output_count p N.outputs _;
  output = λ i s net e f.
      let g = output_site p N.outputs (length (rows_of N) - length N.outputs) i net s e f in
      subst (IsOutput net) (sym g) (output_there i net f);
}
  where
    IsInput : ℕ → Site → Type 0
    IsInput i s = IsInside (square_grid (3 * p.columns) (3 * height_of N)) s × (spot s ≡ Mid) × (tile_of N p (s.x / 3) (s.y / 3) ≡ Inputs) × (mid_in (row_at N (s.y / 3)) (place_at N p (s.x / 3) (s.y / 3)) (found (passing N p (s.x / 3) (s.y / 3))) false ≡ i)

    some_column : (i : ℕ) → i < N.inputs → 0 < p.columns
    some_column i b = let l = placed.inside i (omega arith) in omega (arith, l.1)

    input_there : (i : ℕ) → i < N.inputs → IsInput i (centre 0 i)
    input_there i b =
        let (e, l) = input_row N i b in
        let w = some_column i b in (
          ((omega (arith, w)), (omega (arith, l))),
          centre_spot 0 i,
          ap (tile_of N p ((centre 0 i).x / 3)) (centre_y 0 i) ∙ ap (λ (x : ℕ). tile_of N p x i) (centre_x 0 i) ∙ ap (λ (x : Row). tile_in x Device (is_some (passing N p 0 i)) (nat_lt i (last_row N (net_of (row_at N i))))) e,
          ap (λ (y : ℕ). mid_in (row_at N y) (place_at N p ((centre 0 i).x / 3) y) (found (passing N p ((centre 0 i).x / 3) y)) false) (centre_y 0 i) ∙
              ap (λ (x : ℕ). mid_in (row_at N i) (place_at N p x i) (found (passing N p x i)) false) (centre_x 0 i) ∙
              ap (λ (x : Row). mid_in x Device (found (passing N p 0 i)) false) e,
        )

    at_centre : (s : Site) → spot s ≡ Mid → s.x / 3 ≡ 0 → s ≡ centre 0 (0 + s.y / 3)
    at_centre s m c = let (a, b) = place_in_tile s Mid m in site_is s _ _ (omega arith) (omega arith)

    follows_here : (r : ℕ) → Follows N (get_or (Ends 0 ∷ rows_of N) r (Ends 0)) (row_at N r)
    follows_here r = follows_at N 0 (Ends 0) (rows_of N) (rows_sound N good.ordered good.outputs) r

    IsOutput : ℕ → Site → Type 0
    IsOutput net s = IsInside (square_grid (3 * p.columns) (3 * height_of N)) s × (spot s ≡ Mid) × (kind_in (tile_of N p (s.x / 3) (s.y / 3)) Mid ≡ Wire) × (mid_in (row_at N (s.y / 3)) (place_at N p (s.x / 3) (s.y / 3)) (found (passing N p (s.x / 3) (s.y / 3))) false ≡ net)

    output_there : (i net : ℕ) → slice_get N.outputs i ≡ Some net → IsOutput net (centre (p.column net) (length (rows_of N) - length N.outputs + i))
    output_there i net f =
        let r : ℕ = length (rows_of N) - length N.outputs + i in
        let (e, l) = output_row N i net f in
        let c : ℕ = p.column net in
        let (one, w) = placed.inside net (good.outputs i net f) in
        let k : place_at N p c r ≡ Own = ap (λ (x : Row). place_in c (p.column (net_of x))) e ∙ own_place c one in (
          ((omega (arith, w)), (omega (arith, l))),
          centre_spot c r,
          ap (λ (y : ℕ). kind_in (tile_of N p ((centre c r).x / 3) y) Mid) (centre_y c r) ∙ ap (λ (x : ℕ). kind_in (tile_of N p x r) Mid) (centre_x c r) ∙
              ap (λ (x : Place). kind_in (tile_in (row_at N r) x (is_some (passing N p c r)) (nat_lt r (last_row N (net_of (row_at N r))))) Mid) k ∙
              ap (λ (x : Row). kind_in (tile_in x Own (is_some (passing N p c r)) (nat_lt r (last_row N (net_of (row_at N r))))) Mid) e,
          ap (λ (y : ℕ). mid_in (row_at N y) (place_at N p ((centre c r).x / 3) y) (found (passing N p ((centre c r).x / 3) y)) false) (centre_y c r) ∙
              ap (λ (x : ℕ). mid_in (row_at N r) (place_at N p x r) (found (passing N p x r)) false) (centre_x c r) ∙
              ap (λ (x : Place). mid_in (row_at N r) x (found (passing N p c r)) false) k ∙ ap (λ (x : Row). mid_in x Own (found (passing N p c r)) false) e,
        )

pub drawing_lawful : (N : NetlistOf) (p : Placement) → IsNetlist N → IsPlacement N p → IsLawful (sealed N p)
drawing_lawful N p good placed =
    (by_sites (drawn N p), tiled_law (sealed N p) p.columns (height_of N) (drawn N p) good.ordered (length-map-range_with_len _ 0 _) (tiled N p) (drawing_law N p good placed) (ends N p good placed))
