-- The table of columns from row to row, and the tiles that it gives.
use Rattle.std.proofs.Common.{◌≡◌, ℕ, zero, suc, ◌+◌, ◌<◌, Bool, true, false, cond, Some, None, List, map, get_or, set, refl, sym, ap, ◌∙◌, subst, inl, inr, arith, get_or-set_other, get_or-set_same}
use Rattle.std.specs.Prelude.{is_some, nat_lt}
use Rattle.std.specs.List.{range_with_len}
use Rattle.std.proofs.lemmas.List.{length-set}
use Rattle.std.proofs.lemmas.Bool.{cases_eq}
use Rattle.surf_tiles.specs.Netlists.{NetlistOf, IsNetlist}
use Rattle.surf_place.specs.Drawing.{Row, Source, Tap, Ends, net_of, row_at, last_row, Placement, IsPlacement, Place, Device, Left, Own, Right, place_in, tile_in, passing, tile_of}
use Rattle.surf_place.proofs.Nets.{height_of}
use Rattle.surf_route.specs.Routing.{line_of, line_tile, tile_by, line_tiles, arrives, IsTable, tiles_in_row}
use Rattle.surf_route.proofs.Drawn.{lane_at, coming, going_passing, coming_passing, own_going, row_of}
use Rattle.surf_route.proofs.SealedLaw.{own_place}

arrives_coming : (N : NetlistOf) (p : Placement) (c r : ℕ) → arrives N p (suc c) r ≡ is_some (coming N p (suc c) r)
arrives_coming N p c zero = refl
arrives_coming N p c (suc r) = refl

-- where another net than the row's own may pass, the table tells
arrives_passing : (N : NetlistOf) (p : Placement) → IsNetlist N → (c r : ℕ) → (suc c ≡ lane_at N p r → ⊥) → arrives N p (suc c) r ≡ is_some (passing N p (suc c) r)
arrives_passing N p good c r other = arrives_coming N p c r ∙ ap is_some (coming_passing N p good c r other)

some_below : (b : Bool) (n : ℕ) → is_some (cond b (Some n) None) ≡ b
some_below true n = refl
some_below false n = refl

-- the next row's table differs in the lane of the row alone
pub table_after : (N : NetlistOf) (p : Placement) → IsNetlist N → IsPlacement N p → (r : ℕ) (table : List Bool) → r < height_of N → IsTable N p r table → IsTable N p (r + 1) (set table (lane_at N p r) (nat_lt r (last_row N (net_of (row_at N r)))))
table_after N p good placed r table b h = subst (λ (x : ℕ). IsTable N p x (set table lane below)) (let e : suc r ≡ r + 1 = omega arith in e) (record {
  long = length-set table lane below ∙ h.long;
  each = λ c in_range. elim (cases_eq (suc c) lane) [
    | inl own ↦
        subst (λ (x : ℕ). get_or (set table x below) (suc c) false ≡ arrives N p (suc c) (suc r)) own
        (get_or-set_same table (suc c) below false (subst (λ (x : ℕ). suc c < x) (sym h.long) in_range)
        ∙ sym (ap is_some (own_going N p good placed c r (net_of (row_at N r)) (row_of N good r (row_at N r) b refl).here (sym own)) ∙ some_below below _))
    | inr other ↦
        get_or-set_other table lane (suc c) below false other ∙ h.each c in_range ∙ arrives_passing N p good c r other ∙ sym (ap is_some (going_passing N p good c r other))
  ];
})
  where
    lane : ℕ
    lane = lane_at N p r

    below : Bool
    below = nat_lt r (last_row N (net_of (row_at N r)))

-- the tile does not ask for the gate
gate_free : (row : Row) (place : Place) (passed below : Bool) → line_tile (line_of row) place passed below ≡ tile_in row place passed below
gate_free (Source net device) place passed below = refl
gate_free (Tap net gate device) Device passed below = refl
gate_free (Tap net gate device) Left passed below = refl
gate_free (Tap net gate device) Own passed below = refl
gate_free (Tap net gate device) Right passed below = refl
gate_free (Ends net) place passed below = refl

device_same : (row : Row) (a b below : Bool) → tile_in row Device a below ≡ tile_in row Device b below
device_same (Source net device) a b below = refl
device_same (Tap net gate device) a b below = refl
device_same (Ends net) a b below = refl

own_same : (row : Row) (a b below : Bool) → tile_in row Own a below ≡ tile_in row Own b below
own_same (Source net device) a b below = refl
own_same (Tap net gate device) a b below = refl
own_same (Ends net) a b below = refl

-- the tile by the table is that of the drawing
tile_there : (N : NetlistOf) (p : Placement) → IsNetlist N → (r : ℕ) (table : List Bool) → IsTable N p r table → (c : ℕ) → c < p.columns →
    tile_by (line_of (row_at N r)) (lane_at N p r) table (nat_lt r (last_row N (net_of (row_at N r)))) c ≡ tile_of N p c r
tile_there N p good r table h zero in_range = gate_free (row_at N r) Device _ _ ∙ device_same (row_at N r) _ _ _
tile_there N p good r table h (suc c) in_range =
    gate_free (row_at N r) (place_in (suc c) (lane_at N p r)) _ _ ∙
    elim (cases_eq (suc c) (lane_at N p r)) [
      | inl own ↦
          (let place : place_in (suc c) (lane_at N p r) ≡ Own = ap (place_in (suc c)) (sym own) ∙ own_place (suc c) (omega arith) in
          ap (λ (x : Place). tile_in (row_at N r) x (get_or table (suc c) false) below) place ∙ own_same (row_at N r) _ _ _ ∙ sym (ap (λ (x : Place). tile_in (row_at N r) x (is_some (passing N p (suc c) r)) below) place))
      | inr other ↦ ap (λ (x : Bool). tile_in (row_at N r) (place_in (suc c) (lane_at N p r)) x below) (h.each c in_range ∙ arrives_passing N p good c r other)
    ]
  where
    below : Bool
    below = nat_lt r (last_row N (net_of (row_at N r)))

map_same : {X : Type 0} (f g : ℕ → X) (from n : ℕ) → ((k : ℕ) → k < from + n → f k ≡ g k) → map f (range_with_len from n) ≡ map g (range_with_len from n)
map_same f g from zero h = refl
map_same f g from (suc n) h = cc (h from (omega arith), map_same f g (from + 1) n (λ k b. h k (omega (arith, b))))

pub tiles_there : (N : NetlistOf) (p : Placement) → IsNetlist N → (r : ℕ) (table : List Bool) → IsTable N p r table →
    line_tiles (line_of (row_at N r)) (lane_at N p r) table (nat_lt r (last_row N (net_of (row_at N r)))) p.columns ≡ tiles_in_row N p r
tiles_there N p good r table h = map_same _ _ 0 p.columns (λ c b. tile_there N p good r table h c (omega (arith, b)))
