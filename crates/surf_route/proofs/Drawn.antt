-- The drawing of a netlist under any placement meets the law over tiles.
use Rattle.std.proofs.Common.{◌≡◌, ℕ, zero, suc, ◌+◌, ◌<◌, Bool, true, false, cond, Option, Some, None, refl, sym, ap, ◌∙◌, subst, inl, inr, arith}
use Rattle.std.specs.Prelude.{nat_eq, nat_lt, is_some, ◌&&◌}
use Rattle.std.proofs.lemmas.List.{get_or_past}
use Rattle.std.proofs.lemmas.Bool.{cases_lt, eq-eqb, eqb-true, lt-ltb, le-ltb, ltb-true, ltb-false}
use Rattle.surf_tiles.specs.Netlists.{IsNetlist, NetlistOf, nets_of}
use Rattle.surf_route.specs.TileLaw.{Tiling, TileLaw}
use Rattle.surf_route.specs.Routing.{goes}
use Rattle.surf_place.specs.Drawing.{Row, Source, Tap, Ends, net_of, rows_of, row_at, greatest, found, source_row, last_row, Placement, HasRow, IsPlacement, Place, Device, Left, Own, Right, place_in, tile_in, passes, passing, tile_of}
use Rattle.surf_place.proofs.Rows.{Follows, rows_sound, follows_at}
use Rattle.surf_place.proofs.Nets.{greatest_is, greatest_same, greatest_none, greatest_some, height_of, source_here, has_source, tap_below, end_below, reaches}
use Rattle.surf_route.proofs.Edges.{Edge, Runs, before, edges_give}
use Rattle.surf_route.proofs.Cells.{entry_in, mid_in, level_in, edge_in, carried, taken, ports, Fitting, Above, none_after, device_given, Stands, left_in, after_left, north_in, south_in, beside_fits}

-- the least level of a row
abbrev pub base_of : (columns r : ℕ) → ℕ
base_of columns zero = 0
base_of columns (suc r) = base_of columns r + columns

abbrev pub lane_at : NetlistOf → Placement → ℕ → ℕ
lane_at N p r = p.column (net_of (row_at N r))

-- the net that goes from a row to the next in a column
abbrev pub going : NetlistOf → Placement → (c r : ℕ) → Option ℕ
going N p zero r = taken (row_at N r) (row_at N (suc r))
going N p (suc c) r = greatest (goes N p (suc c) r) (nets_of N)

abbrev pub coming : NetlistOf → Placement → (c r : ℕ) → Option ℕ
coming N p c zero = None
coming N p c (suc r) = going N p c r

abbrev pub across : NetlistOf → Placement → (c r : ℕ) → Edge
across N p c r = edge_in (row_at N r) (nat_lt c (lane_at N p r)) (base_of p.columns r) c (lane_at N p r)

abbrev pub down : NetlistOf → Placement → (c r : ℕ) → Edge
down N p c r = carried (going N p c r) (base_of p.columns (suc r))

abbrev pub place_at : NetlistOf → Placement → (c r : ℕ) → Place
place_at N p c r = place_in c (lane_at N p r)

abbrev pub drawn : NetlistOf → Placement → Tiling
drawn N p = record {
  tile = tile_of N p;
  entry = λ c r. entry_in (row_at N r) (place_at N p c r);
  port_net = λ c r. ports (before (down N p c) r) (across N p c r) (down N p c r) (before (λ x. across N p x r) c);
  mid_net = λ c r. mid_in (row_at N r) (place_at N p c r) (found (passing N p c r));
  level = λ c r. level_in (row_at N r) (place_at N p c r) (base_of p.columns r) c (lane_at N p r);
}

-- what the row of a net says of the net
pub record RowHere (N : NetlistOf) (r n : ℕ) : Type 0 where
  pub in_range : n < nets_of N
  pub has : HasRow N n r

abbrev pub StartsAt : Row → (source r : ℕ) → Type 0
StartsAt (Source n device) source r = source ≡ r
StartsAt (Tap n gate device) source r = source < r
StartsAt (Ends n) source r = source < r

pub record RowOf (N : NetlistOf) (r : ℕ) (row : Row) : Type 0 where
  pub here : RowHere N r (net_of row)
  pub starts : StartsAt row (source_row N (net_of row)) r

pub row_of : (N : NetlistOf) → IsNetlist N → (r : ℕ) (row : Row) → r < height_of N → row_at N r ≡ row → RowOf N r row
row_of N good r (Source n device) b e =
    let s = source_here N good r n device b e in let t = reaches N n r b (ap net_of e) in
    record { here = record { in_range = s.in_range; has = (let h = s.here in omega arith, t.reaches) }; starts = s.here }
row_of N good r (Tap n gate device) b e =
    let s = tap_below N good r n gate device b e in let t = reaches N n r b (ap net_of e) in
    record { here = record { in_range = s.in_range; has = (let h = s.above in omega arith, t.reaches) }; starts = s.above }
row_of N good r (Ends n) b e =
    let s = end_below N good r n b e in let t = reaches N n r b (ap net_of e) in
    record { here = record { in_range = s.in_range; has = (let h = s.above in omega arith, t.reaches) }; starts = s.above }

-- the first and the last row of a net name it
record NetHere (N : NetlistOf) (n : ℕ) : Type 0 where
  first : net_of (row_at N (source_row N n)) ≡ n
  last : net_of (row_at N (last_row N n)) ≡ n
  within : last_row N n < height_of N

net_here : (N : NetlistOf) → IsNetlist N → (n : ℕ) → n < nets_of N → NetHere N n
net_here N good n b =
    let s = has_source N good n b in
    let t = reaches N n (source_row N n) s.within (ap net_of s.is) in
    record { first = ap net_of s.is; last = t.last.is; within = t.last.within }

-- tests
record Meets (x c a b a' b' : ℕ) : Type 0 where
  column : x ≡ c
  first : a < b
  second : a' < b'

meets_from : (x c a b a' b' : ℕ) → (nat_eq x c && (nat_lt a b && nat_lt a' b')) ≡ true → Meets x c a b a' b'
meets_from x c a b a' b' e = go (nat_eq x c) (nat_lt a b) (nat_lt a' b') refl refl refl e
  where
    go : (s t u : Bool) → nat_eq x c ≡ s → nat_lt a b ≡ t → nat_lt a' b' ≡ u → (s && (t && u)) ≡ true → Meets x c a b a' b'
    go true true true h h' h'' e' = record { column = eqb-true x c h; first = ltb-true a b h'; second = ltb-true a' b' h'' }
    go true true false h h' h'' e' = absurd cc
    go true false u h h' h'' e' = absurd cc
    go false t u h h' h'' e' = absurd cc

meets_is : (x c a b a' b' : ℕ) → x ≡ c → a < b → a' < b' → (nat_eq x c && (nat_lt a b && nat_lt a' b')) ≡ true
meets_is x c a b a' b' e f g = ap (λ (s : Bool). s && (nat_lt a b && nat_lt a' b')) (eq-eqb x c e) ∙ ap (λ (t : Bool). true && (t && nat_lt a' b')) (lt-ltb a b f) ∙ ap (λ (u : Bool). true && (true && u)) (lt-ltb a' b' g)

goes_means : (N : NetlistOf) (p : Placement) (c r n : ℕ) → goes N p c r n ≡ true → Meets (p.column n) c (source_row N n) (suc r) r (last_row N n)
goes_means N p c r n h = meets_from (p.column n) c (source_row N n) (suc r) r (last_row N n) h

passes_means : (N : NetlistOf) (p : Placement) (c r n : ℕ) → passes N p c r n ≡ true → Meets (p.column n) c (source_row N n) r r (last_row N n)
passes_means N p c r n h = meets_from (p.column n) c (source_row N n) r r (last_row N n) h

bool_same : (a b : Bool) → (a ≡ true → b ≡ true) → (b ≡ true → a ≡ true) → a ≡ b
bool_same true b f g = sym (f refl)
bool_same false true f g = absurd (cc (g refl))
bool_same false false f g = refl

-- where a net other than the row's own passes, it comes and goes
pub going_passing : (N : NetlistOf) (p : Placement) → IsNetlist N → (c r : ℕ) → (suc c ≡ lane_at N p r → ⊥) → going N p (suc c) r ≡ passing N p (suc c) r
going_passing N p good c r other =
    greatest_same (goes N p (suc c) r) (passes N p (suc c) r) (nets_of N) (λ m b.
    bool_same (goes N p (suc c) r m) (passes N p (suc c) r m)
    (λ h.
    let t = goes_means N p (suc c) r m h in
    let q = net_here N good m b in
    meets_is _ _ _ _ _ _ t.column (
    elim (cases_lt (source_row N m) r) as (λ x. source_row N m < r) [
      | inl l ↦ l
      | inr l ↦ absurd (
          let e : source_row N m ≡ r = (let f = t.first in omega arith) in
          let g : net_of (row_at N r) ≡ m = ap (λ (x : ℕ). net_of (row_at N x)) (sym e) ∙ q.first in
          other (sym t.column ∙ ap p.column (sym g)))
    ]) t.second)
    (λ h. let t = passes_means N p (suc c) r m h in meets_is _ _ _ _ _ _ t.column (let f = t.first in omega arith) t.second))

pub coming_passing : (N : NetlistOf) (p : Placement) → IsNetlist N → (c r : ℕ) → (suc c ≡ lane_at N p r → ⊥) → coming N p (suc c) r ≡ passing N p (suc c) r
coming_passing N p good c zero other = sym (greatest_none (passes N p (suc c) 0) (nets_of N) (λ m b h. let t = passes_means N p (suc c) 0 m h in let f = t.first in absurd (omega arith)))
coming_passing N p good c (suc r) other =
    greatest_same (goes N p (suc c) r) (passes N p (suc c) (suc r)) (nets_of N) (λ m b.
    bool_same (goes N p (suc c) r m) (passes N p (suc c) (suc r) m)
    (λ h.
    let t = goes_means N p (suc c) r m h in
    let q = net_here N good m b in
    meets_is _ _ _ _ _ _ t.column t.first (
    elim (cases_lt (suc r) (last_row N m)) as (λ x. suc r < last_row N m) [
      | inl l ↦ l
      | inr l ↦ absurd (
          let e : last_row N m ≡ suc r = (let f = t.second in omega arith) in
          let g : net_of (row_at N (suc r)) ≡ m = ap (λ (x : ℕ). net_of (row_at N x)) (sym e) ∙ q.last in
          other (sym t.column ∙ ap p.column (sym g)))
    ]))
    (λ h. let t = passes_means N p (suc c) (suc r) m h in meets_is _ _ _ _ _ _ t.column t.first (let f = t.second in omega arith)))

-- in the row's own lane no other net goes or comes
pub own_going : (N : NetlistOf) (p : Placement) → IsNetlist N → IsPlacement N p → (c r n : ℕ) → RowHere N r n → p.column n ≡ suc c → going N p (suc c) r ≡ cond (nat_lt r (last_row N n)) (Some n) None
own_going N p good placed c r n here e = go (nat_lt r (last_row N n)) refl
  where
    only : (m : ℕ) → m < nets_of N → goes N p (suc c) r m ≡ true → m ≡ n
    only m b h = let t = goes_means N p (suc c) r m h in placed.apart m n r b here.in_range (t.column ∙ sym e) (let f = t.first in omega arith, let f = t.second in omega arith) here.has

    go : (t : Bool) → nat_lt r (last_row N n) ≡ t → going N p (suc c) r ≡ cond t (Some n) None
    go true h =
        greatest_is (goes N p (suc c) r) (nets_of N) n here.in_range (meets_is _ _ _ _ _ _ e (let f = here.has.0 in omega arith) (ltb-true _ _ h)) (λ m b k. let f = only m b k in omega arith)
    go false h =
        greatest_none (goes N p (suc c) r) (nets_of N) (λ m b k.
        let f : m ≡ n = only m b k in let t = goes_means N p (suc c) r m k in
        let l : r < last_row N n = subst (λ (x : ℕ). r < last_row N x) f t.second in
        let l' = ltb-false _ _ h in absurd (omega arith))

own_coming : (N : NetlistOf) (p : Placement) → IsNetlist N → IsPlacement N p → (c r n : ℕ) → RowHere N r n → p.column n ≡ suc c → source_row N n < r → coming N p (suc c) r ≡ Some n
own_coming N p good placed c zero n here e l = absurd (omega arith)
own_coming N p good placed c (suc r) n here e l =
    greatest_is (goes N p (suc c) r) (nets_of N) n here.in_range (meets_is _ _ _ _ _ _ e l (let f = here.has.1 in omega arith)) (λ m b k.
    let t = goes_means N p (suc c) r m k in
    let f : m ≡ n = placed.apart m n (suc r) b here.in_range (t.column ∙ sym e) (let f = t.first in omega arith, let f = t.second in omega arith) here.has in omega arith)

none_coming : (N : NetlistOf) (p : Placement) → IsNetlist N → IsPlacement N p → (c r n : ℕ) → RowHere N r n → p.column n ≡ suc c → source_row N n ≡ r → coming N p (suc c) r ≡ None
none_coming N p good placed c zero n here e l = refl
none_coming N p good placed c (suc r) n here e l =
    greatest_none (goes N p (suc c) r) (nets_of N) (λ m b k.
    let t = goes_means N p (suc c) r m k in
    let f : m ≡ n = placed.apart m n (suc r) b here.in_range (t.column ∙ sym e) (let f = t.first in omega arith, let f = t.second in omega arith) here.has in
    let g : source_row N n < suc r = subst (λ (x : ℕ). source_row N x < suc r) f t.first in absurd (omega arith))

-- where a column stands
record Standing (c lane : ℕ) : Type 0 where
  place : Place
  stands : Stands place (suc c) lane
  is : place_in (suc c) lane ≡ place
  left : nat_lt (suc c) lane ≡ left_in place
  after : nat_lt c lane ≡ after_left place

standing : (c lane : ℕ) → Standing c lane
standing c lane =
    elim (cases_lt (suc c) lane) [
      | inl l ↦ record { place = Left; stands = l; is = ap (λ (x : Bool). cond x Left (cond (nat_eq (suc c) lane) Own Right)) (lt-ltb _ _ l); left = lt-ltb _ _ l; after = lt-ltb _ _ (omega arith) }
      | inr l ↦ elim (cases_lt lane (suc c)) [
        | inl l' ↦ record {
          place = Right;
          stands = l';
          is = ap (λ (x : Bool). cond x Left (cond (nat_eq (suc c) lane) Own Right)) (le-ltb _ _ l) ∙ ap (λ (x : Bool). cond x Own Right) (not_equal _ _ l');
          left = le-ltb _ _ l;
          after = le-ltb _ _ (omega arith);
        }
        | inr l' ↦ record {
          place = Own;
          stands = omega arith;
          is = ap (λ (x : Bool). cond x Left (cond (nat_eq (suc c) lane) Own Right)) (le-ltb _ _ l) ∙ ap (λ (x : Bool). cond x Own Right) (eq-eqb _ _ (omega arith));
          left = le-ltb _ _ l;
          after = lt-ltb _ _ (omega arith);
        }
      ]
    ]
  where
    not_equal : (a b : ℕ) → b < a → nat_eq a b ≡ false
    not_equal a b l = go (nat_eq a b) refl
      where
        go : (t : Bool) → nat_eq a b ≡ t → t ≡ false
        go true h = (let e = eqb-true a b h in absurd (omega arith))
        go false h = refl

-- the tile beside the devices fits
abbrev Whole : NetlistOf → Row → Place → (passing north south : Option ℕ) → (left after below : Bool) → (base next c lane : ℕ) → Type 0
Whole N row place passing north south left after below base next c lane =
    Fitting N (tile_in row place (is_some passing) below) (entry_in row place) (mid_in row place (found passing)) (level_in row place base (suc c) lane) (carried north base) (edge_in row left base (suc c) lane) (carried south next) (edge_in row after base c lane)

whole : (N : NetlistOf) (row : Row) (place place' : Place) (passing north south : Option ℕ) (left after below : Bool) (base next c lane : ℕ) → Stands place' (suc c) lane → base + lane < next → place ≡ place' →
    north ≡ north_in row place' passing → south ≡ south_in row place' passing below → left ≡ left_in place' → after ≡ after_left place' → Whole N row place passing north south left after below base next c lane
whole N row place place' passing north south left after below base next c lane stands b e f g h i =
    rw (e, f, g, h, i) (beside_fits N row place' passing below base next c lane stands b)

north_left : (row : Row) (x : Option ℕ) → x ≡ north_in row Left x
north_left (Source n device) x = refl
north_left (Tap n gate device) x = refl
north_left (Ends n) x = refl

north_right : (row : Row) (x : Option ℕ) → x ≡ north_in row Right x
north_right (Source n device) x = refl
north_right (Tap n gate device) x = refl
north_right (Ends n) x = refl

north_is : (N : NetlistOf) (p : Placement) → IsNetlist N → IsPlacement N p → (c r : ℕ) → (row : Row) → row_at N r ≡ row → RowOf N r row → (place : Place) → Stands place (suc c) (p.column (net_of row)) → coming N p (suc c) r ≡ north_in row place (passing N p (suc c) r)
north_is N p good placed c r row e f Device h = absurd h
north_is N p good placed c r row e f Left h = coming_passing N p good c r (λ g. let k : lane_at N p r ≡ p.column (net_of row) = ap (λ (x : Row). p.column (net_of x)) e in omega (arith, g, k, h)) ∙ north_left row (passing N p (suc c) r)
north_is N p good placed c r (Source n device) e f Own h = none_coming N p good placed c r n f.here (sym h) f.starts
north_is N p good placed c r (Tap n gate device) e f Own h = own_coming N p good placed c r n f.here (sym h) f.starts
north_is N p good placed c r (Ends n) e f Own h = own_coming N p good placed c r n f.here (sym h) f.starts
north_is N p good placed c r row e f Right h = coming_passing N p good c r (λ g. let k : lane_at N p r ≡ p.column (net_of row) = ap (λ (x : Row). p.column (net_of x)) e in omega (arith, g, k, h)) ∙ north_right row (passing N p (suc c) r)

south_is : (N : NetlistOf) (p : Placement) → IsNetlist N → IsPlacement N p → (c r : ℕ) → (row : Row) → row_at N r ≡ row → RowOf N r row → (place : Place) → Stands place (suc c) (p.column (net_of row)) →
    going N p (suc c) r ≡ south_in row place (passing N p (suc c) r) (nat_lt r (last_row N (net_of row)))
south_is N p good placed c r row e f Device h = absurd h
south_is N p good placed c r row e f Left h = going_passing N p good c r (λ g. let k : lane_at N p r ≡ p.column (net_of row) = ap (λ (x : Row). p.column (net_of x)) e in omega (arith, g, k, h))
south_is N p good placed c r row e f Own h = own_going N p good placed c r (net_of row) f.here (sym h)
south_is N p good placed c r row e f Right h = going_passing N p good c r (λ g. let k : lane_at N p r ≡ p.column (net_of row) = ap (λ (x : Row). p.column (net_of x)) e in omega (arith, g, k, h))

-- every tile fits the edges round it
abbrev Fitted : NetlistOf → Placement → (c r : ℕ) → Type 0
Fitted N p c r =
    Fitting N (tile_of N p c r) (entry_in (row_at N r) (place_at N p c r)) (mid_in (row_at N r) (place_at N p c r) (found (passing N p c r))) (level_in (row_at N r) (place_at N p c r) (base_of p.columns r) c (lane_at N p r))
    (before (down N p c) r) (across N p c r) (down N p c r) (before (λ x. across N p x r) c)

north_edge : (N : NetlistOf) (p : Placement) (c r : ℕ) → carried (coming N p c r) (base_of p.columns r) ≡ before (down N p c) r
north_edge N p c zero = refl
north_edge N p c (suc r) = refl

fits_beside : (N : NetlistOf) (p : Placement) → IsNetlist N → IsPlacement N p → (c r : ℕ) → r < height_of N → Fitted N p (suc c) r
fits_beside N p good placed c r b =
    let s = standing c (lane_at N p r) in
    let f = row_of N good r (row_at N r) b refl in
    let l : p.column (net_of (row_at N r)) < p.columns = (placed.inside (net_of (row_at N r)) f.here.in_range).1 in
    subst (λ (x : Edge). Fitting N (tile_of N p (suc c) r) (entry_in (row_at N r) (place_at N p (suc c) r)) (mid_in (row_at N r) (place_at N p (suc c) r) (found (passing N p (suc c) r))) (level_in (row_at N r) (place_at N p (suc c) r) (base_of p.columns r) (suc c) (lane_at N p r)) x (across N p (suc c) r) (down N p (suc c) r) (across N p c r))
    (north_edge N p (suc c) r)
    (whole N (row_at N r) (place_at N p (suc c) r) s.place (passing N p (suc c) r) (coming N p (suc c) r) (going N p (suc c) r) (nat_lt (suc c) (lane_at N p r)) (nat_lt c (lane_at N p r)) (nat_lt r (last_row N (net_of (row_at N r)))) (base_of p.columns r) (base_of p.columns (suc r)) c (lane_at N p r)
    s.stands (omega (arith, l)) s.is (north_is N p good placed c r (row_at N r) refl f s.place s.stands) (south_is N p good placed c r (row_at N r) refl f s.place s.stands) s.left s.after)

-- the devices' column
pub above_at : (N : NetlistOf) → IsNetlist N → (r : ℕ) → Follows N (row_at N r) (row_at N (suc r))
above_at N good r = follows_at N 0 (Ends 0) (rows_of N) (rows_sound N good.ordered good.outputs) (suc r)

fits_device : (N : NetlistOf) (p : Placement) → IsNetlist N → IsPlacement N p → (r : ℕ) → r < height_of N → Fitted N p 0 r
fits_device N p good placed r b = go r b (row_of N good r (row_at N r) b refl)
  where
    left_of : (r' : ℕ) → RowOf N r' (row_at N r') → nat_lt 0 (lane_at N p r') ≡ true
    left_of r' f = let l = (placed.inside (net_of (row_at N r')) f.here.in_range).0 in lt-ltb _ _ (omega (arith, l))

    low : (r' : ℕ) → RowOf N r' (row_at N r') → base_of p.columns r' + lane_at N p r' < base_of p.columns (suc r')
    low r' f = let l : p.column (net_of (row_at N r')) < p.columns = (placed.inside (net_of (row_at N r')) f.here.in_range).1 in omega (arith, l)

    go : (r' : ℕ) → r' < height_of N → RowOf N r' (row_at N r') → Fitted N p 0 r'
    go zero b' f =
        let first = follows_at N 0 (Ends 0) (rows_of N) (rows_sound N good.ordered good.outputs) 0 in
        rw (left_of 0 f) (subst (λ (x : Option ℕ). Above N (row_at N 0) (nat_lt 0 (last_row N (net_of (row_at N 0)))) (passing N p 0 0) 0 (base_of p.columns 1) (lane_at N p 0) x (taken (row_at N 0) (row_at N 1)))
        (none_after N (Ends 0) (row_at N 0) tt first)
        (device_given N (Ends 0) (row_at N 0) (row_at N 1) (nat_lt 0 (last_row N (net_of (row_at N 0)))) (passing N p 0 0) 0 (base_of p.columns 1) (lane_at N p 0) (low 0 f) first (above_at N good 0)))
    go (suc r') b' f =
        rw (left_of (suc r') f)
        (device_given N (row_at N r') (row_at N (suc r')) (row_at N (suc (suc r'))) (nat_lt (suc r') (last_row N (net_of (row_at N (suc r'))))) (passing N p 0 (suc r')) (base_of p.columns (suc r')) (base_of p.columns (suc (suc r'))) (lane_at N p (suc r')) (low (suc r') f) (above_at N good r') (above_at N good (suc r')))

fitted : (N : NetlistOf) (p : Placement) → IsNetlist N → IsPlacement N p → (c r : ℕ) → r < height_of N → Fitted N p c r
fitted N p good placed zero r b = fits_device N p good placed r b
fitted N p good placed (suc c) r b = fits_beside N p good placed c r b

-- no edge leads out of the drawing
edge_runs : (row : Row) (left : Bool) (base c lane n above : ℕ) (forward : Bool) → edge_in row left base c lane ≡ Runs forward n above → left ≡ true
edge_runs (Source m device) true base c lane n above forward e = refl
edge_runs (Source m device) false base c lane n above forward e = absurd cc
edge_runs (Tap m gate device) true base c lane n above forward e = refl
edge_runs (Tap m gate device) false base c lane n above forward e = absurd cc
edge_runs (Ends m) left base c lane n above forward e = absurd cc

carried_some : (o : Option ℕ) (base n above : ℕ) (forward : Bool) → carried o base ≡ Runs forward n above → o ≡ Some n
carried_some None base n above forward e = absurd cc
carried_some (Some m) base n above forward e = cc

ends_south : (N : NetlistOf) (p : Placement) → IsNetlist N → (c r n : ℕ) → r < height_of N → going N p c r ≡ Some n → r + 1 < height_of N
ends_south N p good zero r n b e =
    elim (cases_lt (r + 1) (height_of N)) as (λ x. r + 1 < height_of N) [
      | inl l ↦ l
      | inr l ↦ absurd (let f : row_at N (suc r) ≡ Ends 0 = get_or_past (rows_of N) (suc r) (Ends 0) (omega arith) in cc (sym (ap (taken (row_at N r)) f) ∙ e))
    ]
ends_south N p good (suc c) r n b e =
    let g = greatest_some (goes N p (suc c) r) (nets_of N) n e in
    let t = goes_means N p (suc c) r n g.1 in
    let q = net_here N good n g.0 in
    let l = t.second in let w = q.within in omega (arith, l, w)

pub drawing_law : (N : NetlistOf) (p : Placement) → IsNetlist N → IsPlacement N p → TileLaw N p.columns (height_of N) (drawn N p)
drawing_law N p good placed = edges_give N p.columns (height_of N) (drawn N p) (across N p) (down N p) (record {
  entered = λ c r b d. (fitted N p good placed c r d).entered;
  nets = λ c r b d. (fitted N p good placed c r d).nets;
  east = λ c r b d. (fitted N p good placed c r d).at_east;
  west = λ c r b d. (fitted N p good placed c r d).at_west;
  south = λ c r b d. (fitted N p good placed c r d).at_south;
  north = λ c r b d. (fitted N p good placed c r d).at_north;
  net_east = λ c r. refl;
  net_west = λ c r. refl;
  net_south = λ c r. refl;
  net_north = λ c r. refl;
  ends_east = λ c r n above forward b d e.
      let l = ltb-true _ _ (edge_runs (row_at N r) (nat_lt c (lane_at N p r)) _ _ _ n above forward e) in
      let f = row_of N good r (row_at N r) d refl in
      let w = (placed.inside (net_of (row_at N r)) f.here.in_range).1 in omega (arith, l, w);
  ends_south = λ c r n above forward b d e. ends_south N p good c r n d (carried_some _ _ n above forward e);
})
