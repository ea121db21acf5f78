-- Bounds on drawings, the sites of outputs, and the layout of a drawing.
use Rattle.std.proofs.Common.{◌≡◌, ℕ, zero, suc, ◌+◌, ◌-◌, ◌*◌, ◌<◌, ◌≤◌, List, [], ◌∷◌, ◌++◌, map, length, get_or, take, refl, sym, ap, ◌∙◌, arith}
use Rattle.std.specs.Prelude.{slice_get}
use Rattle.std.proofs.lemmas.List.{length-map, take_more}
use Rattle.std.proofs.lemmas.Option.{slice_get-get_or}
use Rattle.std.proofs.lemmas.List.FromFn.{length-map-range_with_len}
use Rattle.surf_lattice.specs.declared.site.Site.{Site}
use Rattle.surf_tiles.specs.Netlists.{nets_of}
use Rattle.surf_place.specs.Drawing.{Ends, rows_of, Placement}
use Rattle.surf_place.specs.Placed.{PlacedOf, IsPlaced, placement_of}
use Rattle.surf_settle.specs.Plans.{IsLayout}
use Rattle.surf_route.specs.Sealed.{centre, output_sites, sealed}
use Rattle.surf_route.proofs.EndRows.{output_below}
use Rattle.surf_route.proofs.SealedLaw.{drawing_lawful, output_count}

-- how large a drawing can be
pub record IsSmall (d : PlacedOf) : Type 0 where
  pub columns : (placement_of d).columns ≤ 1001
  pub some : 1 ≤ (placement_of d).columns
  pub rows : length (rows_of d.netlist) ≤ 3000
  pub outputs : length d.netlist.outputs ≤ length (rows_of d.netlist)
  pub used : 0 < length d.netlist.outputs
  pub inputs : d.netlist.inputs ≤ 1000

pub small : (d : PlacedOf) → IsPlaced d → IsSmall d
small d placed =
    let few = placed.drawable.few in
    let most = placed.placement.few in
    let b = output_below d.netlist in
    let l : length (map Ends d.netlist.outputs) ≡ length d.netlist.outputs = length-map d.netlist.outputs Ends in
    record {
      columns = omega (arith, few, most);
      some = omega arith;
      rows = placed.drawable.rows;
      outputs = omega (arith, b.long, l);
      used = placed.drawable.some;
      inputs = omega (arith, few);
    }

-- one output more
sites_append : (p : Placement) (row : ℕ) (xs : List ℕ) (x : ℕ) → output_sites p row (xs ++ x ∷ []) ≡ output_sites p row xs ++ centre (p.column x) (row + length xs) ∷ []
sites_append p row [] x = let e : row ≡ row + 0 = omega arith in ap (λ r. centre (p.column x) r ∷ []) e
sites_append p row (y ∷ xs) x =
    let e : row + 1 + length xs ≡ row + suc (length xs) = omega arith in
    ap (λ ss. centre (p.column y) row ∷ ss) (sites_append p (row + 1) xs x ∙ ap (λ r. output_sites p (row + 1) xs ++ centre (p.column x) r ∷ []) e)

length-take_low : {X : Type 0} (xs : List X) (k : ℕ) → k ≤ length xs → length (take k xs) ≡ k
length-take_low xs zero b = refl
length-take_low [] (suc k) b = absurd (omega (arith, b))
length-take_low (x ∷ xs) (suc k) b = ap suc (length-take_low xs k (omega (arith, b)))

pub outputs_more : (p : Placement) (row : ℕ) (outputs : List ℕ) (k d : ℕ) (done new : List Site) (site : Site) → k < length outputs → done ≡ output_sites p row (take k outputs) → new ≡ done ++ site ∷ [] → site ≡ centre (p.column (get_or outputs k d)) (row + k) →
    new ≡ output_sites p row (take (k + 1) outputs)
outputs_more p row outputs k d done new site b so_far put is =
    put ∙ ap (λ ss. ss ++ site ∷ []) so_far
    ∙ ap (λ s. output_sites p row (take k outputs) ++ s ∷ []) (is ∙ ap (λ n. centre (p.column (get_or outputs k d)) (row + n)) (sym (length-take_low outputs k (omega (arith, b)))))
    ∙ sym (sites_append p row (take k outputs) (get_or outputs k d)) ∙ ap (output_sites p row) (sym (take_more outputs k d b))

pub net_of_output : (d : PlacedOf) (outputs : List ℕ) (k e : ℕ) → IsPlaced d → outputs ≡ d.netlist.outputs → k < length outputs → get_or outputs k e < nets_of d.netlist
net_of_output d outputs k e placed all b =
    placed.drawable.netlist.outputs k (get_or outputs k e) (ap (λ xs. slice_get xs k) (sym all) ∙ slice_get-get_or outputs k e b)

-- the sealed drawing is a layout
pub is_layout : (d : PlacedOf) → IsPlaced d → IsLayout (sealed d.netlist (placement_of d))
is_layout d placed =
    let s = small d placed in
    let p = placement_of d in
    let high : 1 ≤ length (rows_of d.netlist) = omega (arith, s.outputs, s.used) in
    let count : length (sealed d.netlist p).kinds ≡ 3 * p.columns * (3 * length (rows_of d.netlist)) = length-map-range_with_len _ 0 _ in
    record {
      wide = omega (arith, s.some);
      high = omega (arith, high);
      small = omega (arith, count, most p.columns (length (rows_of d.netlist)) s.columns s.rows);
      few = omega (arith, output_count p d.netlist.outputs (length (rows_of d.netlist) - length d.netlist.outputs), s.outputs, s.rows);
      lawful = drawing_lawful d.netlist p placed.drawable.netlist placed.placement;
    }
  where
    most : (c r : ℕ) → c ≤ 1001 → r ≤ 3000 → 3 * c * (3 * r) ≤ 27027000
    most c r b d = grind (arith, b, d)
