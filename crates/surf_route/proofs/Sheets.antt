-- A sheet after its next row.
use Rattle.std.proofs.Common.{◌≡◌, ℕ, ◌+◌, ◌<◌, ◌^◌, Bool, List, ◌++◌, length, set, refl, sym, ap, ◌∙◌, subst, arith}
use Rattle.std.specs.Prelude.{nat_lt}
use Rattle.std.specs.List.{range_with_len, flat_map}
use Rattle.surf_tiles.specs.Netlists.{nets_of}
use Rattle.surf_place.specs.Drawing.{Row, Source, Tap, Ends, net_of, row_at, rows_of, last_row}
use Rattle.surf_place.specs.Placed.{PlacedOf, IsPlaced, placement_of}
use Rattle.surf_route.specs.declared.line.Line.{Line}
use Rattle.surf_route.specs.declared.sheet.Sheet.{Sheet}
use Rattle.surf_route.specs.Routing.{line_of, row_by, line_tiles, IsTable, IsNext, IsSheet, tiles_in_row}
use Rattle.surf_route.proofs.Drawn.{row_of}
use Rattle.surf_route.proofs.Lines.{next_row, flat_more}
use Rattle.surf_route.proofs.Tables.{table_after, tiles_there}

net_by : (row : Row) → net_of (row_by (line_of row)) ≡ net_of row
net_by (Source net device) = refl
net_by (Tap net gate device) = refl
net_by (Ends net) = refl

-- what is known of the next row's net
pub record NextNet (d : PlacedOf) (r net : ℕ) : Type 0 where
  pub is : net ≡ net_of (row_at d.netlist r)
  pub in_range : net < nets_of d.netlist
  pub lane : (placement_of d).column net < (placement_of d).columns
  pub row : r < length (rows_of d.netlist)

pub next_net : (d : PlacedOf) (r net : ℕ) (line : Line) → IsPlaced d → IsNext d.netlist r line → net ≡ net_of (row_by line) → NextNet d r net
next_net d r net line placed next is =
    let h = next_row d.netlist r line next in
    let e : net ≡ net_of (row_at d.netlist r) = is ∙ ap (λ x. net_of (row_by x)) (sym h.is) ∙ net_by (row_at d.netlist r) in
    let in_range : net < nets_of d.netlist = subst (λ n. n < nets_of d.netlist) (sym e) (row_of d.netlist placed.drawable.netlist r (row_at d.netlist r) h.within refl).here.in_range in
    record { is = e; in_range = in_range; lane = (placed.placement.inside net in_range).1; row = h.within }

pub few_columns : (d : PlacedOf) (r : ℕ) (table : List Bool) → IsPlaced d → IsTable d.netlist (placement_of d) r table → length table < 2 ^ 32
few_columns d r table placed h =
    let few = placed.drawable.few in
    let most = placed.placement.few in
    omega (arith, h.long, most, few)

pub few_rows : (d : PlacedOf) (r : ℕ) → IsPlaced d → r < length (rows_of d.netlist) → r + 1 < 2 ^ 32
few_rows d r placed b = let few = placed.drawable.rows in omega (arith, few, b)

pub sheet_after : (d : PlacedOf) (s t : Sheet) (net lane : ℕ) (below : Bool) (line : Line) → IsSheet d s → IsNext d.netlist s.row line → net ≡ net_of (row_by line) → lane ≡ (placement_of d).column net → below ≡ nat_lt s.row (last_row d.netlist net) →
    t.row ≡ s.row + 1 → t.table.items ≡ set s.table.items lane below → t.tiles.items ≡ s.tiles.items ++ line_tiles line lane s.table.items below (length s.table.items) → IsSheet d t
sheet_after d s t net lane below line sheet next is lane_is below_is row table tiles =
    let h = next_row d.netlist s.row line next in
    let n = next_net d s.row net line sheet.placed next is in
    let p = placement_of d in
    let good = sheet.placed.drawable.netlist in
    let column : lane ≡ p.column (net_of (row_at d.netlist s.row)) = lane_is ∙ ap p.column n.is in
    let goes_on : below ≡ nat_lt s.row (last_row d.netlist (net_of (row_at d.netlist s.row))) = below_is ∙ ap (λ x. nat_lt s.row (last_row d.netlist x)) n.is in
    record {
      placed = sheet.placed;
      within = omega (arith, row, h.within);
      table = subst (λ r. IsTable d.netlist p r t.table.items) (sym row) (subst (IsTable d.netlist p (s.row + 1)) (sym (table ∙ ap (λ x. set s.table.items x below) column ∙ ap (set s.table.items (p.column (net_of (row_at d.netlist s.row)))) goes_on))
          (table_after d.netlist p good sheet.placed.placement s.row s.table.items h.within sheet.table));
      tiles = tiles ∙ ap (λ x. x ++ line_tiles line lane s.table.items below (length s.table.items)) sheet.tiles
          ∙ ap (λ x. flat_map (tiles_in_row d.netlist p) (range_with_len 0 s.row) ++ x) (more h.is column goes_on)
          ∙ sym (flat_more (tiles_in_row d.netlist p) 0 s.row s.row (omega arith))
          ∙ ap (λ r. flat_map (tiles_in_row d.netlist p) (range_with_len 0 r)) (sym row);
    }
  where
    more : line_of (row_at d.netlist s.row) ≡ line → lane ≡ (placement_of d).column (net_of (row_at d.netlist s.row)) → below ≡ nat_lt s.row (last_row d.netlist (net_of (row_at d.netlist s.row))) →
        line_tiles line lane s.table.items below (length s.table.items) ≡ tiles_in_row d.netlist (placement_of d) s.row
    more e f g =
        ap (λ x. line_tiles x lane s.table.items below (length s.table.items)) (sym e)
        ∙ ap (λ x. line_tiles (line_of (row_at d.netlist s.row)) x s.table.items below (length s.table.items)) f
        ∙ ap (λ x. line_tiles (line_of (row_at d.netlist s.row)) ((placement_of d).column (net_of (row_at d.netlist s.row))) s.table.items x (length s.table.items)) g
        ∙ ap (line_tiles (line_of (row_at d.netlist s.row)) ((placement_of d).column (net_of (row_at d.netlist s.row))) s.table.items (nat_lt s.row (last_row d.netlist (net_of (row_at d.netlist s.row))))) sheet.table.long
        ∙ tiles_there d.netlist (placement_of d) sheet.placed.drawable.netlist s.row s.table.items sheet.table
