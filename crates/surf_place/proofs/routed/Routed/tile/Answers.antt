use Rattle.std.proofs.Common.{◌≡◌, ◌<◌, ◌*◌, ◌+◌, ℕ, List, length, get_or, sym, ap, ◌∙◌, subst, arith}
use Rattle.surf_tiles.specs.declared.tile.Tile.{Tile}
use Rattle.surf_place.specs.Drawing.{rows_of, tile_of}
use Rattle.surf_place.specs.Placed.{PlacedOf, placement_of, tiles_of}
use Rattle.surf_place.proofs.Tiles.{HasTile, has_tile}
use Rattle.surf_place.proofs.routed.Routed.tile.Goals as goal

-- the tile stands at its place of the list
there : (v w : PlacedOf) (column row : ℕ) → v ≡ w → column < (placement_of w).columns → row < length (rows_of w.netlist) → HasTile v.netlist (placement_of v) column row
there v w column row is b r =
    let b' = subst (λ (d : PlacedOf). column < (placement_of d).columns) (sym is) b in
    let r' = subst (λ (d : PlacedOf). row < length (rows_of d.netlist)) (sym is) r in
    has_tile v.netlist (placement_of v) column row b' r'

pub index-requires : goal.index-requires
index-requires c =
    let v = c.self.inside.placed in
    let t = there v c.args.self.now c.args.column c.args.row c.self.view_is c.requires.column c.requires.row in
    let l = ap length c.self.invariant in
    let n : c.args.row * c.columns.result + c.args.column < length (tiles_of v.netlist (placement_of v)) =
    subst (λ (k : ℕ). c.args.row * k + c.args.column < length (tiles_of v.netlist (placement_of v))) (sym c.columns.ensures) t.within in
    omega (arith, n, l, c.self.inside.tiles.ok.0)

pub returns : goal.returns
returns c =
    let v = c.self.inside.placed in
    let t = there v c.args.self.now c.args.column c.args.row c.self.view_is c.requires.column c.requires.row in
    let x = c.index.result.now in
    c.index.ensures
    ∙ ap (λ (tiles : List Tile). get_or tiles (c.args.row * c.columns.result + c.args.column) x) c.self.invariant
    ∙ ap (λ (k : ℕ). get_or (tiles_of v.netlist (placement_of v)) (c.args.row * k + c.args.column) x) c.columns.ensures
    ∙ t.at x
    ∙ ap (λ (d : PlacedOf). tile_of d.netlist (placement_of d) c.args.column c.args.row) c.self.view_is
