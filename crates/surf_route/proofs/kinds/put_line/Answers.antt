use Rattle.std.proofs.Common.{rules, ◌≡◌, ◌+◌, ◌*◌, ap, get_or, sym, ◌∙◌, arith, []}
use Rattle.surf_tiles.specs.Tiles.{sites_of}
use Rattle.surf_place.specs.Placed.{placement_of}
use Rattle.surf_route.specs.Sealing.{line_start}
use Rattle.surf_route.proofs.Sites.{kinds_at, kinds_more, next_line, tile_row}
use Rattle.surf_route.proofs.kinds.put_line.Goals as goal
use Rattle.surf_route.proofs.kinds.put_line.Goals.{then-not-is_same, else-not-is_same}

pub loop-column-init : goal.loop-column-init
loop-column-init c = record {
  so_far = kinds_at c.args.drawing.now _ _ _ c.requires.so_far (omega arith);
  line = search rules;
}

pub loop-column-preserved : goal.loop-column-preserved
loop-column-preserved c =
    let next : c.if-not-is_same.tile ≡ c.tile-next.result = elim c.if-not-is_same.branch [ then-not-is_same w ↦ w.tile-is | else-not-is_same w ↦ w.tile-is ∙ sym (c.is_same.ensures (search rules)) ] in
    let line : c.if-not-is_same.line ≡ get_or (sites_of c.if-not-is_same.tile) c.args.y [] = elim c.if-not-is_same.branch [ then-not-is_same w ↦ search rules | else-not-is_same w ↦ w.line-is ∙ (c.loop-column.invariant.line ∙ ap (λ t. get_or (sites_of t) c.args.y []) (sym w.tile-is)) ] in
    record {
      so_far = kinds_more c.args.drawing.now c.args.row c.args.y c.loop-column.column _ _ _ (omega (arith, c.loop-column-test.true, c.columns-column-end.ensures)) c.requires.third c.loop-column.invariant.so_far c.in_ok-put_sites.ensures
          (line ∙ ap (λ t. get_or (sites_of t) c.args.y []) (next ∙ c.tile-next.ensures) ∙ tile_row _ c.args.y [] c.requires.third);
      line = line;
    }

pub returns : goal.returns
returns c =
    let all : c.loop-column.column ≡ (placement_of c.args.drawing.now).columns = omega (arith, c.loop-column-test.false, c.loop-column.auto.column-end, c.columns-column-end.ensures) in
    kinds_at c.args.drawing.now _ _ _ c.loop-column.invariant.so_far (ap (λ n. line_start c.args.drawing.now c.args.row c.args.y + 3 * n) all ∙ next_line c.args.drawing.now c.args.row c.args.y)
