use Rattle.std.proofs.Common.{arith, ◌≡◌, ◌<◌, ◌∙◌, ap, take, drop}
use Rattle.surf_tiles.specs.Kinds.{name_of}
use Rattle.surf_manifest_print.proofs.PrintLemmas.{rows_on, sites_on}
use Rattle.surf_circuit.proofs.text.put_rows.Goals as goal

pub loop-y-preserved : goal.loop-y-preserved
loop-y-preserved c =
    let L = c.args.layout.now in
    let s = c.split_at.ensures in
    let i = c.loop-y.invariant in
    let lt : c.loop-y._y < L.height = omega (arith, c.loop-y-test.true, c.height-y-end.ensures.is) in
    let wide : c.width-width.result ≡ L.width = c.width-width.ensures.is in
    record {
      sites = sites_on L.width L.height c.loop-y._y _ _ lt i.sites (omega (arith, s.back_len, wide));
      lines = rows_on L.width L.height c.loop-y._y name_of c.loop-y.rest.now c.split_at.result.0.now c.split_at.result.1.now _ _ _ lt
          (s.front ∙ ap (λ n. take n c.loop-y.rest.now) wide) (s.back ∙ ap (λ n. drop n c.loop-y.rest.now) wide) c.in_ok-put_row.ensures i.lines;
    }
