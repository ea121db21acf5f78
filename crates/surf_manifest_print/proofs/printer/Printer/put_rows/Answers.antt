use Rattle.std.proofs.Common.{length}
use Rattle.surf_rules.specs.Names.{text_of}
use Rattle.surf_manifest_print.proofs.PrintLemmas.{rows_on, sites_on, below_on}
use Rattle.surf_manifest_print.proofs.printer.Printer.put_rows.Goals as goal

pub loop-y-preserved : goal.loop-y-preserved
loop-y-preserved c =
    let i = c.loop-y.invariant in
    let s = c.split_at.ensures in
    record {
      names = below_on (length c.args.names.now) c.args.width c.loop-y.rest.now c.split_at.result.1.now s.back i.names;
      sites = sites_on c.args.width c.args.height c.loop-y._y _ _ c.loop-y-test.true i.sites s.back_len;
      lines = rows_on c.args.width c.args.height c.loop-y._y (text_of c.args.names.now) c.loop-y.rest.now c.split_at.result.0.now c.split_at.result.1.now _ _ _ c.loop-y-test.true s.front s.back c.in_ok-put_row.ensures i.lines;
    }
