use Rattle.std.proofs.Common.{codes, map}
use Rattle.surf_text.specs.Bytes.{rows_of, spaced}
use Rattle.surf_rules.specs.Names.{text_of}
use Rattle.surf_manifest_print.proofs.PrintLemmas.{block, on_ok}
use Rattle.surf_manifest_print.proofs.printer.Printer.put_state_block.Goals as goal

pub returns : goal.returns
returns c =
    let lines = map spaced (rows_of c.args.width c.args.height (map (text_of c.args.names.now) c.args.start.now)) in
    on_ok c.put_line-2.result
    (λ e. block (codes "!START_INIT_STATE") lines (codes "!END_INIT_STATE") _ _ _ _ c.in_ok-put_line.ensures c.in_ok-put_rows.ensures e)
    c.put_line-2.ensures
