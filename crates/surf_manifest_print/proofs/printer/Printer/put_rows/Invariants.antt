use Rattle.std.proofs.Common.{◌≡◌, ◌++◌, ◌*◌, ◌-◌, map, length}
use Rattle.surf_text.specs.Bytes.{ended, rows_of, spaced}
use Rattle.surf_manifest.specs.Drafts.{NamesBelow}
use Rattle.surf_rules.specs.Names.{text_of}
use Rattle.surf_manifest_print.proofs.printer.Printer.put_rows.Given as goal

abbrev pub invariant-loop-y : goal.invariant-loop-y
invariant-loop-y l = record {
  names : NamesBelow (length l.names) l.rest;
  sites : length l.rest ≡ l.width * (l.height - l._y);
  lines : l.self ++ ended (map spaced (rows_of l.width (l.height - l._y) (map (text_of l.names) l.rest))) ≡ l.initial.self ++ ended (map spaced (rows_of l.width l.height (map (text_of l.names) l.start)));
}
