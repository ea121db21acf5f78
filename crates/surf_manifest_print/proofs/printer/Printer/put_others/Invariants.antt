use Rattle.std.proofs.Common.{◌≡◌, ◌≤◌, ◌++◌, drop, map, take}
use Rattle.surf_manifest_print.specs.Rows.{after_blanks}
use Rattle.surf_rules.specs.Names.{text_of}
use Rattle.surf_manifest_print.proofs.printer.Printer.put_others.Given as goal

abbrev pub invariant-loop-name : goal.invariant-loop-name
invariant-loop-name l = record {
  room : l.len ≤ 4096;
  text : (l.self ++ take l.len l.piece) ++ after_blanks (map (text_of l.names) (drop l.name-index l.others)) ≡ l.initial.self ++ after_blanks (map (text_of l.names) l.others);
}
