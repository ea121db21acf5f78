use Rattle.std.proofs.Common.{◌≡◌, ◌≤◌, ◌++◌, drop, map, take}
use Rattle.surf_tiles.specs.Kinds.{name_of}
use Rattle.surf_manifest_print.specs.Rows.{after_blanks}
use Rattle.surf_circuit.proofs.text.put_others.Given as goal

abbrev pub invariant-loop-kind : goal.invariant-loop-kind
invariant-loop-kind l = record {
  room : l.len ≤ 4096;
  text : (l.printer ++ take l.len l.piece) ++ after_blanks (map name_of (drop l.kind-index l.others)) ≡ l.initial.printer ++ after_blanks (map name_of l.others);
}
