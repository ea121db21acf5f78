use Rattle.std.proofs.Common.{◌≡◌, ◌++◌, ◌*◌, ◌-◌, map, length}
use Rattle.surf_text.specs.Bytes.{ended, rows_of, spaced}
use Rattle.surf_tiles.specs.Kinds.{name_of}
use Rattle.surf_circuit.proofs.text.put_rows.Given as goal

abbrev pub invariant-loop-y : goal.invariant-loop-y
invariant-loop-y l = record {
  sites : length l.rest ≡ l.layout.width * (l.layout.height - l._y);
  lines : l.printer ++ ended (map spaced (rows_of l.layout.width (l.layout.height - l._y) (map name_of l.rest))) ≡ l.initial.printer ++ ended (map spaced (rows_of l.layout.width l.layout.height (map name_of l.layout.kinds)));
}
