use Rattle.std.proofs.Common.{◌≡◌, ◌≤◌, ◌+◌, ◌*◌, [], drop, vec_len}
use Rattle.surf_place.specs.Drawing.{gate_rows}
use Rattle.surf_place.specs.Filling.{filled, filled_of}
use Rattle.surf_place.proofs.filling.Filling.add_gates.Given as goal

abbrev pub invariant-loop-gate : goal.invariant-loop-gate
invariant-loop-gate l = record {
  is : filled (filled_of l.self) (gate_rows (vec_len l.self.last) (drop l.gate-index l.gates) []) ≡ filled (filled_of l.initial.self) (gate_rows (vec_len l.initial.self.last) l.gates []);
  long : vec_len l.self.last ≡ vec_len l.initial.self.last + l.gate-index;
  row : l.self.row ≤ l.initial.self.row + 3 * l.gate-index;
}
