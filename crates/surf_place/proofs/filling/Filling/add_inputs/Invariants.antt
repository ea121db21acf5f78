use Rattle.std.proofs.Common.{◌≡◌, ◌+◌, ◌-◌, []}
use Rattle.surf_place.specs.Drawing.{input_rows}
use Rattle.surf_place.specs.Filling.{filled, filled_of}
use Rattle.surf_place.proofs.filling.Filling.add_inputs.Given as goal

abbrev pub invariant-loop-net : goal.invariant-loop-net
invariant-loop-net l = record {
  is : filled (filled_of l.self) (input_rows (l.count - l._net) l._net []) ≡ filled (filled_of l.initial.self) (input_rows l.count 0 []);
  row : l.self.row ≡ l.initial.self.row + l._net;
}
