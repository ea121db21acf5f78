use Rattle.std.proofs.Common.{◌≡◌, ◌+◌, map, drop, vec_len}
use Rattle.surf_place.specs.Drawing.{Ends}
use Rattle.surf_place.specs.Filling.{filled, filled_of}
use Rattle.surf_place.proofs.filling.Filling.add_outputs.Given as goal

abbrev pub invariant-loop-net : goal.invariant-loop-net
invariant-loop-net l = record {
  is : filled (filled_of l.self) (map Ends (drop l.net-index l.outputs)) ≡ filled (filled_of l.initial.self) (map Ends l.outputs);
  long : vec_len l.self.last ≡ vec_len l.initial.self.last;
  row : l.self.row ≡ l.initial.self.row + l.net-index;
}
