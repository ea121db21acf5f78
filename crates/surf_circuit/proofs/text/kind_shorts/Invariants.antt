use Rattle.std.proofs.Common.{◌≡◌, map, take}
use Rattle.surf_tiles.specs.Kinds.{name_of}
use Rattle.surf_settle.specs.Indices.{all_kinds}
use Rattle.surf_manifest_print.specs.Rows.{short_text}
use Rattle.surf_circuit.proofs.text.kind_shorts.Given as goal

abbrev pub invariant-loop-kind : goal.invariant-loop-kind
invariant-loop-kind l = record {
  all : l.kind-items ≡ all_kinds;
  shorts : l.shorts.items ≡ map (λ k. short_text (name_of k)) (take l.kind-index l.kind-items);
}
