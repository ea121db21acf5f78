use Rattle.std.proofs.Common.{◌≡◌, drop}
use Rattle.surf_manifest.specs.Numbered.{with_start}
use Rattle.surf_inputs.specs.Inputs.{with_bits}
use Rattle.surf_inputs.proofs.inputs.put_bits.Given as goal

abbrev pub invariant-loop-i : goal.invariant-loop-i
invariant-loop-i l = record {
  same : l.manifest ≡ with_start l.initial.manifest l.manifest.text.system.start;
  left : with_bits l.initial.manifest.text.system.surface.grid l.initial.manifest.text.system.start l.inputs l.bits
      ≡ with_bits l.initial.manifest.text.system.surface.grid l.manifest.text.system.start (drop l.i l.inputs) (drop l.i l.bits);
}
