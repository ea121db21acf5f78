use Rattle.std.proofs.Common.{◌≡◌, length, drop}
use Rattle.surf_logic.specs.Marks.{all_added}
use Rattle.surf_logic.proofs.sources.add_all.Given as goal

abbrev pub invariant-loop-equation : goal.invariant-loop-equation
invariant-loop-equation l = record {
  all : all_added l.sources (drop l.equation-index l.equations) ≡ all_added l.initial.sources l.equations;
  same : length l.sources ≡ length l.initial.sources;
}
