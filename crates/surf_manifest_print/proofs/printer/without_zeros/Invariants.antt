use Rattle.std.proofs.Common.{◌≡◌, ◌==◌, ◌≤◌, take, length}
use Rattle.surf_text.specs.Bytes.{without_end}
use Rattle.surf_manifest_print.proofs.printer.without_zeros.Given as goal

abbrev pub invariant-loop-end : goal.invariant-loop-end
invariant-loop-end l = record {
  within : l.end ≤ length l.digits;
  same : without_end (λ d. d == 48) l.digits ≡ without_end (λ d. d == 48) (take l.end l.digits);
}

abbrev pub decreases-loop-end : goal.decreases-loop-end
decreases-loop-end l = l.end
