use Rattle.std.proofs.Common.{◌≡◌, ◌++◌, map}
use Rattle.surf_sync.specs.Rules.{below, code_of}
use Rattle.surf_sync.proofs.shapes.push_accs.Given as goal

abbrev pub invariant-loop-acc : goal.invariant-loop-acc
invariant-loop-acc g l = l.out.items ≡ l.initial.out.items ++ map (λ acc. code_of l.current 0 0 l.previous (record { reads = l.reads; acc = acc })) (below l.acc)
