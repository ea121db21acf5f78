use Rattle.std.proofs.Common.{ℕ, List, take, map}
use Rattle.surf_sync.specs.declared.code.Code.{Code}
use Rattle.surf_sync.specs.Codes.{Protocol}
use Rattle.surf_sync.specs.Listing.{Adds}
use Rattle.surf_sync.specs.Moved.{moved}
use Rattle.surf_sync.specs.Phases.{Knows, StandFrom, reads_of}
use Rattle.surf_sync.proofs.phase.push_reads.Given as goal

abbrev pub invariant-loop-i : goal.invariant-loop-i
invariant-loop-i l =
    (texts : List (List ℕ)) (P : Protocol) (reader : Code) (g k : ℕ) →
    Knows texts P reader l.left l.afters → StandFrom texts l.numbers l.start (map (moved g k) l.codes) →
    Adds texts l.initial.out.items (reads_of P reader l.shown g k (take l.i l.codes)) l.out.items
