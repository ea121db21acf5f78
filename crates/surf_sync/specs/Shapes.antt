-- The codes of a phase of generation and colour 0, as loops make them.
use Rattle.std.specs.Prelude.{ℕ, List, map}
use Rattle.std.specs.List.{flat_map}
use Rattle.surf_auto.specs.Locals.{LocalRule, preceding}
use Rattle.surf_sync.specs.declared.code.Code.{Code}
use Rattle.surf_sync.specs.Rules.{below, code_of}

-- those that differ in what was gathered
abbrev pub by_acc : LocalRule → ℕ → ℕ → ℕ → ℕ → List Code
by_acc R f current previous reads =
    map (λ acc. code_of current 0 0 previous (record { reads = reads; acc = acc }))
    (below (R.accs f reads))

-- and in how often it was read
abbrev pub by_reads : LocalRule → ℕ → ℕ → ℕ → List Code
by_reads R f current previous = flat_map (by_acc R f current previous) (below R.degree)

-- and in the state before
abbrev pub by_previous : LocalRule → ℕ → ℕ → List Code
by_previous R f current = flat_map (by_reads R f current) (below (R.states (preceding R.phases f)))
