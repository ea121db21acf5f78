use Rattle.std.proofs.Common.{rules, ◌≡◌, ◌++◌, ◌∷◌, []}
use Rattle.std.proofs.lemmas.List.{take_more}
use Rattle.surf_circuit.proofs.KindLemmas.{numbered_all, numbered_count, numbered_more}
use Rattle.surf_circuit.proofs.numbering.number_kinds.Goals as goal

pub loop-kind-preserved : goal.loop-kind-preserved
loop-kind-preserved c =
    let pushed : c.push.new.self.items ≡ c.loop-kind.numbers.items ++ c.in_ok-number.number ∷ [] = search rules in
    numbered_more _ _ _ _ _ _ _ _ _ c.loop-kind.invariant c.number_of.ensures.grown c.in_ok-number.ensures.found pushed (take_more _ _ _ c.loop-kind-test.true)

pub returns-clause-numbers : goal.returns-clause-numbers
returns-clause-numbers c = numbered_all _ _ _ _ _ c.loop-kind.invariant c.loop-kind-test.false

pub returns-clause-count : goal.returns-clause-count
returns-clause-count c = numbered_count _ _ _ _ _ c.loop-kind.invariant c.loop-kind-test.false
