use Rattle.std.proofs.Common.{rules}
use Rattle.std.proofs.lemmas.Fn.{always_returns_same}
use Rattle.std.proofs.lemmas.List.Sorted.{IsNonDecreasingBy-from_sort_by_key}
use Rattle.surf_rules.specs.declared.index.Entry.{Entry}
use Rattle.surf_rules.proofs.index.by_left.Goals as goal

pub returns-in-Ok-clause-rising : goal.returns-in-Ok-clause-rising
returns-in-Ok-clause-rising c = IsNonDecreasingBy-from_sort_by_key (λ (e : Entry). e.left) _ c.in-Ok.ensures.sorted (λ a r q k. search rules)

pub returns-in-Ok-clause-stable : goal.returns-in-Ok-clause-stable
returns-in-Ok-clause-stable c = c.sort_by_key.ensures.stable (λ (e : Entry). e.left) (always_returns_same _ _ _ (λ a r q k. search rules))
