use Rattle.std.proofs.Common.{◌≡◌, [], refl, rules, sym, subst}
use Rattle.surf_sync.specs.Listing.{Say}
use Rattle.surf_sync.proofs.rules.write_rules.Goals as goal

pub returns-clause-rules : goal.returns-clause-rules
returns-clause-rules g c =
    let none : c.in_ok-rules.rules.items ≡ [] = search rules in
    c.in_ok-push_phases.ensures c.number_names.new.names c.in_ok-table.ensures.named [] (subst (λ rs. Say c.number_names.new.names rs []) (sym none) refl)
