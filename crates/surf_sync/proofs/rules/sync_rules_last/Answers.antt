use Rattle.std.proofs.Common.{◌≡◌, ◌≤◌, ◌+◌, ◌*◌, ◌/◌, arith, ap, sym, subst, ◌∙◌}
use Rattle.std.proofs.lemmas.Nat.{div-mul-add}
use Rattle.surf_auto.specs.Locals.{rule_count_in}
use Rattle.surf_sync.proofs.rules.sync_rules_last.Goals as goal

pub write_rules-requires-clause-few : goal.write_rules-requires-clause-few
write_rules-requires-clause-few g c =
    let R = g.L.Local.rule c.args.local.now in
    let e : c.args.last * c.phases.result ≡ c.args.last * R.phases + 0 = ap (λ n. c.args.last * n) c.phases.ensures ∙ (let z : c.args.last * R.phases ≡ c.args.last * R.phases + 0 = omega arith in z) in
    let q : c.args.last * c.phases.result / R.phases ≡ c.args.last = ap (λ n. n / R.phases) e ∙ div-mul-add c.args.last R.phases 0 c.degree-degree.ensures.law.some_phase in
    subst (λ t. rule_count_in t R ≤ 1048576) (sym q) c.requires.few
