use Rattle.std.proofs.Common.{◌+◌, ◌*◌, ℕ, add-one, arith, ap, sym, ◌∙◌}
use Rattle.surf_auto.specs.Locals.{reader_count, sight_count, sum_below}
use Rattle.surf_sync.proofs.rules.count_rules.Goals as goal

pub loop-phase-preserved : goal.loop-phase-preserved
loop-phase-preserved g c =
    let R = g.L.Local.rule c.args.local.now in
    let i = c.loop-phase.invariant in
    let p = c.phase_rules-count.ensures in
    let k : ℕ = c.loop-phase.phase in
    let of : ℕ → ℕ = λ f. reader_count c.args.turns R f * sight_count R f in
    record {
      count = ap (λ n. n + c.phase_rules-count.result) i.count ∙ ap (λ n. sum_below of k + n) p.count ∙ ap (sum_below of) (sym (add-one k));
      few = omega (arith, i.few, p.few);
    }
