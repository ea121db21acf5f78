use Rattle.std.proofs.Common.{ℕ, rules, arith, ◌≡◌, false, sym, ◌∙◌, ap, subst, get_or}
use Rattle.std.specs.List.{list_all}
use Rattle.surf_logic.specs.Equations.{EquationOf, at}
use Rattle.surf_logic.specs.Marks.{IsPassed, ready_by}
use Rattle.surf_logic.proofs.Passing.{none_more, passed_length, passed_at, passed_set}
use Rattle.surf_logic.proofs.ready.first_ready.Goals as goal

pub bounds-passed-i : goal.bounds-passed-i
bounds-passed-i c = omega (arith, passed_length c.args.known.now c.args.rest.now c.loop-i.passed c.loop-i.invariant.passed, c.loop-i-test.true)

pub known_from-count-requires-clause-passed : goal.known_from-count-requires-clause-passed
known_from-count-requires-clause-passed c =
    let q = c.index-rest-i.result in
    let same : (get_or c.args.rest.now c.loop-i.i q).inputs ≡ c.inputs-inputs.result.now = ap (λ (v : EquationOf ℕ). v.inputs) (sym c.index-rest-i.is) ∙ sym c.inputs-inputs.ensures in
    subst (λ v. IsPassed c.args.known.now v (get_or c.loop-i.passed c.loop-i.i 0)) same (passed_at c.args.known.now c.args.rest.now c.loop-i.passed c.loop-i.i q c.loop-i.invariant.passed c.loop-i-test.true)

pub bounds-passed-i-in-loop-i : goal.bounds-passed-i-in-loop-i
bounds-passed-i-in-loop-i c = omega (arith, passed_length c.args.known.now c.args.rest.now c.loop-i.passed c.loop-i.invariant.passed, c.loop-i-test.true)

pub returns-then-count-inputs-clause-passed : goal.returns-then-count-inputs-clause-passed
returns-then-count-inputs-clause-passed c =
    let q = c.index-rest-i.result in
    let same : c.inputs-inputs.result.now ≡ (get_or c.args.rest.now c.loop-i.i q).inputs = c.inputs-inputs.ensures ∙ ap (λ (v : EquationOf ℕ). v.inputs) c.index-rest-i.is in
    passed_set c.args.known.now c.args.rest.now c.loop-i.passed c.loop-i.i q c.known_from-count.result c.loop-i.invariant.passed c.loop-i-test.true (subst (λ v. IsPassed c.args.known.now v c.known_from-count.result) same c.known_from-count.ensures.passed)

pub loop-i-preserved : goal.loop-i-preserved
loop-i-preserved c =
    let q = c.index-rest-i.result in
    let same : c.inputs-inputs.result.now ≡ (get_or c.args.rest.now c.loop-i.i q).inputs = c.inputs-inputs.ensures ∙ ap (λ (v : EquationOf ℕ). v.inputs) c.index-rest-i.is in
    let none : list_all (at c.args.known.now) c.inputs-inputs.result.now ≡ false = c.known_from-count.ensures.all (search rules) in
    let not : ready_by c.args.known.now q ≡ false = ap (list_all (at c.args.known.now)) (sym c.inputs-inputs.ensures) ∙ none in
    record {
      waiting = none_more (ready_by c.args.known.now) c.args.rest.now c.loop-i.i q c.loop-i-test.true c.loop-i.invariant.waiting (ap (ready_by c.args.known.now) (sym c.index-rest-i.is) ∙ not);
      passed = passed_set c.args.known.now c.args.rest.now c.loop-i.passed c.loop-i.i q c.known_from-count.result c.loop-i.invariant.passed c.loop-i-test.true (subst (λ v. IsPassed c.args.known.now v c.known_from-count.result) same c.known_from-count.ensures.passed);
    }
