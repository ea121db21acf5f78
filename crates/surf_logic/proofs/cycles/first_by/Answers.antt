use Rattle.std.proofs.Common.{rules, ◌≡◌, ◌<◌, ◌≤◌, length, nat_eq, false, true, get_or, subst, sym, take}
use Rattle.std.proofs.lemmas.List.{take_all}
use Rattle.surf_logic.specs.Order.{DependsOn, FirstCyclic, outputs_of}
use Rattle.surf_logic.specs.Marks.{Tells}
use Rattle.surf_logic.proofs.Cycling.{NoneCyclic, none_all, none_more, first_is}
use Rattle.surf_logic.proofs.cycles.first_by.Goals as goal

pub returns-then-branch-clause-first : goal.returns-then-branch-clause-first
returns-then-branch-clause-first c =
    let left = c.args.left.now in
    let q = c.equation-item.result in
    let i = c.loop-equation.equation-index in
    let tells : Tells left c.output-name.result true = subst (Tells left c.output-name.result) c.if-branch.true (c.in_ok-depends_on_itself.ensures left c.requires.sources) in
    let lt : i < length left = search rules in
    let is : q ≡ get_or left i q = search rules in
    subst (FirstCyclic nat_eq left (outputs_of left)) (sym c.output-name.ensures)
    (first_is left left i q lt is c.loop-equation.invariant (subst (λ v. DependsOn nat_eq left v v) c.output-name.ensures tells))

pub loop-equation-preserved : goal.loop-equation-preserved
loop-equation-preserved c =
    let left = c.args.left.now in
    let q = c.equation-item.result in
    let i = c.loop-equation.equation-index in
    let tells : Tells left c.output-name.result false = subst (Tells left c.output-name.result) c.if-branch.false (c.in_ok-depends_on_itself.ensures left c.requires.sources) in
    let lt : i < length left = search rules in
    let is : q ≡ get_or left i q = search rules in
    none_more left left i q lt is c.loop-equation.invariant (subst (λ v. DependsOn nat_eq left v v → ⊥) c.output-name.ensures tells)

pub unreachable-requires : goal.unreachable-requires
unreachable-requires c =
    let left = c.args.left.now in
    let end : length left ≤ c.loop-equation.equation-index = c.loop-equation-test.false in
    let all : take c.loop-equation.equation-index left ≡ left = take_all c.loop-equation.equation-index left end in
    c.requires.some (none_all left left (subst (NoneCyclic left) all c.loop-equation.invariant))
