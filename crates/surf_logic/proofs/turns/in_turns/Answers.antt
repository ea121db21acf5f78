use Rattle.std.proofs.Common.{rules, ◌≡◌, sym, subst, nat_eq, None, [], refl, length, IfSome}
use Rattle.surf_logic.specs.Equations.{Numbered}
use Rattle.surf_logic.specs.Order.{Turns, InRange, IsOrderOf, SomeCyclic, list_fault}
use Rattle.surf_logic.specs.Answers.{HasCircuitFault, TellsCycle, told_fault}
use Rattle.surf_logic.proofs.Turning.{circuit_is, empty_of}
use Rattle.surf_logic.proofs.Lifting.{cyclic_left, cycle_has}
use Rattle.surf_logic.proofs.turns.in_turns.Goals as goal

pub of-requires : goal.of-requires
of-requires c =
    let p : Numbered = record { names = c.parts.inside.names; parts = record { inputs = c.parts.inside.inputs.items; outputs = c.parts.inside.outputs.items; equations = c.parts.inside.equations.items } } in
    let is : p ≡ c.args.parts = c.parts.view_is in
    let zero_left : length c.taken_of.new.rest.items ≡ 0 = search rules in
    let left : c.taken_of.new.rest.items ≡ [] = empty_of c.taken_of.new.rest.items zero_left in
    let turns : Turns nat_eq p.parts.inputs p.parts.equations c.in-Ok.taken.items c.taken_of.new.rest.items = search rules in
    let t : Turns nat_eq p.parts.inputs p.parts.equations c.in-Ok.taken.items [] = subst (λ v. Turns nat_eq p.parts.inputs p.parts.equations c.in-Ok.taken.items v) left turns in
    circuit_is p c.in-Ok.taken.items (subst InRange (sym is) c.requires.range) (subst (λ (v : Numbered). list_fault nat_eq v.parts ≡ None) (sym is) c.requires.sound) t

pub cycle-requires-clause-some : goal.cycle-requires-clause-some
cycle-requires-clause-some c =
    let p : Numbered = record { names = c.parts.inside.names; parts = record { inputs = c.parts.inside.inputs.items; outputs = c.parts.inside.outputs.items; equations = c.parts.inside.equations.items } } in
    let is : p ≡ c.args.parts = c.parts.view_is in
    let rest = c.taken_of.new.rest.items in
    let turns : Turns nat_eq p.parts.inputs p.parts.equations c.in-Ok.taken.items rest = search rules in
    let some : length rest ≡ 0 → ⊥ = λ zero. search rules in
    let here : SomeCyclic rest = cyclic_left p c.in-Ok.taken.items rest (subst (λ (v : Numbered). list_fault nat_eq v.parts ≡ None) (sym is) c.requires.sound) turns some in
    let same : c.deref-then-not-is_empty.result.now ≡ rest = search rules in
    subst SomeCyclic (sym same) here

pub returns-then-not-is_empty : goal.returns-then-not-is_empty
returns-then-not-is_empty c =
    let p : Numbered = record { names = c.parts.inside.names; parts = record { inputs = c.parts.inside.inputs.items; outputs = c.parts.inside.outputs.items; equations = c.parts.inside.equations.items } } in
    let is : p ≡ c.args.parts = c.parts.view_is in
    let rest = c.taken_of.new.rest.items in
    let turns : Turns nat_eq p.parts.inputs p.parts.equations c.in-Ok.taken.items rest = search rules in
    let same : c.deref-then-not-is_empty.result.now ≡ rest = search rules in
    let tells : IfSome (told_fault c.cycle.result) (TellsCycle p.names rest) = subst (λ v. IfSome (told_fault c.cycle.result) (TellsCycle p.names v)) same c.cycle.ensures in
    subst (λ v. HasCircuitFault v c.cycle.result) is
    (cycle_has p c.in-Ok.taken.items rest p.names c.cycle.result refl (subst (λ (v : Numbered). list_fault nat_eq v.parts ≡ None) (sym is) c.requires.sound) turns tells)

pub returns : goal.returns
returns c =
    let p : Numbered = record { names = c.parts.inside.names; parts = record { inputs = c.parts.inside.inputs.items; outputs = c.parts.inside.outputs.items; equations = c.parts.inside.equations.items } } in
    let made : Numbered = record { names = p.names; parts = record { inputs = p.parts.inputs; outputs = p.parts.outputs; equations = c.in-Ok.taken.items } } in
    let is : p ≡ c.args.parts = c.parts.view_is in
    let zero_left : length c.taken_of.new.rest.items ≡ 0 = search rules in
    let left : c.taken_of.new.rest.items ≡ [] = empty_of c.taken_of.new.rest.items zero_left in
    let turns : Turns nat_eq p.parts.inputs p.parts.equations c.in-Ok.taken.items c.taken_of.new.rest.items = search rules in
    let t : Turns nat_eq p.parts.inputs p.parts.equations c.in-Ok.taken.items [] = subst (λ v. Turns nat_eq p.parts.inputs p.parts.equations c.in-Ok.taken.items v) left turns in
    let answer : c.of.result ≡ made = c.of.ensures in
    let order : IsOrderOf p made = record { names = refl; inputs = refl; outputs = refl; sound = subst (λ (v : Numbered). list_fault nat_eq v.parts ≡ None) (sym is) c.requires.sound; turns = t } in
    subst (λ v. IsOrderOf v c.of.result) is (subst (IsOrderOf p) (sym answer) order)
