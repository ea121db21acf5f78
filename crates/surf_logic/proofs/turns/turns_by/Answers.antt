use Rattle.std.proofs.Common.{rules, arith, ◌≡◌, ◌<◌, [], ◌∷◌, ◌++◌, length, true, false, sym, ◌∙◌, ap, subst}
use Rattle.std.specs.List.{list_any, remove}
use Rattle.std.proofs.Math.ListN.{set}
use Rattle.surf_logic.specs.Marks.{ArePassed, ReadyAt, ready_by}
use Rattle.surf_logic.proofs.Passing.{front_is, passed_length, passed_remove, passed_stay}
use Rattle.surf_logic.proofs.Turning.{next_along, turns_end}
use Rattle.surf_logic.proofs.turns.turns_by.Goals as goal

pub loop-place-preserved : goal.loop-place-preserved
loop-place-preserved c =
    let q = c.remove-equation.result in
    let rest = c.loop-place.rest.items in
    let ready : ReadyAt c.loop-place.known rest c.in-Some.place = search rules in
    let left : c.remove-equation.new.self.items ≡ remove rest c.in-Some.place = search rules in
    let pushed : c.push.new.self.items ≡ c.loop-place.taken.items ++ q ∷ [] = search rules in
    let inv = c.loop-place.invariant in
    let a = next_along c.args.names.now c.args.rest.now.items c.loop-place.taken.items rest c.push.new.self.items c.remove-equation.new.self.items c.loop-place.known c.in-Some.place q inv.took inv.marks inv.range ready c.remove-equation.ensures.value pushed left in
    let before : ArePassed c.loop-place.known rest c.first_ready.new.passed = search rules in
    let was : length c.loop-place.passed.items ≡ c.loop-place.passed.len = search rules in
    let long : length c.first_ready.new.passed ≡ c.loop-place.passed.len =
    passed_length c.loop-place.known rest c.first_ready.new.passed before ∙ sym (passed_length c.loop-place.known rest c.loop-place.passed.items inv.passed) ∙ was in
    let out : c.remove.new.self.items ≡ remove c.first_ready.new.passed c.in-Some.place = c.remove.ensures.items ∙ ap (λ v. remove v c.in-Some.place) (front_is c.first_ready.new.passed _ c.loop-place.passed.len long) in
    let fits : q.output < length c.loop-place.known = search rules in
    let stay = passed_stay c.loop-place.known q.output (remove rest c.in-Some.place) (remove c.first_ready.new.passed c.in-Some.place) fits (passed_remove c.loop-place.known rest c.first_ready.new.passed c.in-Some.place before) in
    let here : ArePassed (set c.loop-place.known q.output true) c.remove-equation.new.self.items c.remove.new.self.items = subst (λ v. ArePassed (set c.loop-place.known q.output true) v c.remove.new.self.items) (sym left) (subst (ArePassed (set c.loop-place.known q.output true) (remove rest c.in-Some.place)) (sym out) stay) in
    record { took = a.took; marks = search rules; range = search rules; passed = subst (λ n. ArePassed (set c.loop-place.known n true) c.remove-equation.new.self.items c.remove.new.self.items) (sym c.output.ensures) here }

pub remove-requires : goal.remove-requires
remove-requires c =
    let rest = c.loop-place.rest.items in
    let ready : ReadyAt c.loop-place.known rest c.in-Some.place = search rules in
    let same : length c.loop-place.passed.items ≡ length rest = passed_length c.loop-place.known rest c.loop-place.passed.items c.loop-place.invariant.passed in
    let long : length c.loop-place.passed.items ≡ c.loop-place.passed.len = search rules in
    omega (arith, same, long, ready.within)

pub returns-clause-turns : goal.returns-clause-turns
returns-clause-turns c =
    let inv = c.loop-place.invariant in
    let none : list_any (ready_by c.loop-place.known) c.loop-place.rest.items ≡ false = search rules in
    turns_end c.args.names.now c.args.rest.now.items c.loop-place.taken.items c.loop-place.rest.items c.loop-place.known inv.took inv.marks inv.range none
