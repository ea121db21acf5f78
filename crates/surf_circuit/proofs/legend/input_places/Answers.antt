use Rattle.std.proofs.Common.{rules, arith, ◌≡◌, ◌∙◌, ◌<◌, ◌++◌, ◌∷◌, [], ap, sym, refl, get_or, length}
use Rattle.surf_circuit.proofs.PlaceLemmas.{listed_more}
use Rattle.surf_circuit.proofs.legend.input_places.Goals as goal

pub loop-i-preserved : goal.loop-i-preserved
loop-i-preserved c =
    let names = c.args.inputs.now in
    let sites = c.args.layout.now.inputs in
    let same : length names ≡ length sites = c.requires.same ∙ (sym c.inputs-i-end.ensures.all ∙ c.inputs-i-end.ensures.is) in
    let within : c.loop-i.i < length names = omega (arith, c.loop-i-test.true, c.inputs-i-end.ensures.is, same) in
    let pushed : c.push.new.self.items ≡ c.loop-i.found.items ++ c.in_ok-place.place ∷ [] = search rules in
    listed_more c.args.names.now names sites c.loop-i.i (get_or names c.loop-i.i 0) c.input.result c.loop-i.found.items c.push.new.self.items
    within same refl c.input.ensures c.loop-i.invariant
    (pushed ∙ ap (λ p. c.loop-i.found.items ++ p ∷ []) c.in_ok-place.ensures)
