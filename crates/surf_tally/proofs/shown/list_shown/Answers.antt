use Rattle.std.proofs.Common.{rules, arith, ◌≡◌, ◌++◌, ◌∷◌, [], map, ◌∙◌, ap}
use Rattle.std.proofs.lemmas.List.{take_all}
use Rattle.surf_tally.specs.Showings.{shown_of}
use Rattle.surf_trace.proofs.Mapped.{map_next}
use Rattle.surf_tally.proofs.shown.list_shown.Goals as goal

pub loop-id-preserved : goal.loop-id-preserved
loop-id-preserved c =
    let pushed : c.push.new.self.items ≡ c.loop-id.shown.items ++ c.shown_of.result ∷ [] = search rules in
    map_next shown_of c.args.names.now c.loop-id.id c.text.result.now c.shown_of.result c.loop-id.shown.items c.push.new.self.items c.text.ensures c.shown_of.ensures c.loop-id.invariant pushed

pub returns : goal.returns
returns c = c.loop-id.invariant ∙ ap (map shown_of) (take_all c.loop-id.id c.args.names.now (omega (arith, c.loop-id-test.false, c.len-id-end.ensures.count)))
