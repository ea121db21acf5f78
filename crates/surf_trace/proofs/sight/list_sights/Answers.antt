use Rattle.std.proofs.Common.{rules, arith, ◌≡◌, ◌++◌, ◌∷◌, [], map, ◌∙◌, ap}
use Rattle.std.proofs.lemmas.List.{take_all}
use Rattle.surf_trace.specs.Sights.{sight_of}
use Rattle.surf_trace.proofs.Mapped.{map_next}
use Rattle.surf_trace.proofs.sight.list_sights.Goals as goal

pub loop-id-preserved : goal.loop-id-preserved
loop-id-preserved c =
    let pushed : c.push.new.self.items ≡ c.loop-id.sights.items ++ c.read_sight.result ∷ [] = search rules in
    map_next sight_of c.args.names.now c.loop-id.id c.text.result.now c.read_sight.result c.loop-id.sights.items c.push.new.self.items c.text.ensures c.read_sight.ensures c.loop-id.invariant pushed

pub returns : goal.returns
returns c = c.loop-id.invariant ∙ ap (map sight_of) (take_all c.loop-id.id c.args.names.now (omega (arith, c.loop-id-test.false, c.len-id-end.ensures.count)))
