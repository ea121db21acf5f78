use Rattle.std.proofs.Common.{rules, ℕ, List, arith, ◌≡◌, ◌++◌, ◌∷◌, [], length, map, ◌∙◌, ap}
use Rattle.std.proofs.lemmas.List.{take_all, length-map}
use Rattle.surf_trace.proofs.Mapped.{map_next}
use Rattle.surf_tally.specs.declared.counts.Count.{Count}
use Rattle.surf_tally.specs.Counting.{first_count}
use Rattle.surf_tally.specs.Showings.{look}
use Rattle.surf_tally.proofs.counts.begin.Goals as goal

pub loop-place-preserved : goal.loop-place-preserved
loop-place-preserved g c =
    let pushed : c.push.new.self.items ≡ c.loop-place.counts.items ++ c.first_count.result ∷ [] = search rules in
    map_next (λ m. first_count (look c.args.shown.now m)) c.args.world.now.names c.loop-place.place c.name_at.result c.first_count.result c.loop-place.counts.items c.push.new.self.items c.name_at.ensures
    (c.first_count.ensures ∙ ap first_count c.look-now.ensures) c.loop-place.invariant pushed

pub returns-clause-items : goal.returns-clause-items
returns-clause-items g c =
    c.loop-place.invariant
    ∙ ap (map (λ m. first_count (look c.args.shown.now m))) (take_all c.loop-place.place c.args.world.now.names (omega (arith, c.loop-place-test.false, c.site_count-place-end.ensures.names)))

pub returns-clause-sites : goal.returns-clause-sites
returns-clause-sites g c =
    let f : ℕ → Count = λ m. first_count (look c.args.shown.now m) in
    let items = c.loop-place.invariant ∙ ap (map f) (take_all c.loop-place.place c.args.world.now.names (omega (arith, c.loop-place-test.false, c.site_count-place-end.ensures.names))) in
    ap (λ (xs : List Count). length xs) items ∙ length-map c.args.world.now.names f
