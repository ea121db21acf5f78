use Rattle.std.proofs.Common.{rules, ℕ, List, arith, ◌≡◌, ◌++◌, ◌∷◌, [], length, map, ◌∙◌, ap}
use Rattle.std.proofs.lemmas.List.{take_all, length-map}
use Rattle.surf_trace.specs.declared.watch.Kept.{Kept}
use Rattle.surf_trace.specs.declared.sight.Sight.{Sight}
use Rattle.surf_trace.specs.Sights.{showing, showing_in, sight_in}
use Rattle.surf_trace.specs.Watching.{first_kept}
use Rattle.surf_trace.proofs.Mapped.{map_next}
use Rattle.surf_trace.proofs.watch.begin.Goals as goal

pub loop-place-preserved : goal.loop-place-preserved
loop-place-preserved g c =
    let k = c.args.k in
    let pushed : c.push.new.self.items ≡ c.loop-place.all.items ++ c.first_kept.result ∷ [] = search rules in
    map_next (λ m. first_kept (showing_in c.args.sights.now m) k) c.args.world.now.names c.loop-place.place c.name_at.result c.first_kept.result c.loop-place.all.items c.push.new.self.items c.name_at.ensures
    (c.first_kept.ensures ∙ ap (λ (s : Sight). first_kept (showing s) k) {y = sight_in c.args.sights.now c.name_at.result} c.sight_in-sight.ensures) c.loop-place.invariant pushed

pub returns-clause-items : goal.returns-clause-items
returns-clause-items g c =
    c.loop-place.invariant
    ∙ ap (map (λ m. first_kept (showing_in c.args.sights.now m) c.args.k)) (take_all c.loop-place.place c.args.world.now.names (omega (arith, c.loop-place-test.false, c.site_count-place-end.ensures.names)))

pub returns-clause-sites : goal.returns-clause-sites
returns-clause-sites g c =
    let f : ℕ → Kept = λ m. first_kept (showing_in c.args.sights.now m) c.args.k in
    let items = c.loop-place.invariant ∙ ap (map f) (take_all c.loop-place.place c.args.world.now.names (omega (arith, c.loop-place-test.false, c.site_count-place-end.ensures.names))) in
    let long : length c.loop-place.all.items ≡ length c.args.world.now.names = ap (λ (xs : List Kept). length xs) items ∙ length-map c.args.world.now.names f in
    omega (arith, long, c.site_count-place-end.ensures.names, c.site_count-place-end.ensures.sides)
