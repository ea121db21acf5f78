use Rattle.std.proofs.Common.{rules, arith, ◌≡◌, ◌+◌, ◌<◌, ◌≤◌, ◌∙◌, sym, ap, subst, length, get_or, [], drop, None}
use Rattle.std.proofs.lemmas.List.{drop_all}
use Rattle.surf_logic.specs.Order.{or_else}
use Rattle.surf_flatten.specs.Reaching.{place_from}
use Rattle.surf_flatten.specs.Faults.{model_twice}
use Rattle.surf_flatten.specs.Tables.{found_in, names_after, places_after}
use Rattle.surf_flatten.proofs.Finding.{place_step, twice_step, paired_after, or_none}
use Rattle.surf_flatten.proofs.library.library_of.Goals as goal

pub loop-place-preserved : goal.loop-place-preserved
loop-place-preserved c =
    let models = c.args.models.now in
    let p = c.loop-place.place in
    let m = c.index-models-place.result in
    let ns = c.loop-place.library.names in
    let ps = c.loop-place.library.places.items in
    let i = c.loop-place.invariant in
    let lt : p < length models = search rules in
    let is : m ≡ get_or models p m = search rules in
    let names : c.add_model.new.library.names ≡ names_after ns m.name = search rules in
    let places : c.add_model.new.library.places.items ≡ places_after ps p m.name = search rules in
    record {
      found = λ t. ap (λ v. or_else (found_in v c.add_model.new.library.places.items t) (place_from (p + 1) (drop (p + 1) models) t)) names
          ∙ ap (λ v. or_else (found_in (names_after ns m.name) v t) (place_from (p + 1) (drop (p + 1) models) t)) places
          ∙ place_step ns ps models p m t i.paired lt is ∙ i.found t;
      twice = ap (λ v. model_twice v (drop (p + 1) models)) names ∙ twice_step ns models p m lt is c.in_ok-add_model.ensures.once ∙ i.twice;
      paired = ap length names ∙ paired_after ns ps p m.name i.paired ∙ sym (ap length places);
    }

pub returns-clause-found : goal.returns-clause-found
returns-clause-found c =
    let models = c.args.models.now in
    let p = c.loop-place.place in
    let end : drop p models ≡ [] = drop_all p models (search rules) in
    record { is = λ t. sym (ap (λ v. or_else (found_in c.loop-place.library.names c.loop-place.library.places.items t) (place_from p v t)) end ∙ or_none (found_in c.loop-place.library.names c.loop-place.library.places.items t)) ∙ c.loop-place.invariant.found t }
