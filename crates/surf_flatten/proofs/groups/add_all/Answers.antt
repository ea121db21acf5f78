use Rattle.std.proofs.Common.{rules, ◌≡◌, ◌+◌, ◌<◌, ◌∷◌, ◌∙◌, sym, ap, length, get_or, drop}
use Rattle.std.proofs.lemmas.List.Elements.{All-get_or}
use Rattle.surf_logic.proofs.Gathering.{get_any}
use Rattle.surf_flatten.specs.Reaching.{items_at}
use Rattle.surf_flatten.specs.Tables.{place_in}
use Rattle.surf_flatten.specs.Groups.{all_sources, sources_with}
use Rattle.surf_flatten.proofs.Finding.{rest_at}
use Rattle.surf_flatten.proofs.Walking.{items_is}
use Rattle.surf_flatten.proofs.groups.add_all.Goals as goal

pub loop-place-preserved : goal.loop-place-preserved
loop-place-preserved c =
    let find = place_in c.args.library.now in
    let models = c.args.models.now in
    let done = c.args.done.now in
    let k = c.loop-place.place-index in
    let p = get_or done k 0 in
    let ss = c.loop-place.sources in
    let lt : k < length done = search rules in
    let inside : p < length models = All-get_or (λ n. n < length models) done k 0 lt c.requires.done in
    let items : c.items.result.now ≡ items_at models p = c.items.ensures ∙ items_is models p c.index-models-place.result inside c.index-models-place.is in
    let new : c.add_sources.new.sources ≡ sources_with find ss p (items_at models p) = c.in_ok-add_sources.ensures.is ∙ ap (sources_with find ss p) items in
    let split : drop k done ≡ p ∷ drop (k + 1) done = rest_at done k p lt (get_any done k 0 p lt) in
    record {
      all = ap (λ v. all_sources find models v (drop (k + 1) done)) new ∙ sym (ap (all_sources find models ss) split) ∙ c.loop-place.invariant.all;
      same = c.in_ok-add_sources.ensures.length ∙ c.loop-place.invariant.same;
    }
