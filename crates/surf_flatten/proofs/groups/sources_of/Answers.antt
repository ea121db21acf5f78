use Rattle.std.proofs.Common.{rules, ◌≡◌, ◌+◌, ◌<◌, ◌++◌, [], ◌∙◌, List, ℕ, sym, ap, subst, length, take, drop, replicate}
use Rattle.std.specs.List.{All}
use Rattle.std.proofs.lemmas.List.{length-replicate}
use Rattle.surf_flatten.specs.Tables.{place_in}
use Rattle.surf_flatten.specs.Groups.{all_sources, AreSourcesOf}
use Rattle.surf_flatten.proofs.Walking.{all_within}
use Rattle.surf_flatten.proofs.Grouping.{sources_are, sources_within, all_length, all_lists, written_back}
use Rattle.surf_flatten.proofs.groups.sources_of.Goals as goal

pub add_all-requires-clause-library : goal.add_all-requires-clause-library
add_all-requires-clause-library c =
    let none : List ℕ = [] in
    let models = c.args.models.now in
    let long : length c.in_ok-sources.sources.items ≡ length models = ap length c.in_ok-sources.ensures ∙ length-replicate (length models) none in
    all_within models c.args.library.now (length c.deref_mut.result.now) c.requires.library (ap length c.deref_mut.ensures.value ∙ long)

pub returns-clause-sources : goal.returns-clause-sources
returns-clause-sources c =
    let none : List ℕ = [] in
    let models = c.args.models.now in
    let find = place_in c.args.library.now in
    let same = c.requires.library.is in
    let done = c.args.done.now in
    let start = c.in_ok-sources.sources.items in
    let zero : start ≡ replicate (length models) none = c.in_ok-sources.ensures in
    let long : length start ≡ length models = ap length zero ∙ length-replicate (length models) none in
    let new : c.add_all.new.sources ≡ all_sources find models start done = c.in_ok-add_all.ensures ∙ ap (λ v. all_sources find models v done) c.deref_mut.ensures.value in
    let kept : length c.add_all.new.sources ≡ length start = ap length new ∙ all_length models find same start done in
    let len : c.in_ok-sources.sources.len ≡ length start = search rules in
    let back = written_back c.add_all.new.sources start c.in_ok-sources.sources.len kept len in
    subst (AreSourcesOf models done) (sym (back ∙ new)) (sources_are models find same start done zero long)

pub returns-clause-range : goal.returns-clause-range
returns-clause-range c =
    let none : List ℕ = [] in
    let models = c.args.models.now in
    let find = place_in c.args.library.now in
    let same = c.requires.library.is in
    let done = c.args.done.now in
    let start = c.in_ok-sources.sources.items in
    let zero : start ≡ replicate (length models) none = c.in_ok-sources.ensures in
    let long : length start ≡ length models = ap length zero ∙ length-replicate (length models) none in
    let new : c.add_all.new.sources ≡ all_sources find models start done = c.in_ok-add_all.ensures ∙ ap (λ v. all_sources find models v done) c.deref_mut.ensures.value in
    let kept : length c.add_all.new.sources ≡ length start = ap length new ∙ all_length models find same start done in
    let len : c.in_ok-sources.sources.len ≡ length start = search rules in
    let back = written_back c.add_all.new.sources start c.in_ok-sources.sources.len kept len in
    subst (All (All (λ k. k < length models))) (sym (back ∙ new))
    (all_lists (λ k. k < length models) (all_sources find models start done) (λ j i a. sources_within models find same start done (length models) zero long c.requires.done j i a))
