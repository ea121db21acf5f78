use Rattle.std.proofs.Common.{rules, arith, ◌≡◌, ◌-◌, ◌<◌, ◌∙◌, ℕ, true, refl, sym, ap, subst, length, get_or, map, sum}
use Rattle.std.proofs.Math.ListN.{length-set}
use Rattle.std.proofs.lemmas.List.Elements.{All-get_or}
use Rattle.surf_logic.specs.Equations.{capped}
use Rattle.surf_flatten.specs.Reaching.{items_at}
use Rattle.surf_flatten.specs.Laws.{work_by}
use Rattle.surf_flatten.specs.Tables.{place_in}
use Rattle.surf_flatten.specs.Works.{work_in}
use Rattle.surf_flatten.proofs.Walking.{all_within, items_is}
use Rattle.surf_flatten.proofs.Tabling.{works_same, works_step}
use Rattle.surf_flatten.proofs.works.works_of.Goals as goal

pub items_work-requires : goal.items_work-requires
items_work-requires c = all_within c.args.models.now c.args.library.now (length c.deref.result.now) c.requires.library (ap length c.deref.ensures.value ∙ c.loop-count.invariant.same)

pub loop-count-preserved : goal.loop-count-preserved
loop-count-preserved c =
    let models = c.args.models.now in
    let done = c.args.done.now in
    let table = c.loop-count.table.items in
    let count = c.loop-count.count in
    let p = get_or done (length done - 1 - count) 0 in
    let lt : count < length done = search rules in
    let at : length done - 1 - count < length done = omega (arith, lt) in
    let inside : p < length models = All-get_or (λ k. k < length models) done (length done - 1 - count) 0 at c.requires.within in
    let items : c.items.result.now ≡ items_at models p = c.items.ensures ∙ items_is models p c.index-models-place.result inside c.index-models-place.is in
    let work : c.items_work.result ≡ work_by models table true (items_at models p) =
    c.items_work.ensures
    ∙ ap (λ v. capped (sum (map (work_in (place_in c.args.library.now) v true) c.items.result.now))) c.deref.ensures.value
    ∙ ap (λ v. capped (sum (map (work_in (place_in c.args.library.now) table true) v))) items
    ∙ works_same models c.args.library.now table true (items_at models p) c.requires.library in
    record {
      works = works_step models table done count p c.items_work.result c.loop-count.invariant.works lt refl c.loop-count.invariant.same c.requires.within c.requires.settled work;
      same = length-set table p c.items_work.result ∙ c.loop-count.invariant.same;
    }
