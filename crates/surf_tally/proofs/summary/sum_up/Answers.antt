use Rattle.std.proofs.Common.{◌+◌, sym, subst}
use Rattle.std.proofs.lemmas.Option.{slice_get-get_or}
use Rattle.surf_tally.specs.declared.summary.Tally.{Tally}
use Rattle.surf_tally.specs.Summing.{SummedTo}
use Rattle.surf_tally.proofs.Summed.{all_summed, none_summed, one_summed}
use Rattle.surf_tally.proofs.summary.sum_up.Goals as goal

pub loop-place-init : goal.loop-place-init
loop-place-init c = none_summed c.args.counts.now c.args.watched c.args.events c.args.places.now c.first_reached-first.result c.first_reached-first.ensures

pub loop-place-preserved : goal.loop-place-preserved
loop-place-preserved c =
    let i = c.loop-place.place-index in
    subst (λ (t : Tally). SummedTo c.args.counts.now c.args.watched c.args.events c.args.places.now (i + 1) t) (sym c.with_cell-tally.ensures)
    (one_summed c.args.counts.now c.args.watched c.args.events c.args.places.now i _ c.count_at.result c.loop-place.tally (slice_get-get_or c.args.places.now i _ c.loop-place-test.true) c.count_at.ensures c.loop-place.invariant)

pub returns : goal.returns
returns c = all_summed c.args.counts.now c.args.watched c.args.events c.args.places.now c.loop-place.place-index c.loop-place.tally c.loop-place-test.false c.loop-place.invariant
