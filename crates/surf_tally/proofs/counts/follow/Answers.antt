use Rattle.std.proofs.Common.{◌∙◌, length, sym, arith}
use Rattle.surf_lattice.specs.Grids.{place}
use Rattle.surf_tally.specs.Showings.{look_at}
use Rattle.surf_tally.proofs.Followed.{below_next, few_other, noted_alone, noted_pair, sites_next}
use Rattle.surf_tally.proofs.counts.follow.Goals as goal

pub note-requires-in-Some-clause-below : goal.note-requires-in-Some-clause-below
note-requires-in-Some-clause-below g c =
    (below_next (length c.args.shown.now) c.args.sim.now.placed c.world-in-Some.result.now c.in_ok-event.event (c.world-in-Some.ensures ∙ c.in_ok-event.ensures.step.1) c.requires.below).in_names

pub note-requires-in-Some-clause-few : goal.note-requires-in-Some-clause-few
note-requires-in-Some-clause-few g c = λ p y at.
    let q = place c.world.result.now.surface.grid c.in_ok-event.event.first in
    few_other c.args.watched q (look_at c.args.shown.now c.world.result.now q) c.args.counts.now c.note.new.counts c.note.ensures.here c.note.ensures.others c.requires.few p y at

pub returns-in-Some-clause-noted : goal.returns-in-Some-clause-noted
returns-in-Some-clause-noted g c =
    noted_pair c.args.watched c.args.shown.now c.args.sim.now.placed c.in_ok-event.event c.args.counts.now c.requires.right c.step.new.self.placed c.world.result.now c.world-in-Some.result.now c.in_ok-event.ensures.step.1 c.world.ensures c.world-in-Some.ensures c.in-Some.second c.in-Some.is c.note.new.counts c.note-in-Some.new.counts
    (record { here = c.note.ensures.here; others = c.note.ensures.others }) (record { here = c.note-in-Some.ensures.here; others = c.note-in-Some.ensures.others })

pub returns-in-Some-clause-below : goal.returns-in-Some-clause-below
returns-in-Some-clause-below g c = below_next (length c.args.shown.now) c.args.sim.now.placed c.step.new.self.placed c.in_ok-event.event c.in_ok-event.ensures.step.1 c.requires.below

pub returns-in-None-clause-noted : goal.returns-in-None-clause-noted
returns-in-None-clause-noted g c =
    noted_alone c.args.watched c.args.shown.now c.args.sim.now.placed c.in_ok-event.event c.args.counts.now c.requires.right c.step.new.self.placed c.world.result.now c.in_ok-event.ensures.step.1 c.world.ensures c.note.new.counts c.in-None.is
    (record { here = c.note.ensures.here; others = c.note.ensures.others })

pub returns-in-None-clause-below : goal.returns-in-None-clause-below
returns-in-None-clause-below g c = below_next (length c.args.shown.now) c.args.sim.now.placed c.step.new.self.placed c.in_ok-event.event c.in_ok-event.ensures.step.1 c.requires.below

pub note-requires-clause-below : goal.note-requires-clause-below
note-requires-clause-below g c =
    (below_next (length c.args.shown.now) c.args.sim.now.placed c.world.result.now c.in_ok-event.event (c.world.ensures ∙ c.in_ok-event.ensures.step.1) c.requires.below).in_names

pub note-requires-clause-sites : goal.note-requires-clause-sites
note-requires-clause-sites g c =
    c.requires.sites ∙ sym (sites_next c.args.sim.now.placed c.world.result.now c.in_ok-event.event (c.world.ensures ∙ c.in_ok-event.ensures.step.1))

pub note-requires-in-Some-clause-sites : goal.note-requires-in-Some-clause-sites
note-requires-in-Some-clause-sites g c =
    let sites = sites_next c.args.sim.now.placed c.world-in-Some.result.now c.in_ok-event.event (c.world-in-Some.ensures ∙ c.in_ok-event.ensures.step.1) in
    omega (arith, c.note.auto.counts, c.requires.sites, sites)

pub returns-in-Some-clause-sites : goal.returns-in-Some-clause-sites
returns-in-Some-clause-sites g c =
    let sites = sites_next c.args.sim.now.placed c.step.new.self.placed c.in_ok-event.event c.in_ok-event.ensures.step.1 in
    omega (arith, c.note.auto.counts, c.note-in-Some.auto.counts, c.requires.sites, sites)

pub returns-in-None-clause-sites : goal.returns-in-None-clause-sites
returns-in-None-clause-sites g c =
    let sites = sites_next c.args.sim.now.placed c.step.new.self.placed c.in_ok-event.event c.in_ok-event.ensures.step.1 in
    omega (arith, c.note.auto.counts, c.requires.sites, sites)
