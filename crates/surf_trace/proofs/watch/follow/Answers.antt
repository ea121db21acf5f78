use Rattle.std.proofs.Common.{◌≡◌, ◌∙◌, length, inl, inr, refl, subst}
use Rattle.surf_lattice.specs.Grids.{IsGrid}
use Rattle.surf_trace.proofs.Followed.{within, below_next, seen_alone, seen_pair}
use Rattle.surf_trace.proofs.watch.follow.Goals as goal

pub note-requires : goal.note-requires
note-requires g c =
    within c.args.sights.now c.args.world.now c.args.event.now c.requires.enabled c.apply.new.self c.apply.ensures c.args.event.now.first (inl refl) c.place.result (length c.args.kept.now) c.place.ensures.place c.requires.sites

pub sight_at-requires-in-Some-clause-below : goal.sight_at-requires-in-Some-clause-below
sight_at-requires-in-Some-clause-below g c =
    (below_next c.args.sights.now c.args.world.now c.args.event.now c.requires.enabled c.apply-in-Some.new.self c.apply-in-Some.ensures (length c.args.sights.now) c.requires.below).in_names

pub note-requires-in-Some : goal.note-requires-in-Some
note-requires-in-Some g c =
    within c.args.sights.now c.args.world.now c.args.event.now c.requires.enabled c.apply-in-Some.new.self c.apply-in-Some.ensures c.args.event.now.first (inl refl) c.place-in-Some.result (length c.args.kept.now) c.place-in-Some.ensures.place c.requires.sites

pub sight_at-requires-in-Some-2-clause-below : goal.sight_at-requires-in-Some-2-clause-below
sight_at-requires-in-Some-2-clause-below g c =
    (below_next c.args.sights.now c.args.world.now c.args.event.now c.requires.enabled c.apply-in-Some.new.self c.apply-in-Some.ensures (length c.args.sights.now) c.requires.below).in_names

pub note-requires-in-Some-2 : goal.note-requires-in-Some-2
note-requires-in-Some-2 g c =
    within c.args.sights.now c.args.world.now c.args.event.now c.requires.enabled c.apply-in-Some.new.self c.apply-in-Some.ensures c.in-Some.second (inr c.in-Some.is) c.place-in-Some-2.result (length c.note-in-Some.new.kept) c.place-in-Some-2.ensures.place
    (let same : length c.note-in-Some.new.kept ≡ length c.args.kept.now = c.note-in-Some.auto.kept in same ∙ c.requires.sites)

pub returns-in-None-clause-noted : goal.returns-in-None-clause-noted
returns-in-None-clause-noted g c =
    seen_alone c.args.sights.now c.args.world.now c.args.event.now c.requires.enabled c.apply.new.self c.apply.ensures c.in-None.is c.args.kept.now c.note.new.kept c.place.result c.sight_at-before.result c.sight_at.result
    (c.place.ensures.place, c.sight_at-before.ensures, c.sight_at.ensures, record { here = c.note.ensures.here; others = c.note.ensures.others })

pub returns-in-Some-clause-noted : goal.returns-in-Some-clause-noted
returns-in-Some-clause-noted g c =
    let grid : IsGrid c.args.world.now.surface.grid = subst IsGrid c.grid.ensures c.width-width.ensures.sides in
    seen_pair c.args.sights.now c.args.world.now c.args.event.now c.requires.enabled c.apply-in-Some.new.self c.apply-in-Some.ensures grid c.in-Some.second c.in-Some.is c.args.kept.now c.note-in-Some.new.kept c.note-in-Some-2.new.kept c.place-in-Some.result c.place-in-Some-2.result
    c.sight_at-before.result c.sight_at-in-Some.result c.sight_at-before_second.result c.sight_at-in-Some-2.result
    (c.place-in-Some.ensures.place, c.sight_at-before.ensures, c.sight_at-in-Some.ensures, record { here = c.note-in-Some.ensures.here; others = c.note-in-Some.ensures.others })
    (c.place-in-Some-2.ensures.place, c.sight_at-before_second.ensures, c.sight_at-in-Some-2.ensures, record { here = c.note-in-Some-2.ensures.here; others = c.note-in-Some-2.ensures.others })
