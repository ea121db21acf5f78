use Rattle.std.proofs.Common.{rules, ℕ, ◌≡◌, ◌++◌, List, length, map, take, drop, sym, ap, ◌∙◌, arith}
use Rattle.std.proofs.Math.Seq.{take-append_seam}
use Rattle.surf_world.specs.Worlds.{Placed}
use Rattle.surf_sync.specs.Spelling.{Showing}
use Rattle.std.specs.Prelude.{Option}
use Rattle.surf_tally.specs.declared.counts.Count.{Count}
use Rattle.surf_tally.specs.declared.shown.Shown.{Shown}
use Rattle.surf_tally.specs.Counting.{first_count}
use Rattle.surf_tally.specs.Showings.{look, show_by, shown_of}
use Rattle.surf_tally.specs.Simulated.{events_from}
use Rattle.surf_tally.specs.Summing.{summed}
use Rattle.surf_tally.specs.Tallies.{tally_of}
use Rattle.surf_tally.proofs.Summed.{first_none, first_right, table_shows, tallied}
use Rattle.surf_tally.proofs.tallying.tally.Goals as goal

-- what was written over as a slice
written : (new old : List Count) (n : ℕ) → n ≡ length new → take n (new ++ drop (length new) old) ≡ new
written new old n e = ap (λ (k : ℕ). take k (new ++ drop (length new) old)) e ∙ take-append_seam new (drop (length new) old)

pub follow_all-events-requires-clause-none : goal.follow_all-events-requires-clause-none
follow_all-events-requires-clause-none g c =
    let first : c.in_ok-counts.counts.items ≡ map (λ m. first_count (look c.deref.result.now m)) c.world.result.now.names = search rules in
    first_none c.deref.result.now c.world.result.now.names c.deref_mut.result.now (c.deref_mut.ensures.value ∙ first)

pub follow_all-events-requires-clause-right : goal.follow_all-events-requires-clause-right
follow_all-events-requires-clause-right g c =
    let w = c.args.sim.now.placed in
    let table : c.deref-2.result.now ≡ c.deref.result.now = c.deref-2.ensures.value ∙ sym c.deref.ensures.value in
    let first : c.in_ok-counts.counts.items ≡ map (λ m. first_count (look c.deref.result.now m)) c.world.result.now.names = search rules in
    first_right c.deref-2.result.now w.names c.deref_mut.result.now
    (c.deref_mut.ensures.value ∙ first
    ∙ ap (λ (t : List (Option Shown)). map (λ m. first_count (look t m)) c.world.result.now.names) (sym table)
    ∙ ap (λ (v : Placed). map (λ m. first_count (look c.deref-2.result.now m)) v.names) c.world.ensures)

pub returns-clause-tally : goal.returns-clause-tally
returns-clause-tally g c =
    let w = c.args.sim.now.placed in
    let es = events_from c.args.sim.now c.args.count in
    let shown : c.in_ok-shown.shown.items ≡ map shown_of c.args.names.now = search rules in
    let table : c.deref-2.result.now ≡ c.deref.result.now = c.deref-2.ensures.value ∙ sym c.deref.ensures.value in
    let shows : show_by c.deref-2.result.now ≡ _ = ap show_by (c.deref-2.ensures.value ∙ shown) ∙ table_shows c.args.names.now in
    let first : c.in_ok-counts.counts.items ≡ map (λ m. first_count (look c.deref.result.now m)) c.world.result.now.names = search rules in
    let begun =
    c.deref_mut.ensures.value ∙ first
    ∙ ap (λ (t : List (Option Shown)). map (λ m. first_count (look t m)) c.world.result.now.names) (sym table)
    ∙ ap (λ (v : Placed). map (λ m. first_count (look c.deref-2.result.now m)) v.names) c.world.ensures in
    let long : c.in_ok-counts.counts.len ≡ length c.follow_all-events.new.counts = omega (arith, c.follow_all-events.auto.counts, c.deref_mut.ensures.len, c.in_ok-counts.counts.ok.0, ap length c.deref_mut.ensures.value) in
    let last : c.deref-3.result.now ≡ c.follow_all-events.new.counts = c.deref-3.ensures.value ∙ written c.follow_all-events.new.counts c.in_ok-counts.counts.items c.in_ok-counts.counts.len long in
    c.sum_up.ensures
    ∙ ap (λ (xs : List Count). summed xs c.args.watched c.follow_all-events.result c.args.places.now) last
    ∙ ap (λ (n : ℕ). summed c.follow_all-events.new.counts c.args.watched n c.args.places.now) c.follow_all-events.ensures.events
    ∙ tallied c.deref-2.result.now w.surface w.names es c.args.watched c.requires.watched c.deref_mut.result.now c.follow_all-events.new.counts begun c.follow_all-events.ensures.ended c.args.places.now c.requires.places
    ∙ ap (λ (s : ℕ → Option Showing). tally_of s w.surface w.names es c.args.watched c.args.places.now) shows
