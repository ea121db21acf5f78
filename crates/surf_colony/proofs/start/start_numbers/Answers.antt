use Rattle.std.proofs.Common.{rules, ◌≡◌, ◌*◌, ◌+◌, ◌%◌, ◌/◌, Some, map, length, suc, arith, ap, sym, subst, ◌∙◌}
use Rattle.std.proofs.lemmas.Grind.{common_steps}
use Rattle.surf_auto.specs.Sync.{Universe, box_of, universe}
use Rattle.surf_lattice.specs.AnyGrid.{grid_of}
use Rattle.surf_lattice.specs.declared.site.Site.{Site}
use Rattle.surf_lattice.specs.Grids.{Grid, colours, site_at, sites}
use Rattle.surf_sync.specs.Listing.{Name}
use Rattle.surf_sync.specs.Rules.{below}
use Rattle.surf_sync.specs.Spelling.{spell}
use Rattle.surf_sync.proofs.Growing.{keeps_same, keeps_then, name_kept}
use Rattle.surf_sync.proofs.Said.{name_push}
use Rattle.surf_colony.specs.Colonies.{first_mark, framed}
use Rattle.surf_colony.specs.Numbers.{SlotsName, slot_count}
use Rattle.surf_colony.proofs.Slots.{slots_none, whole_again}
use Rattle.surf_colony.proofs.Starts as starts
use Rattle.surf_colony.proofs.start.start_numbers.Goals as goal

pub returns-in_err-number-clause-keeps : goal.returns-in_err-number-clause-keeps
returns-in_err-number-clause-keeps g c =
    keeps_then c.args.names.now c.loop-place.names c.first_number.new.names c.loop-place.invariant.keeps c.first_number.ensures.keeps

pub returns-in_err-push-clause-keeps : goal.returns-in_err-push-clause-keeps
returns-in_err-push-clause-keeps g c =
    keeps_then c.args.names.now c.loop-place.names c.first_number.new.names c.loop-place.invariant.keeps c.first_number.ensures.keeps

pub loop-place-init : goal.loop-place-init
loop-place-init g c =
    let a = c.args.automaton.now in
    let U : Universe = universe (box_of a.kind a.wrap a.width a.height) (g.L.Local.rule a.local) a.edge a.cells.items in
    let names = c.args.names.now in
    let count : (c.states-states.result + 1) * c.colours.result ≡ slot_count U = rw (c.states-states.ensures, c.colours.ensures ∙ ap colours c.requires.grid)
    (let e : U.rule.states 0 + 1 ≡ suc (U.rule.states 0) = omega arith in ap (λ n. n * colours (framed U.grid)) e) in
    record {
      start = grind (arith, common_steps);
      slots = ap length c.in_ok-slots.ensures ∙ grind (arith, common_steps, count);
      named = subst (SlotsName U names) (sym c.in_ok-slots.ensures) (slots_none U names ((c.states-states.result + 1) * c.colours.result));
      texts = c.requires.texts;
      few = omega arith;
      keeps = keeps_same names;
    }

pub first_number-requires-clause-named : goal.first_number-requires-clause-named
first_number-requires-clause-named g c =
    let a = c.args.automaton.now in
    let U : Universe = universe (box_of a.kind a.wrap a.width a.height) (g.L.Local.rule a.local) a.edge a.cells.items in
    subst (SlotsName U c.loop-place.names) (sym c.deref_mut.ensures.value) c.loop-place.invariant.named

pub loop-place-preserved : goal.loop-place-preserved
loop-place-preserved g c =
    let a = c.args.automaton.now in
    let U : Universe = universe (box_of a.kind a.wrap a.width a.height) (g.L.Local.rule a.local) a.edge a.cells.items in
    let G : Grid = grid_of c.args.grid.now in
    let p = c.loop-place.place in
    let s : Site = record { x = p % c.width-width.result; y = p / c.width-width.result } in
    let old = c.loop-place.names in
    let new = c.first_number.new.names in
    let filled = c.first_number.new.slots in
    let slots = c.loop-place.slots.items in
    let few = c.first_number.ensures.few in
    let len = c.loop-place.slots.ok in
    let kept : length filled ≡ length slots = c.first_number.auto.slots ∙ ap length c.deref_mut.ensures.value in
    let whole = whole_again c.loop-place.slots.len filled slots (omega (arith, len)) kept in
    record {
      start = name_push new c.loop-place.start.items (λ q. spell (first_mark U (site_at G q))) p c.in_ok-number.number c.push.new.out.items
          (name_kept old new c.first_number.ensures.keeps c.loop-place.start.items (map (λ q. spell (first_mark U (site_at G q))) (below p)) c.loop-place.invariant.start)
          (c.in_ok-number.ensures.number ∙ ap (λ t. Some (spell (first_mark U t))) (starts.site_of_place G c.width-width.result p c.width-width.ensures.side))
          c.in_ok-push.ensures;
      slots = ap length whole ∙ kept ∙ c.loop-place.invariant.slots;
      named = subst (SlotsName U new) (sym whole) c.in_ok-number.ensures.named;
      texts = c.in_ok-number.ensures.texts;
      few = omega (arith, c.loop-place.invariant.few, few);
      keeps = keeps_then c.args.names.now old new c.loop-place.invariant.keeps c.first_number.ensures.keeps;
    }

pub returns-clause-start : goal.returns-clause-start
returns-clause-start g c =
    let a = c.args.automaton.now in
    let U : Universe = universe (box_of a.kind a.wrap a.width a.height) (g.L.Local.rule a.local) a.edge a.cells.items in
    let G : Grid = grid_of c.args.grid.now in
    let names = c.loop-place.names in
    let all : c.loop-place.place ≡ G.width * G.height = search rules in
    subst (λ h. Name names c.loop-place.start.items (map (λ s. spell (first_mark U s)) (sites h))) c.requires.grid
    (starts.named_sites (first_mark U) G names c.loop-place.start.items c.loop-place.place all c.loop-place.invariant.start)
