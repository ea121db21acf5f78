use Rattle.std.proofs.Common.{◌<◌, Some, length, rules, arith, ap, sym, ◌∙◌}
use Rattle.std.proofs.lemmas.Grind.{get_or_default_zero}
use Rattle.surf_auto.specs.Sync.{Universe, box_of, universe}
use Rattle.surf_colony.proofs.Starts.{no_state, stands_at, state_stands}
use Rattle.surf_colony.proofs.start.first_state.Goals as goal

pub index-state-requires : goal.index-state-requires
index-state-requires g c =
    let a = c.args.automaton.now in
    let s = stands_at (box_of a.kind a.wrap a.width a.height) c.args.site c.in_ok-place.place (sym c.in_ok-place.ensures) in
    let within = s.within in
    let size = a.stands.one_per_site in
    let ok = a.cells.ok in
    search rules

pub returns-in_err-place : goal.returns-in_err-place
returns-in_err-place g c =
    let a = c.args.automaton.now in
    let U : Universe = universe (box_of a.kind a.wrap a.width a.height) (g.L.Local.rule a.local) a.edge a.cells.items in
    let e = c.from_residual.ensures in
    e ∙ no_state U c.args.site (sym c.in_err-place.ensures)

pub returns : goal.returns
returns g c =
    let a = c.args.automaton.now in
    let U : Universe = universe (box_of a.kind a.wrap a.width a.height) (g.L.Local.rule a.local) a.edge a.cells.items in
    let s = stands_at U.grid c.args.site c.in_ok-place.place (sym c.in_ok-place.ensures) in
    let within = s.within in
    let size = a.stands.one_per_site in
    let lt : c.in_ok-place.place < length a.cells.items = omega arith in
    ap Some (c.index-state.ensures ∙ get_or_default_zero a.cells.items _ _ lt) ∙ state_stands U c.args.site c.in_ok-place.place (sym c.in_ok-place.ensures)
