use Rattle.std.proofs.Common.{rules, ◌≡◌, ◌*◌, ◌++◌, ◌∷◌, [], List, ℕ, map, ap, sym, ◌∙◌}
use Rattle.surf_auto.specs.Sync.{Universe, box_of, universe}
use Rattle.surf_colony.specs.Colonies.{border}
use Rattle.surf_sync.specs.Rules.{below}
use Rattle.surf_sync.proofs.Loops.{map_one_more}
use Rattle.surf_command_vote.proofs.CellPlaces.{kth_place, places_listed}
use Rattle.surf_command_vote.proofs.voting.cell_places.Goals as goal

pub loop-cell-preserved : goal.loop-cell-preserved
loop-cell-preserved g c =
    let a = c.args.automaton.now in
    let k = c.loop-cell.cell in
    let place : kth_place a.width c.border-border.result k ≡ kth_place a.width (border a.wrap) k = ap (λ b. kth_place a.width b k) c.border-border.ensures.border in
    record {
      places = c.in_ok-push.ensures ∙ ap (λ (xs : List ℕ). xs ++ kth_place a.width c.border-border.result k ∷ []) c.loop-cell.invariant.places
          ∙ ap (λ p. map (kth_place a.width (border a.wrap)) (below k) ++ p ∷ []) place
          ∙ sym (map_one_more (kth_place a.width (border a.wrap)) k);
    }

pub returns : goal.returns
returns g c =
    let a = c.args.automaton.now in
    let U : Universe = universe (box_of a.kind a.wrap a.width a.height) (g.L.Local.rule a.local) a.edge a.cells.items in
    let all : c.loop-cell.cell ≡ a.width * a.height = search rules in
    c.loop-cell.invariant.places ∙ places_listed U c.loop-cell.cell all
