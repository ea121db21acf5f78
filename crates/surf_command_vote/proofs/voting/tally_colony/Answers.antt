use Rattle.std.proofs.Common.{IfOk, ◌≡◌, ◌<◌, ◌∙◌, All, List, ℕ, None, length, ap, sym, subst}
use Rattle.surf_world.specs.Systems.{System}
use Rattle.surf_auto.specs.Sync.{Universe, box_of, universe}
use Rattle.surf_colony.specs.Colonies.{printed}
use Rattle.surf_tally.specs.declared.summary.Tally.{Tally}
use Rattle.surf_command_vote.specs.Shown.{cell_places, seed_tally}
use Rattle.surf_command_vote.proofs.CellPlaces.{cells_within}
use Rattle.surf_command_vote.proofs.voting.tally_colony.Goals as goal

pub tally_manifest-requires : goal.tally_manifest-requires
tally_manifest-requires g c =
    let a = c.args.automaton.now in
    let U : Universe = universe (box_of a.kind a.wrap a.width a.height) (g.L.Local.rule a.local) a.edge a.cells.items in
    let places : c.deref.result.now ≡ cell_places U = c.deref.ensures.value ∙ c.in_ok-places.ensures in
    subst (λ (ps : List ℕ). All (λ p. p < length c.in_ok-manifest.manifest.text.system.start) ps) (sym places)
    (subst (λ (S : System (List ℕ)). All (λ p. p < length S.start) (cell_places U)) (sym c.in_ok-manifest.ensures.colony)
    (cells_within U a.stands.is_grid None))

pub returns : goal.returns
returns g c =
    let a = c.args.automaton.now in
    let U : Universe = universe (box_of a.kind a.wrap a.width a.height) (g.L.Local.rule a.local) a.edge a.cells.items in
    let places : c.deref.result.now ≡ cell_places U = c.deref.ensures.value ∙ c.in_ok-places.ensures in
    subst (λ (u : Tally). IfOk c.tally_manifest.result (λ t. t ≡ u))
    (ap (λ (S : System (List ℕ)). seed_tally S c.deref.result.now c.args.count) c.in_ok-manifest.ensures.colony
    ∙ ap (λ ps. seed_tally (printed U None) ps c.args.count) places)
    c.tally_manifest.ensures
