use Rattle.std.proofs.Common.{sym, subst, ◌∙◌, ap, map, ◌≡◌}
use Rattle.surf_lattice.specs.Grids.{Grid}
use Rattle.surf_world.specs.Worlds.{Placed, rule_of}
use Rattle.surf_manifest.specs.Manifests.{text_by}
use Rattle.surf_manifest.specs.Numbered.{IsNumbered, NamedManifest}
use Rattle.surf_manifest.proofs.Manifests.{numbered, rates_from}
use Rattle.surf_manifest.proofs.manifest.Manifest.into_world_on.Goals as goal

pub new-requires-clause-rates : goal.new-requires-clause-rates
new-requires-clause-rates g c = rates_from c.self.inside.names c.self.inside.rules.items c.self.invariant.well_formed.rules

pub returns-clause-numbered : goal.returns-clause-numbered
returns-clause-numbered g c =
    let a = c.self.inside in
    let grid : Grid = record { kind = a.kind; wrap = a.wrap; width = a.width; height = a.height } in
    let grid_is : g.L.Lattice.grid c.args.grid ≡ grid = c.requires ∙ ap (λ v. v.text.system.surface.grid) (sym c.self.view_is) in
    let w : Placed = record { surface = record { grid = grid; rules = map rule_of a.rules.items }; names = a.start.items } in
    let world_is : c.in_ok-world.world ≡ w =
    c.in_ok-world.ensures
    ∙ (ap (λ b. record { surface = record { grid = g.L.Lattice.grid c.args.grid; rules = map rule_of b }; names = a.start.items }) c.in_ok-book.ensures
    ∙ ap (λ v. record { surface = record { grid = v; rules = map rule_of a.rules.items }; names = a.start.items }) grid_is) in
    let is : IsNumbered (text_by a).system w a.names = numbered grid a.rules.items a.start.items a.names c.len-name_count.ensures.distinct c.self.invariant.rules c.self.invariant.start in
    subst (λ (v : Placed). IsNumbered c.args.self.text.system v a.names) (sym world_is) (subst (λ (v : NamedManifest). IsNumbered v.text.system w a.names) c.self.view_is is)
