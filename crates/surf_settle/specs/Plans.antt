-- What a layout has to keep.
use Rattle.std.specs.Prelude.{ℕ, ◌^◌, ◌<◌, ◌≤◌, List, length}
use Rattle.surf_lattice.specs.declared.site.Site.{Site}
use Rattle.surf_tiles.specs.declared.kind.Kind.{Kind}
use Rattle.surf_tiles.specs.Netlists.{NetlistOf}
use Rattle.surf_settle.specs.Law.{Plan, IsLawful}

abbrev pub plan : NetlistOf → (width height : ℕ) → List Kind → (inputs outputs : List Site) → Plan
plan netlist width height kinds inputs outputs = record {
  netlist = netlist;
  width = width;
  height = height;
  kinds = kinds;
  inputs = inputs;
  outputs = outputs;
}

-- both sides are at least 1, there are not too many sites and outputs, and the law holds
pub record IsLayout (L : Plan) : Type 0 where
  pub wide : 1 ≤ L.width
  pub high : 1 ≤ L.height
  pub small : length L.kinds ≤ 27027000
  pub few : length L.outputs < 2 ^ 32
  pub lawful : IsLawful L
