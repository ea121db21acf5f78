-- The surface of a circuit.
use Rattle.std.specs.Prelude.{ℕ, ◌≡◌, List, Some, map}
use Rattle.surf_rules.specs.Names.{text_of}
use Rattle.surf_logic.specs.Equations.{Numbered, PartsOf}
use Rattle.surf_tiles.specs.Netlists.{NetlistOf}
use Rattle.surf_netlist.specs.Circuits.{gates_of}
use Rattle.surf_lanes.specs.Lanes.{LanesOf, IsPacked}
use Rattle.surf_place.specs.Placed.{net_spans, packed}
use Rattle.surf_route.specs.Sealed.{sealed}
use Rattle.surf_settle.specs.Law.{Plan}
use Rattle.surf_manifest.specs.Grammar.{ManifestText}
use Rattle.surf_manifest.specs.WellFormed.{IsWellFormed}
use Rattle.surf_manifest_print.specs.Legends.{LegendText, IsLegend}
use Rattle.surf_manifest_print.specs.Prints.{print_of}
use Rattle.surf_circuit.specs.Circuits.{CircuitHolds}
use Rattle.surf_circuit.specs.Surfaces.{layout_system, layout_legend, plain_manifest, AreWords, IsSpelled}

-- the layout of a netlist whose nets are packed into lanes. The law of packing leaves one choice of
-- lanes
pub record IsDrawn (N : NetlistOf) (L : Plan) : Type 0 where
  pub lanes : LanesOf
  pub law : IsPacked (net_spans N) lanes
  pub drawn : L ≡ sealed N (packed lanes)

-- the surface and the legend of a circuit: those of the layout of its gates, with the names of its
-- inputs and outputs
pub record IsSurfaceOf (c : Numbered) (m : ManifestText) (l : LegendText) : Type 0 where
  pub layout : Plan
  pub drawn : IsDrawn (gates_of c.parts) layout
  pub manifest : m ≡ plain_manifest (layout_system layout)
  pub legend : l ≡ layout_legend (map (text_of c.names) c.parts.inputs)
      (map (text_of c.names) c.parts.outputs) layout

-- the text is the print of a circuit's surface with its legend. Whatever text spells the circuit, the
-- surface computes that text's circuit
pub record IsPrinted (c : Numbered) (text : List ℕ) : Type 0 where
  pub manifest : ManifestText
  pub legend : LegendText
  pub surface : IsSurfaceOf c manifest legend
  pub formed : IsWellFormed manifest
  pub holds : (B : PartsOf (List ℕ)) → IsSpelled B c → CircuitHolds B manifest.system legend
  pub form : (B : PartsOf (List ℕ)) → IsSpelled B c → AreWords B → IsLegend (Some legend)
  pub is : text ≡ print_of manifest (Some legend)

-- a circuit has one surface and one legend
abbrev pub SurfaceIsOne : Type 0
SurfaceIsOne = (c : Numbered) (m m' : ManifestText) (l l' : LegendText) → IsSurfaceOf c m l →
    IsSurfaceOf c m' l' → (m ≡ m') × (l ≡ l')
