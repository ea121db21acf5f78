-- The surface and the legend of a layout.
use Rattle.std.specs.Prelude.{ℕ, ◌≡◌, Bool, true, None, List, [], ◌∷◌, map, length}
use Rattle.std.specs.List.{list_all}
use Rattle.std.specs.Str.{bytes_eq}
use Rattle.surf_text.specs.Bytes.{is_word}
use Rattle.surf_lattice.specs.declared.site.Site.{Site}
use Rattle.surf_world.specs.Systems.{System}
use Rattle.surf_rules.specs.Names.{text_of}
use Rattle.surf_logic.specs.Equations.{PartsOf, Numbered}
use Rattle.surf_logic.specs.Answers.{EvalOf, IsEval}
use Rattle.surf_settle.specs.Law.{Plan}
use Rattle.surf_tiles.specs.Netlists.{NetlistOf}
use Rattle.surf_netlist.specs.Circuits.{outputs_at}
use Rattle.surf_settle.specs.Plans.{IsLayout}
use Rattle.surf_settle.specs.Settling.{surface_of, blank_names, events_of, SettlesAlways}
use Rattle.surf_manifest.specs.Grammar.{ManifestText}
use Rattle.surf_manifest_print.specs.declared.legend.Place.{Place}
use Rattle.surf_manifest_print.specs.Legends.{LegendText}
use Rattle.surf_manifest.specs.WellFormed.{IsWellFormed}
use Rattle.surf_inputs.specs.Inputs.{set_fault, with_inputs, with_system}
use Rattle.surf_circuit.specs.Circuits.{CircuitHolds}

-- the i-th name with the i-th site
abbrev pub places : List (List ℕ) → List Site → List Place
places [] sites = []
places (n ∷ ns) [] = []
places (n ∷ ns) (s ∷ ss) = record { name = n; site = s } ∷ places ns ss

abbrev pub layout_system : Plan → System (List ℕ)
layout_system L = record { surface = surface_of L; start = blank_names L }

-- a manifest of a system, without options and without a colormap
abbrev pub plain_manifest : System (List ℕ) → ManifestText
plain_manifest S = record { system = S; options = []; colormap = None }

-- the inputs and outputs by these names, and the number of events of every run that can't go on
abbrev pub layout_legend : (inputs outputs : List (List ℕ)) → Plan → LegendText
layout_legend inputs outputs L = record {
  inputs = places inputs L.inputs;
  outputs = places outputs L.outputs;
  events = events_of L;
}

-- a circuit over numbers is one over texts: it has the same inputs and outputs, and evaluates to
-- the same
pub record IsSpelled (B : PartsOf (List ℕ)) (c : Numbered) : Type 0 where
  pub inputs : map (text_of c.names) c.parts.inputs ≡ B.inputs
  pub outputs : map (text_of c.names) c.parts.outputs ≡ B.outputs
  pub evals : (bits values : List Bool) → IsEval c bits values → EvalOf bytes_eq B bits values

-- a netlist has the inputs and outputs of a circuit, and evaluates as it does
pub record Decomposes (N : NetlistOf) (c : Numbered) : Type 0 where
  pub inputs : N.inputs ≡ length c.parts.inputs
  pub outputs : length N.outputs ≡ length c.parts.outputs
  pub values : (bits : List Bool) → length bits ≡ N.inputs → IsEval c bits (outputs_at N bits)

-- the surface of a layout computes the circuit of its netlist
abbrev pub LayoutsCompute : Type 0
LayoutsCompute = (c : Numbered) (B : PartsOf (List ℕ)) (L : Plan) → IsSpelled B c →
    Decomposes L.netlist c → IsLayout L → SettlesAlways L →
    CircuitHolds B (layout_system L) (layout_legend B.inputs B.outputs L)

-- the inputs of a surface of a circuit can be set to as many bits as there are inputs
abbrev pub CircuitsAreSet : Type 0
CircuitsAreSet = (B : PartsOf (List ℕ)) (S : System (List ℕ)) (l : LegendText) (bits : List Bool) →
    CircuitHolds B S l → length bits ≡ length B.inputs → set_fault S l bits ≡ None

-- a manifest whose inputs are set is well formed
abbrev pub SetsKeepForm : Type 0
SetsKeepForm = (m : ManifestText) (l : LegendText) (bits : List Bool) → IsWellFormed m →
    IsWellFormed (with_system m (with_inputs m.system l bits))

-- the names of the inputs and outputs are tokens of bytes 33 to 126
pub record AreWords (B : PartsOf (List ℕ)) : Type 0 where
  pub inputs : list_all is_word B.inputs ≡ true
  pub outputs : list_all is_word B.outputs ≡ true
