-- The gates of a circuit, and what is known of them.
use Rattle.std.specs.Prelude.{◌≡◌, ℕ, ◌+◌, ◌-◌, Bool, nat_eq, List, [], ◌∷◌, ◌++◌, map, length, if◌then◌else◌}
use Rattle.std.specs.List.{All}
use Rattle.surf_logic.specs.Equations.{EquationOf, PartsOf}
use Rattle.surf_tiles.specs.declared.netlist.Gate.{Gate}
use Rattle.surf_tiles.specs.Netlists.{NetlistOf, value_in, net_meaning}
use Rattle.surf_netlist.specs.Gates.{gates_of_equation, gate_count}

-- the nets of the names, where one more name gets its net
abbrev pub with_net : (nets : ℕ → ℕ) → (name net : ℕ) → ℕ → ℕ
with_net nets name net x = if nat_eq x name then net else nets x

-- the gates of equations in order. The net of an equation is that of its last gate
abbrev pub gates_from : (next : ℕ) → (nets : ℕ → ℕ) → List (EquationOf ℕ) → List Gate
gates_from next nets [] = []
gates_from next nets (q ∷ qs) =
    let gates = gates_of_equation next nets q in
    gates ++ gates_from (next + length gates) (with_net nets q.output (next + length gates - 1)) qs

-- the nets of all names then
abbrev pub nets_from : (next : ℕ) → (nets : ℕ → ℕ) → List (EquationOf ℕ) → ℕ → ℕ
nets_from next nets [] = nets
nets_from next nets (q ∷ qs) =
    let gates = gates_of_equation next nets q in
    nets_from (next + length gates) (with_net nets q.output (next + length gates - 1)) qs

-- the inputs have the nets from 0 on, in their order
abbrev pub input_nets : (next : ℕ) → (names : List ℕ) → ℕ → ℕ
input_nets next [] x = 0
input_nets next (name ∷ names) x = if nat_eq x name then next else input_nets (next + 1) names x

abbrev pub gates_of : PartsOf ℕ → NetlistOf
gates_of p = record {
  inputs = length p.inputs;
  gates = gates_from (length p.inputs) (input_nets 0 p.inputs) p.equations;
  outputs = map (nets_from (length p.inputs) (input_nets 0 p.inputs) p.equations) p.outputs;
}

-- the values of the outputs' nets, where the inputs have these bits
abbrev pub outputs_at : NetlistOf → (bits : List Bool) → List Bool
outputs_at N bits = map (value_in (net_meaning N bits)) N.outputs

-- an equation makes so many gates, whatever its nets
abbrev pub EquationsMakeGates : Type 0
EquationsMakeGates = (next : ℕ) (nets : ℕ → ℕ) (q : EquationOf ℕ) →
    All (λ row. length row ≡ length q.inputs) q.rows → length (gates_of_equation next nets q)
    ≡ gate_count q
