-- What a netlist is and what it computes.
use Rattle.std.specs.Prelude.{◌≡◌, ℕ, ◌+◌, ◌<◌, Bool, false, if◌then◌else◌, Some, List, [], ◌∷◌, ◌++◌, length, slice_get, slice_index_or}
use Rattle.surf_tiles.specs.declared.netlist.Gate.{Gate}
use Rattle.surf_tiles.specs.declared.netlist.Gate.TheVariants.{Constant, One, Two}

-- the inputs have the nets 0, 1 and so on, and then the gates one each
pub record NetlistOf : Type 0 where
  pub inputs : ℕ
  pub gates : List Gate
  pub outputs : List ℕ

abbrev pub nets_of : NetlistOf → ℕ
nets_of N = N.inputs + length N.gates

-- a gate by its table, at the values of the nets that it reads
abbrev pub gate_value : (ℕ → Bool) → Gate → Bool
gate_value value (Constant v) = v
gate_value value (One zero one input) = if value input then one else zero
gate_value value (Two t00 t01 t10 t11 first second) =
    if value first then (if value second then t11 else t10) else (if value second then t01 else t00)

abbrev pub value_in : List Bool → ℕ → Bool
value_in values net = slice_index_or values net false

-- the values of the nets so far, and then of the gates in order
abbrev pub with_gates : List Gate → List Bool → List Bool
with_gates [] values = values
with_gates (g ∷ gs) values = with_gates gs (values ++ gate_value (value_in values) g ∷ [])

-- the value of each net, where the inputs have these bits
abbrev pub net_meaning : NetlistOf → List Bool → List Bool
net_meaning N bits = with_gates N.gates bits

abbrev pub UsesBelow : ℕ → Gate → Type 0
UsesBelow n (Constant v) = Unit {0}
UsesBelow n (One zero one input) = input < n
UsesBelow n (Two t00 t01 t10 t11 first second) = (first < n) × (second < n)

-- a gate uses lower nets only
abbrev pub IsOrdered : NetlistOf → Type 0
IsOrdered N = (j : ℕ) (g : Gate) → slice_get N.gates j ≡ Some g → UsesBelow (N.inputs + j) g

-- every output is the number of a net
abbrev pub HasOutputs : NetlistOf → Type 0
HasOutputs N = (i net : ℕ) → slice_get N.outputs i ≡ Some net → net < nets_of N

pub record IsNetlist (N : NetlistOf) : Type 0 where
  pub ordered : IsOrdered N
  pub outputs : HasOutputs N

-- the net is that of this gate
abbrev pub IsGate : NetlistOf → ℕ → Gate → Type 0
IsGate N net g = (j : ℕ) × (net ≡ N.inputs + j) × (slice_get N.gates j ≡ Some g)
