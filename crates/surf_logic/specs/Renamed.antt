-- Parts whose names are replaced, and what this keeps.
use Rattle.std.specs.Prelude.{ℕ, ◌≡◌, Bool, List, [], map, nat_eq}
use Rattle.std.specs.Str.{bytes_eq}
use Rattle.surf_rules.specs.Names.{text_of, AreDistinct}
use Rattle.surf_logic.specs.Equations.{EquationOf, PartsOf, Numbered, cost_of}
use Rattle.surf_logic.specs.Order.{Fault, HasFault, InRange, IsOrderOf, Turns}
use Rattle.surf_logic.specs.Answers.{EvalOf, IsEval, map_fault}

abbrev pub equation_by : {M N : Type 0} → (M → N) → EquationOf M → EquationOf N
equation_by f q =
    record { output = f q.output; inputs = map f q.inputs; rows = q.rows; polarity = q.polarity }

abbrev pub parts_by : {M N : Type 0} → (M → N) → PartsOf M → PartsOf N
parts_by f p =
    record {
      inputs = map f p.inputs;
      outputs = map f p.outputs;
      equations = map (equation_by f) p.equations;
    }

-- the parts over the texts of their names
abbrev pub by_text : Numbered → PartsOf (List ℕ)
by_text p = parts_by (text_of p.names) p.parts

-- parts over distinct texts
pub record AreNamed (p : Numbered) : Type 0 where
  pub distinct : AreDistinct p.names
  pub range : InRange p

-- a fault of numbered parts is one of the parts over texts
abbrev pub FaultsAreNamed : Type 0
FaultsAreNamed = (p : Numbered) (f : Fault ℕ) → AreNamed p → HasFault nat_eq p.parts f →
    HasFault bytes_eq (by_text p) (map_fault (text_of p.names) f)

-- and where they have an order, there is no fault of the parts over texts
abbrev pub OrdersAreSound : Type 0
OrdersAreSound = (p c : Numbered) (f : Fault (List ℕ)) → AreNamed p → IsOrderOf p c →
    HasFault bytes_eq (by_text p) f → ⊥

-- the order is the one over texts
abbrev pub OrdersAreNamed : Type 0
OrdersAreNamed = (p c : Numbered) → AreNamed p → IsOrderOf p c →
    Turns bytes_eq (by_text p).inputs (by_text p).equations (by_text c).equations []

-- neither order nor names change the cost
abbrev pub OrdersCostTheSame : Type 0
OrdersCostTheSame = (p c : Numbered) → IsOrderOf p c → cost_of c.parts ≡ cost_of p.parts

abbrev pub NamesCostNothing : Type 0
NamesCostNothing = (p : Numbered) → cost_of (by_text p) ≡ cost_of p.parts

-- what a circuit evaluates to is what the parts over texts do, in whatever order their equations
-- stand
abbrev pub ValuesAreNamed : Type 0
ValuesAreNamed = (p c : Numbered) (bits answer : List Bool) → AreNamed p → IsOrderOf p c →
    IsEval c bits answer → EvalOf bytes_eq (by_text p) bits answer
