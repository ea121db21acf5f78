-- What evaluation answers.
use Rattle.std.specs.Prelude.{ℕ, ◌≡◌, ◌≢◌, Bool, true, List, ◌++◌, length, map, nat_eq, Option, Some, None, IfSome}
use Rattle.surf_logic.specs.declared.values.EvalError.{EvalError}
use Rattle.surf_logic.specs.declared.values.EvalError.TheVariants.{Length, NoMemory}
use Rattle.surf_logic.specs.Equations.{EquationOf, Numbered, PartsOf, Solves}
use Rattle.surf_logic.specs.declared.turns.CircuitError.{CircuitError}
use Rattle.surf_logic.specs.declared.turns.CircuitError.TheVariants as errors
use Rattle.surf_rules.specs.Names.{text_of}
use Rattle.surf_logic.specs.Order.{Fault, DeclaredTwice, DrivenTwice, Undriven, NoOutputs, Cycle, HasFault, FirstCyclic, outputs_of, has}

-- one assignment of the names, and no other, has these bits at the inputs and solves the equations;
-- each that does has these outputs
pub record EvalOf {N : Type 0} (eq : N → N → Bool) (p : PartsOf N) (bits answer : List Bool) :
    Type 0 where
  pub assignment : N → Bool
  pub inputs : map assignment p.inputs ≡ bits
  pub solves : Solves p.equations assignment
  pub only : (e : N → Bool) → map e p.inputs ≡ bits → Solves p.equations e → (n : N) →
      has eq (p.inputs ++ outputs_of p.equations) n ≡ true → e n ≡ assignment n
  pub outputs : (e : N → Bool) → map e p.inputs ≡ bits → Solves p.equations e →
      map e p.outputs ≡ answer

-- the same of the numbers of a circuit
abbrev pub IsEval : Numbered → List Bool → List Bool → Type 0
IsEval c bits answer = EvalOf nat_eq c.parts bits answer

-- why evaluation answers nothing
abbrev pub HasEvalFault : Numbered → List Bool → EvalError → Type 0
HasEvalFault c bits (Length found wanted) =
    (found ≡ length bits) × (wanted ≡ length c.parts.inputs) × (found ≢ wanted)
HasEvalFault c bits NoMemory = Unit {0}

abbrev pub map_fault : {M N : Type 0} → (M → N) → Fault M → Fault N
map_fault f (DeclaredTwice n) = DeclaredTwice (f n)
map_fault f (DrivenTwice n) = DrivenTwice (f n)
map_fault f (Undriven n) = Undriven (f n)
map_fault f NoOutputs = NoOutputs
map_fault f (Cycle n) = Cycle (f n)

-- the fault that an error tells
abbrev pub told_fault : CircuitError → Option (Fault (List ℕ))
told_fault (errors.DeclaredTwice t) = Some (DeclaredTwice t)
told_fault (errors.DrivenTwice t) = Some (DrivenTwice t)
told_fault (errors.Undriven t) = Some (Undriven t)
told_fault errors.NoOutputs = Some NoOutputs
told_fault (errors.Cycle t) = Some (Cycle t)
told_fault errors.NoMemory = None

-- the error tells a fault of the parts, by the texts of its names
abbrev pub HasCircuitFault : Numbered → CircuitError → Type 0
HasCircuitFault p e =
    IfSome (told_fault e) (λ g. (f : Fault ℕ) × HasFault nat_eq p.parts f
    × (g ≡ map_fault (text_of p.names) f))

-- the fault is that of the first equation that depends on itself
abbrev pub TellsCycle : List (List ℕ) → List (EquationOf ℕ) → Fault (List ℕ) → Type 0
TellsCycle names qs g =
    (n : ℕ) × FirstCyclic nat_eq qs (outputs_of qs) n × (g ≡ Cycle (text_of names n))
