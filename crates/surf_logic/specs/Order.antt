-- The faults of equations, and the order in which they can be evaluated.
use Rattle.std.specs.Prelude.{ℕ, ◌≡◌, ◌<◌, ◌^◌, nat_eq, ◌⊎◌, Bool, true, false, ◌&&◌, List, [], ◌∷◌, ◌++◌, length, map, if◌then◌else◌, Option, Some, None}
use Rattle.std.specs.List.{list_all, list_any, flat_map, All}
use Rattle.std.specs.Option.{option_map}
use Rattle.surf_logic.specs.Equations.{EquationOf, PartsOf, Numbered}

-- the name stands in the list; eq is the test whether two names are one
abbrev pub has : {N : Type 0} → (N → N → Bool) → List N → N → Bool
has eq ns n = list_any (eq n) ns

-- the first name that stands earlier in the list, or in the names above it
abbrev pub first_twice : {N : Type 0} → (N → N → Bool) → List N → List N → Option N
first_twice eq above [] = None
first_twice eq above (n ∷ ns) = if has eq above n then Some n else first_twice eq (n ∷ above) ns

-- the first name that isn't among the known
abbrev pub first_missing : {N : Type 0} → (N → N → Bool) → List N → List N → Option N
first_missing eq known [] = None
first_missing eq known (n ∷ ns) = if has eq known n then first_missing eq known ns else Some n

abbrev pub outputs_of : {N : Type 0} → List (EquationOf N) → List N
outputs_of qs = map (λ q. q.output) qs

abbrev pub inputs_of : {N : Type 0} → List (EquationOf N) → List N
inputs_of qs = flat_map (λ q. q.inputs) qs

-- the equation gives n, and m is one of its inputs
abbrev pub is_from : {N : Type 0} → (N → N → Bool) → N → N → EquationOf N → Bool
is_from eq n m q = eq q.output n && has eq q.inputs m

-- n is given by an equation from m; by an equation from the first name of a list, that from the
-- next, and the last from m
abbrev pub GivenBy : {N : Type 0} → (N → N → Bool) → List (EquationOf N) → N → List N → N → Type 0
GivenBy eq qs n [] m = list_any (is_from eq n m) qs ≡ true
GivenBy eq qs n (k ∷ ks) m = (list_any (is_from eq n k) qs ≡ true) × GivenBy eq qs k ks m

-- n depends on m through one or more equations
abbrev pub DependsOn : {N : Type 0} → (N → N → Bool) → List (EquationOf N) → N → N → Type 0
DependsOn {N} eq qs n m = (ks : List N) × GivenBy eq qs n ks m

-- n is the first of the names that depends on itself
abbrev pub FirstCyclic : {N : Type 0} → (N → N → Bool) → List (EquationOf N) → List N → N → Type 0
FirstCyclic eq qs [] n = ⊥
FirstCyclic eq qs (k ∷ ks) n =
    ((k ≡ n) × DependsOn eq qs k k) ⊎ ((DependsOn eq qs k k → ⊥) × FirstCyclic eq qs ks n)

-- it isn't so that no equation depends on itself
abbrev pub SomeCyclic : List (EquationOf ℕ) → Type 0
SomeCyclic qs = All (λ q. DependsOn nat_eq qs q.output q.output → ⊥) qs → ⊥

pub data Fault (N : Type 0) : Type 0 where
  DeclaredTwice : N → Fault N
  DrivenTwice : N → Fault N
  Undriven : N → Fault N
  NoOutputs : Fault N
  Cycle : N → Fault N

abbrev pub or_else : {X : Type 0} → Option X → Option X → Option X
or_else None next = next
or_else (Some x) next = Some x

abbrev pub no_outputs : {N : Type 0} → List N → Option (Fault N)
no_outputs [] = Some NoOutputs
no_outputs (n ∷ ns) = None

abbrev pub declared_twice : {N : Type 0} → (N → N → Bool) → PartsOf N → Option N
declared_twice eq p = or_else (first_twice eq [] p.inputs) (first_twice eq [] p.outputs)

abbrev pub driven_twice : {N : Type 0} → (N → N → Bool) → PartsOf N → Option N
driven_twice eq p = first_twice eq p.inputs (outputs_of p.equations)

abbrev pub undriven : {N : Type 0} → (N → N → Bool) → PartsOf N → Option N
undriven eq p =
    first_missing eq (p.inputs ++ outputs_of p.equations) (inputs_of p.equations ++ p.outputs)

-- the first of the faults that lists show
abbrev pub list_fault : {N : Type 0} → (N → N → Bool) → PartsOf N → Option (Fault N)
list_fault eq p =
    or_else (option_map DeclaredTwice (declared_twice eq p))
    (or_else (option_map DrivenTwice (driven_twice eq p))
    (or_else (option_map Undriven (undriven eq p))
    (no_outputs p.outputs)))

-- the fault of the parts
abbrev pub HasFault : {N : Type 0} → (N → N → Bool) → PartsOf N → Fault N → Type 0
HasFault eq p (Cycle n) =
    (list_fault eq p ≡ None) × FirstCyclic eq p.equations (outputs_of p.equations) n
HasFault eq p (DeclaredTwice n) = list_fault eq p ≡ Some (DeclaredTwice n)
HasFault eq p (DrivenTwice n) = list_fault eq p ≡ Some (DrivenTwice n)
HasFault eq p (Undriven n) = list_fault eq p ≡ Some (Undriven n)
HasFault eq p NoOutputs = list_fault eq p ≡ Some NoOutputs

-- the inputs of an equation are known
abbrev pub is_ready : {N : Type 0} → (N → N → Bool) → List N → EquationOf N → Bool
is_ready eq known q = list_all (has eq known) q.inputs

-- one turn: the first equation that is ready is taken out
pub record Turn {N : Type 0} (eq : N → N → Bool) (known : List N) (rest : List (EquationOf N))
    (q : EquationOf N) (left : List (EquationOf N)) : Type 0 where
  pub before : List (EquationOf N)
  pub after : List (EquationOf N)
  pub splits : rest ≡ before ++ q ∷ after
  pub leaves : left ≡ before ++ after
  pub waiting : list_any (is_ready eq known) before ≡ false
  pub ready : is_ready eq known q ≡ true

-- the equations taken in turns until none is ready, and those left then
abbrev pub Turns : {N : Type 0} → (N → N → Bool) → List N → List (EquationOf N) →
    List (EquationOf N) → List (EquationOf N) → Type 0
Turns eq known rest [] left = (rest ≡ left) × (list_any (is_ready eq known) rest ≡ false)
Turns {N} eq known rest (q ∷ qs) left = (next : List (EquationOf N)) × Turn eq known rest q next
    × Turns eq (q.output ∷ known) next qs left

-- each equation uses known names and earlier outputs only
abbrev pub Ordered : {N : Type 0} → (N → N → Bool) → List N → List (EquationOf N) → Type 0
Ordered eq known [] = Unit {0}
Ordered eq known (q ∷ qs) = (is_ready eq known q ≡ true) × Ordered eq (q.output ∷ known) qs

-- the numbers are places among so many names, and each row has one literal per input
pub record EquationInRange (count : ℕ) (q : EquationOf ℕ) : Type 0 where
  pub output : q.output < count
  pub inputs : All (λ n. n < count) q.inputs
  pub rows : All (λ row. length row ≡ length q.inputs) q.rows

pub record InRange (p : Numbered) : Type 0 where
  pub inputs : All (λ n. n < length p.names) p.parts.inputs
  pub outputs : All (λ n. n < length p.names) p.parts.outputs
  pub equations : All (EquationInRange (length p.names)) p.parts.equations
  pub names : length p.names < 2 ^ 32

-- parts without a fault, in an order in which they can be evaluated
pub record IsCircuit (p : Numbered) : Type 0 where
  pub in_range : InRange p
  pub no_fault : list_fault nat_eq p.parts ≡ None
  pub no_cycle : (n : ℕ) → DependsOn nat_eq p.parts.equations n n → ⊥
  pub ordered : Ordered nat_eq p.parts.inputs p.parts.equations

-- parts whose lists show no fault, with their equations as the turns take them
pub record IsOrderOf (p c : Numbered) : Type 0 where
  pub names : c.names ≡ p.names
  pub inputs : c.parts.inputs ≡ p.parts.inputs
  pub outputs : c.parts.outputs ≡ p.parts.outputs
  pub sound : list_fault nat_eq p.parts ≡ None
  pub turns : Turns nat_eq p.parts.inputs p.parts.equations c.parts.equations []
