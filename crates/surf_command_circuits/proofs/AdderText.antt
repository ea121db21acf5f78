-- The text of an adder spells a circuit.
use Rattle.std.proofs.Common.{ℕ, ◌≡◌, ◌+◌, ◌*◌, ◌≤◌, ◌==◌, ◌&&◌, Bool, true, not, List, [], ◌∷◌, length, Option, None, Some, is_some, refl, sym, ◌∙◌, arith, ⊎_elim}
use Rattle.std.specs.Fmt.{digits}
use Rattle.std.specs.Str.{bytes_eq}
use Rattle.std.proofs.lemmas.Bool.{and_parts, eqb-true, false≢true}
use Rattle.surf_world.proofs.Renamed.{bytes_to, bytes_from}
use Rattle.surf_demo.specs.Adders.{adder_text}
use Rattle.surf_demo.proofs.UpTo.{holds_at, holds_to}
use Rattle.surf_logic.specs.Equations.{EquationOf, PartsOf, cost_of}
use Rattle.surf_logic.specs.Order.{DependsOn, Fault, FirstCyclic, HasFault, DeclaredTwice, DrivenTwice, Undriven, NoOutputs, Cycle, Ordered, first_twice, is_ready, list_fault, outputs_of}
use Rattle.surf_logic.proofs.Taking.{acyclic}
use Rattle.surf_blif.specs.Grammar.{TextFault}
use Rattle.surf_blif.specs.Blifs.{BlifFault, HasBlifFault, InText, InCircuit, TooLarge, parts_of, text_fault}

abbrev in_order : List (List ℕ) → List (EquationOf (List ℕ)) → Bool
in_order known [] = true
in_order known (q ∷ qs) = is_ready bytes_eq known q && in_order (q.output ∷ known) qs

-- the text has no fault, its equations stand in an order in which they can be evaluated, and its
-- cost and the number of its inputs are those that are told
abbrev is_sound : ℕ → PartsOf (List ℕ) → Option TextFault → Bool
is_sound n parts fault =
    not (is_some fault)
    && ((cost_of parts == 30 * n + 2)
    && (not (is_some (list_fault bytes_eq parts))
    && (not (is_some (first_twice bytes_eq parts.inputs (outputs_of parts.equations)))
    && (in_order parts.inputs parts.equations && (length parts.inputs == 2 * n + 1)))))

abbrev is_adder : ℕ → Bool
is_adder n = is_sound n (parts_of (adder_text n)) (text_fault (adder_text n))

-- by computing each of them
computed : holds_to is_adder 32 ≡ true
unfolding digits
computed = refl

none_of : {X : Type 0} (o : Option X) → not (is_some o) ≡ true → o ≡ None
none_of None h = refl
none_of (Some x) h = absurd (false≢true h)

ordered_of : (known : List (List ℕ)) (qs : List (EquationOf (List ℕ))) → in_order known qs ≡ true → Ordered bytes_eq known qs
ordered_of known [] h = tt
ordered_of known (q ∷ qs) h = let p = and_parts (is_ready bytes_eq known q) (in_order (q.output ∷ known) qs) h in (p.0, ordered_of (q.output ∷ known) qs p.1)

-- what was computed of one text
record IsSound (n : ℕ) (parts : PartsOf (List ℕ)) (fault : Option TextFault) : Type 0 where
  lines : fault ≡ None
  cost : cost_of parts ≡ 30 * n + 2
  lists : list_fault bytes_eq parts ≡ None
  once : first_twice bytes_eq parts.inputs (outputs_of parts.equations) ≡ None
  order : Ordered bytes_eq parts.inputs parts.equations
  inputs : length parts.inputs ≡ 2 * n + 1

sound_parts : (n : ℕ) (parts : PartsOf (List ℕ)) (fault : Option TextFault) → is_sound n parts fault ≡ true → IsSound n parts fault
sound_parts n parts fault h =
    let a = and_parts _ _ h in
    let b = and_parts _ _ a.1 in
    let c = and_parts _ _ b.1 in
    let d = and_parts _ _ c.1 in
    let e = and_parts _ _ d.1 in
    record {
      lines = none_of fault a.0;
      cost = eqb-true _ _ b.0;
      lists = none_of (list_fault bytes_eq parts) c.0;
      once = none_of (first_twice bytes_eq parts.inputs (outputs_of parts.equations)) d.0;
      order = ordered_of parts.inputs parts.equations e.0;
      inputs = eqb-true _ _ e.1;
    }

none_cyclic : (qs : List (EquationOf (List ℕ))) (names : List (List ℕ)) (n : List ℕ) → ((m : List ℕ) → DependsOn bytes_eq qs m m → ⊥) → FirstCyclic bytes_eq qs names n → ⊥
none_cyclic qs [] n none h = h
none_cyclic qs (k ∷ ks) n none h = ⊎_elim (λ a. none k a.1) (λ b. none_cyclic qs ks n none b.1) h

some_fault : {X : Type 0} (o : Option X) (x : X) → o ≡ None → o ≡ Some x → ⊥
some_fault o x none some = let e : None ≡ Some x = sym none ∙ some in cc

module _ (bytes : List ℕ) (n : ℕ) (few : 30 * n + 2 ≤ 1000) (s : IsSound n (parts_of bytes) (text_fault bytes)) where
  no_circuit_fault : (f : Fault (List ℕ)) → HasFault bytes_eq (parts_of bytes) f → ⊥
  no_circuit_fault (DeclaredTwice m) h = some_fault _ _ s.lists h
  no_circuit_fault (DrivenTwice m) h = some_fault _ _ s.lists h
  no_circuit_fault (Undriven m) h = some_fault _ _ s.lists h
  no_circuit_fault NoOutputs h = some_fault _ _ s.lists h
  no_circuit_fault (Cycle m) h =
      none_cyclic (parts_of bytes).equations (outputs_of (parts_of bytes).equations) m
      (acyclic bytes_eq bytes_to bytes_from (parts_of bytes).inputs (parts_of bytes).equations s.once s.order) h.1

  no_fault : (f : BlifFault) → HasBlifFault bytes f → ⊥
  no_fault (InText f) h = some_fault _ _ s.lines h
  no_fault (TooLarge m) h = omega (arith, few, s.cost, h.1, h.2)
  no_fault (InCircuit f) h = no_circuit_fault f h.2

sound_adder : (n : ℕ) → 1 ≤ n → n ≤ 32 → IsSound n (parts_of (adder_text n)) (text_fault (adder_text n))
sound_adder n some le = sound_parts n (parts_of (adder_text n)) (text_fault (adder_text n)) (holds_at is_adder 32 n computed some le)

pub adder_accepted : (n : ℕ) → 1 ≤ n → n ≤ 32 → (f : BlifFault) → HasBlifFault (adder_text n) f → ⊥
adder_accepted n some le = no_fault (adder_text n) n (omega (arith, le)) (sound_adder n some le)

pub adder_cost : (n : ℕ) → 1 ≤ n → n ≤ 32 → cost_of (parts_of (adder_text n)) ≡ 30 * n + 2
adder_cost n some le = (sound_adder n some le).cost

pub adder_inputs : (n : ℕ) → 1 ≤ n → n ≤ 32 → length (parts_of (adder_text n)).inputs ≡ 2 * n + 1
adder_inputs n some le = (sound_adder n some le).inputs
