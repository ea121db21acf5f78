-- The gates of a circuit compute it.
use Rattle.std.proofs.Common.{◌≡◌, ℕ, suc, ◌+◌, ◌-◌, ◌<◌, Bool, true, false, cond, not, List, [], ◌∷◌, ◌++◌, map, length, replicate, refl, sym, ap, ◌∙◌, subst, ◌⊎◌, inl, inr, ⊎_elim, arith}
use Rattle.std.specs.Prelude.{◌&&◌, ◌||◌, nat_eq}
use Rattle.std.specs.List.{list_any}
use Rattle.std.proofs.lemmas.Bool.{eqb-true, eq-eqb}
use Rattle.std.proofs.lemmas.List.{length-map, length-replicate}
use Rattle.std.proofs.lemmas.List.Elements.{All-head, All-tail}
use Rattle.surf_logic.specs.declared.equation.Literal.{Literal}
use Rattle.surf_logic.specs.declared.equation.Literal.TheVariants as literals
use Rattle.surf_logic.specs.Equations.{EquationOf, Numbered, row_matches, some_matches, value_of, Satisfies, Solves}
use Rattle.surf_logic.specs.Order.{has, Ordered, outputs_of, inputs_of, IsCircuit}
use Rattle.surf_logic.specs.Answers.{IsEval}
use Rattle.surf_logic.proofs.Has.{In, all_in, has_in, in_append, in_right, found_first}
use Rattle.surf_logic.proofs.Solving.{map_same}
use Rattle.surf_logic.proofs.Evaluating.{same_to, sound, eval_is}
use Rattle.surf_tiles.specs.declared.netlist.Gate.{Gate}
use Rattle.surf_tiles.specs.declared.netlist.Gate.TheVariants.{Constant}
use Rattle.surf_tiles.specs.Netlists.{value_in, with_gates, net_meaning}
use Rattle.surf_netlist.specs.declared.signed.Signed.{Signed}
use Rattle.surf_netlist.specs.Gates.{signed_row, finished, is_empty, rows_made, cover_gates, gates_of_equation}
use Rattle.surf_netlist.specs.Circuits.{with_net, gates_from, nets_from, input_nets, gates_of, outputs_at}
use Rattle.surf_netlist.proofs.Values.{all_signed, some_signed, AllBelow, RowsBelow, signed_value, rows_given, gates_longer, gates_keep, gates_then}

-- the nets of known names have their values
pub record Agrees (nets : ℕ → ℕ) (values : List Bool) (e : ℕ → Bool) (known : ℕ → Type 0) : Type 0 where
  pub at : (x : ℕ) → known x → (nets x < length values) × (value_in values (nets x) ≡ e x)

record RowSigned (values : List Bool) (row : List Signed) (value : Bool) : Type 0 where
  below : AllBelow (length values) row
  is : all_signed (value_in values) row ≡ value

row_signed : (nets : ℕ → ℕ) (values : List Bool) (e : ℕ → Bool) (is : List ℕ) → Agrees nets values e (In is) → (row : List Literal) → RowSigned values (signed_row nets is row) (row_matches row (map e is))
row_signed nets values e (i ∷ is) agrees (literals.One ∷ row) =
    let rest = row_signed nets values e is (record { at = λ x k. agrees.at x (inr k) }) row in
    let a = agrees.at i (inl refl) in
    record { below = (a.0, rest.below); is = ap (λ (x : Bool). x && all_signed (value_in values) (signed_row nets is row)) a.1 ∙ ap (λ (x : Bool). e i && x) rest.is }
row_signed nets values e (i ∷ is) agrees (literals.Zero ∷ row) =
    let rest = row_signed nets values e is (record { at = λ x k. agrees.at x (inr k) }) row in
    let a = agrees.at i (inl refl) in
    record { below = (a.0, rest.below); is = ap (λ (x : Bool). not x && all_signed (value_in values) (signed_row nets is row)) a.1 ∙ ap (λ (x : Bool). not (e i) && x) rest.is }
row_signed nets values e (i ∷ is) agrees (literals.Any ∷ row) = row_signed nets values e is (record { at = λ x k. agrees.at x (inr k) }) row
row_signed nets values e (i ∷ is) agrees [] = record { below = tt; is = refl }
row_signed nets values e [] agrees [] = record { below = tt; is = refl }
row_signed nets values e [] agrees (l ∷ row) = record { below = tt; is = refl }

record RowsSigned (values : List Bool) (rows : List (List Signed)) (value : Bool) : Type 0 where
  below : RowsBelow (length values) rows
  is : some_signed (value_in values) rows ≡ value

rows_signed : (nets : ℕ → ℕ) (values : List Bool) (e : ℕ → Bool) (is : List ℕ) → Agrees nets values e (In is) → (rows : List (List Literal)) → RowsSigned values (map (signed_row nets is) rows) (some_matches rows (map e is))
rows_signed nets values e is agrees [] = record { below = tt; is = refl }
rows_signed nets values e is agrees (row ∷ rows) =
    let a = row_signed nets values e is agrees row in
    let b = rows_signed nets values e is agrees rows in
    record {
      below = (a.below, b.below);
      is = ap (λ (x : Bool). x || some_signed (value_in values) (map (signed_row nets is) rows)) a.is ∙ ap (λ (x : Bool). row_matches row (map e is) || x) b.is;
    }

cover_signed : (nets : ℕ → ℕ) (values : List Bool) (e : ℕ → Bool) (is : List ℕ) → Agrees nets values e (In is) → (rows : List (List Literal)) (polarity : Bool) → signed_value (value_in values) (map (signed_row nets is) rows) polarity ≡ value_of rows polarity (map e is)
cover_signed nets values e is agrees [] polarity = refl
cover_signed nets values e is agrees (row ∷ rows) polarity = ap (λ (x : Bool). cond polarity x (not x)) (rows_signed nets values e is agrees (row ∷ rows)).is

-- an equation makes a gate
finished_some : (polarity : Bool) (gates : List Gate) (s : Signed) → 0 < length (finished polarity gates s)
finished_some polarity [] s = omega arith
finished_some true (g ∷ gates) s = omega arith
finished_some false (g ∷ []) s = omega arith
finished_some false (g ∷ h ∷ gates) s = omega arith

pub cover_some : (next : ℕ) (rows : List (List Signed)) (polarity : Bool) → 0 < length (cover_gates next rows polarity)
cover_some next [] polarity = omega arith
cover_some next (row ∷ rows) polarity = go (list_any is_empty (row ∷ rows))
  where
    go : (t : Bool) → 0 < length (cond t (Constant polarity ∷ []) (finished polarity (rows_made next row rows).gates (rows_made next row rows).result))
    go true = omega arith
    go false = finished_some polarity _ _

pub equation_some : (next : ℕ) (nets : ℕ → ℕ) (q : EquationOf ℕ) → 0 < length (gates_of_equation next nets q)
equation_some next nets q = cover_some next (map (signed_row nets q.inputs) q.rows) q.polarity

equation_given : (nets : ℕ → ℕ) (values : List Bool) (e : ℕ → Bool) (next : ℕ) → next ≡ length values → (q : EquationOf ℕ) → Agrees nets values e (In q.inputs) →
    value_in (with_gates (gates_of_equation next nets q) values) (next + length (gates_of_equation next nets q) - 1) ≡ value_of q.rows q.polarity (map e q.inputs)
equation_given nets values e next f q agrees =
    rows_given values next (map (signed_row nets q.inputs) q.rows) q.polarity f (subst (λ (x : ℕ). RowsBelow x (map (signed_row nets q.inputs) q.rows)) (sym f) (rows_signed nets values e q.inputs agrees q.rows).below)
    ∙ cover_signed nets values e q.inputs agrees q.rows q.polarity

agrees_after : (nets : ℕ → ℕ) (values : List Bool) (e : ℕ → Bool) (known : List ℕ) → Agrees nets values e (In known) → (next : ℕ) → next ≡ length values → (q : EquationOf ℕ) → Agrees nets values e (In q.inputs) → Satisfies e q →
    Agrees (with_net nets q.output (next + length (gates_of_equation next nets q) - 1)) (with_gates (gates_of_equation next nets q) values) e (In (q.output ∷ known))
agrees_after nets values e known agrees next f q uses solved = record { at = λ x k. go x k (nat_eq x q.output) refl }
  where
    gates : List Gate
    gates = gates_of_equation next nets q

    some : 0 < length gates
    some = equation_some next nets q

    long : length (with_gates gates values) ≡ length values + length gates
    long = gates_longer gates values

    value : value_in (with_gates gates values) (next + length gates - 1) ≡ e q.output
    value = equation_given nets values e next f q uses ∙ sym solved

    go : (x : ℕ) → (q.output ≡ x) ⊎ In known x → (t : Bool) → nat_eq x q.output ≡ t →
        (cond t (next + length gates - 1) (nets x) < length (with_gates gates values)) × (value_in (with_gates gates values) (cond t (next + length gates - 1) (nets x)) ≡ e x)
    go x k true g = (let a = some in let b = long in omega (arith, a, b, f), value ∙ ap e (sym (eqb-true x q.output g)))
    go x (inl k) false g = absurd (cc (sym (eq-eqb x q.output (sym k)) ∙ g))
    go x (inr k) false g = let a = agrees.at x k in (let b = long in let c = a.0 in omega (arith, b, c), gates_keep gates values (nets x) a.0 ∙ a.1)

pub circuit_agrees : (qs : List (EquationOf ℕ)) (nets : ℕ → ℕ) (values : List Bool) (e : ℕ → Bool) (known : List ℕ) → Agrees nets values e (In known) → (next : ℕ) → next ≡ length values → Ordered nat_eq known qs → Solves qs e →
    Agrees (nets_from next nets qs) (with_gates (gates_from next nets qs) values) e (λ x. In known x ⊎ In (outputs_of qs) x)
circuit_agrees [] nets values e known agrees next f order solved = record { at = λ x k. ⊎_elim (agrees.at x) (λ none. absurd none) k }
circuit_agrees (q ∷ qs) nets values e known agrees next f order solved =
    let gates = gates_of_equation next nets q in
    let l = gates_longer gates values in
    let net : ℕ = next + length gates - 1 in
    let uses : Agrees nets values e (In q.inputs) = record { at = λ x k. agrees.at x (has_in nat_eq eqb-true same_to known x (all_in (has nat_eq known) q.inputs x order.0 k)) } in
    let after = agrees_after nets values e known agrees next f q uses (All-head (Satisfies e) q qs solved) in
    let rest = circuit_agrees qs (with_net nets q.output net) (with_gates gates values) e (q.output ∷ known) after (next + length gates) (omega (arith, l, f)) order.1 (All-tail (Satisfies e) q qs solved) in
    let known' : ℕ → Type 0 = λ x. In known x ⊎ In (outputs_of (q ∷ qs)) x in
    let all : Agrees (nets_from next nets (q ∷ qs)) (with_gates (gates_from (next + length gates) (with_net nets q.output net) qs) (with_gates gates values)) e known' =
    record { at = λ x k. rest.at x (⊎_elim (λ i. inl (inr i)) (λ j. ⊎_elim (λ is. inl (inl is)) (λ i. inr i) j) k) } in
    subst (λ (x : List Bool). Agrees (nets_from next nets (q ∷ qs)) x e known') (sym (gates_then gates (gates_from (next + length gates) (with_net nets q.output net) qs) values)) all

-- the inputs
record InputAt (next : ℕ) (names : List ℕ) (e : ℕ → Bool) (x : ℕ) : Type 0 where
  place : ℕ
  is : input_nets next names x ≡ next + place
  within : place < length (map e names)
  value : value_in (map e names) place ≡ e x

input_found : (names : List ℕ) (next : ℕ) (e : ℕ → Bool) (x : ℕ) → In names x → InputAt next names e x
input_found [] next e x k = absurd k
input_found (name ∷ names) next e x k = go (λ k'. input_found names (next + 1) e x k') (nat_eq x name) refl k
  where
    go : (In names x → InputAt (next + 1) names e x) → (t : Bool) → nat_eq x name ≡ t → (name ≡ x) ⊎ In names x → InputAt next (name ∷ names) e x
    go deep true g k' = record { place = 0; is = ap (λ (t : Bool). cond t next (input_nets (next + 1) names x)) g ∙ (let z : next ≡ next + 0 = omega arith in z); within = omega arith; value = ap e (sym (eqb-true x name g)) }
    go deep false g (inl k') = absurd (cc (sym (eq-eqb x name (sym k')) ∙ g))
    go deep false g (inr k') =
        let d = deep k' in record { place = suc d.place; is = ap (λ (t : Bool). cond t next (input_nets (next + 1) names x)) g ∙ d.is ∙ (let z : next + 1 + d.place ≡ next + suc d.place = omega arith in z); within = (let w = d.within in omega (arith, w)); value = d.value }

inputs_agree : (names : List ℕ) (e : ℕ → Bool) → Agrees (input_nets 0 names) (map e names) e (In names)
inputs_agree names e = record {
  at = λ x k.
      let d = input_found names 0 e x k in
      let is : input_nets 0 names x ≡ d.place = d.is ∙ (let z : 0 + d.place ≡ d.place = omega arith in z) in
      (let w = d.within in omega (arith, w, is), ap (value_in (map e names)) is ∙ d.value);
}

-- the nets of the outputs have the values of every assignment that solves the circuit
outputs_mean : (c : Numbered) (e : ℕ → Bool) → IsCircuit c → Solves c.parts.equations e → outputs_at (gates_of c.parts) (map e c.parts.inputs) ≡ map e c.parts.outputs
outputs_mean c e k solved =
    let p = c.parts in
    let s = sound nat_eq p k.no_fault in
    let nets = nets_from (length p.inputs) (input_nets 0 p.inputs) p.equations in
    let values = net_meaning (gates_of p) (map e p.inputs) in
    let agrees = circuit_agrees p.equations (input_nets 0 p.inputs) (map e p.inputs) e p.inputs (inputs_agree p.inputs e) (length p.inputs) (sym (length-map p.inputs e)) k.ordered solved in
    map_map (value_in values) nets p.outputs
    ∙ map_same (λ x. value_in values (nets x)) e p.outputs (λ n i. (agrees.at n
    (in_append p.inputs (outputs_of p.equations) n
    (has_in nat_eq eqb-true same_to (p.inputs ++ outputs_of p.equations) n
    (found_first nat_eq eqb-true same_to (p.inputs ++ outputs_of p.equations) (inputs_of p.equations ++ p.outputs) s.driven n (in_right (inputs_of p.equations) p.outputs n i))))).1)
  where
    map_map : {X Y Z : Type 0} (f : Y → Z) (g : X → Y) (xs : List X) → map f (map g xs) ≡ map (λ x. f (g x)) xs
    map_map f g [] = refl
    map_map f g (x ∷ xs) = ap (λ ys. f (g x) ∷ ys) (map_map f g xs)

-- so they have the values that the circuit evaluates to
pub outputs_eval : (c : Numbered) (bits : List Bool) → IsCircuit c → length bits ≡ length c.parts.inputs → IsEval c bits (outputs_at (gates_of c.parts) bits)
outputs_eval c bits k len =
    let start = replicate (length c.names) false in
    let is = eval_is c bits start k len (length-replicate (length c.names) false) in
    let e = is.assignment in
    let same : outputs_at (gates_of c.parts) bits ≡ map e c.parts.outputs = ap (outputs_at (gates_of c.parts)) (sym is.inputs) ∙ outputs_mean c e k is.solves in
    subst (IsEval c bits) (sym (is.outputs e is.inputs is.solves) ∙ sym same) is
