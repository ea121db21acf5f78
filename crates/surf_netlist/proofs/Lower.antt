-- The gates of a circuit use lower nets.
use Rattle.std.proofs.Common.{◌≡◌, ℕ, zero, suc, ◌+◌, ◌-◌, ◌<◌, Bool, true, false, cond, not, Some, List, [], ◌∷◌, ◌++◌, map, length, refl, sym, ◌∙◌, subst, ◌⊎◌, inl, inr, ⊎_elim, arith}
use Rattle.std.specs.Prelude.{nat_eq, slice_get}
use Rattle.std.specs.List.{list_any}
use Rattle.std.proofs.lemmas.List.{length-append}
use Rattle.std.proofs.lemmas.Option.{slice_get_past}
use Rattle.std.proofs.lemmas.Bool.{eq-eqb, eqb-true}
use Rattle.surf_logic.specs.declared.equation.Literal.{Literal}
use Rattle.surf_logic.specs.declared.equation.Literal.TheVariants as literals
use Rattle.surf_logic.specs.Equations.{EquationOf, Numbered}
use Rattle.surf_logic.specs.Order.{Ordered, outputs_of, inputs_of, IsCircuit}
use Rattle.surf_logic.proofs.Has.{In, all_in, has_in, in_append, in_right, found_first}
use Rattle.surf_logic.proofs.Evaluating.{same_to, sound}
use Rattle.surf_tiles.specs.declared.netlist.Gate.{Gate}
use Rattle.surf_tiles.specs.declared.netlist.Gate.TheVariants.{Constant, One, Two}
use Rattle.surf_tiles.specs.Netlists.{nets_of, UsesBelow, IsNetlist}
use Rattle.surf_netlist.specs.declared.signed.Signed.{Signed}
use Rattle.surf_netlist.specs.Gates.{plain, signed_row, Made, or_gate, and_chain, or_chain, complement, complement_last, finished, is_empty, cover_gates, gates_of_equation}
use Rattle.surf_netlist.specs.Circuits.{with_net, gates_from, nets_from, input_nets, gates_of}
use Rattle.surf_netlist.proofs.Values.{AllBelow, AllRows, RowsBelow, below_more, rows_more, full_rows}
use Rattle.surf_netlist.proofs.Meaning.{equation_some}

-- gates from net n on, each of which uses lower nets
abbrev pub GatesBelow : (n : ℕ) → List Gate → Type 0
GatesBelow n [] = Unit {0}
GatesBelow n (g ∷ gates) = UsesBelow n g × GatesBelow (n + 1) gates

below_then : (n m : ℕ) (gates more : List Gate) → m ≡ n + length gates → GatesBelow n gates → GatesBelow m more → GatesBelow n (gates ++ more)
below_then n m [] more e h k = let f : m ≡ n = omega (arith, e) in subst (λ (x : ℕ). GatesBelow x more) f k
below_then n m (g ∷ gates) more e (a, h) k = (a, below_then (n + 1) m gates more (omega (arith, e)) h k)

record Below (next : ℕ) (m : Made) : Type 0 where
  gates : GatesBelow next m.gates
  result : m.result.net < next + length m.gates

and_below : (next : ℕ) (so_far : Signed) (row : List Signed) → so_far.net < next → AllBelow next row → Below next (and_chain next so_far row)
and_below next so_far [] b h = record { gates = tt; result = omega (arith, b) }
and_below next so_far (s ∷ row) b (h, k) =
    let d = and_below (next + 1) (plain next) row (omega arith) (below_more next (next + 1) row (omega arith) k) in
    record { gates = ((b, h), d.gates); result = (let r = d.result in omega (arith, r)) }

or_below : (next : ℕ) (so_far : Signed) (rows : List (List Signed)) → so_far.net < next → AllRows next rows → Below next (or_chain next so_far rows)
or_below next so_far [] b h = record { gates = tt; result = omega (arith, b) }
or_below next so_far ([] ∷ rows) b h = absurd h
or_below next so_far ((s ∷ row) ∷ rows) b (h, k, l) =
    let r : Made = and_chain next s row in
    let first = and_below next s row h k in
    let n : ℕ = next + length r.gates in
    let m : Made = or_chain (n + 1) (plain n) rows in
    let d = or_below (n + 1) (plain n) rows (omega arith) (rows_more next (n + 1) rows (omega arith) l) in
    record {
      gates = below_then next n r.gates (or_gate so_far r.result ∷ m.gates) refl first.gates ((omega (arith, b), first.result), d.gates);
      result = (let z = length-append r.gates (or_gate so_far r.result ∷ m.gates) in let w = d.result in omega (arith, z, w));
    }

complement_below : (n : ℕ) (g : Gate) → UsesBelow n g → UsesBelow n (complement g)
complement_below n (Constant v) h = tt
complement_below n (One z o input) h = h
complement_below n (Two t00 t01 t10 t11 first second) h = h

last_below : (n : ℕ) (gates : List Gate) → GatesBelow n gates → GatesBelow n (complement_last gates)
last_below n [] h = tt
last_below n (g ∷ []) (a, h) = (complement_below n g a, tt)
last_below n (g ∷ h ∷ gates) (a, k) = (a, last_below (n + 1) (h ∷ gates) k)

finished_below : (n : ℕ) (polarity : Bool) (gates : List Gate) (s : Signed) → GatesBelow n gates → s.net < n + length gates → GatesBelow n (finished polarity gates s)
finished_below n polarity [] s h b = (one_below s.positive, tt)
  where
    one_below : (t : Bool) → UsesBelow n (cond t (One (not polarity) polarity s.net) (One polarity (not polarity) s.net))
    one_below true = omega (arith, b)
    one_below false = omega (arith, b)
finished_below n true (g ∷ gates) s h b = h
finished_below n false (g ∷ gates) s h b = last_below n (g ∷ gates) h

cover_below : (next : ℕ) (rows : List (List Signed)) (polarity : Bool) → RowsBelow next rows → GatesBelow next (cover_gates next rows polarity)
cover_below next [] polarity h = (tt, tt)
cover_below next ([] ∷ rows) polarity h = (tt, tt)
cover_below next ((s ∷ row) ∷ rows) polarity h = go (list_any is_empty rows) refl
  where
    r : Made
    r = and_chain next s row

    m : Made
    m = or_chain (next + length r.gates) r.result rows

    go : (t : Bool) → list_any is_empty rows ≡ t → GatesBelow next (cond t (Constant polarity ∷ []) (finished polarity (r.gates ++ m.gates) m.result))
    go true k = (tt, tt)
    go false k =
        let first = and_below next s row h.0.0 h.0.1 in
        let d = or_below (next + length r.gates) r.result rows first.result (rows_more next (next + length r.gates) rows (omega arith) (full_rows next rows h.1 k)) in
        finished_below next polarity (r.gates ++ m.gates) m.result (below_then next (next + length r.gates) r.gates m.gates refl first.gates d.gates) (let z = length-append r.gates m.gates in let w = d.result in omega (arith, z, w))

-- the nets of known names have begun
record HasNets (nets : ℕ → ℕ) (next : ℕ) (known : ℕ → Type 0) : Type 0 where
  at : (x : ℕ) → known x → nets x < next

row_uses : (nets : ℕ → ℕ) (next : ℕ) (is : List ℕ) → HasNets nets next (In is) → (row : List Literal) → AllBelow next (signed_row nets is row)
row_uses nets next (i ∷ is) has (literals.One ∷ row) = (has.at i (inl refl), row_uses nets next is (record { at = λ x k. has.at x (inr k) }) row)
row_uses nets next (i ∷ is) has (literals.Zero ∷ row) = (has.at i (inl refl), row_uses nets next is (record { at = λ x k. has.at x (inr k) }) row)
row_uses nets next (i ∷ is) has (literals.Any ∷ row) = row_uses nets next is (record { at = λ x k. has.at x (inr k) }) row
row_uses nets next (i ∷ is) has [] = tt
row_uses nets next [] has row = tt

rows_use : (nets : ℕ → ℕ) (next : ℕ) (is : List ℕ) → HasNets nets next (In is) → (rows : List (List Literal)) → RowsBelow next (map (signed_row nets is) rows)
rows_use nets next is has [] = tt
rows_use nets next is has (row ∷ rows) = (row_uses nets next is has row, rows_use nets next is has rows)

record CircuitBelow (next : ℕ) (gates : List Gate) (nets : ℕ → ℕ) (known : ℕ → Type 0) : Type 0 where
  below : GatesBelow next gates
  has : HasNets nets (next + length gates) known

circuit_below : (qs : List (EquationOf ℕ)) (nets : ℕ → ℕ) (next : ℕ) (known : List ℕ) → HasNets nets next (In known) → Ordered nat_eq known qs → CircuitBelow next (gates_from next nets qs) (nets_from next nets qs) (λ x. In known x ⊎ In (outputs_of qs) x)
circuit_below [] nets next known has order = record { below = tt; has = record { at = λ x k. ⊎_elim (λ i. let b = has.at x i in omega (arith, b)) (λ none. absurd none) k } }
circuit_below (q ∷ qs) nets next known has order =
    let gates : List Gate = gates_of_equation next nets q in
    let net : ℕ = next + length gates - 1 in
    let uses : HasNets nets next (In q.inputs) = record { at = λ x k. has.at x (has_in nat_eq eqb-true same_to known x (all_in (has_of known) q.inputs x order.0 k)) } in
    let d = circuit_below qs (with_net nets q.output net) (next + length gates) (q.output ∷ known) (record { at = λ x k. go x (nat_eq x q.output) refl k }) order.1 in
    record {
      below = below_then next (next + length gates) gates _ refl (cover_below next (map (signed_row nets q.inputs) q.rows) q.polarity (rows_use nets next q.inputs uses q.rows)) d.below;
      has = record {
        at = λ x k.
            let z = length-append gates (gates_from (next + length gates) (with_net nets q.output net) qs) in
            let w = d.has.at x (⊎_elim (λ i. inl (inr i)) (λ j. ⊎_elim (λ is. inl (inl is)) (λ i. inr i) j) k) in omega (arith, z, w);
      };
    }
  where
    has_of : List ℕ → ℕ → Bool
    has_of ns = λ n. list_any (nat_eq n) ns

    go : (x : ℕ) → (t : Bool) → nat_eq x q.output ≡ t → (q.output ≡ x) ⊎ In known x → cond t (next + length (gates_of_equation next nets q) - 1) (nets x) < next + length (gates_of_equation next nets q)
    go x true g k = let some = equation_some next nets q in omega (arith, some)
    go x false g (inl k) = absurd (cc (sym (eq-eqb x q.output (sym k)) ∙ g))
    go x false g (inr k) = let b = has.at x k in omega (arith, b)

input_within : (names : List ℕ) (next x : ℕ) → In names x → input_nets next names x < next + length names
input_within [] next x k = absurd k
input_within (name ∷ names) next x k = go (λ k'. input_within names (next + 1) x k') (nat_eq x name) refl k
  where
    go : (In names x → input_nets (next + 1) names x < next + 1 + length names) → (t : Bool) → nat_eq x name ≡ t → (name ≡ x) ⊎ In names x → cond t next (input_nets (next + 1) names x) < next + length (name ∷ names)
    go deep true g k' = omega arith
    go deep false g (inl k') = absurd (cc (sym (eq-eqb x name (sym k')) ∙ g))
    go deep false g (inr k') = let d = deep k' in omega (arith, d)

gate_uses : (n : ℕ) (gates : List Gate) → GatesBelow n gates → (j : ℕ) (g : Gate) → slice_get gates j ≡ Some g → UsesBelow (n + j) g
gate_uses n [] h j g e = absurd (cc (sym (slice_get_past [] j (omega arith)) ∙ e))
gate_uses n (f ∷ gates) (a, h) zero g e = let k : f ≡ g = cc (e) in let z : n ≡ n + 0 = omega arith in subst (λ (x : ℕ). UsesBelow x g) z (subst (UsesBelow n) k a)
gate_uses n (f ∷ gates) (a, h) (suc j) g e = let z : n + 1 + j ≡ n + suc j = omega arith in subst (λ (x : ℕ). UsesBelow x g) z (gate_uses (n + 1) gates h j g e)

outputs_within : (nets : ℕ → ℕ) (next : ℕ) (names : List ℕ) → HasNets nets next (In names) → (i net : ℕ) → slice_get (map nets names) i ≡ Some net → net < next
outputs_within nets next [] has i net e = absurd (cc (sym (slice_get_past [] i (omega arith)) ∙ e))
outputs_within nets next (name ∷ names) has zero net e = let f : nets name ≡ net = cc (e) in let b = has.at name (inl refl) in omega (arith, f, b)
outputs_within nets next (name ∷ names) has (suc i) net e = outputs_within nets next names (record { at = λ x k. has.at x (inr k) }) i net e

-- the gates of a circuit use lower nets, and its outputs are nets
pub gates_are_netlist : (c : Numbered) → IsCircuit c → IsNetlist (gates_of c.parts)
gates_are_netlist c k =
    let p = c.parts in
    let s = sound nat_eq p k.no_fault in
    let d = circuit_below p.equations (input_nets 0 p.inputs) (length p.inputs) p.inputs (record { at = λ x i. let b = input_within p.inputs 0 x i in omega (arith, b) }) k.ordered in
    record {
      ordered = λ j g e. gate_uses (length p.inputs) (gates_of p).gates d.below j g e;
      outputs = λ i net e. outputs_within (nets_from (length p.inputs) (input_nets 0 p.inputs) p.equations) (nets_of (gates_of p)) p.outputs
          (record {
            at = λ n i'. d.has.at n
                (in_append p.inputs (outputs_of p.equations) n
                (has_in nat_eq eqb-true same_to (p.inputs ++ outputs_of p.equations) n
                (found_first nat_eq eqb-true same_to (p.inputs ++ outputs_of p.equations) (inputs_of p.equations ++ p.outputs) s.driven n (in_right (inputs_of p.equations) p.outputs n i'))));
          }) i net e;
    }
