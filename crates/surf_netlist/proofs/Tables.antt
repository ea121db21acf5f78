-- The table of the nets of the names.
use Rattle.std.proofs.Common.{◌≡◌, ◌≢◌, ℕ, ◌+◌, ◌-◌, ◌<◌, inl, inr, Bool, true, false, cond, None, List, [], ◌∷◌, ◌++◌, map, sum, length, get_or, replicate, refl, sym, ap, ◌∙◌, subst, ⊎_elim, arith, get_or-set_same, get_or-set_other, nat_eq, append_assoc, drop}
use Rattle.std.specs.List.{All}
use Rattle.std.proofs.Math.Path.{fun_ext}
use Rattle.std.proofs.Math.ListN.{set, length-set}
use Rattle.std.proofs.lemmas.Bool.{cases_Bool, cases_lt, eqb-true, eq-eqb, both_ways}
use Rattle.std.proofs.lemmas.List.{length-append, get_or-replicate, get_or_past, length-replicate, drop_more}
use Rattle.std.proofs.lemmas.List.Elements.{All-head, All-tail}
use Rattle.surf_logic.specs.Equations.{EquationOf, PartsOf, equation_cost}
use Rattle.surf_logic.specs.Order.{first_twice, has}
use Rattle.surf_logic.proofs.Has.{In, has_in, has_from}
use Rattle.surf_logic.proofs.Solving.{twice_none}
use Rattle.surf_logic.proofs.Taking.{fresh_name}
use Rattle.surf_logic.proofs.Evaluating.{same_to}
use Rattle.surf_tiles.specs.declared.netlist.Gate.{Gate}
use Rattle.surf_netlist.specs.Gates.{gates_of_equation}
use Rattle.surf_netlist.specs.Circuits.{with_net, gates_from, nets_from, input_nets, gates_of}
use Rattle.surf_tiles.specs.Netlists.{NetlistOf}
use Rattle.surf_netlist.specs.Making.{net_at, numbered}
use Rattle.surf_netlist.proofs.Costs.{sum_more, equation_within}
use Rattle.surf_netlist.proofs.Meaning.{equation_some}

-- a write into the table gives one name its net
pub net_written : (nets : List ℕ) (name net : ℕ) → name < length nets → net_at (set nets name net) ≡ with_net (net_at nets) name net
net_written nets name net within = fun_ext (λ x. go x (nat_eq x name) refl)
  where
    go : (x : ℕ) (b : Bool) → nat_eq x name ≡ b → net_at (set nets name net) x ≡ cond (nat_eq x name) net (net_at nets x)
    go x true e = ap (net_at (set nets name net)) (eqb-true x name e) ∙ get_or-set_same nets name net 0 within ∙ sym (ap (λ (b : Bool). cond b net (net_at nets x)) e)
    go x false e =
        let other : x ≢ name = λ is. both_ways (nat_eq x name) e (eq-eqb x name is) in
        get_or-set_other nets name x net 0 other ∙ sym (ap (λ (b : Bool). cond b net (net_at nets x)) e)

numbered_other : (nets : List ℕ) (next : ℕ) (ns : List ℕ) (x : ℕ) → (In ns x → ⊥) → net_at (numbered nets next ns) x ≡ net_at nets x
numbered_other nets next [] x other = refl
numbered_other nets next (n ∷ ns) x other =
    let ne : x ≢ n = λ is. other (inl (sym is)) in
    numbered_other (set nets n next) (next + 1) ns x (λ i. other (inr i)) ∙ get_or-set_other nets n x next 0 ne

numbered_at : (above nets : List ℕ) (next : ℕ) (ns : List ℕ) → first_twice nat_eq above ns ≡ None → All (λ n. n < length nets) ns → (x : ℕ) → In ns x → net_at (numbered nets next ns) x ≡ input_nets next ns x
numbered_at above nets next [] once within x i = absurd i
numbered_at above nets next (n ∷ ns) once within x i =
    let h = twice_none nat_eq above n ns once in
    let fresh : In ns n → ⊥ = λ j. fresh_name nat_eq eqb-true same_to (n ∷ above) ns n h.1 j (inl refl) in
    let place : n < length nets = All-head (λ m. m < length nets) n ns within in
    let rest = numbered_at (n ∷ above) (set nets n next) (next + 1) ns h.1 (subst (λ k. All (λ m. m < k) ns) (sym (length-set nets n next)) (All-tail (λ m. m < length nets) n ns within)) in
    ⊎_elim
    (λ same. subst (λ (y : ℕ). net_at (numbered nets next (n ∷ ns)) y ≡ input_nets next (n ∷ ns) y) same
    (numbered_other (set nets n next) (next + 1) ns n fresh ∙ get_or-set_same nets n next 0 place ∙ sym (ap (λ (b : Bool). cond b next (input_nets (next + 1) ns n)) (same_to n))))
    (λ later. rest x later ∙ sym (ap (λ (b : Bool). cond b next (input_nets (next + 1) ns x)) (differs x n ns fresh later)))
    i
  where
    differs : (x n : ℕ) (ns : List ℕ) → (In ns n → ⊥) → In ns x → nat_eq x n ≡ false
    differs x n ns fresh later = ⊎_elim (λ t. absurd (fresh (subst (In ns) (eqb-true x n t) later))) (λ f. f) (cases_Bool (nat_eq x n))

no_input : (next : ℕ) (ns : List ℕ) (x : ℕ) → (In ns x → ⊥) → input_nets next ns x ≡ 0
no_input next [] x other = refl
no_input next (n ∷ ns) x other =
    ⊎_elim
    (λ t. absurd (other (inl (sym (eqb-true x n t)))))
    (λ f. ap (λ (b : Bool). cond b next (input_nets (next + 1) ns x)) f ∙ no_input (next + 1) ns x (λ i. other (inr i)))
    (cases_Bool (nat_eq x n))

no_net : (count x : ℕ) → net_at (replicate count 0) x ≡ 0
no_net count x = ⊎_elim (λ h. get_or-replicate count x 0 0 h) (λ h. get_or_past (replicate count 0) x 0 (let l = length-replicate {A = ℕ} count 0 in omega (arith, l, h))) (cases_lt x count)

-- the inputs' places are their nets
pub inputs_numbered : (count : ℕ) (ns : List ℕ) → first_twice nat_eq [] ns ≡ None → All (λ n. n < count) ns → net_at (numbered (replicate count 0) 0 ns) ≡ input_nets 0 ns
inputs_numbered count ns once within = fun_ext (λ x.
    ⊎_elim
    (λ t. numbered_at [] (replicate count 0) 0 ns once (subst (λ k. All (λ m. m < k) ns) (sym (length-replicate {A = ℕ} count 0)) within) x (has_in nat_eq eqb-true same_to ns x t))
    (λ f. let other : In ns x → ⊥ = λ i. both_ways (has nat_eq ns x) f (has_from nat_eq eqb-true same_to ns x i) in
    numbered_other (replicate count 0) 0 ns x other ∙ no_net count x ∙ sym (no_input 0 ns x other))
    (cases_Bool (has nat_eq ns x)))

-- all gates and nets, seen from the gates and the table so far and the equations that are left
pub record AllAre (inputs : ℕ) (gates : List Gate) (nets : List ℕ) (qs : List (EquationOf ℕ)) (all : List Gate) (named : ℕ → ℕ) : Type 0 where
  pub gates_are : gates ++ gates_from (inputs + length gates) (net_at nets) qs ≡ all
  pub nets_are : nets_from (inputs + length gates) (net_at nets) qs ≡ named

pub next_added : (inputs : ℕ) (gates : List Gate) (nets : List ℕ) (q : EquationOf ℕ) (qs : List (EquationOf ℕ)) (all : List Gate) (named : ℕ → ℕ) (now : List Gate) (net : ℕ) → q.output < length nets →
    now ≡ gates ++ gates_of_equation (inputs + length gates) (net_at nets) q → net ≡ inputs + length now - 1 → AllAre inputs gates nets (q ∷ qs) all named → AllAre inputs now (set nets q.output net) qs all named
next_added inputs gates nets q qs all named now net within is last are =
    let made : List Gate = gates_of_equation (inputs + length gates) (net_at nets) q in
    let next : ℕ = inputs + length gates + length made in
    let long : length now ≡ length gates + length made = ap length is ∙ length-append gates made in
    let e : inputs + length now ≡ next = omega (arith, long) in
    let f : net ≡ next - 1 = last ∙ ap (λ (n : ℕ). n - 1) e in
    let w : net_at (set nets q.output net) ≡ with_net (net_at nets) q.output (next - 1) = net_written nets q.output net within ∙ ap (with_net (net_at nets) q.output) f in
    record {
      gates_are =
          ap (λ (gs : List Gate). gs ++ gates_from (inputs + length now) (net_at (set nets q.output net)) qs) is
          ∙ ap (λ (n : ℕ). (gates ++ made) ++ gates_from n (net_at (set nets q.output net)) qs) e
          ∙ ap (λ (t : ℕ → ℕ). (gates ++ made) ++ gates_from next t qs) w
          ∙ append_assoc gates made (gates_from next (with_net (net_at nets) q.output (next - 1)) qs)
          ∙ are.gates_are;
      nets_are =
          ap (λ (n : ℕ). nets_from n (net_at (set nets q.output net)) qs) e
          ∙ ap (λ (t : ℕ → ℕ). nets_from next t qs) w
          ∙ are.nets_are;
    }

pub record HasGrown (inputs gates now : ℕ) (left bound : ℕ) : Type 0 where
  pub room : inputs + now + left < bound
  pub more : gates < now

-- the gates of one equation are within its cost, and there is one
pub has_grown : (inputs : ℕ) (gates now : List Gate) (n : ℕ) (nets : ℕ → ℕ) (qs : List (EquationOf ℕ)) (i : ℕ) (q : EquationOf ℕ) (bound : ℕ) → i < length qs → q ≡ get_or qs i q → n ≡ length gates →
    now ≡ gates ++ gates_of_equation (inputs + n) nets q → inputs + n + sum (map equation_cost (drop i qs)) < bound → HasGrown inputs n (length now) (sum (map equation_cost (drop (i + 1) qs))) bound
has_grown inputs gates now n nets qs i q bound within at count is room =
    let d : drop i qs ≡ q ∷ drop (i + 1) qs = drop_more qs i q within ∙ ap (λ (r : EquationOf ℕ). r ∷ drop (i + 1) qs) (sym at) in
    let m : sum (map equation_cost (drop i qs)) ≡ equation_cost q + sum (map equation_cost (drop (i + 1) qs)) = ap (λ (rs : List (EquationOf ℕ)). sum (map equation_cost rs)) d ∙ sum_more equation_cost q (drop (i + 1) qs) in
    let made : List Gate = gates_of_equation (inputs + n) nets q in
    let long : length now ≡ length gates + length made = ap length is ∙ length-append gates made in
    let few = equation_within (inputs + n) nets q in
    let some = equation_some (inputs + n) nets q in
    record { room = omega (arith, long, few, m, count, room); more = omega (arith, long, some, count) }

-- the gates and the nets of the outputs are those of the definition
pub record AreGates (p : PartsOf ℕ) (inputs : ℕ) (gates : List Gate) (nets : List ℕ) : Type 0 where
  pub inputs_are : inputs ≡ (gates_of p).inputs
  pub gates_are : gates ≡ (gates_of p).gates
  pub outputs_are : map (net_at nets) p.outputs ≡ (gates_of p).outputs

pub are_gates : (p : PartsOf ℕ) (count inputs n : ℕ) (nets nets' : List ℕ) (gates gates' : List Gate) → first_twice nat_eq [] p.inputs ≡ None → All (λ m. m < count) p.inputs →
    nets ≡ numbered (replicate count 0) 0 p.inputs → gates ≡ [] → n ≡ length gates → inputs ≡ length p.inputs → gates' ≡ gates ++ gates_from (inputs + n) (net_at nets) p.equations →
    net_at nets' ≡ nets_from (inputs + n) (net_at nets) p.equations → AreGates p inputs gates' nets'
are_gates p count inputs n nets nets' gates gates' once within numbered_is empty long as_many all_are named_are =
    let next : inputs + n ≡ length p.inputs = (let l = ap length empty in omega (arith, l, long, as_many)) in
    let table : net_at nets ≡ input_nets 0 p.inputs = ap net_at numbered_is ∙ inputs_numbered count p.inputs once within in
    record {
      inputs_are = as_many;
      gates_are = all_are ∙ ap (λ (gs : List Gate). gs ++ gates_from (inputs + n) (net_at nets) p.equations) empty ∙ ap (λ (k : ℕ). gates_from k (net_at nets) p.equations) next ∙ ap (λ (t : ℕ → ℕ). gates_from (length p.inputs) t p.equations) table;
      outputs_are = ap (λ (t : ℕ → ℕ). map t p.outputs) (named_are ∙ ap (λ (k : ℕ). nets_from k (net_at nets) p.equations) next ∙ ap (λ (t : ℕ → ℕ). nets_from (length p.inputs) t p.equations) table);
    }

pub netlist_is : (p : PartsOf ℕ) (inputs : ℕ) (gates : List Gate) (outputs : List ℕ) → inputs ≡ (gates_of p).inputs → gates ≡ (gates_of p).gates → outputs ≡ (gates_of p).outputs → (let N : NetlistOf = record { inputs = inputs; gates = gates; outputs = outputs } in N ≡ gates_of p)
netlist_is p inputs gates outputs e f g =
    ap (λ (x : ℕ). let N : NetlistOf = record { inputs = x; gates = gates; outputs = outputs } in N) e
    ∙ ap (λ (x : List Gate). let N : NetlistOf = record { inputs = length p.inputs; gates = x; outputs = outputs } in N) f
    ∙ ap (λ (x : List ℕ). let N : NetlistOf = record { inputs = length p.inputs; gates = (gates_of p).gates; outputs = x } in N) g
