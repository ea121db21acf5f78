-- Evaluation answers the outputs of the one solution.
use Rattle.std.proofs.Common.{ℕ, ◌≡◌, ◌≢◌, ◌<◌, inl, inr, Bool, true, false, List, [], ◌∷◌, ◌++◌, map, length, refl, sym, ◌∙◌, ap, subst, ⊎_elim, arith, Option, Some, None, Result, Ok, Err, IfOk, IfErr, MatchResult, Vec, get_or-set_same, get_or-set_other, nat_eq}
use Rattle.std.specs.List.{All}
use Rattle.std.proofs.Math.ListN.{set, length-set}
use Rattle.std.proofs.lemmas.Bool.{eqb-true, eq-eqb}
use Rattle.std.proofs.lemmas.List.Elements.{All-head, All-tail}
use Rattle.std.specs.Option.{option_map}
use Rattle.surf_logic.specs.Equations.{EquationOf, PartsOf, Numbered, evaluated, placed, at}
use Rattle.surf_logic.specs.Order.{first_twice, first_missing, outputs_of, inputs_of, list_fault, declared_twice, driven_twice, undriven, no_outputs, or_else, IsCircuit, EquationInRange, DeclaredTwice, DrivenTwice, Undriven}
use Rattle.std.specs.declared.alloc.Global.{Global}
use Rattle.surf_logic.specs.declared.values.EvalError.{EvalError}
use Rattle.surf_logic.specs.declared.values.EvalError.TheVariants.{NoMemory}
use Rattle.surf_logic.specs.Answers.{IsEval, HasEvalFault}
use Rattle.surf_logic.proofs.Has.{In, has_in, in_append, in_right, found_first}
use Rattle.surf_logic.proofs.Solving.{map_same, twice_none, unique, solution, Solution}
use Rattle.surf_logic.proofs.Taking.{fresh_name}

both_none : {X : Type 0} (a b : Option X) → or_else a b ≡ None → (a ≡ None) × (b ≡ None)
both_none None b n = (refl, n)
both_none (Some x) b n = cc

mapped_none : {X Y : Type 0} (f : X → Y) (o : Option X) → option_map f o ≡ None → o ≡ None
mapped_none f None n = refl
mapped_none f (Some x) n = cc

-- what the lists show where they show no fault
pub record Sound {N : Type 0} (eq : N → N → Bool) (p : PartsOf N) : Type 0 where
  pub inputs_once : first_twice eq [] p.inputs ≡ None
  pub outputs_once : first_twice eq [] p.outputs ≡ None
  pub driven_once : first_twice eq p.inputs (outputs_of p.equations) ≡ None
  pub driven : first_missing eq (p.inputs ++ outputs_of p.equations) (inputs_of p.equations ++ p.outputs) ≡ None
  pub some_output : no_outputs p.outputs ≡ None

pub sound : {N : Type 0} (eq : N → N → Bool) (p : PartsOf N) → list_fault eq p ≡ None → Sound eq p
sound eq p none =
    let a = both_none (option_map DeclaredTwice (declared_twice eq p)) _ none in
    let b = both_none (option_map DrivenTwice (driven_twice eq p)) _ a.1 in
    let c = both_none (option_map Undriven (undriven eq p)) _ b.1 in
    let d = both_none (first_twice eq [] p.inputs) (first_twice eq [] p.outputs) (mapped_none DeclaredTwice (declared_twice eq p) a.0) in
    record {
      inputs_once = d.0;
      outputs_once = d.1;
      driven_once = mapped_none DrivenTwice (driven_twice eq p) b.0;
      driven = mapped_none Undriven (undriven eq p) c.0;
      some_output = c.1;
    }

pub same_to : (a : ℕ) → nat_eq a a ≡ true
same_to a = eq-eqb a a refl

placed_length : (values : List Bool) (ns : List ℕ) (bits : List Bool) → length (placed values ns bits) ≡ length values
placed_length values [] bits = refl
placed_length values (n ∷ ns) [] = refl
placed_length values (n ∷ ns) (b ∷ bits) = placed_length (set values n b) ns bits ∙ length-set values n b

placed_other : (values : List Bool) (ns : List ℕ) (bits : List Bool) (n : ℕ) → (In ns n → ⊥) → at (placed values ns bits) n ≡ at values n
placed_other values [] bits n other = refl
placed_other values (m ∷ ns) [] n other = refl
placed_other values (m ∷ ns) (b ∷ bits) n other =
    let ne : n ≢ m = λ is. other (inl (sym is)) in
    placed_other (set values m b) ns bits n (λ i. other (inr i)) ∙ get_or-set_other values m n b false ne

placed_at : (above : List ℕ) (values : List Bool) (ns : List ℕ) (bits : List Bool) → first_twice nat_eq above ns ≡ None → length ns ≡ length bits → All (λ n. n < length values) ns → map (at (placed values ns bits)) ns ≡ bits
placed_at above values [] [] once len within = refl
placed_at above values [] (b ∷ bits) once len within = absurd (omega (arith, len))
placed_at above values (n ∷ ns) [] once len within = absurd (omega (arith, len))
placed_at above values (n ∷ ns) (b ∷ bits) once len within =
    let h = twice_none nat_eq above n ns once in
    let place : n < length values = All-head (λ m. m < length values) n ns within in
    let here : at (placed (set values n b) ns bits) n ≡ b =
    placed_other (set values n b) ns bits n (λ i. fresh_name nat_eq eqb-true same_to (n ∷ above) ns n h.1 i (inl refl)) ∙ get_or-set_same values n b false place in
    let rest : map (at (placed (set values n b) ns bits)) ns ≡ bits =
    placed_at (n ∷ above) (set values n b) ns bits h.1 (omega (arith, len)) (subst (λ k. All (λ m. m < k) ns) (sym (length-set values n b)) (All-tail (λ m. m < length values) n ns within)) in
    cc

outputs_within : (count : ℕ) (qs : List (EquationOf ℕ)) → All (EquationInRange count) qs → (n : ℕ) → In (outputs_of qs) n → n < count
outputs_within count [] within n i = absurd i
outputs_within count (q ∷ qs) within n i = ⊎_elim
    (λ same. subst (λ v. v < count) same (All-head (EquationInRange count) q qs within).output)
    (λ later. outputs_within count qs (All-tail (EquationInRange count) q qs within) n later)
    i

pub eval_is : (c : Numbered) (bits values : List Bool) → IsCircuit c → length bits ≡ length c.parts.inputs → length values ≡ length c.names
    → IsEval c bits (map (at (evaluated (placed values c.parts.inputs bits) c.parts.equations)) c.parts.outputs)
eval_is c bits values k len size =
    let s = sound nat_eq c.parts k.no_fault in
    let start = placed values c.parts.inputs bits in
    let wide : length start ≡ length c.names = placed_length values c.parts.inputs bits ∙ size in
    let sol : Solution start c.parts.inputs c.parts.equations = solution start c.parts.inputs c.parts.equations k.ordered s.driven_once
    (λ n i. omega (arith, wide, outputs_within (length c.names) c.parts.equations k.in_range.equations n i)) in
    let given : map (at start) c.parts.inputs ≡ bits = placed_at [] values c.parts.inputs bits s.inputs_once (sym len) (subst (λ v. All (λ m. m < v) c.parts.inputs) (sym size) k.in_range.inputs) in
    let mine : map (at (evaluated start c.parts.equations)) c.parts.inputs ≡ bits = map_same _ _ c.parts.inputs sol.keeps ∙ given in
    record {
      assignment = at (evaluated start c.parts.equations);
      inputs = mine;
      solves = sol.solves;
      only = λ e is solves n known.
          unique nat_eq eqb-true same_to e (at (evaluated start c.parts.equations)) c.parts.inputs c.parts.equations k.ordered solves sol.solves
          (same_at e (at (evaluated start c.parts.equations)) c.parts.inputs (is ∙ sym mine)) n
          (in_append c.parts.inputs (outputs_of c.parts.equations) n (has_in nat_eq eqb-true same_to (c.parts.inputs ++ outputs_of c.parts.equations) n known));
      outputs = λ e is solves. map_same e (at (evaluated start c.parts.equations)) c.parts.outputs (λ n i.
          unique nat_eq eqb-true same_to e (at (evaluated start c.parts.equations)) c.parts.inputs c.parts.equations k.ordered solves sol.solves
          (same_at e (at (evaluated start c.parts.equations)) c.parts.inputs (is ∙ sym mine)) n
          (in_append c.parts.inputs (outputs_of c.parts.equations) n
          (has_in nat_eq eqb-true same_to (c.parts.inputs ++ outputs_of c.parts.equations) n
          (found_first nat_eq eqb-true same_to (c.parts.inputs ++ outputs_of c.parts.equations) (inputs_of c.parts.equations ++ c.parts.outputs) s.driven n (in_right (inputs_of c.parts.equations) c.parts.outputs n i)))));
    }
  where
    same_at : (e f : ℕ → Bool) (ns : List ℕ) → map e ns ≡ map f ns → (n : ℕ) → In ns n → e n ≡ f n
    same_at e f [] is n i = absurd i
    same_at e f (m ∷ ns) is n i =
        let here : e m ≡ f m = cc in
        let rest : map e ns ≡ map f ns = cc in
        ⊎_elim (λ same. ap e (sym same) ∙ here ∙ ap f same) (λ later. same_at e f ns rest n later) i

pub answered : (c : Numbered) (bits : List Bool) (r : Result (Vec Bool Global) EvalError) (xs : List Bool) → IfOk r (λ v. v.items ≡ xs) → IfErr r (λ e. e ≡ NoMemory) → IsEval c bits xs
    → MatchResult r (λ v. IsEval c bits v.items) (HasEvalFault c bits)
answered c bits (Ok v) xs ok err is = subst (IsEval c bits) (sym ok) is
answered c bits (Err e) xs ok err is = subst (HasEvalFault c bits) (sym err) tt
