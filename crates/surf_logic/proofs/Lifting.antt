-- What depends on itself among all equations, and among those that the turns leave.
use Rattle.std.proofs.Common.{ℕ, ◌≡◌, ◌⊎◌, inl, inr, true, List, [], ◌∷◌, ◌++◌, refl, sym, ◌∙◌, ap, subst, ⊎_elim, length, Option, Some, None, IfSome, nat_eq}
use Rattle.std.specs.List.{list_any}
use Rattle.std.proofs.lemmas.Bool.{eqb-true, and_parts}
use Rattle.surf_rules.specs.Names.{text_of}
use Rattle.surf_logic.specs.declared.turns.CircuitError.{CircuitError}
use Rattle.surf_logic.specs.Equations.{EquationOf, Numbered}
use Rattle.surf_logic.specs.Order.{has, outputs_of, inputs_of, is_from, GivenBy, DependsOn, FirstCyclic, SomeCyclic, Turns, first_twice, list_fault, Fault, Cycle, HasFault}
use Rattle.surf_logic.specs.Answers.{HasCircuitFault, TellsCycle, map_fault, told_fault}
use Rattle.surf_logic.proofs.Has.{In, any_in, any_from, in_left, found_first}
use Rattle.surf_logic.proofs.Taking.{known_after, left_in, each_is, ordered, acyclic_from, fresh_in, stops}
use Rattle.surf_logic.proofs.Turning.{taken_in, known_is, in_of_all}
use Rattle.surf_logic.proofs.Evaluating.{sound, same_to}
use Rattle.surf_logic.proofs.Has.{from_map}

one_up : (left all : List (EquationOf ℕ)) → ((p : EquationOf ℕ) → In left p → In all p) → (n m : ℕ) → list_any (is_from nat_eq n m) left ≡ true → list_any (is_from nat_eq n m) all ≡ true
one_up left all within n m g = let r = any_in (is_from nat_eq n m) left g in any_from (is_from nat_eq n m) all r.0 (within r.0 r.1) r.2

up : (left all : List (EquationOf ℕ)) → ((p : EquationOf ℕ) → In left p → In all p) → (n : ℕ) (ks : List ℕ) (m : ℕ) → GivenBy nat_eq left n ks m → GivenBy nat_eq all n ks m
up left all within n [] m g = one_up left all within n m g
up left all within n (k ∷ ks) m g = (one_up left all within n k g.0, up left all within k ks m g.1)

join : (all : List (EquationOf ℕ)) (n : ℕ) (ks : List ℕ) (m : ℕ) (js : List ℕ) (j : ℕ) → GivenBy nat_eq all n ks m → GivenBy nat_eq all m js j → GivenBy nat_eq all n (ks ++ m ∷ js) j
join all n [] m js j g h = (g, h)
join all n (k ∷ ks) m js j g h = (g.0, join all k ks m js j g.1 h)

module _ (inputs : List ℕ) (all taken left : List (EquationOf ℕ)) (t : Turns nat_eq inputs all taken left) (once : first_twice nat_eq inputs (outputs_of all) ≡ None) where
  -- an input doesn't depend on itself
  input_not : (n : ℕ) → In inputs n → DependsOn nat_eq all n n → ⊥
  input_not n i d = begins n d.0 d.1
    where
      first : (m k : ℕ) → list_any (is_from nat_eq m k) all ≡ true → In inputs m → ⊥
      first m k g j =
          let r = any_in (is_from nat_eq m k) all g in
          fresh_in nat_eq eqb-true same_to inputs all r.0 once r.1 (subst (In inputs) (sym (eqb-true r.0.output m (and_parts _ _ r.2).0)) j)

      begins : (m : ℕ) (ks : List ℕ) → GivenBy nat_eq all n ks m → ⊥
      begins m [] g = first n m g i
      begins m (k ∷ ks) g = first n k g.0 i

  taken_not : (p : EquationOf ℕ) → In taken p → DependsOn nat_eq all p.output p.output → ⊥
  taken_not p i d = acyclic_from nat_eq eqb-true same_to all inputs inputs taken once (ordered nat_eq eqb-true same_to inputs all taken left t) (λ q j. taken_in inputs all taken left t q j) input_not p i d

  known_not : (n : ℕ) → In (known_after inputs taken) n → DependsOn nat_eq all n n → ⊥
  known_not n i d = ⊎_elim
      (λ k. input_not n k d)
      (λ o. let p = from_map (λ (v : EquationOf ℕ). v.output) taken n o in taken_not p.0 p.1 (subst (λ v. DependsOn nat_eq all v v) (sym p.2) d))
      (known_is inputs taken n i)

  -- one step of a round is one among those left
  step_left : (m k : ℕ) → list_any (is_from nat_eq m k) all ≡ true → DependsOn nat_eq all m m → list_any (is_from nat_eq m k) left ≡ true
  step_left m k g d =
      let r = any_in (is_from nat_eq m k) all g in
      let out : r.0.output ≡ m = eqb-true r.0.output m (and_parts _ _ r.2).0 in
      ⊎_elim
      (λ known. absurd (known_not m (subst (In (known_after inputs taken)) out known) d))
      (λ l. any_from (is_from nat_eq m k) left r.0 l r.2)
      (each_is nat_eq eqb-true same_to inputs all taken left t r.0 r.1)

  -- the way from m to n, where n also leads to m
  down : (n m : ℕ) (ks : List ℕ) → (n ≡ m) ⊎ DependsOn nat_eq all n m → GivenBy nat_eq all m ks n → GivenBy nat_eq left m ks n
  down n m [] here g = step_left m n g (⊎_elim
      (λ same. subst (λ v. DependsOn nat_eq all m v) same (let none : List ℕ = [] in let d : DependsOn nat_eq all m n = (none, g) in d))
      (λ e. (n ∷ e.0, (g, e.1)))
      here)
  down n m (k ∷ ks) here g = (
    step_left m k g.0 (⊎_elim
        (λ same. subst (λ v. DependsOn nat_eq all m v) same (let d : DependsOn nat_eq all m n = (k ∷ ks, g) in d))
        (λ e. (k ∷ ks ++ n ∷ e.0, join all m (k ∷ ks) n e.0 m g e.1))
        here),
    down n k ks (inr (⊎_elim
        (λ same. let none : List ℕ = [] in let d : DependsOn nat_eq all n k = (none, subst (λ v. list_any (is_from nat_eq v k) all ≡ true) (sym same) g.0) in d)
        (λ e. let d : DependsOn nat_eq all n k = (e.0 ++ m ∷ [], join all n e.0 m [] k e.1 g.0) in d)
        here)) g.1,
  )

  on_left : (n : ℕ) → DependsOn nat_eq all n n → DependsOn nat_eq left n n
  on_left n d = (d.0, down n n d.0 (inl refl) d.1)

  on_all : (n : ℕ) → DependsOn nat_eq left n n → DependsOn nat_eq all n n
  on_all n d = (d.0, up left all (λ p i. left_in nat_eq eqb-true same_to inputs all taken left t p i) n d.0 n d.1)

  first_all : (qs : List (EquationOf ℕ)) (n : ℕ) → FirstCyclic nat_eq left (outputs_of qs) n → FirstCyclic nat_eq all (outputs_of qs) n
  first_all [] n f = f
  first_all (q ∷ qs) n f = ⊎_elim
      (λ here. inl (here.0, on_all q.output here.1))
      (λ later. inr ((λ d. later.0 (on_left q.output d)), first_all qs n later.1))
      f

  put_in : (before : List (EquationOf ℕ)) (q : EquationOf ℕ) (after : List (EquationOf ℕ)) (n : ℕ) → (DependsOn nat_eq all q.output q.output → ⊥) → FirstCyclic nat_eq all (outputs_of (before ++ after)) n → FirstCyclic nat_eq all (outputs_of (before ++ q ∷ after)) n
  put_in [] q after n none f = inr (none, f)
  put_in (p ∷ before) q after n none f = ⊎_elim (λ here. inl here) (λ later. inr (later.0, put_in before q after n none later.1)) f

  -- the first of what is left is the first of what was there
  back : (known : List ℕ) (rest qs : List (EquationOf ℕ)) (n : ℕ) → Turns nat_eq known rest qs left → ((p : EquationOf ℕ) → In qs p → DependsOn nat_eq all p.output p.output → ⊥)
      → FirstCyclic nat_eq all (outputs_of left) n → FirstCyclic nat_eq all (outputs_of rest) n
  back known rest [] n u none f = subst (λ v. FirstCyclic nat_eq all (outputs_of v) n) (sym u.0) f
  back known rest (q ∷ qs) n u none f =
      let turn = u.1 in
      subst (λ v. FirstCyclic nat_eq all (outputs_of v) n) (sym turn.splits)
      (put_in turn.before q turn.after n (none q (inl refl))
      (subst (λ v. FirstCyclic nat_eq all (outputs_of v) n) turn.leaves (back (q.output ∷ known) u.0 qs n u.2 (λ p i. none p (inr i)) f)))

  pub lifted : (n : ℕ) → FirstCyclic nat_eq left (outputs_of left) n → FirstCyclic nat_eq all (outputs_of all) n
  lifted n f = back inputs all taken n t taken_not (first_all left n f)

  pub some_left : ((n : ℕ) → In (inputs_of all) n → has nat_eq (inputs ++ outputs_of all) n ≡ true) → (q : EquationOf ℕ) → In left q → SomeCyclic left
  some_left driven q i = λ none.
      let s = stops nat_eq eqb-true same_to inputs all taken left t driven q i in
      let o = from_map (λ (v : EquationOf ℕ). v.output) left s.0 s.1 in
      in_of_all (λ p. DependsOn nat_eq left p.output p.output → ⊥) left o.0 none o.1 (subst (λ v. DependsOn nat_eq left v v) (sym o.2) (on_left s.0 s.2))

-- where equations are left, one of them depends on itself
pub cyclic_left : (p : Numbered) (taken left : List (EquationOf ℕ)) → list_fault nat_eq p.parts ≡ None → Turns nat_eq p.parts.inputs p.parts.equations taken left → (length left ≡ 0 → ⊥) → SomeCyclic left
cyclic_left p taken [] none t some = absurd (some refl)
cyclic_left p taken (q ∷ qs) none t some =
    let s = sound nat_eq p.parts none in
    let known = p.parts.inputs ++ outputs_of p.parts.equations in
    let asked = inputs_of p.parts.equations ++ p.parts.outputs in
    some_left p.parts.inputs p.parts.equations taken (q ∷ qs) t s.driven_once
    (λ n i. found_first nat_eq eqb-true same_to known asked s.driven n (in_left (inputs_of p.parts.equations) p.parts.outputs n i))
    q (inl refl)

told_cycle : (p : Numbered) (taken left : List (EquationOf ℕ)) (names : List (List ℕ)) (o : Option (Fault (List ℕ))) → p.names ≡ names → list_fault nat_eq p.parts ≡ None → Turns nat_eq p.parts.inputs p.parts.equations taken left
    → IfSome o (TellsCycle names left) → IfSome o (λ g. (f : Fault ℕ) × HasFault nat_eq p.parts f × (g ≡ map_fault (text_of p.names) f))
told_cycle p taken left names None same none t is = tt
told_cycle p taken left names (Some g) same none t is =
    (Cycle is.0, (none, lifted p.parts.inputs p.parts.equations taken left t (sound nat_eq p.parts none).driven_once is.0 is.1), is.2 ∙ ap (λ v. Cycle (text_of v is.0)) (sym same))

-- the first of those left that depends on itself is the fault of the parts
pub cycle_has : (p : Numbered) (taken left : List (EquationOf ℕ)) (names : List (List ℕ)) (e : CircuitError) → p.names ≡ names → list_fault nat_eq p.parts ≡ None → Turns nat_eq p.parts.inputs p.parts.equations taken left
    → IfSome (told_fault e) (TellsCycle names left) → HasCircuitFault p e
cycle_has p taken left names e same none t is = told_cycle p taken left names (told_fault e) same none t is
