-- Equations in order have one solution, and evaluating them in order gives it.
use Rattle.std.proofs.Common.{ℕ, ◌≡◌, ◌≢◌, ◌<◌, ◌⊎◌, inl, inr, Bool, true, false, List, [], ◌∷◌, map, length, refl, sym, ◌∙◌, ap, subst, ⊎_elim, arith, Some, None, if◌then◌else◌, get_or-set_same, get_or-set_other, nat_eq}
use Rattle.std.proofs.Math.ListN.{set, length-set}
use Rattle.std.proofs.lemmas.Bool.{both_ways, cases_Bool, eqb-true, eq-eqb}
use Rattle.std.proofs.lemmas.List.Elements.{All-nil, All-cons, All-head, All-tail}
use Rattle.surf_logic.specs.Equations.{EquationOf, Satisfies, Solves, value_of, evaluated, at}
use Rattle.surf_logic.specs.Order.{has, Ordered, first_twice, outputs_of}
use Rattle.surf_logic.proofs.Has.{In, all_in, has_in, has_from}

pub map_same : {X Y : Type 0} (f g : X → Y) (xs : List X) → ((x : X) → In xs x → f x ≡ g x) → map f xs ≡ map g xs
map_same f g [] h = refl
map_same f g (x ∷ xs) h =
    let here : f x ≡ g x = h x (inl refl) in
    let rest : map f xs ≡ map g xs = map_same f g xs (λ y i. h y (inr i)) in
    cc

pub twice_none : {N : Type 0} (eq : N → N → Bool) (above : List N) (n : N) (ns : List N) → first_twice eq above (n ∷ ns) ≡ None → (has eq above n ≡ false) × (first_twice eq (n ∷ above) ns ≡ None)
twice_none eq above n ns none = ⊎_elim
    (λ t. let bad : Some n ≡ None = ap (λ b. if b then Some n else first_twice eq (n ∷ above) ns) (sym t) ∙ none in cc)
    (λ f. (f, ap (λ b. if b then Some n else first_twice eq (n ∷ above) ns) (sym f) ∙ none))
    (cases_Bool (has eq above n))

module _ {N : Type 0} (eq : N → N → Bool) (to : (a b : N) → eq a b ≡ true → a ≡ b) (from : (a : N) → eq a a ≡ true) where
  -- two solutions that agree on the known names agree on all
  pub unique : (e f : N → Bool) (known : List N) (qs : List (EquationOf N)) → Ordered eq known qs → Solves qs e → Solves qs f
      → ((n : N) → In known n → e n ≡ f n) → (n : N) → In known n ⊎ In (outputs_of qs) n → e n ≡ f n
  unique e f known [] o s t same n i = ⊎_elim (same n) (λ x. absurd x) i
  unique e f known (q ∷ qs) o s t same n i =
      let here : e q.output ≡ f q.output =
      All-head (Satisfies e) q qs s
      ∙ ap (value_of q.rows q.polarity) (map_same e f q.inputs (λ m j. same m (has_in eq to from known m (all_in (has eq known) q.inputs m o.0 j))))
      ∙ sym (All-head (Satisfies f) q qs t) in
      unique e f (q.output ∷ known) qs o.1 (All-tail (Satisfies e) q qs s) (All-tail (Satisfies f) q qs t)
      (λ m j. ⊎_elim (λ is. ap e (sym is) ∙ here ∙ ap f is) (same m) j)
      n (⊎_elim (λ k. inl (inr k)) (λ j. ⊎_elim (λ is. inl (inl is)) (λ l. inr l) j) i)

pub record Solution (values : List Bool) (known : List ℕ) (qs : List (EquationOf ℕ)) : Type 0 where
  pub solves : Solves qs (at (evaluated values qs))
  pub keeps : (n : ℕ) → In known n → at (evaluated values qs) n ≡ at values n

pub solution : (values : List Bool) (known : List ℕ) (qs : List (EquationOf ℕ)) → Ordered nat_eq known qs → first_twice nat_eq known (outputs_of qs) ≡ None
    → ((n : ℕ) → In (outputs_of qs) n → n < length values) → Solution values known qs
solution values known [] o once within = record { solves = All-nil (Satisfies (at values)); keeps = λ n i. refl }
solution values known (q ∷ qs) o once within =
    let fresh = twice_none nat_eq known q.output (outputs_of qs) once in
    let v = value_of q.rows q.polarity (map (at values) q.inputs) in
    let next = set values q.output v in
    let place : q.output < length values = within q.output (inl refl) in
    let rest : Solution next (q.output ∷ known) qs = solution next (q.output ∷ known) qs o.1 fresh.1 (λ n i. omega (arith, within n (inr i), length-set values q.output v)) in
    let here : at (evaluated next qs) q.output ≡ v = rest.keeps q.output (inl refl) ∙ get_or-set_same values q.output v false place in
    let kept : (n : ℕ) → In known n → at (evaluated next qs) n ≡ at values n = λ n i.
    let other : n ≢ q.output = λ is. both_ways _ fresh.0 (has_from nat_eq eqb-true (λ a. eq-eqb a a refl) known q.output (subst (In known) is i)) in
    rest.keeps n (inr i) ∙ get_or-set_other values q.output n v false other in
    let same : map (at (evaluated next qs)) q.inputs ≡ map (at values) q.inputs =
    map_same (at (evaluated next qs)) (at values) q.inputs (λ m j. kept m (has_in nat_eq eqb-true (λ a. eq-eqb a a refl) known m (all_in (has nat_eq known) q.inputs m o.0 j))) in
    record {
      solves = All-cons (Satisfies (at (evaluated next qs))) q qs (here ∙ ap (value_of q.rows q.polarity) (sym same)) rest.solves;
      keeps = kept;
    }
