-- What holds of numbered parts, over the texts of their names.
use Rattle.std.proofs.Common.{ℕ, zero, suc, ◌≡◌, ◌<◌, inl, inr, Bool, true, false, List, [], ◌∷◌, ◌++◌, map, length, refl, sym, ◌∙◌, ap, subst, ⊎_elim, arith, Some, if◌then◌else◌, nat_eq, unwrap_or}
use Rattle.std.specs.List.{list_any, slice_get}
use Rattle.std.specs.Str.{bytes_eq}
use Rattle.std.proofs.lemmas.Bool.{eqb-true, cases_Bool, both_ways}
use Rattle.std.proofs.lemmas.Option.{slice_get-get_or}
use Rattle.std.proofs.lemmas.List.Sums.{sum-map}
use Rattle.std.proofs.lemmas.Slice.Eq.{bytes_eq-Decides}
use Rattle.surf_rules.specs.Names.{text_of, AreDistinct}
use Rattle.surf_logic.specs.Equations.{EquationOf, Numbered, Satisfies, Solves, value_of, equation_cost, cost_of}
use Rattle.surf_logic.specs.Order.{outputs_of, is_from, GivenBy, DependsOn, Fault, HasFault, EquationInRange, IsOrderOf, Turns}
use Rattle.surf_logic.specs.Answers.{EvalOf, IsEval, map_fault}
use Rattle.surf_logic.specs.Renamed.{AreNamed, by_text, equation_by}
use Rattle.surf_logic.proofs.Has.{In, any_in, any_from, in_append, in_left, in_right, from_map, in_map, has_in, has_from}
use Rattle.surf_logic.proofs.Solving.{map_same}
use Rattle.surf_logic.proofs.Evaluating.{same_to}
use Rattle.surf_logic.proofs.Turning.{all_from_in, in_of_all, taken_in, circuit_is}
use Rattle.surf_logic.proofs.Naming as naming

bytes_to : (a b : List ℕ) → bytes_eq a b ≡ true → a ≡ b
bytes_to a b t = (bytes_eq-Decides a b).0 t

bytes_from : (a : List ℕ) → bytes_eq a a ≡ true
bytes_from a = (bytes_eq-Decides a a).1 refl

text_is : (ts : List (List ℕ)) (n : ℕ) → n < length ts → slice_get ts n ≡ Some (text_of ts n)
text_is ts n lt = let e = slice_get-get_or ts n [] lt in e ∙ ap (λ o. Some (unwrap_or o [])) (sym e)

texts_apart : (ts : List (List ℕ)) → AreDistinct ts → (a b : ℕ) → a < length ts → b < length ts → bytes_eq (text_of ts a) (text_of ts b) ≡ nat_eq a b
texts_apart ts distinct a b la lb = ⊎_elim
    (λ t. ap (λ v. bytes_eq (text_of ts a) (text_of ts v)) (sym (eqb-true a b t)) ∙ bytes_from (text_of ts a) ∙ sym t)
    (λ f. ⊎_elim
    (λ t. absurd (both_ways _ f (subst (λ v. nat_eq a v ≡ true) (distinct a b (text_of ts a) (text_is ts a la) (text_is ts b lb ∙ ap Some (sym (bytes_to _ _ t)))) (same_to a))))
    (λ g. g ∙ sym f)
    (cases_Bool (bytes_eq (text_of ts a) (text_of ts b))))
    (cases_Bool (nat_eq a b))

-- the first place of a text
abbrev place_of : List (List ℕ) → List ℕ → ℕ
place_of [] t = 0
place_of (u ∷ us) t = if bytes_eq u t then 0 else suc (place_of us t)

found : (ts : List (List ℕ)) (n : ℕ) (t : List ℕ) → slice_get ts n ≡ Some t → slice_get ts (place_of ts t) ≡ Some t
found [] n t at = absurd (none_at n at)
  where
    none_at : (n : ℕ) → slice_get {X = List ℕ} [] n ≡ Some t → ⊥
    none_at zero at = cc
    none_at (suc n) at = cc
found (u ∷ us) n t at = ⊎_elim
    (λ same. rw same (ap Some (bytes_to u t same)))
    (λ other. rw other (found us (before n at other) t (later n at other)))
    (cases_Bool (bytes_eq u t))
  where
    before : (n : ℕ) → slice_get (u ∷ us) n ≡ Some t → bytes_eq u t ≡ false → ℕ
    before zero at other = zero
    before (suc n) at other = n

    later : (n : ℕ) (at : slice_get (u ∷ us) n ≡ Some t) (other : bytes_eq u t ≡ false) → slice_get us (before n at other) ≡ Some t
    later zero at other = let same : u ≡ t = cc in absurd (both_ways _ other (subst (λ v. bytes_eq u v ≡ true) same (bytes_from u)))
    later (suc n) at other = at

back : (ts : List (List ℕ)) → AreDistinct ts → (n : ℕ) → n < length ts → place_of ts (text_of ts n) ≡ n
back ts distinct n lt = let at = text_is ts n lt in distinct (place_of ts (text_of ts n)) n (text_of ts n) (found ts n (text_of ts n) at) at

-- turns that leave nothing take each equation
all_taken : (known : List ℕ) (rest taken : List (EquationOf ℕ)) → Turns nat_eq known rest taken [] → (q : EquationOf ℕ) → In rest q → In taken q
all_taken known rest [] t q i = subst (λ v. In v q) t.0 i
all_taken known rest (p ∷ ps) t q i =
    let turn = t.1 in
    ⊎_elim
    (λ b. inr (all_taken (p.output ∷ known) t.0 ps t.2 q (subst (λ v. In v q) (sym turn.leaves) (in_left turn.before turn.after q b))))
    (λ a. ⊎_elim (λ same. inl same) (λ l. inr (all_taken (p.output ∷ known) t.0 ps t.2 q (subst (λ v. In v q) (sym turn.leaves) (in_right turn.before turn.after q l)))) a)
    (in_append turn.before (p ∷ turn.after) q (subst (λ v. In v q) turn.splits i))

module _ (p : Numbered) (named : AreNamed p) where
  abbrev Below : ℕ → Type 0
  Below n = n < length p.names

  apart : (a b : ℕ) → Below a → Below b → bytes_eq (text_of p.names a) (text_of p.names b) ≡ nat_eq a b
  apart a b la lb = texts_apart p.names named.distinct a b la lb

  inputs : naming.Each Below p.parts.inputs
  inputs n i = in_of_all Below p.parts.inputs n named.range.inputs i

  outputs : naming.Each Below p.parts.outputs
  outputs n i = in_of_all Below p.parts.outputs n named.range.outputs i

  equations : naming.Each (λ q. Below q.output × naming.Each Below q.inputs) p.parts.equations
  equations q i = let r = in_of_all (EquationInRange (length p.names)) p.parts.equations q named.range.equations i in
      (r.output, λ n j. in_of_all Below q.inputs n r.inputs j)

  pub faults : (f : Fault ℕ) → HasFault nat_eq p.parts f → HasFault bytes_eq (by_text p) (map_fault (text_of p.names) f)
  faults f h = naming.fault_is_by nat_eq eqb-true same_to bytes_eq bytes_to bytes_from (text_of p.names) Below apart p.parts f inputs outputs equations h

  pub orders : (c : Numbered) → IsOrderOf p c → Turns bytes_eq (by_text p).inputs (by_text p).equations (by_text c).equations []
  orders c o =
      subst (λ v. Turns bytes_eq (by_text p).inputs (by_text p).equations (map (equation_by (text_of v)) c.parts.equations) []) (sym o.names)
      (naming.turns_by nat_eq eqb-true same_to bytes_eq bytes_to bytes_from (text_of p.names) Below apart p.parts.inputs p.parts.equations c.parts.equations [] inputs equations o.turns)

  -- an equation of the order stands among the parts', and the other way round
  pub among : (c : Numbered) → IsOrderOf p c → (q : EquationOf ℕ) → In c.parts.equations q → In p.parts.equations q
  among c o q i = taken_in p.parts.inputs p.parts.equations c.parts.equations [] o.turns q i

  pub sound_by : (c : Numbered) (f : Fault (List ℕ)) → IsOrderOf p c → HasFault bytes_eq (by_text p) f → ⊥
  sound_by c f o h =
      naming.no_fault_by nat_eq eqb-true same_to bytes_eq bytes_to bytes_from (text_of p.names) Below apart p.parts f inputs outputs equations o.sound
      (λ n d. (circuit_is p c.parts.equations named.range o.sound o.turns).no_cycle n (moved_all c o n d.0 n d.1)) h
    where
      step : (c : Numbered) → IsOrderOf p c → (n m : ℕ) → list_any (is_from nat_eq n m) p.parts.equations ≡ true → list_any (is_from nat_eq n m) c.parts.equations ≡ true
      step c o n m t =
          let r = any_in (is_from nat_eq n m) p.parts.equations t in
          any_from (is_from nat_eq n m) c.parts.equations r.0 (all_taken p.parts.inputs p.parts.equations c.parts.equations o.turns r.0 r.1) r.2

      moved_all : (c : Numbered) → IsOrderOf p c → (n : ℕ) (ks : List ℕ) (m : ℕ) → GivenBy nat_eq p.parts.equations n ks m → DependsOn nat_eq c.parts.equations n m
      moved_all c o n [] m g = ([], step c o n m g)
      moved_all c o n (k ∷ ks) m g = let rest = moved_all c o k ks m g.1 in (k ∷ rest.0, (step c o n k g.0, rest.1))

  abbrev f : ℕ → List ℕ
  f = text_of p.names

  -- the value of a text is that of its number
  abbrev by_place : (ℕ → Bool) → List ℕ → Bool
  by_place a t = a (place_of p.names t)

  pub values : (c : Numbered) (bits answer : List Bool) → IsOrderOf p c → IsEval c bits answer → EvalOf bytes_eq (by_text p) bits answer
  values c bits answer o ev = record {
    assignment = by_place ev.assignment;
    inputs = naming.map_map (by_place ev.assignment) f p.parts.inputs ∙ map_same (λ n. by_place ev.assignment (f n)) ev.assignment p.parts.inputs (λ n i. by_number n (inputs n i)) ∙ ap (map ev.assignment) (sym o.inputs) ∙ ev.inputs;
    solves = naming.solves_by f p.parts.equations (by_place ev.assignment) (all_from_in (Satisfies (λ n. by_place ev.assignment (f n))) p.parts.equations (λ q i. held q i));
    only = λ e is solves t known. sole e is solves t (has_in bytes_eq bytes_to bytes_from (map f p.parts.inputs ++ outputs_of (map (equation_by f) p.parts.equations)) t known);
    outputs = λ e is solves.
        naming.map_map e f p.parts.outputs ∙ ap (map (λ n. e (f n))) (sym o.outputs)
        ∙ ev.outputs (λ n. e (f n)) (given e is) (in_order (λ n. e (f n)) (naming.solves_back f p.parts.equations e solves));
  }
    where
      by_number : (n : ℕ) → Below n → by_place ev.assignment (f n) ≡ ev.assignment n
      by_number n lt = ap ev.assignment (back p.names named.distinct n lt)

      held : (q : EquationOf ℕ) → In p.parts.equations q → Satisfies (λ n. by_place ev.assignment (f n)) q
      held q i =
          let r = equations q i in
          by_number q.output r.0
          ∙ in_of_all (Satisfies ev.assignment) c.parts.equations q ev.solves (all_taken p.parts.inputs p.parts.equations c.parts.equations o.turns q i)
          ∙ ap (value_of q.rows q.polarity) (sym (map_same (λ n. by_place ev.assignment (f n)) ev.assignment q.inputs (λ n j. by_number n (r.1 n j))))

      in_order : (e : ℕ → Bool) → Solves p.parts.equations e → Solves c.parts.equations e
      in_order e s = all_from_in (Satisfies e) c.parts.equations (λ q i. in_of_all (Satisfies e) p.parts.equations q s (among c o q i))

      given : (e : List ℕ → Bool) → map e (map f p.parts.inputs) ≡ bits → map (λ n. e (f n)) c.parts.inputs ≡ bits
      given e is = ap (map (λ n. e (f n))) o.inputs ∙ sym (naming.map_map e f p.parts.inputs) ∙ is

      numbered : (t : List ℕ) → In (map f p.parts.inputs ++ outputs_of (map (equation_by f) p.parts.equations)) t → (n : ℕ) × Below n × In (c.parts.inputs ++ outputs_of c.parts.equations) n × (f n ≡ t)
      numbered t i = ⊎_elim
          (λ a. let n = from_map f p.parts.inputs t a in (n.0, inputs n.0 n.1, in_left c.parts.inputs (outputs_of c.parts.equations) n.0 (subst (λ v. In v n.0) (sym o.inputs) n.1), n.2))
          (λ b. let n = from_map f (outputs_of p.parts.equations) t (subst (λ v. In v t) (naming.outputs_by f p.parts.equations) b) in
          let q = from_map (λ (v : EquationOf ℕ). v.output) p.parts.equations n.0 n.1 in (
            n.0,
            subst Below q.2 (equations q.0 q.1).0,
            in_right c.parts.inputs (outputs_of c.parts.equations) n.0 (subst (In (outputs_of c.parts.equations)) q.2 (in_map (λ (v : EquationOf ℕ). v.output) c.parts.equations q.0 (all_taken p.parts.inputs p.parts.equations c.parts.equations o.turns q.0 q.1))),
            n.2,
          ))
          (in_append (map f p.parts.inputs) (outputs_of (map (equation_by f) p.parts.equations)) t i)

      sole : (e : List ℕ → Bool) → map e (map f p.parts.inputs) ≡ bits → Solves (map (equation_by f) p.parts.equations) e → (t : List ℕ)
          → In (map f p.parts.inputs ++ outputs_of (map (equation_by f) p.parts.equations)) t → e t ≡ by_place ev.assignment t
      sole e is s t i =
          let n = numbered t i in
          let same : e (f n.0) ≡ ev.assignment n.0 = ev.only (λ m. e (f m)) (given e is) (in_order (λ m. e (f m)) (naming.solves_back f p.parts.equations e s)) n.0 (has_from nat_eq eqb-true same_to (c.parts.inputs ++ outputs_of c.parts.equations) n.0 n.2) in
          subst (λ v. e v ≡ by_place ev.assignment v) n.3 (same ∙ sym (by_number n.0 n.1))

pub costs : (p c : Numbered) → IsOrderOf p c → cost_of c.parts ≡ cost_of p.parts
costs p c o =
    let a = ap length o.inputs in
    let b = ap length o.outputs in
    let t = naming.turns_cost nat_eq p.parts.inputs p.parts.equations c.parts.equations [] o.turns in
    omega (arith, a, b, t, sum-map equation_cost p.parts.equations, sum-map equation_cost c.parts.equations)
