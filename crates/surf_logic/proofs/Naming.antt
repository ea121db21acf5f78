-- Names replaced by others, none of which stands for two: faults, turns, cost and solutions are kept.
use Rattle.std.proofs.Common.{ℕ, ◌+◌, ◌≡◌, inl, inr, Bool, true, false, List, [], ◌∷◌, ◌++◌, map, refl, sym, ◌∙◌, ap, subst, ⊎_elim, arith, Option, Some, None, if◌then◌else◌}
use Rattle.std.specs.List.{list_any, list_all, sum_by}
use Rattle.std.specs.Option.{option_map}
use Rattle.std.proofs.lemmas.Bool.{and_parts}
use Rattle.std.proofs.lemmas.List.{map-append, length-map}
use Rattle.std.proofs.lemmas.List.Sums.{sum_by-append, sum_by-cons}
use Rattle.std.proofs.lemmas.List.Elements.{All-nil, All-cons, All-head, All-tail}
use Rattle.surf_logic.specs.Equations.{EquationOf, PartsOf, Satisfies, Solves, value_of, equation_cost, cost_of}
use Rattle.surf_logic.specs.Order.{has, first_twice, first_missing, outputs_of, inputs_of, is_from, GivenBy, DependsOn, FirstCyclic, Fault, DeclaredTwice, DrivenTwice, Undriven, NoOutputs, Cycle, or_else, no_outputs, list_fault, HasFault, is_ready, Turns}
use Rattle.surf_logic.specs.Answers.{map_fault}
use Rattle.surf_logic.specs.Renamed.{equation_by, parts_by}
use Rattle.surf_logic.proofs.Has.{In, any_in, in_append, in_left, in_right, from_map, has_in}

-- ---- what is mapped

if_map : {X Y : Type 0} (f : X → Y) (b : Bool) (x y : Option X) → option_map f (if b then x else y) ≡ (if b then option_map f x else option_map f y)
if_map f true x y = refl
if_map f false x y = refl

pub outputs_by : {M N : Type 0} (f : M → N) (qs : List (EquationOf M)) → outputs_of (map (equation_by f) qs) ≡ map f (outputs_of qs)
outputs_by f [] = refl
outputs_by f (q ∷ qs) = ap (λ v. f q.output ∷ v) (outputs_by f qs)

pub inputs_by : {M N : Type 0} (f : M → N) (qs : List (EquationOf M)) → inputs_of (map (equation_by f) qs) ≡ map f (inputs_of qs)
inputs_by f [] = refl
inputs_by f (q ∷ qs) = ap (λ v. map f q.inputs ++ v) (inputs_by f qs) ∙ sym (map-append f q.inputs (inputs_of qs))

-- the fault of mapped parts, by the first name of each kind
fault_by : {M N : Type 0} (f : M → N) (a b c d : Option M) (outputs : List M)
    → or_else (option_map DeclaredTwice (or_else (option_map f a) (option_map f b))) (or_else (option_map DrivenTwice (option_map f c)) (or_else (option_map Undriven (option_map f d)) (no_outputs (map f outputs))))
    ≡ option_map (map_fault f) (or_else (option_map DeclaredTwice (or_else a b)) (or_else (option_map DrivenTwice c) (or_else (option_map Undriven d) (no_outputs outputs))))
fault_by f (Some a) b c d outputs = refl
fault_by f None (Some b) c d outputs = refl
fault_by f None None (Some c) d outputs = refl
fault_by f None None None (Some d) outputs = refl
fault_by f None None None None [] = refl
fault_by f None None None None (n ∷ ns) = refl

some_none : {X : Type 0} (x : X) (o : Option X) → o ≡ Some x → o ≡ None → ⊥
some_none x None is none = cc
some_none x (Some y) is none = cc

-- ---- cost

abbrev pub total : {N : Type 0} → List (EquationOf N) → ℕ
total qs = sum_by equation_cost qs

costs_by : {M N : Type 0} (f : M → N) (qs : List (EquationOf M)) → map equation_cost (map (equation_by f) qs) ≡ map equation_cost qs
costs_by f [] = refl
costs_by f (q ∷ qs) = ap (λ v. equation_cost q ∷ v) (costs_by f qs)

pub cost_by : {M N : Type 0} (f : M → N) (p : PartsOf M) → cost_of (parts_by f p) ≡ cost_of p
cost_by f p = rw (length-map p.inputs f, length-map p.outputs f, costs_by f p.equations) refl

pub turns_cost : {N : Type 0} (eq : N → N → Bool) (known : List N) (rest taken left : List (EquationOf N)) → Turns eq known rest taken left → total rest ≡ total taken + total left
turns_cost eq known rest [] left t = omega (arith, ap total t.0)
turns_cost eq known rest (q ∷ qs) left t =
    let turn = t.1 in
    let a = ap total turn.splits in
    let b = ap total turn.leaves in
    omega (arith, a, b, sum_by-append equation_cost turn.before (q ∷ turn.after), sum_by-append equation_cost turn.before turn.after, sum_by-cons equation_cost q turn.after, sum_by-cons equation_cost q qs, turns_cost eq (q.output ∷ known) t.0 qs left t.2)

-- ---- solutions

pub map_map : {M N X : Type 0} (e : N → X) (f : M → N) (ns : List M) → map e (map f ns) ≡ map (λ n. e (f n)) ns
map_map e f [] = refl
map_map e f (n ∷ ns) = ap (λ v. e (f n) ∷ v) (map_map e f ns)

pub solves_back : {M N : Type 0} (f : M → N) (qs : List (EquationOf M)) (e : N → Bool) → Solves (map (equation_by f) qs) e → Solves qs (λ n. e (f n))
solves_back f [] e s = All-nil _
solves_back f (q ∷ qs) e s = All-cons (Satisfies (λ n. e (f n))) q qs
    (All-head (Satisfies e) (equation_by f q) (map (equation_by f) qs) s ∙ ap (value_of q.rows q.polarity) (map_map e f q.inputs))
    (solves_back f qs e (All-tail (Satisfies e) (equation_by f q) (map (equation_by f) qs) s))

pub solves_by : {M N : Type 0} (f : M → N) (qs : List (EquationOf M)) (e : N → Bool) → Solves qs (λ n. e (f n)) → Solves (map (equation_by f) qs) e
solves_by f [] e s = All-nil _
solves_by f (q ∷ qs) e s = All-cons (Satisfies e) (equation_by f q) (map (equation_by f) qs)
    (All-head (Satisfies (λ n. e (f n))) q qs s ∙ ap (value_of q.rows q.polarity) (sym (map_map e f q.inputs)))
    (solves_by f qs e (All-tail (Satisfies (λ n. e (f n))) q qs s))

-- ---- names that the map keeps apart

abbrev pub Each : {M : Type 0} → (M → Type 0) → List M → Type 0
Each {M} P ns = (n : M) → In ns n → P n

module _ {M N : Type 0} (eqM : M → M → Bool) (toM : (a b : M) → eqM a b ≡ true → a ≡ b) (fromM : (a : M) → eqM a a ≡ true)
    (eqN : N → N → Bool) (toN : (a b : N) → eqN a b ≡ true → a ≡ b) (fromN : (a : N) → eqN a a ≡ true)
    (f : M → N) (P : M → Type 0) (apart : (a b : M) → P a → P b → eqN (f a) (f b) ≡ eqM a b) where
  abbrev pub Ranged : List (EquationOf M) → Type 0
  Ranged qs = Each (λ q. P q.output × Each P q.inputs) qs

  has_by : (ns : List M) (n : M) → Each P ns → P n → has eqN (map f ns) (f n) ≡ has eqM ns n
  has_by [] n each mine = refl
  has_by (m ∷ ns) n each mine = rw (apart n m mine (each m (inl refl)), has_by ns n (λ k i. each k (inr i)) mine) refl

  twice_by_map : (above ns : List M) → Each P above → Each P ns → first_twice eqN (map f above) (map f ns) ≡ option_map f (first_twice eqM above ns)
  twice_by_map above [] pa pn = refl
  twice_by_map above (n ∷ ns) pa pn =
      let mine = pn n (inl refl) in
      ap (λ b. if b then Some (f n) else first_twice eqN (f n ∷ map f above) (map f ns)) (has_by above n pa mine)
      ∙ ap (λ o. if has eqM above n then Some (f n) else o) (twice_by_map (n ∷ above) ns (λ k i. ⊎_elim (λ same. subst P same mine) (pa k) i) (λ k i. pn k (inr i)))
      ∙ sym (if_map f (has eqM above n) (Some n) (first_twice eqM (n ∷ above) ns))

  missing_by_map : (known ns : List M) → Each P known → Each P ns → first_missing eqN (map f known) (map f ns) ≡ option_map f (first_missing eqM known ns)
  missing_by_map known [] pk pn = refl
  missing_by_map known (n ∷ ns) pk pn =
      ap (λ b. if b then first_missing eqN (map f known) (map f ns) else Some (f n)) (has_by known n pk (pn n (inl refl)))
      ∙ ap (λ o. if has eqM known n then o else Some (f n)) (missing_by_map known ns pk (λ k i. pn k (inr i)))
      ∙ sym (if_map f (has eqM known n) (first_missing eqM known ns) (Some n))

  each_append : (ns ms : List M) → Each P ns → Each P ms → Each P (ns ++ ms)
  each_append ns ms a b n i = ⊎_elim (a n) (b n) (in_append ns ms n i)

  each_output : (qs : List (EquationOf M)) → Ranged qs → Each P (outputs_of qs)
  each_output qs r n i = let q = from_map (λ (v : EquationOf M). v.output) qs n i in subst P q.2 (r q.0 q.1).0

  each_input : (qs : List (EquationOf M)) → Ranged qs → Each P (inputs_of qs)
  each_input [] r n i = absurd i
  each_input (q ∷ qs) r n i = ⊎_elim ((r q (inl refl)).1 n) (each_input qs (λ p j. r p (inr j)) n) (in_append q.inputs (inputs_of qs) n i)

  pub list_fault_by : (p : PartsOf M) → Each P p.inputs → Each P p.outputs → Ranged p.equations → list_fault eqN (parts_by f p) ≡ option_map (map_fault f) (list_fault eqM p)
  list_fault_by p pi po pe =
      let outs = each_output p.equations pe in
      let a = twice_by_map [] p.inputs (λ n i. absurd i) pi in
      let b = twice_by_map [] p.outputs (λ n i. absurd i) po in
      let c : first_twice eqN (map f p.inputs) (outputs_of (map (equation_by f) p.equations)) ≡ option_map f (first_twice eqM p.inputs (outputs_of p.equations)) =
      ap (first_twice eqN (map f p.inputs)) (outputs_by f p.equations) ∙ twice_by_map p.inputs (outputs_of p.equations) pi outs in
      let known : map f p.inputs ++ outputs_of (map (equation_by f) p.equations) ≡ map f (p.inputs ++ outputs_of p.equations) =
      ap (λ v. map f p.inputs ++ v) (outputs_by f p.equations) ∙ sym (map-append f p.inputs (outputs_of p.equations)) in
      let asked : inputs_of (map (equation_by f) p.equations) ++ map f p.outputs ≡ map f (inputs_of p.equations ++ p.outputs) =
      ap (λ v. v ++ map f p.outputs) (inputs_by f p.equations) ∙ sym (map-append f (inputs_of p.equations) p.outputs) in
      let d : first_missing eqN (map f p.inputs ++ outputs_of (map (equation_by f) p.equations)) (inputs_of (map (equation_by f) p.equations) ++ map f p.outputs) ≡ option_map f (first_missing eqM (p.inputs ++ outputs_of p.equations) (inputs_of p.equations ++ p.outputs)) =
      ap (λ v. first_missing eqN v (inputs_of (map (equation_by f) p.equations) ++ map f p.outputs)) known ∙ ap (first_missing eqN (map f (p.inputs ++ outputs_of p.equations))) asked
      ∙ missing_by_map (p.inputs ++ outputs_of p.equations) (inputs_of p.equations ++ p.outputs) (each_append p.inputs (outputs_of p.equations) pi outs) (each_append (inputs_of p.equations) p.outputs (each_input p.equations pe) po) in
      rw (a, b, c, d) (fault_by f (first_twice eqM [] p.inputs) (first_twice eqM [] p.outputs) (first_twice eqM p.inputs (outputs_of p.equations)) (first_missing eqM (p.inputs ++ outputs_of p.equations) (inputs_of p.equations ++ p.outputs)) p.outputs)

  -- ---- turns
  ready_by_map : (known : List M) (q : EquationOf M) → Each P known → Each P q.inputs → is_ready eqN (map f known) (equation_by f q) ≡ is_ready eqM known q
  ready_by_map known q pk pq = all_by q.inputs pq
    where
      all_by : (ns : List M) → Each P ns → list_all (has eqN (map f known)) (map f ns) ≡ list_all (has eqM known) ns
      all_by [] each = refl
      all_by (n ∷ ns) each = rw (has_by known n pk (each n (inl refl)), all_by ns (λ k i. each k (inr i))) refl

  any_ready_by : (known : List M) (qs : List (EquationOf M)) → Each P known → Ranged qs → list_any (is_ready eqN (map f known)) (map (equation_by f) qs) ≡ list_any (is_ready eqM known) qs
  any_ready_by known [] pk pq = refl
  any_ready_by known (q ∷ qs) pk pq = rw (ready_by_map known q pk (pq q (inl refl)).1, any_ready_by known qs pk (λ p i. pq p (inr i))) refl

  pub turns_by : (known : List M) (rest taken left : List (EquationOf M)) → Each P known → Ranged rest → Turns eqM known rest taken left
      → Turns eqN (map f known) (map (equation_by f) rest) (map (equation_by f) taken) (map (equation_by f) left)
  turns_by known rest [] left pk pr t = (ap (map (equation_by f)) t.0, any_ready_by known rest pk pr ∙ t.1)
  turns_by known rest (q ∷ qs) left pk pr t =
      let turn = t.1 in
      let among : (p : EquationOf M) → In (turn.before ++ q ∷ turn.after) p → P p.output × Each P p.inputs = λ p i. pr p (subst (λ v. In v p) (sym turn.splits) i) in
      let mine = among q (in_right turn.before (q ∷ turn.after) q (inl refl)) in
      let next : Ranged t.0 = λ p i. ⊎_elim
      (λ b. among p (in_left turn.before (q ∷ turn.after) p b))
      (λ a. among p (in_right turn.before (q ∷ turn.after) p (inr a)))
      (in_append turn.before turn.after p (subst (λ v. In v p) turn.leaves i)) in (
        map (equation_by f) t.0,
        record {
          before = map (equation_by f) turn.before;
          after = map (equation_by f) turn.after;
          splits = ap (map (equation_by f)) turn.splits ∙ map-append (equation_by f) turn.before (q ∷ turn.after);
          leaves = ap (map (equation_by f)) turn.leaves ∙ map-append (equation_by f) turn.before turn.after;
          waiting = any_ready_by known turn.before pk (λ p i. among p (in_left turn.before (q ∷ turn.after) p i)) ∙ turn.waiting;
          ready = ready_by_map known q pk mine.1 ∙ turn.ready;
        },
        turns_by (q.output ∷ known) t.0 qs left (λ k i. ⊎_elim (λ same. subst P same mine.0) (pk k) i) next t.2,
      )

  -- ---- what depends on itself
  from_by : (qs : List (EquationOf M)) (n m : M) → Ranged qs → P n → P m → list_any (is_from eqN (f n) (f m)) (map (equation_by f) qs) ≡ list_any (is_from eqM n m) qs
  from_by [] n m pq pn pm = refl
  from_by (q ∷ qs) n m pq pn pm =
      let mine = pq q (inl refl) in
      rw (apart q.output n mine.0 pn, has_by q.inputs m mine.1 pm, from_by qs n m (λ p i. pq p (inr i)) pn pm) refl

  given_in : (qs : List (EquationOf M)) (n m : M) → Ranged qs → list_any (is_from eqM n m) qs ≡ true → P m
  given_in qs n m pq t =
      let r = any_in (is_from eqM n m) qs t in
      (pq r.0 r.1).1 m (has_in eqM toM fromM r.0.inputs m (and_parts _ _ r.2).1)

  given_by : (qs : List (EquationOf M)) (n : M) (ks : List M) (m : M) → Ranged qs → P n → P m → GivenBy eqM qs n ks m → GivenBy eqN (map (equation_by f) qs) (f n) (map f ks) (f m)
  given_by qs n [] m pq pn pm g = from_by qs n m pq pn pm ∙ g
  given_by qs n (k ∷ ks) m pq pn pm g =
      let pk = given_in qs n k pq g.0 in
      (from_by qs n k pq pn pk ∙ g.0, given_by qs k ks m pq pk pm g.1)

  pub depends_by : (qs : List (EquationOf M)) (n m : M) → Ranged qs → P n → P m → DependsOn eqM qs n m → DependsOn eqN (map (equation_by f) qs) (f n) (f m)
  depends_by qs n m pq pn pm d = (map f d.0, given_by qs n d.0 m pq pn pm d.1)

  -- a name from which one is given is the image of one
  was : (qs : List (EquationOf M)) (n k : N) → list_any (is_from eqN n k) (map (equation_by f) qs) ≡ true → Ranged qs → (m : M) × P m × (f m ≡ k)
  was qs n k t pq =
      let r = any_in (is_from eqN n k) (map (equation_by f) qs) t in
      let q = from_map (equation_by f) qs r.0 r.1 in
      let i : In (map f q.0.inputs) k = subst (λ (v : EquationOf N). In v.inputs k) (sym q.2) (has_in eqN toN fromN r.0.inputs k (and_parts _ _ r.2).1) in
      let m = from_map f q.0.inputs k i in
      (m.0, (pq q.0 q.1).1 m.0 m.1, m.2)

  given_back : (qs : List (EquationOf M)) (n : M) (ks : List N) (m : M) → Ranged qs → P n → P m → GivenBy eqN (map (equation_by f) qs) (f n) ks (f m) → DependsOn eqM qs n m
  given_back qs n [] m pq pn pm g = ([], sym (from_by qs n m pq pn pm) ∙ g)
  given_back qs n (k ∷ ks) m pq pn pm g =
      let w = was qs (f n) k g.0 pq in
      let rest : DependsOn eqM qs w.0 m = given_back qs w.0 ks m pq w.1 pm (subst (λ v. GivenBy eqN (map (equation_by f) qs) v ks (f m)) (sym w.2) g.1) in
      (w.0 ∷ rest.0, (sym (from_by qs n w.0 pq pn w.1) ∙ subst (λ v. list_any (is_from eqN (f n) v) (map (equation_by f) qs) ≡ true) (sym w.2) g.0, rest.1))

  pub depends_back : (qs : List (EquationOf M)) (n m : M) → Ranged qs → P n → P m → DependsOn eqN (map (equation_by f) qs) (f n) (f m) → DependsOn eqM qs n m
  depends_back qs n m pq pn pm d = given_back qs n d.0 m pq pn pm d.1

  pub cyclic_by : (qs : List (EquationOf M)) (ks : List M) (n : M) → Ranged qs → Each P ks → FirstCyclic eqM qs ks n → FirstCyclic eqN (map (equation_by f) qs) (map f ks) (f n)
  cyclic_by qs [] n pq pk c = absurd c
  cyclic_by qs (k ∷ ks) n pq pk c =
      let mine = pk k (inl refl) in
      ⊎_elim
      (λ here. inl (ap f here.0, depends_by qs k k pq mine mine here.1))
      (λ later. inr (λ d. later.0 (depends_back qs k k pq mine mine d), cyclic_by qs ks n pq (λ j i. pk j (inr i)) later.1))
      c

  -- the first of mapped names that depends on itself is the image of one that does
  pub cyclic_back : (qs : List (EquationOf M)) (ks : List M) (n : N) → Ranged qs → Each P ks → FirstCyclic eqN (map (equation_by f) qs) (map f ks) n → (k : M) × P k × DependsOn eqM qs k k
  cyclic_back qs [] n pq pk c = absurd c
  cyclic_back qs (k ∷ ks) n pq pk c =
      let mine = pk k (inl refl) in
      ⊎_elim
      (λ here. (k, mine, depends_back qs k k pq mine mine here.1))
      (λ later. cyclic_back qs ks n pq (λ j i. pk j (inr i)) later.1)
      c

  pub fault_is_by : (p : PartsOf M) (g : Fault M) → Each P p.inputs → Each P p.outputs → Ranged p.equations → HasFault eqM p g → HasFault eqN (parts_by f p) (map_fault f g)
  fault_is_by p (DeclaredTwice n) pi po pe h = list_fault_by p pi po pe ∙ ap (option_map (map_fault f)) h
  fault_is_by p (DrivenTwice n) pi po pe h = list_fault_by p pi po pe ∙ ap (option_map (map_fault f)) h
  fault_is_by p (Undriven n) pi po pe h = list_fault_by p pi po pe ∙ ap (option_map (map_fault f)) h
  fault_is_by p NoOutputs pi po pe h = list_fault_by p pi po pe ∙ ap (option_map (map_fault f)) h
  fault_is_by p (Cycle n) pi po pe h = (
    list_fault_by p pi po pe ∙ ap (option_map (map_fault f)) h.0,
    subst (λ v. FirstCyclic eqN (map (equation_by f) p.equations) v (f n)) (sym (outputs_by f p.equations)) (cyclic_by p.equations (outputs_of p.equations) n pe (each_output p.equations pe) h.1),
  )

  pub no_fault_by : (p : PartsOf M) (g : Fault N) → Each P p.inputs → Each P p.outputs → Ranged p.equations → list_fault eqM p ≡ None → ((n : M) → DependsOn eqM p.equations n n → ⊥) → HasFault eqN (parts_by f p) g → ⊥
  no_fault_by p g pi po pe none acyclic h = refuted g h
    where
      clear : list_fault eqN (parts_by f p) ≡ None
      clear = list_fault_by p pi po pe ∙ ap (option_map (map_fault f)) none

      refuted : (g : Fault N) → HasFault eqN (parts_by f p) g → ⊥
      refuted (DeclaredTwice n) h = some_none _ _ h clear
      refuted (DrivenTwice n) h = some_none _ _ h clear
      refuted (Undriven n) h = some_none _ _ h clear
      refuted NoOutputs h = some_none _ _ h clear
      refuted (Cycle n) h =
          let c = cyclic_back p.equations (outputs_of p.equations) n pe (each_output p.equations pe) (subst (λ v. FirstCyclic eqN (map (equation_by f) p.equations) v n) (outputs_by f p.equations) h.1) in
          acyclic c.0 c.2
