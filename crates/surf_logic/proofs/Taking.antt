-- What the turns take, and what they leave.
use Rattle.std.proofs.Common.{◌≡◌, ◌⊎◌, inl, inr, Bool, true, false, ◌||◌, List, [], ◌∷◌, ◌++◌, length, refl, sym, ◌∙◌, ap, subst, ⊎_elim, arith, Some, None, if◌then◌else◌}
use Rattle.std.specs.List.{list_any}
use Rattle.std.proofs.lemmas.Bool.{both_ways, cases_Bool, and_parts, and_from}
use Rattle.surf_logic.specs.Equations.{EquationOf}
use Rattle.surf_logic.specs.Order.{has, Ordered, first_twice, outputs_of, inputs_of, is_ready, Turn, Turns, is_from, GivenBy, DependsOn}
use Rattle.surf_logic.proofs.Has.{In, or_none, any_in, any_from, none_in, not_all, all_in, in_append, in_left, in_right, in_map, from_map, in_flat, has_in, has_from}
use Rattle.surf_logic.proofs.Solving.{twice_none}
use Rattle.surf_logic.proofs.Walk.{walk}

-- the known names and the outputs of what was taken
abbrev pub known_after : {N : Type 0} → List N → List (EquationOf N) → List N
known_after known [] = known
known_after known (q ∷ qs) = known_after (q.output ∷ known) qs

-- some turns
abbrev pub Took : {N : Type 0} → (N → N → Bool) → List N → List (EquationOf N) → List (EquationOf N) → List (EquationOf N) → Type 0
Took eq known rest [] left = rest ≡ left
Took {N} eq known rest (q ∷ qs) left = (next : List (EquationOf N)) × Turn eq known rest q next × Took eq (q.output ∷ known) next qs left

module _ {N : Type 0} (eq : N → N → Bool) (to : (a b : N) → eq a b ≡ true → a ≡ b) (from : (a : N) → eq a a ≡ true) where
  pub ordered : (known : List N) (rest taken left : List (EquationOf N)) → Turns eq known rest taken left → Ordered eq known taken
  ordered known rest [] left t = tt
  ordered known rest (q ∷ qs) left t = (t.1.ready, ordered (q.output ∷ known) t.0 qs left t.2)

  pub waiting : (known : List N) (rest taken left : List (EquationOf N)) → Turns eq known rest taken left → list_any (is_ready eq (known_after known taken)) left ≡ false
  waiting known rest [] left t = subst (λ v. list_any (is_ready eq known) v ≡ false) t.0 t.1
  waiting known rest (q ∷ qs) left t = waiting (q.output ∷ known) t.0 qs left t.2

  pub known_more : (known : List N) (qs : List (EquationOf N)) (n : N) → In known n → In (known_after known qs) n
  known_more known [] n i = i
  known_more known (q ∷ qs) n i = known_more (q.output ∷ known) qs n (inr i)

  taken_or : (known : List N) (rest : List (EquationOf N)) (q : EquationOf N) (left : List (EquationOf N)) → Turn eq known rest q left → (p : EquationOf N) → In rest p → (q ≡ p) ⊎ In left p
  taken_or known rest q left t p i = ⊎_elim
      (λ b. inr (subst (λ v. In v p) (sym t.leaves) (in_left t.before t.after p b)))
      (λ a. ⊎_elim (λ same. inl same) (λ l. inr (subst (λ v. In v p) (sym t.leaves) (in_right t.before t.after p l))) a)
      (in_append t.before (q ∷ t.after) p (subst (λ v. In v p) t.splits i))

  left_was : (known : List N) (rest : List (EquationOf N)) (q : EquationOf N) (left : List (EquationOf N)) → Turn eq known rest q left → (p : EquationOf N) → In left p → In rest p
  left_was known rest q left t p i = subst (λ v. In v p) (sym t.splits) (⊎_elim
      (λ b. in_left t.before (q ∷ t.after) p b)
      (λ a. in_right t.before (q ∷ t.after) p (inr a))
      (in_append t.before t.after p (subst (λ v. In v p) t.leaves i)))

  -- each equation was taken or is left
  pub each_is : (known : List N) (rest taken left : List (EquationOf N)) → Turns eq known rest taken left → (p : EquationOf N) → In rest p → In (known_after known taken) p.output ⊎ In left p
  each_is known rest [] left t p i = inr (subst (λ v. In v p) t.0 i)
  each_is known rest (q ∷ qs) left t p i = ⊎_elim
      (λ same. inl (known_more (q.output ∷ known) qs p.output (inl (ap (λ v. v.output) same))))
      (λ later. each_is (q.output ∷ known) t.0 qs left t.2 p later)
      (taken_or known rest q t.0 t.1 p i)

  pub left_in : (known : List N) (rest taken left : List (EquationOf N)) → Turns eq known rest taken left → (p : EquationOf N) → In left p → In rest p
  left_in known rest [] left t p i = subst (λ v. In v p) (sym t.0) i
  left_in known rest (q ∷ qs) left t p i = left_was known rest q t.0 t.1 p (left_in (q.output ∷ known) t.0 qs left t.2 p i)

  given_more : (qs : List (EquationOf N)) (n : N) (ks : List N) (m j : N) → GivenBy eq qs n ks m → list_any (is_from eq m j) qs ≡ true → GivenBy eq qs n (ks ++ m ∷ []) j
  given_more qs n [] m j g t = (g, t)
  given_more qs n (k ∷ ks) m j g t = (g.0, given_more qs k ks m j g.1 t)

  -- where equations are left, one of them depends on itself
  pub stops : (known : List N) (rest taken left : List (EquationOf N)) → Turns eq known rest taken left
      → ((n : N) → In (inputs_of rest) n → has eq (known ++ outputs_of rest) n ≡ true)
      → (q : EquationOf N) → In left q → (n : N) × In (outputs_of left) n × DependsOn eq rest n n
  stops known rest taken left t driven q i =
      walk R (DependsOn eq rest) (λ a b r. ([], r)) (λ a b c d r. (d.0 ++ b ∷ [], given_more rest a d.0 b c d.1 r)) (outputs_of left) next
      (length (outputs_of left)) [] (outputs_of left) q.output (omega arith) (in_map (λ v. v.output) left q i) (λ y j. inr j) (λ y j. absurd j)
    where
      R : N → N → Type 0
      R a b = list_any (is_from eq a b) rest ≡ true

      next : (x : N) → In (outputs_of left) x → (y : N) × In (outputs_of left) y × (list_any (is_from eq x y) rest ≡ true)
      next x j =
          let p = from_map (λ v. v.output) left x j in
          let was = left_in known rest taken left t p.0 p.1 in
          let m = not_all (has eq (known_after known taken)) p.0.inputs (none_in (is_ready eq (known_after known taken)) left p.0 (waiting known rest taken left t) p.1) in
          let none : In (known_after known taken) m.0 → ⊥ = λ k. both_ways _ m.2 (has_from eq to from (known_after known taken) m.0 k) in
          let given : has eq (known ++ outputs_of rest) m.0 ≡ true = driven m.0 (in_flat (λ v. v.inputs) rest p.0 m.0 was m.1) in
          let here : list_any (is_from eq x m.0) rest ≡ true = any_from (is_from eq x m.0) rest p.0 was (and_from _ _ (subst (λ v. eq p.0.output v ≡ true) p.2 (from p.0.output)) (has_from eq to from p.0.inputs m.0 m.1)) in
          ⊎_elim
          (λ k. absurd (none (known_more known taken m.0 k)))
          (λ o.
          let d = from_map (λ v. v.output) rest m.0 o in
          ⊎_elim
          (λ k. absurd (none (subst (In (known_after known taken)) d.2 k)))
          (λ l. (m.0, subst (In (outputs_of left)) d.2 (in_map (λ v. v.output) left d.0 l), here))
          (each_is known rest taken left t d.0 d.1))
          (in_append known (outputs_of rest) m.0 (has_in eq to from (known ++ outputs_of rest) m.0 given))

  -- names differ whatever their order: one may be looked at before the others
  twice_same : (xs ys ns : List N) → ((n : N) → has eq xs n ≡ has eq ys n) → first_twice eq xs ns ≡ first_twice eq ys ns
  twice_same xs ys [] same = refl
  twice_same xs ys (n ∷ ns) same =
      ap (λ b. if b then Some n else first_twice eq (n ∷ xs) ns) (same n)
      ∙ ap (λ o. if has eq ys n then Some n else o) (twice_same (n ∷ xs) (n ∷ ys) ns (λ m. ap (λ b. eq m n || b) (same m)))

  swap : (a b c : Bool) → (a || (b || c)) ≡ (b || (a || c))
  swap true true c = refl
  swap true false c = refl
  swap false true c = refl
  swap false false c = refl

  apart : (a b : N) → eq a b ≡ false → eq b a ≡ false
  apart a b f = ⊎_elim (λ t. absurd (both_ways _ f (subst (λ v. eq v b ≡ true) (to b a t) (from b)))) (λ g. g) (cases_Bool (eq b a))

  none_twice : (above : List N) (n : N) (ns : List N) → has eq above n ≡ false → first_twice eq (n ∷ above) ns ≡ None → first_twice eq above (n ∷ ns) ≡ None
  none_twice above n ns f none = ap (λ b. if b then Some n else first_twice eq (n ∷ above) ns) f ∙ none

  pub moved : (above : List N) (before : List (EquationOf N)) (q : EquationOf N) (after : List (EquationOf N)) → first_twice eq above (outputs_of (before ++ q ∷ after)) ≡ None
      → (has eq above q.output ≡ false) × (first_twice eq (q.output ∷ above) (outputs_of (before ++ after)) ≡ None)
  moved above [] q after none = twice_none eq above q.output (outputs_of after) none
  moved above (p ∷ before) q after none =
      let h = twice_none eq above p.output (outputs_of (before ++ q ∷ after)) none in
      let m = moved (p.output ∷ above) before q after h.1 in
      let two = or_none (eq q.output p.output) (has eq above q.output) m.0 in (
        two.1,
        none_twice (q.output ∷ above) p.output (outputs_of (before ++ after))
            (ap (λ b. b || has eq above p.output) (apart q.output p.output two.0) ∙ h.0)
            (twice_same (p.output ∷ q.output ∷ above) (q.output ∷ p.output ∷ above) (outputs_of (before ++ after)) (λ n. swap (eq n p.output) (eq n q.output) (has eq above n)) ∙ m.1),
      )

  pub driven_once : (known : List N) (rest taken left : List (EquationOf N)) → Turns eq known rest taken left → first_twice eq known (outputs_of rest) ≡ None → first_twice eq known (outputs_of taken) ≡ None
  driven_once known rest [] left t none = refl
  driven_once known rest (q ∷ qs) left t none =
      let turn = t.1 in
      let m = moved known turn.before q turn.after (subst (λ v. first_twice eq known (outputs_of v) ≡ None) turn.splits none) in
      none_twice known q.output (outputs_of qs) m.0
      (driven_once (q.output ∷ known) t.0 qs left t.2 (subst (λ v. first_twice eq (q.output ∷ known) (outputs_of v) ≡ None) (sym turn.leaves) m.1))

  -- no name above is an output
  pub fresh_in : (above : List N) (qs : List (EquationOf N)) (p : EquationOf N) → first_twice eq above (outputs_of qs) ≡ None → In qs p → In above p.output → ⊥
  fresh_in above [] p none i k = i
  fresh_in above (q ∷ qs) p none i k =
      let h = twice_none eq above q.output (outputs_of qs) none in
      ⊎_elim
      (λ same. both_ways _ h.0 (has_from eq to from above q.output (subst (λ v. In above v.output) (sym same) k)))
      (λ later. fresh_in (q.output ∷ above) qs p h.1 later (inr k))
      i

  -- an output has one equation
  pub one_equation : (above : List N) (qs : List (EquationOf N)) (p r : EquationOf N) → first_twice eq above (outputs_of qs) ≡ None → In qs p → In qs r → p.output ≡ r.output → p ≡ r
  one_equation above [] p r none i j is = absurd i
  one_equation above (q ∷ qs) p r none i j is =
      let h = twice_none eq above q.output (outputs_of qs) none in
      ⊎_elim
      (λ a. ⊎_elim (λ b. sym a ∙ b) (λ l. absurd (fresh_in (q.output ∷ above) qs r h.1 l (inl (ap (λ v. v.output) a ∙ is)))) j)
      (λ k. ⊎_elim (λ b. absurd (fresh_in (q.output ∷ above) qs p h.1 k (inl (ap (λ v. v.output) b ∙ sym is)))) (λ l. one_equation (q.output ∷ above) qs p r h.1 k l is) j)
      i

  -- the way round begins at its second name
  turned : (all : List (EquationOf N)) (n : N) (ks : List N) → GivenBy eq all n ks n → (k : N) × (list_any (is_from eq n k) all ≡ true) × DependsOn eq all k k
  turned all n [] g = (n, g, ([], g))
  turned all n (k ∷ ks) g = (k, g.0, (ks ++ n ∷ [], given_more all k ks n k g.1 g.0))

  -- what is in order doesn't depend on itself
  pub acyclic_from : (all : List (EquationOf N)) (start known : List N) (qs : List (EquationOf N)) → first_twice eq start (outputs_of all) ≡ None → Ordered eq known qs
      → ((p : EquationOf N) → In qs p → In all p)
      → ((n : N) → In known n → DependsOn eq all n n → ⊥) → (p : EquationOf N) → In qs p → DependsOn eq all p.output p.output → ⊥
  acyclic_from all start known [] once o within none p i d = i
  acyclic_from all start known (q ∷ qs) once o within none p i d =
      let here : DependsOn eq all q.output q.output → ⊥ = λ e.
      let f = turned all q.output e.0 e.1 in
      let r = any_in (is_from eq q.output f.0) all f.1 in
      let t = and_parts _ _ r.2 in
      let same : r.0 ≡ q = one_equation start all r.0 q once r.1 (within q (inl refl)) (to r.0.output q.output t.0) in
      let among : In q.inputs f.0 = subst (λ v. In v.inputs f.0) same (has_in eq to from r.0.inputs f.0 t.1) in
      none f.0 (has_in eq to from known f.0 (all_in (has eq known) q.inputs f.0 o.0 among)) f.2 in
      ⊎_elim
      (λ same. here (subst (λ v. DependsOn eq all v.output v.output) (sym same) d))
      (λ later. acyclic_from all start (q.output ∷ known) qs once o.1 (λ s j. within s (inr j)) (λ n k e. ⊎_elim (λ is. here (subst (λ v. DependsOn eq all v v) (sym is) e)) (λ l. none n l e) k) p later d)
      i

  pub acyclic : (known : List N) (qs : List (EquationOf N)) → first_twice eq known (outputs_of qs) ≡ None → Ordered eq known qs → (n : N) → DependsOn eq qs n n → ⊥
  acyclic known qs once o n d =
      let s = by n d in
      acyclic_from qs known known qs once o (λ p i. i) (λ m k e. let u = by m e in fresh_in known qs u.0 once u.1 (subst (In known) (sym u.2) k)) s.0 s.1 (subst (λ v. DependsOn eq qs v v) (sym s.2) d)
    where
      by : (m : N) → DependsOn eq qs m m → (p : EquationOf N) × In qs p × (p.output ≡ m)
      by m e =
          let f = turned qs m e.0 e.1 in
          let r = any_in (is_from eq m f.0) qs f.1 in
          (r.0, r.1, to r.0.output m (and_parts _ _ r.2).0)

  -- a name that isn't twice
  pub fresh_name : (above ns : List N) (n : N) → first_twice eq above ns ≡ None → In ns n → In above n → ⊥
  fresh_name above [] n none i k = i
  fresh_name above (m ∷ ns) n none i k =
      let h = twice_none eq above m ns none in
      ⊎_elim
      (λ same. both_ways _ h.0 (has_from eq to from above m (subst (In above) (sym same) k)))
      (λ later. fresh_name (m ∷ above) ns n h.1 later (inr k))
      i

  -- turns that may go on
  pub known_end : (known : List N) (qs : List (EquationOf N)) (q : EquationOf N) → known_after known (qs ++ q ∷ []) ≡ q.output ∷ known_after known qs
  known_end known [] q = refl
  known_end known (p ∷ qs) q = known_end (p.output ∷ known) qs q

  pub took_more : (known : List N) (rest taken left : List (EquationOf N)) (q : EquationOf N) (next : List (EquationOf N)) → Took eq known rest taken left → Turn eq (known_after known taken) left q next → Took eq known rest (taken ++ q ∷ []) next
  took_more known rest [] left q next t turn = (next, subst (λ v. Turn eq known v q next) (sym t) turn, refl)
  took_more known rest (p ∷ taken) left q next t turn = (t.0, t.1, took_more (p.output ∷ known) t.0 taken left q next t.2 turn)

  pub took_end : (known : List N) (rest taken left : List (EquationOf N)) → Took eq known rest taken left → list_any (is_ready eq (known_after known taken)) left ≡ false → Turns eq known rest taken left
  took_end known rest [] left t none = (t, subst (λ v. list_any (is_ready eq known) v ≡ false) (sym t) none)
  took_end known rest (p ∷ taken) left t none = (t.0, t.1, took_end (p.output ∷ known) t.0 taken left t.2 none)
