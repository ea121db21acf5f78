-- The work of trees, and tables of it.
use Rattle.std.proofs.Common.{ℕ, ◌≡◌, ◌+◌, ◌-◌, ◌*◌, ◌^◌, min, inl, inr, Bool, true, false, ◌&&◌, List, [], ◌∷◌, ◌++◌, length, map, sum, refl, sym, ◌∙◌, ap, subst, ⊎_elim, arith, suc, Option, Some, None, if◌then◌else◌}
use Rattle.std.proofs.lemmas.List.{length-map}
use Rattle.std.proofs.lemmas.List.Sums.{sum_by-append, sum_by-cons, sum-map}
use Rattle.surf_logic.specs.Equations.{EquationOf, equation_cost, cost_of, capped}
use Rattle.surf_logic.specs.Renamed.{equation_by}
use Rattle.surf_logic.proofs.Has.{In}
use Rattle.surf_logic.proofs.Naming.{cost_by, total}
use Rattle.surf_flatten.specs.declared.models.Item.{Item}
use Rattle.surf_flatten.specs.declared.models.Item.TheVariants.{Cover, Place}
use Rattle.surf_flatten.specs.Designs.{Design, Tree, Done, Gives, Holds, Unfolds}
use Rattle.surf_flatten.specs.Substituted.{Signal, own, seen_inside, equations_in, signal_parts, spelled, meant, is_wide, equation_work, work, text_cost, placing_count, wide_count}
use Rattle.surf_flatten.specs.Reaching.{place_of, onto, targets_in}
use Rattle.surf_flatten.specs.Laws.{worth, item_work, work_by, HasWorks, ArePlacedIn}
use Rattle.surf_flatten.proofs.Unfolding.{standing, has_nat, in_nat}

thousand : (b : Bool) → (if b then 1001 else 0) ≡ 1001 * (if b then 1 else 0)
thousand true = refl
thousand false = refl

work_is : (see : List ℕ → Signal) (path : List ℕ) (k : ℕ) (inside : Bool) (t : Tree) → work inside t ≡ total (equations_in see path k t) + placing_count t + 1001 * wide_count inside t
work_is see path k inside Done = refl
work_is see path k inside (Gives q rest) =
    omega (arith, work_is see path k inside rest, thousand (inside && is_wide q), sum_by-cons equation_cost (equation_by see q) (equations_in see path k rest))
work_is see path k inside (Holds p inner rest) =
    let more = path ++ k ∷ [] in
    let a = work_is (seen_inside see more p.binds) more 1 true inner in
    let b = work_is see path (suc k) inside rest in
    omega (arith, a, b, sum_by-append equation_cost (equations_in (seen_inside see more p.binds) more 1 inner) (equations_in see path (suc k) rest))

pub cost_meant : (main : Design) (t : Tree) → text_cost main t ≡ cost_of (meant main t) + placing_count t + 1001 * wide_count false t
cost_meant main t =
    let a = cost_by spelled (signal_parts main t) in
    let b = work_is (own []) [] 1 false t in
    omega (arith, a, b, sum-map equation_cost (equations_in (own []) [] 1 t), length-map main.inputs (own []), length-map main.outputs (own []))

-- ---- sums that stay at the greatest

sums : (m a b : ℕ) → min (min a m + min b m) m ≡ min (a + b) m
sums m a b = omega arith

pub sums_saturate : (a b : ℕ) → capped (capped a + capped b) ≡ capped (a + b)
sums_saturate a b = sums (2 ^ 128 - 1) a b

three : (m a b v w : ℕ) → v ≡ min a m → min w m ≡ min b m → min (1 + v + w) m ≡ min (1 + a + b) m
three m a b v w e f = omega arith

two : (m a b w : ℕ) → min w m ≡ min b m → min (a + w) m ≡ min (a + b) m
two m a b w f = omega arith

sum_cons : {X : Type 0} (f : X → ℕ) (x : X) (xs : List X) → sum (map f (x ∷ xs)) ≡ f x + sum (map f xs)
sum_cons f x xs = omega (arith, sum-map f (x ∷ xs), sum-map f xs, sum_by-cons f x xs)

-- ---- tables

pub table_work : (models : List Design) (table done : List ℕ) (inside : Bool) (items : List Item) (t : Tree)
    → HasWorks models table done → ((j : ℕ) → In (targets_in models items) j → In done j) → Unfolds models items t → work_by models table inside items ≡ capped (work inside t)
table_work models table done inside [] Done knows placed u = refl
table_work models table done inside [] (Gives q r) knows placed u = absurd u
table_work models table done inside [] (Holds p i r) knows placed u = absurd u
table_work models table done inside (Cover q ∷ is) Done knows placed u = absurd u
table_work models table done inside (Cover q ∷ is) (Gives r rest) knows placed u =
    let h = table_work models table done inside is rest knows placed u.1 in
    ap capped (sum_cons (item_work models table inside) (Cover q) is)
    ∙ two (2 ^ 128 - 1) (equation_work inside q) (work inside rest) (sum (map (item_work models table inside) is)) h
    ∙ ap (λ v. capped (equation_work inside v + work inside rest)) u.0
table_work models table done inside (Cover q ∷ is) (Holds p i r) knows placed u = absurd u
table_work models table done inside (Place p ∷ is) Done knows placed u = absurd u
table_work models table done inside (Place p ∷ is) (Gives q r) knows placed u = absurd u
table_work models table done inside (Place p ∷ is) (Holds r inner rest) knows placed u =
    let h : work_by models table inside is ≡ capped (work inside rest) = table_work models table done inside is rest knows (λ j i. placed j (behind (place_of models p.model) j i)) u.2 in
    let here : worth table (place_of models p.model) ≡ capped (work true inner) = ⊎_elim
    (λ none. ap (worth table) none.0 ∙ ap capped (empty inner (subst (λ v. Unfolds models v inner) none.1 u.1)))
    (λ s. ap (worth table) s.1.place
    ∙ knows.is s.0 inner (has_nat done s.0 (placed s.0 (subst (λ o. In (onto o (targets_in models is)) s.0) (sym s.1.place) (inl refl)))) (subst (λ v. Unfolds models v inner) (sym s.1.items) u.1))
    (standing models p.model) in
    ap capped (sum_cons (item_work models table inside) (Place p) is)
    ∙ three (2 ^ 128 - 1) (work true inner) (work inside rest) (worth table (place_of models p.model)) (sum (map (item_work models table inside) is)) here h
  where
    behind : (o : Option ℕ) (k : ℕ) → In (targets_in models is) k → In (onto o (targets_in models is)) k
    behind None k i = i
    behind (Some l) k i = inr i

    empty : (v : Tree) → Unfolds models [] v → 0 ≡ work true v
    empty Done w = refl
    empty (Gives q x) w = absurd w
    empty (Holds q x y) w = absurd w

pub tables_give : (models : List Design) (table done : List ℕ) (inside : Bool) (items : List Item) (t : Tree)
    → HasWorks models table done → ArePlacedIn models items done → Unfolds models items t → work_by models table inside items ≡ capped (work inside t)
tables_give models table done inside items t knows placed u = table_work models table done inside items t knows (λ j i. in_nat done j (placed.each j (has_nat (targets_in models items) j i))) u

-- ---- no placings

pub plain_names : (ns : List (List ℕ)) → map spelled (map (own []) ns) ≡ ns
plain_names [] = refl
plain_names (n ∷ ns) = ap (λ v. n ∷ v) (plain_names ns)

pub plain_equations : (models : List Design) (k : ℕ) (qs : List (EquationOf (List ℕ))) (t : Tree) → Unfolds models (map Cover qs) t
    → (map (equation_by spelled) (equations_in (own []) [] k t) ≡ qs) × (placing_count t ≡ 0) × (wide_count false t ≡ 0)
plain_equations models k [] Done u = (refl, refl, refl)
plain_equations models k [] (Gives q r) u = absurd u
plain_equations models k [] (Holds p i r) u = absurd u
plain_equations models k (q ∷ qs) Done u = absurd u
plain_equations models k (q ∷ qs) (Gives r rest) u =
    let h = plain_equations models k qs rest u.1 in
    let here : equation_by spelled (equation_by (own []) r) ≡ q = ap (λ v. record { output = r.output; inputs = v; rows = r.rows; polarity = r.polarity }) (plain_names r.inputs) ∙ sym u.0 in
    let e : equation_by spelled (equation_by (own []) r) ∷ map (equation_by spelled) (equations_in (own []) [] k rest) ≡ q ∷ qs = cc in
    (e, h.1, omega (arith, h.2))
plain_equations models k (q ∷ qs) (Holds p i r) u = absurd u

pub plain_stay : (models : List Design) (main : Design) (qs : List (EquationOf (List ℕ))) (t : Tree) → main.items ≡ map Cover qs → Unfolds models main.items t
    → (meant main t ≡ record { inputs = main.inputs; outputs = main.outputs; equations = qs }) × (text_cost main t ≡ cost_of (meant main t))
plain_stay models main qs t is u =
    let h = plain_equations models 1 qs t (subst (λ v. Unfolds models v t) is u) in
    (cc (h.0, plain_names main.inputs, plain_names main.outputs), omega (arith, cost_meant main t, h.1, h.2))

-- ---- the cost by a table

four : (m a b w : ℕ) → w ≡ min b m → min (a + w) m ≡ min (a + b) m
four m a b w e = omega arith

pub cost_tabled : (models : List Design) (main : Design) (table done : List ℕ) (t : Tree) → HasWorks models table done → ArePlacedIn models main.items done → Unfolds models main.items t
    → capped (length main.inputs + length main.outputs + work_by models table false main.items) ≡ capped (text_cost main t)
cost_tabled models main table done t knows placed u =
    four (2 ^ 128 - 1) (length main.inputs + length main.outputs) (work false t) (work_by models table false main.items) (tables_give models table done false main.items t knows placed u)
