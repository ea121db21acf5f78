-- Trees of items: there is at most one, and one exactly where no placing leads back.
use Rattle.std.proofs.Common.{ℕ, ◌≡◌, ◌+◌, ◌<◌, ◌≤◌, ◌⊎◌, inl, inr, true, List, [], ◌∷◌, ◌++◌, length, refl, sym, ◌∙◌, ap, subst, ⊎_elim, arith, zero, suc, Option, Some, None, if◌then◌else◌, nat_eq}
use Rattle.std.proofs.lemmas.Bool.{cases_Bool, cases_lt, eqb-true, eq-eqb}
use Rattle.surf_logic.specs.Order.{has}
use Rattle.surf_logic.proofs.Has.{In, has_in, has_from}
use Rattle.surf_logic.proofs.Walk.{without}
use Rattle.surf_flatten.specs.declared.models.Item.{Item}
use Rattle.surf_flatten.specs.declared.models.Item.TheVariants.{Cover, Place}
use Rattle.surf_flatten.specs.Designs.{Design, Tree, Done, Gives, Holds, Unfolds, is_name, items_of, items_named, model_named}
use Rattle.surf_flatten.specs.Reaching.{place_from, place_of, onto, targets_in, items_at, targets, Places, Way, Reaches, IsReached, IsFree}

same_to : (a : ℕ) → nat_eq a a ≡ true
same_to a = eq-eqb a a refl

pub has_nat : (ns : List ℕ) (n : ℕ) → In ns n → has nat_eq ns n ≡ true
has_nat ns n i = has_from nat_eq eqb-true same_to ns n i

pub in_nat : (ns : List ℕ) (n : ℕ) → has nat_eq ns n ≡ true → In ns n
in_nat ns n t = has_in nat_eq eqb-true same_to ns n t

-- ---- one tree

pub one_tree : (models : List Design) (items : List Item) (t u : Tree) → Unfolds models items t → Unfolds models items u → t ≡ u
one_tree models [] Done Done a b = refl
one_tree models [] Done (Gives q r) a b = absurd b
one_tree models [] Done (Holds p i r) a b = absurd b
one_tree models [] (Gives q r) u a b = absurd a
one_tree models [] (Holds p i r) u a b = absurd a
one_tree models (Cover q ∷ is) Done u a b = absurd a
one_tree models (Cover q ∷ is) (Gives q1 r1) Done a b = absurd b
one_tree models (Cover q ∷ is) (Gives q1 r1) (Gives q2 r2) a b =
    let rest : r1 ≡ r2 = one_tree models is r1 r2 a.1 b.1 in
    let here : q1 ≡ q2 = sym a.0 ∙ b.0 in
    cc
one_tree models (Cover q ∷ is) (Gives q1 r1) (Holds p i r) a b = absurd b
one_tree models (Cover q ∷ is) (Holds p i r) u a b = absurd a
one_tree models (Place p ∷ is) Done u a b = absurd a
one_tree models (Place p ∷ is) (Gives q r) u a b = absurd a
one_tree models (Place p ∷ is) (Holds p1 i1 r1) Done a b = absurd b
one_tree models (Place p ∷ is) (Holds p1 i1 r1) (Gives q r) a b = absurd b
one_tree models (Place p ∷ is) (Holds p1 i1 r1) (Holds p2 i2 r2) a b =
    let inner : i1 ≡ i2 = one_tree models (items_named models p.model) i1 i2 a.1 b.1 in
    let rest : r1 ≡ r2 = one_tree models is r1 r2 a.2 b.2 in
    let here : p1 ≡ p2 = sym a.0 ∙ b.0 in
    cc

-- ---- names and places

-- no model has the name, or the first that has it stands at a place
pub record Standing (models : List Design) (t : List ℕ) (k : ℕ) : Type 0 where
  pub place : place_of models t ≡ Some k
  pub items : items_at models k ≡ items_named models t
  pub within : k < length models

standing_from : (n : ℕ) (ms : List Design) (t : List ℕ)
    → ((place_from n ms t ≡ None) × (items_named ms t ≡ []))
    ⊎ ((k : ℕ) × (place_from n ms t ≡ Some (n + k)) × (items_at ms k ≡ items_named ms t) × (k < length ms))
standing_from n [] t = inl (refl, refl)
standing_from n (m ∷ ms) t = ⊎_elim
    (λ here. inr (zero, ap (λ b. if b then Some n else place_from (suc n) ms t) here ∙ ap (λ (v : ℕ). Some v) (omega arith), ap (λ b. items_of (if b then Some m else model_named ms t)) (sym here), omega arith))
    (λ not_here. ⊎_elim
    (λ none. inl (ap (λ b. if b then Some n else place_from (suc n) ms t) not_here ∙ none.0, ap (λ b. items_of (if b then Some m else model_named ms t)) not_here ∙ none.1))
    (λ r. inr (suc r.0, ap (λ b. if b then Some n else place_from (suc n) ms t) not_here ∙ r.1 ∙ ap (λ (v : ℕ). Some v) (omega arith), r.2 ∙ ap (λ b. items_of (if b then Some m else model_named ms t)) (sym not_here), omega (arith, r.3)))
    (standing_from (suc n) ms t))
    (cases_Bool (is_name t m.name))

pub standing : (models : List Design) (t : List ℕ) → ((place_of models t ≡ None) × (items_named models t ≡ [])) ⊎ ((k : ℕ) × Standing models t k)
standing models t = ⊎_elim
    (λ none. inl none)
    (λ r. inr (r.0, record { place = r.1 ∙ ap (λ (v : ℕ). Some v) (omega arith); items = r.2; within = r.3 }))
    (standing_from 0 models t)

-- ---- ways

pub way_more : (models : List Design) (i : ℕ) (ks : List ℕ) (j l : ℕ) → Way models i ks j → Places models j l → Way models i (ks ++ l ∷ []) l
way_more models i [] j l w p = (subst (λ v. Places models v l) (sym w) p, refl)
way_more models i (k ∷ ks) j l w p = (w.0, way_more models k ks j l w.1 p)

pub reach_more : (models : List Design) (i j l : ℕ) → Reaches models i j → Places models j l → Reaches models i l
reach_more models i j l r p = (r.0 ++ l ∷ [], way_more models i r.0 j l r.1 p)

-- ---- trees where no placing leads back

-- items have a tree where each model that they place has one
pub items_tree : (models : List Design) (is : List Item) → ((k : ℕ) → In (targets_in models is) k → k < length models → (t : Tree) × Unfolds models (items_at models k) t) → (t : Tree) × Unfolds models is t
items_tree models [] step = (Done, tt)
items_tree models (Cover q ∷ is) step = let r = items_tree models is step in (Gives q r.0, (refl, r.1))
items_tree models (Place p ∷ is) step =
    let r : (t : Tree) × Unfolds models is t = items_tree models is (λ k i. step k (behind (place_of models p.model) k i)) in
    ⊎_elim
    (λ none. (Holds p Done r.0, (refl, subst (λ v. Unfolds models v Done) (sym none.1) tt, r.1)))
    (λ s. let inner = step s.0 (subst (λ o. In (onto o (targets_in models is)) s.0) (sym s.1.place) (inl refl)) s.1.within in
    (Holds p inner.0 r.0, (refl, subst (λ v. Unfolds models v inner.0) s.1.items inner.1, r.1)))
    (standing models p.model)
  where
    behind : (o : Option ℕ) (k : ℕ) → In (targets_in models is) k → In (onto o (targets_in models is)) k
    behind None k i = i
    behind (Some l) k i = inr i

build : (models : List Design) (free : IsFree models) (n : ℕ) (path rest : List ℕ) (i : ℕ) → length rest ≤ n → IsReached models i
    → ((y : ℕ) → y < length models → In path y ⊎ In rest y) → ((y : ℕ) → In path y → Reaches models y i) → (t : Tree) × Unfolds models (items_at models i) t
build models free zero path rest i few reached covers leads = items_tree models (items_at models i) (λ k at within.
    ⊎_elim
    (λ p. absurd (free.no_way i k reached (has_nat (targets models i) k at) (leads k p)))
    (λ r. let w = without rest k r in absurd (omega (arith, w.shorter)))
    (covers k within))
build models free (suc n) path rest i few reached covers leads = items_tree models (items_at models i) (λ k at within.
    let places : Places models i k = has_nat (targets models i) k at in
    ⊎_elim
    (λ p. absurd (free.no_way i k reached places (leads k p)))
    (λ r. let w = without rest k r in
    build models free n (k ∷ path) w.rest k (omega (arith, w.shorter)) (reach_more models 0 i k reached places)
    (λ y j. ⊎_elim (λ p. inl (inr p)) (λ q. ⊎_elim (λ same. inl (inl same)) (λ l. inr l) (w.others y q)) (covers y j))
    (λ y j. ⊎_elim (λ same. ([], sym same)) (λ p. reach_more models y i k (leads y p) places) j))
    (covers k within))

-- the numbers below n
below : ℕ → List ℕ
below zero = []
below (suc n) = n ∷ below n

in_below : (n y : ℕ) → y < n → In (below n) y
unfolding below
in_below zero y h = absurd (omega (arith, h))
in_below (suc n) y h = ⊎_elim (λ lt. inr (in_below n y lt)) (λ ge. inl (omega arith)) (cases_lt y n)

pub free_tree : (models : List Design) (i : ℕ) → IsFree models → IsReached models i → (t : Tree) × Unfolds models (items_at models i) t
free_tree models i free reached = build models free (length (below (length models))) [] (below (length models)) i (omega arith) reached
    (λ y h. inr (in_below (length models) y h)) (λ y j. absurd j)

-- ---- what has a tree has no placing that leads back

abbrev pub size : Tree → ℕ
size Done = 0
size (Gives q r) = 1 + size r
size (Holds p i r) = 1 + size i + size r

-- a model that items with a tree place has a smaller one
pub record Smaller (models : List Design) (k n : ℕ) : Type 0 where
  pub tree : Tree
  pub unfolds : Unfolds models (items_at models k) tree
  pub less : size tree < n

smaller : (models : List Design) (is : List Item) (t : Tree) → Unfolds models is t → (k : ℕ) → In (targets_in models is) k → Smaller models k (size t)
smaller models [] t u k i = absurd i
smaller models (Cover q ∷ is) Done u k i = absurd u
smaller models (Cover q ∷ is) (Gives r rest) u k i = let s = smaller models is rest u.1 k i in record { tree = s.tree; unfolds = s.unfolds; less = omega (arith, s.less) }
smaller models (Cover q ∷ is) (Holds p inner rest) u k i = absurd u
smaller models (Place p ∷ is) Done u k i = absurd u
smaller models (Place p ∷ is) (Gives r rest) u k i = absurd u
smaller models (Place p ∷ is) (Holds r inner rest) u k i =
    let later = λ (j : In (targets_in models is) k). let s = smaller models is rest u.2 k j in wider s (size inner) in
    ⊎_elim
    (λ none. later (subst (λ o. In (onto o (targets_in models is)) k) none.0 i))
    (λ s. ⊎_elim
    (λ same. record { tree = inner; unfolds = subst (λ v. Unfolds models v inner) (sym s.1.items ∙ ap (items_at models) same) u.1; less = omega arith })
    later
    (subst (λ o. In (onto o (targets_in models is)) k) s.1.place i))
    (standing models p.model)
  where
    wider : Smaller models k (size rest) → (n : ℕ) → Smaller models k (1 + n + size rest)
    wider s n = record { tree = s.tree; unfolds = s.unfolds; less = omega (arith, s.less) }

along : (models : List Design) (i : ℕ) (ks : List ℕ) (j : ℕ) (t : Tree) → Way models i ks j → Unfolds models (items_at models i) t → Smaller models j (size t + 1)
along models i [] j t w u = record { tree = t; unfolds = subst (λ v. Unfolds models (items_at models v) t) w u; less = omega arith }
along models i (k ∷ ks) j t w u =
    let s = smaller models (items_at models i) t u k (in_nat (targets models i) k w.0) in
    let r = along models k ks j s.tree w.1 s.unfolds in
    record { tree = r.tree; unfolds = r.unfolds; less = omega (arith, s.less, r.less) }

pub tree_free : (models : List Design) (t : Tree) → Unfolds models (items_at models 0) t → IsFree models
tree_free models t u = record {
  no_way = λ i j reached places back.
      let a = along models 0 reached.0 i t reached.1 u in
      let b = smaller models (items_at models i) a.tree a.unfolds j (in_nat (targets models i) j places) in
      let c = along models j back.0 i b.tree back.1 b.unfolds in
      let same : a.tree ≡ c.tree = one_tree models (items_at models i) a.tree c.tree a.unfolds c.unfolds in
      omega (arith, b.less, c.less, ap size same);
}
