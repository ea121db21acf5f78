-- What a search finds: models in an order in which each stands behind those that it places, or parts of models that reach each other.
use Rattle.std.proofs.Common.{ℕ, ◌≡◌, ◌≢◌, ◌+◌, ◌<◌, ◌≤◌, ◌↔◌, inl, inr, true, false, List, [], ◌∷◌, length, refl, sym, ◌∙◌, ap, subst, ⊎_elim, arith, zero, suc, Option, Some, None, nat_eq, get_or, get_or-set_same, get_or-set_other}
use Rattle.std.proofs.Math.ListN.{set}
use Rattle.std.proofs.lemmas.Bool.{cases_Bool, eqb-true, eq-eqb}
use Rattle.surf_logic.specs.Equations.{capped}
use Rattle.surf_logic.specs.Order.{has}
use Rattle.surf_logic.proofs.Has.{In, in_append, in_left, in_right}
use Rattle.surf_flatten.specs.declared.models.Item.{Item}
use Rattle.surf_flatten.specs.declared.models.Item.TheVariants.{Cover, Place}
use Rattle.surf_flatten.specs.Designs.{Design, Tree, Unfolds}
use Rattle.surf_flatten.specs.Substituted.{work}
use Rattle.surf_flatten.specs.Reaching.{place_of, onto, targets_in, items_at, targets, Places, Way, Reaches, IsReached, IsFree}
use Rattle.surf_flatten.specs.Faults.{Spot, spots_in, spots_from, spots, IsNone, IsRecursive}
use Rattle.surf_flatten.specs.Laws.{Settled, HasWorks, ArePlacedIn, work_by, AreComponents}
use Rattle.surf_flatten.proofs.Unfolding.{has_nat, in_nat, items_tree, tree_free, reach_more}
use Rattle.surf_flatten.proofs.Working.{tables_give}

-- ---- settled models

pub settled_tree : (models : List Design) (done : List ℕ) (i : ℕ) → Settled models done → In done i → (t : Tree) × Unfolds models (items_at models i) t
settled_tree models [] i s j = absurd j
settled_tree models (d ∷ done) i s j = ⊎_elim
    (λ same. subst (λ v. (t : Tree) × Unfolds models (items_at models v) t) same
    (items_tree models (items_at models d) (λ k at within. settled_tree models done k s.1 (in_nat done k (s.0.each k (has_nat (targets models d) k at))))))
    (λ later. settled_tree models done i s.1 later)
    j

pub settled_unfold : (models : List Design) (done : List ℕ) (i : ℕ) → Settled models done → has nat_eq done i ≡ true → (t : Tree) × Unfolds models (items_at models i) t
settled_unfold models done i s h = settled_tree models done i s (in_nat done i h)

pub settled_free : (models : List Design) (done : List ℕ) → Settled models done → has nat_eq done 0 ≡ true → IsFree models
settled_free models done s h = let r = settled_unfold models done 0 s h in tree_free models r.0 r.1

pub table_grows : (models : List Design) (table done : List ℕ) (i : ℕ) → HasWorks models table done → ArePlacedIn models (items_at models i) done → i < length table
    → HasWorks models (set table i (work_by models table true (items_at models i))) (i ∷ done)
table_grows models table done i knows placed within = record {
  is = λ k t h u. ⊎_elim
      (λ same. subst (λ v. get_or (set table i (work_by models table true (items_at models i))) v 0 ≡ capped (work true t)) same
      (get_or-set_same table i (work_by models table true (items_at models i)) 0 within
      ∙ tables_give models table done true (items_at models i) t knows placed (subst (λ v. Unfolds models (items_at models v) t) (sym same) u)))
      (λ later. ⊎_elim
      (λ e. let same : k ≡ i = eqb-true k i e in
      ap (λ v. get_or (set table i (work_by models table true (items_at models i))) v 0) same
      ∙ get_or-set_same table i (work_by models table true (items_at models i)) 0 within
      ∙ tables_give models table done true (items_at models i) t knows placed (subst (λ v. Unfolds models (items_at models v) t) same u))
      (λ f. let other : k ≢ i = λ e. both k i f e in
      get_or-set_other table i k (work_by models table true (items_at models i)) 0 other ∙ knows.is k t (has_nat done k later) u)
      (cases_Bool (nat_eq k i)))
      (in_nat (i ∷ done) k h);
}
  where
    both : (k i : ℕ) → nat_eq k i ≡ false → k ≡ i → ⊥
    both k i f e = let t : nat_eq k i ≡ true = eq-eqb k i e in let bad : true ≡ false = sym t ∙ f in cc

-- ---- lines

none_all : {X : Type 0} (P : X → Type 0) (xs : List X) → ((x : X) → In xs x → P x → ⊥) → IsNone P xs
none_all P [] h = tt
none_all P (x ∷ xs) h = (h x (inl refl), none_all P xs (λ y i. h y (inr i)))

all_none : {X : Type 0} (P : X → Type 0) (xs : List X) → IsNone P xs → (x : X) → In xs x → P x → ⊥
all_none P [] n x i p = absurd i
all_none P (y ∷ ys) n x i p = ⊎_elim (λ same. n.0 (subst P (sym same) p)) (λ later. all_none P ys n.1 x later p) i

-- a placing that leads from i to j
pub record Leads (models : List Design) (spots : List Spot) (i j : ℕ) : Type 0 where
  pub spot : Spot
  pub among : In spots spot
  pub from : spot.place ≡ i
  pub to : place_of models spot.placing.model ≡ Some j

spot_in : (models : List Design) (i : ℕ) (is : List Item) (j : ℕ) → In (targets_in models is) j → Leads models (spots_in i is) i j
spot_in models i [] j at = absurd at
spot_in models i (Cover q ∷ is) j at = spot_in models i is j at
spot_in models i (Place p ∷ is) j at = by (spot_in models i is j) (place_of models p.model) refl at
  where
    on : Leads models (spots_in i is) i j → Leads models (spots_in i (Place p ∷ is)) i j
    on l = record { spot = l.spot; among = inr l.among; from = l.from; to = l.to }

    by : (In (targets_in models is) j → Leads models (spots_in i is) i j) → (o : Option ℕ) → place_of models p.model ≡ o → In (onto o (targets_in models is)) j → Leads models (spots_in i (Place p ∷ is)) i j
    by more None e at = on (more at)
    by more (Some k) e at = ⊎_elim
        (λ same. record { spot = record { place = i; placing = p }; among = inl refl; from = refl; to = e ∙ ap (λ (v : ℕ). Some v) same })
        (λ later. on (more later))
        at

spots_at : (n : ℕ) (ms : List Design) (k : ℕ) (s : Spot) → In (spots_in (n + k) (items_at ms k)) s → In (spots_from n ms) s
spots_at n [] k s i = absurd i
spots_at n (m ∷ ms) zero s i = in_left (spots_in n m.items) (spots_from (suc n) ms) s (subst (λ v. In (spots_in v m.items) s) (omega arith) i)
spots_at n (m ∷ ms) (suc k) s i = in_right (spots_in n m.items) (spots_from (suc n) ms) s (spots_at (suc n) ms k s (subst (λ v. In (spots_in v (items_at ms k)) s) (omega arith) i))

leads : (models : List Design) (i j : ℕ) → Places models i j → Leads models (spots models) i j
leads models i j p =
    let l = spot_in models i (items_at models i) j (in_nat (targets models i) j p) in
    record { spot = l.spot; among = spots_at 0 models i l.spot (subst (λ v. In (spots_in v (items_at models i)) l.spot) (omega arith) l.among); from = l.from; to = l.to }

pub free_is_none : (models : List Design) → IsNone (IsRecursive models) (spots models) → IsFree models
free_is_none models none = record {
  no_way = λ i j reached places back.
      let l = leads models i j places in
      all_none (IsRecursive models) (spots models) none l.spot l.among (subst (IsReached models) (sym l.from) reached, (j, l.to, subst (Reaches models j) (sym l.from) back));
}

spot_target : (models : List Design) (i : ℕ) (is : List Item) (s : Spot) → In (spots_in i is) s → (s.place ≡ i) × ((j : ℕ) → place_of models s.placing.model ≡ Some j → In (targets_in models is) j)
spot_target models i [] s at = absurd at
spot_target models i (Cover q ∷ is) s at = spot_target models i is s at
spot_target models i (Place p ∷ is) s at = ⊎_elim
    (λ same. (ap (λ v. v.place) (sym same), λ j e. subst (λ o. In (onto o (targets_in models is)) j) (sym (ap (λ (v : Spot). place_of models v.placing.model) same ∙ e)) (inl refl)))
    (λ later. let r = spot_target models i is s later in (r.0, λ j e. behind (place_of models p.model) j (r.1 j e)))
    at
  where
    behind : (o : Option ℕ) (k : ℕ) → In (targets_in models is) k → In (onto o (targets_in models is)) k
    behind None k i = i
    behind (Some l) k i = inr i

spots_back : (n : ℕ) (ms : List Design) (s : Spot) → In (spots_from n ms) s → (k : ℕ) × In (spots_in (n + k) (items_at ms k)) s
spots_back n [] s i = absurd i
spots_back n (m ∷ ms) s i = ⊎_elim
    (λ here. (zero, subst (λ v. In (spots_in v m.items) s) (omega arith) here))
    (λ later. let r = spots_back (suc n) ms s later in (suc r.0, subst (λ v. In (spots_in v (items_at ms r.0)) s) (omega arith) r.1))
    (in_append (spots_in n m.items) (spots_from (suc n) ms) s i)

-- the model of a line places the one that the line names
pub spot_places : (models : List Design) (s : Spot) (j : ℕ) → In (spots models) s → place_of models s.placing.model ≡ Some j → Places models s.place j
spot_places models s j i e =
    let b = spots_back 0 models s i in
    let t = spot_target models (0 + b.0) (items_at models b.0) s b.1 in
    let place : s.place ≡ b.0 = t.0 ∙ omega arith in
    has_nat (targets models s.place) j (subst (λ v. In (targets models v) j) (sym place) (t.1 j e))

pub none_is_free : (models : List Design) → IsFree models → IsNone (IsRecursive models) (spots models)
none_is_free models free =
    none_all (IsRecursive models) (spots models) (λ s i r. free.no_way s.place r.1.0 r.0 (spot_places models s r.1.0 i r.1.1) r.1.2)

-- ---- parts

never_down : (models : List Design) (part : ℕ → ℕ) (c : AreComponents models part) (i : ℕ) (ks : List ℕ) (j : ℕ) → IsReached models i → Way models i ks j → part i ≤ part j
never_down models part c i [] j r w = omega (arith, ap part w)
never_down models part c i (k ∷ ks) j r w = omega (arith, c.up i k r w.0, never_down models part c k ks j (reach_more models 0 i k r w.0) w.1)

pub components_tell : (models : List Design) (part : ℕ → ℕ) (i j : ℕ) → AreComponents models part → IsReached models i → Places models i j → Reaches models j i ↔ (part i ≡ part j)
components_tell models part i j c r p =
    let there : IsReached models j = reach_more models 0 i j r p in
    ((λ back. omega (arith, c.up i j r p, never_down models part c j back.0 i there back.1)), (λ same. c.joined j i there r (sym same)))
