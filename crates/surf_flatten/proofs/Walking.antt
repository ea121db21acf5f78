-- A search that leaves each model after those that it places.
use Rattle.std.proofs.Common.{ℕ, ◌≡◌, ◌≢◌, ◌+◌, ◌-◌, ◌<◌, ◌≤◌, ◌⊎◌, inl, inr, true, false, List, [], ◌∷◌, ◌++◌, length, refl, sym, ◌∙◌, ap, subst, ⊎_elim, arith, zero, suc, Option, Some, None, nat_eq, get_or, get_or-set_same, get_or-set_other, take, reverse, replicate, if◌then◌else◌}
use Rattle.std.proofs.Math.ListN.{set, length-set}
use Rattle.std.proofs.lemmas.Bool.{cases_Bool, both_ways, eqb-true, eq-eqb}
use Rattle.std.proofs.lemmas.List.{take_more, take_all, reverse-append, length-replicate}
use Rattle.surf_logic.specs.Order.{has, first_twice}
use Rattle.surf_logic.proofs.Has.{In, in_append, in_left, in_right}
use Rattle.surf_flatten.specs.declared.models.Item.{Item}
use Rattle.surf_flatten.specs.declared.models.Item.TheVariants.{Cover, Place}
use Rattle.surf_flatten.specs.Designs.{Design}
use Rattle.surf_flatten.specs.Reaching.{place_of, onto, targets_in, items_at, targets, Places, IsReached}
use Rattle.surf_flatten.specs.Laws.{AreLeft, IsChain, PlaceWithin}
use Rattle.surf_flatten.specs.Tables.{Finds, AreWithin, place_in}
use Rattle.surf_flatten.specs.declared.places.Places.{Places as Table}
use Rattle.surf_flatten.specs.Searches.{HasLeft, target_by}
use Rattle.surf_flatten.proofs.Unfolding.{has_nat, in_nat, reach_more, standing}
use Rattle.surf_flatten.proofs.Leaving.{hasnt_nat, leaving_keeps}
use Rattle.surf_flatten.proofs.Parting.{search_ends}

-- the search has come to the model
abbrev pub Met : List ℕ → List ℕ → ℕ → Type 0
Met left path i = In left i ⊎ In path i

-- no number stands twice
abbrev pub Once : List ℕ → Type 0
Once [] = Unit {0}
Once (x ∷ xs) = (In xs x → ⊥) × Once xs

-- the way and the models that were left, the last first, and beside each model 1 more than how many of its items were looked at
pub record Walking (models : List Design) (progress path left : List ℕ) : Type 0 where
  pub same : length progress ≡ length models
  pub inside : (i : ℕ) → Met left path i → i < length models
  pub on : (i : ℕ) → In path i → (0 < get_or progress i 0) × (get_or progress i 0 ≤ suc (length (items_at models i)))
  pub off : (i : ℕ) → In left i → get_or progress i 0 ≡ suc (suc (length (items_at models i)))
  pub seen : (i : ℕ) → 0 < get_or progress i 0 → Met left path i
  pub looked : (i j : ℕ) → In path i → In (targets_in models (take (get_or progress i 0 - 1) (items_at models i))) j → Met left path j
  pub within : (i j : ℕ) → In left i → In (targets models i) j → Met left path j
  pub chain : IsChain models path
  pub behind : AreLeft models left
  pub apart : Once path
  pub once : Once left
  pub reached : (i : ℕ) → Met left path i → IsReached models i
  pub main : Met left path 0

pub decide : (i u : ℕ) → (i ≡ u) ⊎ (i ≢ u)
decide i u = ⊎_elim (λ t. inl (eqb-true i u t)) (λ f. inr (λ e. both_ways _ f (eq-eqb i u e))) (cases_Bool (nat_eq i u))

met_in : (left path : List ℕ) (i : ℕ) → Met left path i → In (left ++ path) i
met_in left path i m = ⊎_elim (λ l. in_left left path i l) (λ q. in_right left path i q) m

chain_tail : (models : List Design) (u : ℕ) (below : List ℕ) → IsChain models (u ∷ below) → IsChain models below
chain_tail models u [] c = tt
chain_tail models u (v ∷ vs) c = c.1

-- ---- leaving

leave : (models : List Design) (progress : List ℕ) (u : ℕ) (below left : List ℕ) → Walking models progress (u ∷ below) left → length (items_at models u) < get_or progress u 0
    → Walking models (set progress u (get_or progress u 0 + 1)) below (u ∷ left)
leave models progress u below left w past =
    let p = get_or progress u 0 in
    let lt : u < length progress = omega (arith, w.inside u (inr (inl refl)), w.same) in
    let here : p ≡ suc (length (items_at models u)) = omega (arith, (w.on u (inl refl)).1) in
    let now : get_or (set progress u (p + 1)) u 0 ≡ p + 1 = get_or-set_same progress u (p + 1) 0 lt in
    let kept : (i : ℕ) → i ≢ u → get_or (set progress u (p + 1)) i 0 ≡ get_or progress i 0 = λ i ne. get_or-set_other progress u i (p + 1) 0 ne in
    let not_left : (i : ℕ) → In left i → i ≢ u = λ i j e. let o : p ≡ suc (suc (length (items_at models u))) = subst (λ v. get_or progress v 0 ≡ suc (suc (length (items_at models v)))) e (w.off i j) in omega (arith, here, o) in
    let not_below : (i : ℕ) → In below i → i ≢ u = λ i j e. w.apart.0 (subst (In below) e j) in
    let moved : (i : ℕ) → Met left (u ∷ below) i → Met (u ∷ left) below i = λ i m. ⊎_elim (λ l. inl (inr l)) (λ q. ⊎_elim (λ e. inl (inl e)) (λ b. inr b) q) m in
    let back : (i : ℕ) → Met (u ∷ left) below i → Met left (u ∷ below) i = λ i m. ⊎_elim (λ l. ⊎_elim (λ e. inr (inl e)) (λ a. inl a) l) (λ b. inr (inr b)) m in
    let all : (j : ℕ) → In (targets models u) j → Met left (u ∷ below) j = λ j a. w.looked u j (inl refl) (subst (λ v. In (targets_in models v) j) (sym (take_all (p - 1) (items_at models u) (omega (arith, here)))) a) in
    let within : (i j : ℕ) → In (u ∷ left) i → In (targets models i) j → Met left (u ∷ below) j = λ i j a b. ⊎_elim (λ e. all j (subst (λ v. In (targets models v) j) (sym e) b)) (λ l. w.within i j l b) a in
    record {
      same = length-set progress u (p + 1) ∙ w.same;
      inside = λ i m. w.inside i (back i m);
      on = λ i j. let e = kept i (not_below i j) in let o = w.on i (inr j) in (omega (arith, e, o.0), omega (arith, e, o.1));
      off = λ i j. ⊎_elim
          (λ e. subst (λ v. get_or (set progress u (p + 1)) v 0 ≡ suc (suc (length (items_at models v)))) e (now ∙ omega (arith, here)))
          (λ l. kept i (not_left i l) ∙ w.off i l)
          j;
      seen = λ i h. ⊎_elim
          (λ e. inl (inl (sym e)))
          (λ ne. moved i (w.seen i (omega (arith, kept i ne, h))))
          (decide i u);
      looked = λ i j a b. moved j (w.looked i j (inr a) (subst (λ v. In (targets_in models (take (v - 1) (items_at models i))) j) (kept i (not_below i a)) b));
      within = λ i j a b. moved j (within i j a b);
      chain = chain_tail models u below w.chain;
      behind = leaving_keeps models u below left w.chain (record { each = λ i j a b. has_nat (left ++ u ∷ below) j (met_in left (u ∷ below) j (within i j (in_nat (u ∷ left) i a) (in_nat (targets models i) j b))) }) w.behind;
      apart = w.apart.1;
      once = (λ l. not_left u l refl, w.once);
      reached = λ i m. w.reached i (back i m);
      main = moved 0 w.main;
    }

-- ---- looking at an item

in_onto : (o : Option ℕ) (j : ℕ) → In (onto o []) j → o ≡ Some j
in_onto None j a = absurd a
in_onto (Some k) j a = ⊎_elim (λ e. ap (λ (v : ℕ). Some v) e) (λ n. absurd n) a

targets_put : (models : List Design) (is : List Item) (i : Item) → targets_in models (is ++ i ∷ []) ≡ targets_in models is ++ onto (target_by (place_of models) i) []
targets_put models [] (Cover q) = refl
targets_put models [] (Place p) = refl
targets_put models (Cover q ∷ is) i = targets_put models is i
targets_put models (Place p ∷ is) i = by (place_of models p.model) (targets_put models is i)
  where
    by : (o : Option ℕ) → targets_in models (is ++ i ∷ []) ≡ targets_in models is ++ onto (target_by (place_of models) i) []
        → onto o (targets_in models (is ++ i ∷ [])) ≡ onto o (targets_in models is) ++ onto (target_by (place_of models) i) []
    by None e = e
    by (Some k) e = ap (λ v. k ∷ v) e

-- what an item places is among the targets
target_among : (models : List Design) (is : List Item) (k : ℕ) (i : Item) (j : ℕ) → k < length is → i ≡ get_or is k i → target_by (place_of models) i ≡ Some j → In (targets_in models is) j
target_among models [] k i j lt is_ t = absurd (omega (arith, lt))
target_among models (Cover q ∷ is) zero i j lt e t = let bad : None ≡ Some j = sym (ap (target_by (place_of models)) e) ∙ t in cc
target_among models (Place p ∷ is) zero i j lt e t = subst (λ o. In (onto o (targets_in models is)) j) (sym (sym (ap (target_by (place_of models)) e) ∙ t)) (inl refl)
target_among models (Cover q ∷ is) (suc k) i j lt e t = target_among models is k i j (omega (arith, lt)) e t
target_among models (Place p ∷ is) (suc k) i j lt e t = behind (place_of models p.model) (target_among models is k i j (omega (arith, lt)) e t)
  where
    behind : (o : Option ℕ) → In (targets_in models is) j → In (onto o (targets_in models is)) j
    behind None a = a
    behind (Some l) a = inr a

bump : (models : List Design) (progress : List ℕ) (u : ℕ) (below left : List ℕ) (it : Item) → Walking models progress (u ∷ below) left → get_or progress u 0 ≤ length (items_at models u)
    → it ≡ get_or (items_at models u) (get_or progress u 0 - 1) it → ((j : ℕ) → target_by (place_of models) it ≡ Some j → 0 < get_or progress j 0)
    → Walking models (set progress u (get_or progress u 0 + 1)) (u ∷ below) left
bump models progress u below left it w more is known =
    let p = get_or progress u 0 in
    let items = items_at models u in
    let lt : u < length progress = omega (arith, w.inside u (inr (inl refl)), w.same) in
    let some : 0 < p = (w.on u (inl refl)).0 in
    let now : get_or (set progress u (p + 1)) u 0 ≡ p + 1 = get_or-set_same progress u (p + 1) 0 lt in
    let kept : (i : ℕ) → i ≢ u → get_or (set progress u (p + 1)) i 0 ≡ get_or progress i 0 = λ i ne. get_or-set_other progress u i (p + 1) 0 ne in
    let not_left : (i : ℕ) → In left i → i ≢ u = λ i j e. let o : p ≡ suc (suc (length items)) = subst (λ v. get_or progress v 0 ≡ suc (suc (length (items_at models v)))) e (w.off i j) in omega (arith, o) in
    let next : p ≡ (p - 1) + 1 = omega arith in
    let one : take p items ≡ take (p - 1) items ++ it ∷ [] =
    ap (λ (k : ℕ). take k items) next ∙ take_more items (p - 1) it (omega arith) ∙ ap (λ v. take (p - 1) items ++ v ∷ []) (sym is) in
    let all : (j : ℕ) → In (targets_in models (take p items)) j → Met left (u ∷ below) j = λ j a. ⊎_elim
    (λ b. w.looked u j (inl refl) b)
    (λ b. w.seen j (known j (in_onto (target_by (place_of models) it) j b)))
    (in_append (targets_in models (take (p - 1) items)) (onto (target_by (place_of models) it) []) j
    (subst (λ v. In v j) (ap (targets_in models) one ∙ targets_put models (take (p - 1) items) it) a)) in
    record {
      same = length-set progress u (p + 1) ∙ w.same;
      inside = w.inside;
      on = λ i j. ⊎_elim
          (λ e. subst (λ v. (0 < get_or (set progress u (p + 1)) v 0) × (get_or (set progress u (p + 1)) v 0 ≤ suc (length (items_at models v)))) (sym e) (omega (arith, now), omega (arith, now)))
          (λ ne. let e = kept i ne in let o = w.on i j in (omega (arith, e, o.0), omega (arith, e, o.1)))
          (decide i u);
      off = λ i j. kept i (not_left i j) ∙ w.off i j;
      seen = λ i h. ⊎_elim (λ e. inr (inl (sym e))) (λ ne. w.seen i (omega (arith, kept i ne, h))) (decide i u);
      looked = λ i j a b. ⊎_elim
          (λ e. let all_but : get_or (set progress u (p + 1)) u 0 - 1 ≡ p = omega (arith, now) in
          all j (subst (λ v. In (targets_in models (take v items)) j) all_but (subst (λ v. In (targets_in models (take (get_or (set progress u (p + 1)) v 0 - 1) (items_at models v))) j) e b)))
          (λ ne. w.looked i j a (subst (λ v. In (targets_in models (take (v - 1) (items_at models i))) j) (kept i ne) b))
          (decide i u);
      within = w.within;
      chain = w.chain;
      behind = w.behind;
      apart = w.apart;
      once = w.once;
      reached = w.reached;
      main = w.main;
    }

-- ---- coming to a model

enter : (models : List Design) (progress : List ℕ) (u : ℕ) (below left : List ℕ) (j : ℕ) → Walking models progress (u ∷ below) left → In (targets models u) j → j < length models → get_or progress j 0 ≡ 0
    → Walking models (set progress j 1) (j ∷ u ∷ below) left
enter models progress u below left j w place inside none =
    let lt : j < length progress = omega (arith, w.same) in
    let now : get_or (set progress j 1) j 0 ≡ 1 = get_or-set_same progress j 1 0 lt in
    let kept : (i : ℕ) → i ≢ j → get_or (set progress j 1) i 0 ≡ get_or progress i 0 = λ i ne. get_or-set_other progress j i 1 0 ne in
    let off : (i : ℕ) → In left i → i ≢ j = λ i l e. let o = subst (λ v. get_or progress v 0 ≡ suc (suc (length (items_at models v)))) e (w.off i l) in omega (arith, o) in
    let on : (i : ℕ) → In (u ∷ below) i → i ≢ j = λ i q e. let o = subst (λ v. 0 < get_or progress v 0) e (w.on i q).0 in omega (arith, o) in
    let places : Places models u j = has_nat (targets models u) j place in
    let more : (i : ℕ) → Met left (u ∷ below) i → Met left (j ∷ u ∷ below) i = λ i m. ⊎_elim (λ l. inl l) (λ q. inr (inr q)) m in
    record {
      same = length-set progress j 1 ∙ w.same;
      inside = λ i m. ⊎_elim (λ l. w.inside i (inl l)) (λ q. ⊎_elim (λ e. subst (λ v. v < length models) e inside) (λ b. w.inside i (inr b)) q) m;
      on = λ i q. ⊎_elim
          (λ e. subst (λ v. (0 < get_or (set progress j 1) v 0) × (get_or (set progress j 1) v 0 ≤ suc (length (items_at models v)))) e (omega (arith, now), omega (arith, now)))
          (λ b. let e = kept i (on i b) in let o = w.on i b in (omega (arith, e, o.0), omega (arith, e, o.1)))
          q;
      off = λ i l. kept i (off i l) ∙ w.off i l;
      seen = λ i h. ⊎_elim (λ e. inr (inl (sym e))) (λ ne. more i (w.seen i (omega (arith, kept i ne, h)))) (decide i j);
      looked = λ i x q a. ⊎_elim
          (λ e. let first : get_or (set progress j 1) i 0 ≡ 1 = ap (λ v. get_or (set progress j 1) v 0) (sym e) ∙ now in
          let none : get_or (set progress j 1) i 0 - 1 ≡ 0 = omega (arith, first) in
          absurd (subst (λ v. In (targets_in models (take v (items_at models i))) x) none a))
          (λ b. more x (w.looked i x b (subst (λ v. In (targets_in models (take (v - 1) (items_at models i))) x) (kept i (on i b)) a)))
          q;
      within = λ i x l a. more x (w.within i x l a);
      chain = (places, w.chain);
      behind = w.behind;
      apart = (λ q. on j q refl, w.apart);
      once = w.once;
      reached = λ i m. ⊎_elim
          (λ l. w.reached i (inl l))
          (λ q. ⊎_elim (λ e. subst (IsReached models) e (reach_more models 0 u j (w.reached u (inr (inl refl))) places)) (λ b. w.reached i (inr b)) q)
          m;
      main = more 0 w.main;
    }

-- ---- the search with its lists as they grow

rev_put : (xs : List ℕ) (x : ℕ) → reverse (xs ++ x ∷ []) ≡ x ∷ reverse xs
rev_put xs x = reverse-append xs (x ∷ [])

pub popped : (models : List Design) (progress path rest left : List ℕ) (u : ℕ) → Walking models progress (reverse path) left → path ≡ rest ++ u ∷ [] → Walking models progress (u ∷ reverse rest) left
popped models progress path rest left u w e = subst (λ v. Walking models progress v left) (ap reverse e ∙ rev_put rest u) w

pub step_leave : (models : List Design) (progress rest left more : List ℕ) (u seen : ℕ) → Walking models progress (u ∷ reverse rest) (reverse left) → seen ≡ get_or progress u 0 → length (items_at models u) < seen
    → more ≡ left ++ u ∷ [] → Walking models (set progress u (seen + 1)) (reverse rest) (reverse more)
step_leave models progress rest left more u seen w is past e =
    subst (λ v. Walking models (set progress u (v + 1)) (reverse rest) (reverse more)) (sym is)
    (subst (λ v. Walking models (set progress u (get_or progress u 0 + 1)) (reverse rest) v) (sym (ap reverse e ∙ rev_put left u))
    (leave models progress u (reverse rest) (reverse left) w (omega (arith, is))))

pub step_bump : (models : List Design) (progress rest path left : List ℕ) (u seen : ℕ) (it : Item) → Walking models progress (u ∷ reverse rest) left → seen ≡ get_or progress u 0 → seen ≤ length (items_at models u)
    → it ≡ get_or (items_at models u) (seen - 1) it → ((j : ℕ) → target_by (place_of models) it ≡ Some j → 0 < get_or progress j 0) → path ≡ rest ++ u ∷ []
    → Walking models (set progress u (seen + 1)) (reverse path) left
step_bump models progress rest path left u seen it w is more at known e =
    subst (λ v. Walking models (set progress u (v + 1)) (reverse path) left) (sym is)
    (subst (λ v. Walking models (set progress u (get_or progress u 0 + 1)) v left) (sym (ap reverse e ∙ rev_put rest u))
    (bump models progress u (reverse rest) left it w (omega (arith, is)) (subst (λ v. it ≡ get_or (items_at models u) (v - 1) it) is at) known))

pub place_inside : (models : List Design) (t : List ℕ) (k : ℕ) → place_of models t ≡ Some k → k < length models
place_inside models t k e = ⊎_elim
    (λ none. let bad : None ≡ Some k = sym none.0 ∙ e in cc)
    (λ s. let same : Some s.0 ≡ Some k = sym s.1.place ∙ e in let at : s.0 ≡ k = cc in omega (arith, s.1.within, at))
    (standing models t)

pub target_inside : (models : List Design) (it : Item) (j : ℕ) → target_by (place_of models) it ≡ Some j → j < length models
target_inside models (Cover q) j e = let bad : None ≡ Some j = e in cc
target_inside models (Place p) j e = place_inside models p.model j e

pub step_enter : (models : List Design) (progress rest path more left : List ℕ) (u seen j : ℕ) (it : Item) → Walking models progress (u ∷ reverse rest) left → seen ≡ get_or progress u 0 → seen ≤ length (items_at models u)
    → it ≡ get_or (items_at models u) (seen - 1) it → target_by (place_of models) it ≡ Some j → get_or progress j 0 ≡ 0 → path ≡ rest ++ u ∷ [] → more ≡ path ++ j ∷ []
    → Walking models (set progress j 1) (reverse more) left
step_enter models progress rest path more left u seen j it w is fits at target none e f =
    let some = (w.on u (inl refl)).0 in
    subst (λ v. Walking models (set progress j 1) v left) (sym (ap reverse f ∙ rev_put path j ∙ ap (λ v. j ∷ reverse v) e ∙ ap (λ v. j ∷ v) (rev_put rest u)))
    (enter models progress u (reverse rest) left j w (target_among models (items_at models u) (seen - 1) it j (omega (arith, is, some)) at target) (target_inside models it j target) none)

-- ---- beginning and end

pub zeros : (n i z : ℕ) → get_or (replicate n z) i z ≡ z
zeros zero i z = refl
zeros (suc n) zero z = refl
zeros (suc n) (suc i) z = zeros n i z

pub start : (models : List Design) → 0 < length models → Walking models (set (replicate (length models) 0) 0 1) (0 ∷ []) []
start models some =
    let zs : List ℕ = replicate (length models) 0 in
    let long : length zs ≡ length models = length-replicate {A = ℕ} (length models) 0 in
    let lt : 0 < length zs = omega (arith, long) in
    let now : get_or (set zs 0 1) 0 0 ≡ 1 = get_or-set_same zs 0 1 0 lt in
    let only : (i : ℕ) → Met [] (0 ∷ []) i → 0 ≡ i = λ i m. ⊎_elim (λ l. absurd l) (λ q. ⊎_elim (λ e. e) (λ n. absurd n) q) m in
    record {
      same = length-set zs 0 1 ∙ long;
      inside = λ i m. omega (arith, only i m);
      on = λ i q. subst (λ v. (0 < get_or (set zs 0 1) v 0) × (get_or (set zs 0 1) v 0 ≤ suc (length (items_at models v)))) (only i (inr q)) (omega (arith, now), omega (arith, now));
      off = λ i l. absurd l;
      seen = λ i h. ⊎_elim
          (λ e. inr (inl (sym e)))
          (λ ne. absurd (omega (arith, get_or-set_other zs 0 i 1 0 ne, zeros (length models) i 0, h)))
          (decide i 0);
      looked = λ i x q a.
          let first : get_or (set zs 0 1) i 0 ≡ 1 = ap (λ v. get_or (set zs 0 1) v 0) (sym (only i (inr q))) ∙ now in
          let none : get_or (set zs 0 1) i 0 - 1 ≡ 0 = omega (arith, first) in
          absurd (subst (λ v. In (targets_in models (take v (items_at models i))) x) none a);
      within = λ i j l a. absurd l;
      chain = tt;
      behind = tt;
      apart = (λ n. n, tt);
      once = tt;
      reached = λ i m. ([], only i m);
      main = inr (inl refl);
    }

once_first : (above xs : List ℕ) → Once xs → ((x : ℕ) → In above x → In xs x → ⊥) → first_twice nat_eq above xs ≡ None
once_first above [] o apart = refl
once_first above (x ∷ xs) o apart =
    ap (λ b. if b then Some x else first_twice nat_eq (x ∷ above) xs) (hasnt_nat above x (λ i. apart x i (inl refl)))
    ∙ once_first (x ∷ above) xs o.1 (λ y i j. ⊎_elim (λ e. o.0 (subst (In xs) (sym e) j)) (λ a. apart y a (inr j)) i)

pub finish : (models : List Design) (progress left : List ℕ) → Walking models progress [] left → HasLeft models left
finish models progress left w =
    let met : (i : ℕ) → Met left [] i → In left i = λ i m. ⊎_elim (λ l. l) (λ n. absurd n) m in
    record {
      left = w.behind;
      once = once_first [] left w.once (λ x i j. i);
      all = λ i r. search_ends models left i (record { each = λ a b h p. has_nat left b (met b (w.within a b (in_nat left a h) (in_nat (targets models a) b p))) }) (has_nat left 0 (met 0 w.main)) r;
      reached = λ i h. w.reached i (inl (in_nat left i h));
      within = λ i h. w.inside i (inl (in_nat left i h));
    }

-- ---- how much is left to look at

abbrev pub remaining : List Design → List ℕ → ℕ
remaining [] ps = 0
remaining (m ∷ ms) [] = 0
remaining (m ∷ ms) (p ∷ ps) = (suc (suc (length m.items)) - p) + remaining ms ps

pub remaining_less : (ms : List Design) (ps : List ℕ) (i v : ℕ) → length ps ≡ length ms → i < length ms → v ≡ suc (get_or ps i 0) → get_or ps i 0 ≤ suc (length (items_at ms i)) → remaining ms (set ps i v) < remaining ms ps
remaining_less [] ps i v same lt is few = absurd (omega (arith, lt))
remaining_less (m ∷ ms) [] i v same lt is few = absurd (omega (arith, same))
remaining_less (m ∷ ms) (p ∷ ps) zero v same lt is few = omega arith
remaining_less (m ∷ ms) (p ∷ ps) (suc i) v same lt is few = omega (arith, remaining_less ms ps i v (omega (arith, same)) (omega (arith, lt)) is few)

-- the items of a model that was read at a place
pub items_is : (models : List Design) (i : ℕ) (m : Design) → i < length models → m ≡ get_or models i m → m.items ≡ items_at models i
items_is [] i m lt e = absurd (omega (arith, lt))
items_is (n ∷ ns) zero m lt e = ap (λ (v : Design). v.items) e
items_is (n ∷ ns) (suc i) m lt e = items_is ns i m (omega (arith, lt)) e

-- ---- by the table of the models

pub target_same : (models : List Design) (library : Table) (it : Item) → Finds models library → target_by (place_in library) it ≡ target_by (place_of models) it
target_same models library (Cover q) f = refl
target_same models library (Place p) f = f.is p.model

pub all_within : (models : List Design) (library : Table) (n : ℕ) → Finds models library → n ≡ length models → AreWithin n library
all_within models library n f e = record { each = λ t k at. omega (arith, e, place_inside models t k (sym (f.is t) ∙ at)) }
