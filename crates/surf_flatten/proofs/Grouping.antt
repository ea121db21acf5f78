-- Models that reach each other, as searches back find them.
use Rattle.std.proofs.Common.{ℕ, ◌≡◌, ◌≢◌, ◌+◌, ◌-◌, ◌<◌, ◌≤◌, ◌⊎◌, inl, inr, Bool, true, false, not, ◌||◌, ◌&&◌, if◌then◌else◌, List, [], ◌∷◌, ◌++◌, length, refl, sym, ◌∙◌, ap, subst, ⊎_elim, arith, zero, suc, Option, Some, None, nat_eq, get_or, get_or-set_same, get_or-set_other, take, drop, replicate}
use Rattle.std.proofs.Math.ListN.{set, length-set}
use Rattle.std.specs.List.{All}
use Rattle.std.proofs.lemmas.Bool.{cases_Bool, both_ways, and_parts, and_from, or_cases, eq-eqb}
use Rattle.std.proofs.lemmas.List.{take_more, take_all, take-append-le, take-append-drop, length-append, drop_all}
use Rattle.std.proofs.lemmas.List.Elements.{All-get_or}
use Rattle.surf_logic.specs.Equations.{at}
use Rattle.surf_logic.specs.Order.{has, first_twice}
use Rattle.surf_logic.specs.Marks.{Marks, marked, fresh, down_count}
use Rattle.surf_logic.proofs.Has.{In, in_append, in_left, in_right, or_none, or_left, or_right}
use Rattle.surf_logic.proofs.Marking.{has_append, marked_at, marked_length, set_at}
use Rattle.surf_logic.proofs.Gathering.{has_fresh, fresh_count, get_any}
use Rattle.surf_logic.proofs.Turning.{in_of_all, all_from_in}
use Rattle.surf_flatten.specs.declared.models.Item.{Item}
use Rattle.surf_flatten.specs.declared.models.Item.TheVariants.{Cover, Place}
use Rattle.surf_flatten.specs.Designs.{Design}
use Rattle.surf_flatten.specs.Reaching.{place_of, onto, targets_in, items_at, targets, Places, Way, Reaches, IsReached}
use Rattle.surf_flatten.specs.Laws.{AreLeft, AreParts, IsFound, IsRoot}
use Rattle.surf_flatten.specs.Searches.{HasLeft, target_by}
use Rattle.surf_flatten.specs.Groups.{put_source, sources_with, all_sources, AreSourcesOf, LeadsBack, IsFoundBack, numbered, HasGroups}
use Rattle.surf_flatten.proofs.Unfolding.{has_nat, in_nat}
use Rattle.surf_flatten.proofs.Finding.{rest_at}
use Rattle.surf_flatten.proofs.Walking.{decide, place_inside}
use Rattle.surf_flatten.proofs.Parting.{parts_grow, parts_end}

-- ---- sources

behind : (o : Option ℕ) (ks : List ℕ) (j : ℕ) → In ks j → In (onto o ks) j
behind None ks j a = a
behind (Some k) ks j a = inr a

in_behind : (o : Option ℕ) (ks : List ℕ) (j : ℕ) → In (onto o ks) j → (o ≡ Some j) ⊎ In ks j
in_behind None ks j a = inr a
in_behind (Some k) ks j a = ⊎_elim (λ e. inl (ap (λ (v : ℕ). Some v) e)) (λ l. inr l) a

put_length : (ss : List (List ℕ)) (p : ℕ) (o : Option ℕ) → length (put_source ss p o) ≡ length ss
put_length ss p None = refl
put_length ss p (Some k) = length-set ss k (get_or ss k [] ++ p ∷ [])

put_from : (ss : List (List ℕ)) (p : ℕ) (o : Option ℕ) (i j : ℕ) → ((k : ℕ) → o ≡ Some k → k < length ss) → In (get_or (put_source ss p o) j []) i → In (get_or ss j []) i ⊎ ((i ≡ p) × (o ≡ Some j))
put_from ss p None i j fits a = inl a
put_from ss p (Some k) i j fits a =
    let more : List ℕ = get_or ss k [] ++ p ∷ [] in
    ⊎_elim
    (λ e.
    let here : In more i = subst (λ v. In v i) (get_or-set_same ss k more [] (fits k refl)) (subst (λ v. In (get_or (set ss k more) v []) i) e a) in
    ⊎_elim
    (λ l. inl (subst (λ v. In (get_or ss v []) i) (sym e) l))
    (λ r. ⊎_elim (λ s. inr (sym s, ap (λ (v : ℕ). Some v) (sym e))) (λ n. absurd n) r)
    (in_append (get_or ss k []) (p ∷ []) i here))
    (λ ne. inl (subst (λ v. In v i) (get_or-set_other ss k j more [] ne) a))
    (decide j k)

put_old : (ss : List (List ℕ)) (p : ℕ) (o : Option ℕ) (i j : ℕ) → ((k : ℕ) → o ≡ Some k → k < length ss) → In (get_or ss j []) i → In (get_or (put_source ss p o) j []) i
put_old ss p None i j fits a = a
put_old ss p (Some k) i j fits a =
    let more : List ℕ = get_or ss k [] ++ p ∷ [] in
    ⊎_elim
    (λ e. subst (λ v. In (get_or (set ss k more) v []) i) (sym e) (subst (λ v. In v i) (sym (get_or-set_same ss k more [] (fits k refl))) (in_left (get_or ss k []) (p ∷ []) i (subst (λ v. In (get_or ss v []) i) e a))))
    (λ ne. subst (λ v. In v i) (sym (get_or-set_other ss k j more [] ne)) a)
    (decide j k)

put_new : (ss : List (List ℕ)) (p k : ℕ) → k < length ss → In (get_or (put_source ss p (Some k)) k []) p
put_new ss p k lt =
    let more : List ℕ = get_or ss k [] ++ p ∷ [] in
    subst (λ v. In v p) (sym (get_or-set_same ss k more [] lt)) (in_right (get_or ss k []) (p ∷ []) p (inl refl))

module _ (models : List Design) (find : List ℕ → Option ℕ) (same : (t : List ℕ) → find t ≡ place_of models t) where
  fits : (ss : List (List ℕ)) → length ss ≡ length models → (t : List ℕ) (k : ℕ) → find t ≡ Some k → k < length ss
  fits ss l t k e = omega (arith, place_inside models t k (sym (same t) ∙ e), l)

  with_from : (ss : List (List ℕ)) (p : ℕ) (is : List Item) (i j : ℕ) → length ss ≡ length models → In (get_or (sources_with find ss p is) j []) i → In (get_or ss j []) i ⊎ ((i ≡ p) × In (targets_in models is) j)
  with_from ss p [] i j l a = inl a
  with_from ss p (Cover q ∷ is) i j l a = with_from ss p is i j l a
  with_from ss p (Place q ∷ is) i j l a = ⊎_elim
      (λ b. ⊎_elim
      (λ c. inl c)
      (λ c. inr (c.0, subst (λ o. In (onto o (targets_in models is)) j) (sym (sym (same q.model) ∙ c.1)) (inl refl)))
      (put_from ss p (find q.model) i j (fits ss l q.model) b))
      (λ c. inr (c.0, behind (place_of models q.model) (targets_in models is) j c.1))
      (with_from (put_source ss p (find q.model)) p is i j (put_length ss p (find q.model) ∙ l) a)

  with_old : (ss : List (List ℕ)) (p : ℕ) (is : List Item) (i j : ℕ) → length ss ≡ length models → In (get_or ss j []) i → In (get_or (sources_with find ss p is) j []) i
  with_old ss p [] i j l a = a
  with_old ss p (Cover q ∷ is) i j l a = with_old ss p is i j l a
  with_old ss p (Place q ∷ is) i j l a = with_old (put_source ss p (find q.model)) p is i j (put_length ss p (find q.model) ∙ l) (put_old ss p (find q.model) i j (fits ss l q.model) a)

  with_new : (ss : List (List ℕ)) (p : ℕ) (is : List Item) (j : ℕ) → length ss ≡ length models → In (targets_in models is) j → In (get_or (sources_with find ss p is) j []) p
  with_new ss p [] j l a = absurd a
  with_new ss p (Cover q ∷ is) j l a = with_new ss p is j l a
  with_new ss p (Place q ∷ is) j l a =
      let long : length (put_source ss p (find q.model)) ≡ length models = put_length ss p (find q.model) ∙ l in
      ⊎_elim
      (λ e.
      let found : find q.model ≡ Some j = same q.model ∙ e in
      with_old (put_source ss p (find q.model)) p is p j long (subst (λ o. In (get_or (put_source ss p o) j []) p) (sym found) (put_new ss p j (fits ss l q.model j found))))
      (λ b. with_new (put_source ss p (find q.model)) p is j long b)
      (in_behind (place_of models q.model) (targets_in models is) j a)

  with_length : (ss : List (List ℕ)) (p : ℕ) (is : List Item) → length (sources_with find ss p is) ≡ length ss
  with_length ss p [] = refl
  with_length ss p (i ∷ is) = with_length (put_source ss p (target_by find i)) p is ∙ put_length ss p (target_by find i)

  pub all_length : (ss : List (List ℕ)) (ps : List ℕ) → length (all_sources find models ss ps) ≡ length ss
  all_length ss [] = refl
  all_length ss (p ∷ ps) = all_length (sources_with find ss p (items_at models p)) ps ∙ with_length ss p (items_at models p)

  all_from : (ss : List (List ℕ)) (ps : List ℕ) (i j : ℕ) → length ss ≡ length models → In (get_or (all_sources find models ss ps) j []) i → In (get_or ss j []) i ⊎ (In ps i × In (targets models i) j)
  all_from ss [] i j l a = inl a
  all_from ss (p ∷ ps) i j l a = ⊎_elim
      (λ b. ⊎_elim
      (λ c. inl c)
      (λ c. inr (inl (sym c.0), subst (λ v. In (targets models v) j) (sym c.0) c.1))
      (with_from ss p (items_at models p) i j l b))
      (λ b. inr (inr b.0, b.1))
      (all_from (sources_with find ss p (items_at models p)) ps i j (with_length ss p (items_at models p) ∙ l) a)

  all_old : (ss : List (List ℕ)) (ps : List ℕ) (i j : ℕ) → length ss ≡ length models → In (get_or ss j []) i → In (get_or (all_sources find models ss ps) j []) i
  all_old ss [] i j l a = a
  all_old ss (p ∷ ps) i j l a = all_old (sources_with find ss p (items_at models p)) ps i j (with_length ss p (items_at models p) ∙ l) (with_old ss p (items_at models p) i j l a)

  all_new : (ss : List (List ℕ)) (ps : List ℕ) (i j : ℕ) → length ss ≡ length models → In ps i → In (targets models i) j → In (get_or (all_sources find models ss ps) j []) i
  all_new ss [] i j l a b = absurd a
  all_new ss (p ∷ ps) i j l a b =
      let long = with_length ss p (items_at models p) ∙ l in
      ⊎_elim
      (λ e. all_old (sources_with find ss p (items_at models p)) ps i j long (subst (λ v. In (get_or (sources_with find ss p (items_at models p)) j []) v) e (with_new ss p (items_at models p) j l (subst (λ v. In (targets models v) j) (sym e) b))))
      (λ c. all_new (sources_with find ss p (items_at models p)) ps i j long c b)
      a

  no_source : (n j i : ℕ) (z : List ℕ) → z ≡ [] → In (get_or (replicate n z) j []) i → ⊥
  no_source zero j i z e a = a
  no_source (suc n) zero i z e a = subst (λ v. In v i) e a
  no_source (suc n) (suc j) i z e a = no_source n j i z e a

  pub sources_are : (ss : List (List ℕ)) (done : List ℕ) → ss ≡ replicate (length models) [] → length ss ≡ length models → AreSourcesOf models done (all_sources find models ss done)
  sources_are ss done e l =
      let none : (i j : ℕ) → In (get_or ss j []) i → ⊥ = λ i j a. no_source (length models) j i [] refl (subst (λ v. In (get_or v j []) i) e a) in
      let from : (i j : ℕ) → has nat_eq (get_or (all_sources find models ss done) j []) i ≡ true → In done i × In (targets models i) j =
      λ i j h. ⊎_elim (λ a. absurd (none i j a)) (λ r. r) (all_from ss done i j l (in_nat (get_or (all_sources find models ss done) j []) i h)) in
      record {
        from = λ i j h. has_nat (targets models i) j (from i j h).1;
        among = λ i j h. has_nat done i (from i j h).0;
        all = λ i j h p. has_nat (get_or (all_sources find models ss done) j []) i (all_new ss done i j l (in_nat done i h) (in_nat (targets models i) j p));
      }

  -- the sources are places of models
  pub sources_within : (ss : List (List ℕ)) (done : List ℕ) (n : ℕ) → ss ≡ replicate (length models) [] → length ss ≡ length models → All (λ k. k < n) done
      → (j : ℕ) (i : ℕ) → In (get_or (all_sources find models ss done) j []) i → i < n
  sources_within ss done n e l within j i a = ⊎_elim
      (λ b. absurd (no_source (length models) j i [] refl (subst (λ v. In (get_or v j []) i) e b)))
      (λ r. in_of_all (λ k. k < n) done i within r.0)
      (all_from ss done i j l a)

-- ---- a search back

-- what a search back has found, and looked at up to a place
pub record Backward (sources : List (List ℕ)) (root next : ℕ) (assigned found : List ℕ) (taken : List Bool) : Type 0 where
  pub same : length taken ≡ length sources
  pub root_in : In found root
  pub free : (i : ℕ) → In found i → has nat_eq assigned i ≡ false
  pub inside : (i : ℕ) → In found i → i < length sources
  pub lead : (i : ℕ) → In found i → (ks : List ℕ) × LeadsBack sources i ks root
  pub marks : Marks taken (found ++ assigned)
  pub closed : (i j : ℕ) → In (take next found) j → In (get_or sources j []) i → has nat_eq assigned i ≡ false → In found i

pub back_start : (sources : List (List ℕ)) (root : ℕ) (assigned : List ℕ) (taken : List Bool) → length taken ≡ length sources → root < length taken → at taken root ≡ false → Marks taken assigned
    → Backward sources root 0 assigned (root ∷ []) (set taken root true)
back_start sources root assigned taken same lt free marks =
    let only : (i : ℕ) → In (root ∷ []) i → root ≡ i = λ i a. ⊎_elim (λ e. e) (λ n. absurd n) a in
    record {
      same = length-set taken root true ∙ same;
      root_in = inl refl;
      free = λ i a. subst (λ v. has nat_eq assigned v ≡ false) (only i a) (sym (marks.is root lt) ∙ free);
      inside = λ i a. subst (λ v. v < length sources) (only i a) (omega (arith, lt, same));
      lead = λ i a. ([], sym (only i a));
      marks = record { is = λ n h. set_at taken root n lt ∙ ap (λ b. nat_eq n root || b) (marks.is n (omega (arith, h, length-set taken root true))) };
      closed = λ i j a b c. absurd a;
    }

together : (a b q : Bool) → ((a || b) || q) ≡ ((a || (q && not (a || b))) || b)
together true b q = refl
together false true true = refl
together false true false = refl
together false false true = refl
together false false false = refl

not_false : (b : Bool) → not b ≡ true → b ≡ false
not_false true e = sym e
not_false false e = refl

module _ (sources : List (List ℕ)) (root next : ℕ) (assigned found : List ℕ) (taken : List Bool) (j : ℕ) (b : Backward sources root next assigned found taken) (lt : next < length found) (is : j ≡ get_or found next 0) (range : All (All (λ k. k < length taken)) sources) where
  at_next : In found j
  at_next = subst (In found) (sym is) (by found next lt)
    where
      by : (xs : List ℕ) (k : ℕ) → k < length xs → In xs (get_or xs k 0)
      by [] k l = absurd (omega (arith, l))
      by (x ∷ xs) zero l = inl refl
      by (x ∷ xs) (suc k) l = inr (by xs k (omega (arith, l)))

  abbrev looked : List ℕ
  looked = get_or sources j []

  pub looked_in : All (λ k. k < length taken) looked
  looked_in = All-get_or (All (λ k. k < length taken)) sources j [] (b.inside j at_next) range

  fresh_in : (i : ℕ) → In (fresh taken looked) i → In looked i × (at taken i ≡ false)
  fresh_in i a =
      let h = and_parts (has nat_eq looked i) (not (at taken i)) (sym (has_fresh taken looked i looked_in) ∙ has_nat (fresh taken looked) i a) in
      (in_nat looked i h.0, not_false (at taken i) h.1)

  fresh_from : (i : ℕ) → In looked i → at taken i ≡ false → In (fresh taken looked) i
  fresh_from i a f = in_nat (fresh taken looked) i (has_fresh taken looked i looked_in ∙ and_from (has nat_eq looked i) (not (at taken i)) (has_nat looked i a) (ap not f))

  in_range : (i : ℕ) → In looked i → i < length taken
  in_range i a = in_of_all (λ k. k < length taken) looked i looked_in a

  known : (i : ℕ) → In looked i → at taken i ≡ (has nat_eq found i || has nat_eq assigned i)
  known i a = b.marks.is i (in_range i a) ∙ has_append found assigned i

  pub back_step : Backward sources root (next + 1) assigned (found ++ fresh taken looked) (marked taken looked)
  back_step = record {
    same = marked_length taken looked ∙ b.same;
    root_in = in_left found (fresh taken looked) root b.root_in;
    free = λ i a. ⊎_elim
        (λ l. b.free i l)
        (λ r. let f = fresh_in i r in (or_none (has nat_eq found i) (has nat_eq assigned i) (sym (known i f.0) ∙ f.1)).1)
        (in_append found (fresh taken looked) i a);
    inside = λ i a. ⊎_elim
        (λ l. b.inside i l)
        (λ r. omega (arith, in_range i (fresh_in i r).0, b.same))
        (in_append found (fresh taken looked) i a);
    lead = λ i a. ⊎_elim
        (λ l. b.lead i l)
        (λ r. let w = b.lead j at_next in (j ∷ w.0, (has_nat looked i (fresh_in i r).0, w.1)))
        (in_append found (fresh taken looked) i a);
    marks = record {
      is = λ n h.
          let old : at taken n ≡ (has nat_eq found n || has nat_eq assigned n) = b.marks.is n (omega (arith, h, marked_length taken looked)) ∙ has_append found assigned n in
          marked_at taken looked n looked_in
          ∙ ap (λ v. v || has nat_eq looked n) old
          ∙ together (has nat_eq found n) (has nat_eq assigned n) (has nat_eq looked n)
          ∙ sym (has_append (found ++ fresh taken looked) assigned n
          ∙ ap (λ v. v || has nat_eq assigned n) (has_append found (fresh taken looked) n ∙ ap (λ v. has nat_eq found n || v) (has_fresh taken looked n looked_in ∙ ap (λ v. has nat_eq looked n && not v) old)));
    };
    closed = λ i k a p free. ⊎_elim
        (λ old. in_left found (fresh taken looked) i (b.closed i k old p free))
        (λ e. here i (subst (λ v. In (get_or sources v []) i) e p) free)
        (split k (subst (λ v. In v k) (take-append-le (next + 1) found (fresh taken looked) (omega (arith, lt))) a));
  }
    where
      split : (k : ℕ) → In (take (next + 1) found) k → In (take next found) k ⊎ (k ≡ j)
      split k a = ⊎_elim
          (λ l. inl l)
          (λ r. ⊎_elim (λ e. inr (sym e ∙ sym is)) (λ n. absurd n) r)
          (in_append (take next found) (get_or found next 0 ∷ []) k (subst (λ v. In v k) (take_more found next 0 lt) a))

      here : (i : ℕ) → In looked i → has nat_eq assigned i ≡ false → In (found ++ fresh taken looked) i
      here i a free = ⊎_elim
          (λ t. ⊎_elim
          (λ u. in_left found (fresh taken looked) i (in_nat found i u))
          (λ u. absurd (both_ways _ free u))
          (or_cases (has nat_eq found i) (has nat_eq assigned i) (sym (known i a) ∙ t)))
          (λ f. in_right found (fresh taken looked) i (fresh_from i a f))
          (cases_Bool (at taken i))

pub back_end : (sources : List (List ℕ)) (root next : ℕ) (assigned found : List ℕ) (taken : List Bool) → Backward sources root next assigned found taken → length found ≤ next → IsFoundBack sources root assigned found taken
back_end sources root next assigned found taken b end = record {
  root_in = has_nat found root b.root_in;
  free = λ i h. b.free i (in_nat found i h);
  inside = λ i h. b.inside i (in_nat found i h);
  lead = λ i h. b.lead i (in_nat found i h);
  closed = λ i j h p free. has_nat found i (b.closed i j (subst (λ v. In v j) (sym (take_all next found end)) (in_nat found j h)) (in_nat (get_or sources j []) i p) free);
  marks = b.marks;
}

-- ---- numbers

numbered_old : (ns ks : List ℕ) (v i : ℕ) → (In ks i → ⊥) → get_or (numbered ns v ks) i 0 ≡ get_or ns i 0
numbered_old ns [] v i none = refl
numbered_old ns (k ∷ ks) v i none = numbered_old (set ns k v) ks v i (λ a. none (inr a)) ∙ get_or-set_other ns k i v 0 (λ e. none (inl (sym e)))

numbered_kept : (ns ks : List ℕ) (v i : ℕ) → All (λ k. k < length ns) ks → get_or ns i 0 ≡ v → get_or (numbered ns v ks) i 0 ≡ v
numbered_kept ns [] v i within e = e
numbered_kept ns (k ∷ ks) v i within e = numbered_kept (set ns k v) ks v i (subst (λ l. All (λ x. x < l) ks) (sym (length-set ns k v)) (λ x d l. within (suc x) d (omega (arith, l)))) (⊎_elim
    (λ s. ap (λ x. get_or (set ns k v) x 0) s ∙ get_or-set_same ns k v 0 (within zero k (omega arith)))
    (λ ne. get_or-set_other ns k i v 0 ne ∙ e)
    (decide i k))

numbered_new : (ns ks : List ℕ) (v i : ℕ) → All (λ k. k < length ns) ks → In ks i → get_or (numbered ns v ks) i 0 ≡ v
numbered_new ns [] v i within a = absurd a
numbered_new ns (k ∷ ks) v i within a =
    let rest : All (λ x. x < length (set ns k v)) ks = subst (λ l. All (λ x. x < l) ks) (sym (length-set ns k v)) (λ x d l. within (suc x) d (omega (arith, l))) in
    ⊎_elim
    (λ e. numbered_kept (set ns k v) ks v i rest (ap (λ x. get_or (set ns k v) x 0) (sym e) ∙ get_or-set_same ns k v 0 (within zero k (omega arith))))
    (λ l. numbered_new (set ns k v) ks v i rest l)
    a

-- ---- groups

-- the first k models have groups, and so has each that reaches one of them and is reached from it
pub record Grouped (models : List Design) (done : List ℕ) (k : ℕ) (taken : List Bool) (groups : List ℕ) (count : ℕ) : Type 0 where
  pub assigned : List ℕ
  pub marks : Marks taken assigned
  pub parts : AreParts models assigned (λ i. get_or groups i 0) (suc count)
  pub some : (i : ℕ) → has nat_eq assigned i ≡ true → 0 < get_or groups i 0
  pub none : (i : ℕ) → has nat_eq assigned i ≡ false → get_or groups i 0 ≡ 0
  pub earlier : (i : ℕ) → In (take k done) i → has nat_eq assigned i ≡ true
  pub reached : (i : ℕ) → has nat_eq assigned i ≡ true → IsReached models i

pub grouped_start : (models : List Design) (done : List ℕ) (taken : List Bool) (groups : List ℕ) → ((i : ℕ) → at taken i ≡ false) → ((i : ℕ) → get_or groups i 0 ≡ 0) → Grouped models done 0 taken groups 0
grouped_start models done taken groups down zeros = record {
  assigned = [];
  marks = record { is = λ n h. down n };
  parts = record {
    whole = record { closed = λ a c h x y. let bad : false ≡ true = h in cc };
    below = λ i h. let bad : false ≡ true = h in cc;
    up = λ i j r h p. let bad : false ≡ true = h in cc;
    joined = λ i j h g e. let bad : false ≡ true = h in cc;
  };
  some = λ i h. let bad : false ≡ true = h in cc;
  none = λ i h. zeros i;
  earlier = λ i a. absurd a;
  reached = λ i h. let bad : false ≡ true = h in cc;
}

earlier_more : (done assigned : List ℕ) (k : ℕ) → k < length done → ((i : ℕ) → In (take k done) i → has nat_eq assigned i ≡ true) → has nat_eq assigned (get_or done k 0) ≡ true
    → (i : ℕ) → In (take (k + 1) done) i → has nat_eq assigned i ≡ true
earlier_more done assigned k lt old here i a = ⊎_elim
    (λ l. old i l)
    (λ r. ⊎_elim (λ e. subst (λ v. has nat_eq assigned v ≡ true) e here) (λ n. absurd n) r)
    (in_append (take k done) (get_or done k 0 ∷ []) i (subst (λ v. In v i) (take_more done k 0 lt) a))

pub grouped_skip : (models : List Design) (done : List ℕ) (k : ℕ) (taken : List Bool) (groups : List ℕ) (count : ℕ) → Grouped models done k taken groups count → k < length done → get_or done k 0 < length taken → at taken (get_or done k 0) ≡ true
    → Grouped models done (k + 1) taken groups count
grouped_skip models done k taken groups count g lt fits up = record {
  assigned = g.assigned;
  marks = g.marks;
  parts = g.parts;
  some = g.some;
  none = g.none;
  earlier = earlier_more done g.assigned k lt g.earlier (sym (g.marks.is (get_or done k 0) fits) ∙ up);
  reached = g.reached;
}

-- the sources of the models that were left lead along lines
leads_way : (models : List Design) (done : List ℕ) (sources : List (List ℕ)) → AreSourcesOf models done sources → (n : ℕ) (ks : List ℕ) (root : ℕ) → LeadsBack sources n ks root → Way models n ks root
leads_way models done sources s n [] root l = l
leads_way models done sources s n (k ∷ ks) root l = (s.from n k l.0, leads_way models done sources s k ks root l.1)

lead_reached : (models : List Design) (done : List ℕ) (sources : List (List ℕ)) → AreSourcesOf models done sources → HasLeft models done → (n : ℕ) (ks : List ℕ) (root : ℕ) → IsReached models root → LeadsBack sources n ks root → IsReached models n
lead_reached models done sources s left n [] root r l = subst (IsReached models) (sym l) r
lead_reached models done sources s left n (k ∷ ks) root r l = left.reached n (s.among n k l.0)

pub grouped_more : (models : List Design) (done : List ℕ) (sources : List (List ℕ)) (k : ℕ) (taken after : List Bool) (groups found : List ℕ) (count root : ℕ) → (g : Grouped models done k taken groups count) → k < length done
    → root ≡ get_or done k 0 → HasLeft models done → AreSourcesOf models done sources → IsFoundBack sources root g.assigned found after → length groups ≡ length sources
    → Grouped models done (k + 1) after (numbered groups (count + 1) found) (count + 1)
grouped_more models done sources k taken after groups found count root g lt is left sources_of f long =
    let next = numbered groups (count + 1) found in
    let fits : All (λ x. x < length groups) found = all_in found (λ x a. omega (arith, f.inside x (has_nat found x a), long)) in
    let root_reached : IsReached models root = left.reached root (has_nat done root (subst (In done) (sym is) (at_place done k lt))) in
    let reached : (i : ℕ) → has nat_eq found i ≡ true → IsReached models i = λ i h. let w = f.lead i h in lead_reached models done sources sources_of left i w.0 root root_reached w.1 in
    let named : (i : ℕ) → has nat_eq found i ≡ true → get_or next i 0 ≡ suc count = λ i h. let one : count + 1 ≡ suc count = omega arith in numbered_new groups found (count + 1) i fits (in_nat found i h) ∙ one in
    let kept : (i : ℕ) → has nat_eq assigned i ≡ true → get_or next i 0 ≡ get_or groups i 0 = λ i h. numbered_old groups found (count + 1) i (λ a. both_ways _ (f.free i (has_nat found i a)) h) in
    let whole : done ≡ take k done ++ root ∷ drop (k + 1) done = sym (take-append-drop k done) ∙ ap (λ v. take k done ++ v) (rest_at done k root lt (is ∙ get_any done k 0 root lt)) in
    let is_root : IsRoot models (take k done) root (drop (k + 1) done) assigned = record {
      left = subst (AreLeft models) whole left.left;
      once = subst (λ v. first_twice nat_eq [] v ≡ None) whole left.once;
      all = λ i r. subst (λ v. has nat_eq v i ≡ true) whole (left.all i r);
      whole = g.parts.whole;
      earlier = λ i h. g.earlier i (in_nat (take k done) i h);
    } in
    let is_found : IsFound models assigned root found = record {
      root = f.root_in;
      each = λ i h. (reached i h, f.free i h, let w = f.lead i h in (w.0, leads_way models done sources sources_of i w.0 root w.1));
      closed = λ i j r free p h. f.closed i j h (sources_of.all i j (left.all i r) p) free;
    } in
    record {
      assigned = found ++ assigned;
      marks = f.marks;
      parts = subst (λ n. AreParts models (found ++ assigned) (λ i. get_or next i 0) n) (omega arith)
          (parts_grow models (take k done) root (drop (k + 1) done) assigned found (λ i. get_or groups i 0) (λ i. get_or next i 0) (suc count) is_root g.parts is_found kept named);
      some = λ i h. ⊎_elim
          (λ a. let e = named i a in omega arith)
          (λ a. let e = kept i a in let s = g.some i a in omega arith)
          (or_cases (has nat_eq found i) (has nat_eq assigned i) (sym (has_append found assigned i) ∙ h));
      none = λ i h.
          let r = or_none (has nat_eq found i) (has nat_eq assigned i) (sym (has_append found assigned i) ∙ h) in
          numbered_old groups found (count + 1) i (λ a. both_ways _ r.0 (has_nat found i a)) ∙ g.none i r.1;
      earlier = earlier_more done (found ++ assigned) k lt
          (λ i a. has_append found assigned i ∙ or_right (has nat_eq found i) (has nat_eq assigned i) (g.earlier i a))
          (subst (λ v. has nat_eq (found ++ assigned) v ≡ true) is (has_append found assigned root ∙ or_left (has nat_eq found root) (has nat_eq assigned root) f.root_in));
      reached = λ i h. ⊎_elim
          (λ a. reached i a)
          (λ a. g.reached i a)
          (or_cases (has nat_eq found i) (has nat_eq assigned i) (sym (has_append found assigned i) ∙ h));
    }
  where
    assigned : List ℕ
    assigned = g.assigned

    all_in : (xs : List ℕ) → ((x : ℕ) → In xs x → x < length groups) → All (λ x. x < length groups) xs
    all_in xs h = all_from_in (λ x. x < length groups) xs h

    at_place : (xs : List ℕ) (n : ℕ) → n < length xs → In xs (get_or xs n 0)
    at_place [] n l = absurd (omega (arith, l))
    at_place (x ∷ xs) zero l = inl refl
    at_place (x ∷ xs) (suc n) l = inr (at_place xs n (omega (arith, l)))

pub grouped_end : (models : List Design) (done : List ℕ) (k : ℕ) (taken : List Bool) (groups : List ℕ) (count : ℕ) → Grouped models done k taken groups count → length done ≤ k → HasLeft models done → HasGroups models groups
grouped_end models done k taken groups count g end left =
    let all : (i : ℕ) → IsReached models i → has nat_eq g.assigned i ≡ true = λ i r. g.earlier i (subst (λ v. In v i) (sym (take_all k done end)) (in_nat done i (left.all i r))) in
    record {
      reached = λ i r. g.some i (all i r);
      only = λ i h. ⊎_elim (λ t. g.reached i t) (λ f. absurd (omega (arith, g.none i f, h))) (cases_Bool (has nat_eq g.assigned i));
      tell = parts_end models g.assigned (λ i. get_or groups i 0) (suc count) g.parts all;
    }

-- ---- what the loops need

append_none : {X : Type 0} (xs : List X) → xs ++ [] ≡ xs
append_none [] = refl
append_none (x ∷ xs) = ap (λ v. x ∷ v) (append_none xs)

-- a list that was written in place of all of another
pub written_back : {X : Type 0} (new old : List X) (n : ℕ) → length new ≡ length old → n ≡ length old → take n (new ++ drop (length new) old) ≡ new
written_back new old n same is =
    ap (λ v. take n (new ++ v)) (drop_all (length new) old (omega (arith, same))) ∙ ap (take n) (append_none new) ∙ take_all n new (omega (arith, same, is))

pub all_lists : (P : ℕ → Type 0) (ss : List (List ℕ)) → ((j i : ℕ) → In (get_or ss j []) i → P i) → All (All P) ss
all_lists P ss h = λ k d lt. all_from_in P (get_or ss k d) (λ i a. h k i (subst (λ v. In v i) (get_any ss k d [] lt) a))

fresh_in_list : (flags : List Bool) (ns : List ℕ) (i : ℕ) → In (fresh flags ns) i → In ns i
fresh_in_list flags [] i a = absurd a
fresh_in_list flags (n ∷ ns) i a = by (at flags n) a (λ b. fresh_in_list flags ns i b) (λ b. fresh_in_list (set flags n true) ns i b)
  where
    by : (up : Bool) → In (if up then fresh flags ns else n ∷ fresh (set flags n true) ns) i → (In (fresh flags ns) i → In ns i) → (In (fresh (set flags n true) ns) i → In ns i) → In (n ∷ ns) i
    by true a f g = inr (f a)
    by false a f g = ⊎_elim (λ e. inl e) (λ b. inr (g b)) a

pub found_within : (n : ℕ) (flags : List Bool) (found looked : List ℕ) → All (λ k. k < n) found → All (λ k. k < n) looked → All (λ k. k < n) (found ++ fresh flags looked)
found_within n flags found looked old new = all_from_in (λ k. k < n) (found ++ fresh flags looked) (λ i a. ⊎_elim
    (λ l. in_of_all (λ k. k < n) found i old l)
    (λ r. in_of_all (λ k. k < n) looked i new (fresh_in_list flags looked i r))
    (in_append found (fresh flags looked) i a))

pub back_less : (flags : List Bool) (found looked : List ℕ) (next : ℕ) → All (λ k. k < length flags) looked → next < length found
    → down_count (marked flags looked) + (length (found ++ fresh flags looked) - (next + 1)) < down_count flags + (length found - next)
back_less flags found looked next within lt = omega (arith, fresh_count flags looked within, length-append found (fresh flags looked), lt)

pub found_inside : (sources : List (List ℕ)) (root : ℕ) (assigned found : List ℕ) (taken : List Bool) (n : ℕ) → IsFoundBack sources root assigned found taken → length sources ≡ n → All (λ k. k < n) found
found_inside sources root assigned found taken n f e = all_from_in (λ k. k < n) found (λ i a. omega (arith, f.inside i (has_nat found i a), e))
