-- The first faults that loops find are those of the models' lines.
use Rattle.std.proofs.Common.{ℕ, ◌≡◌, ◌≢◌, ◌+◌, ◌<◌, ◌==◌, ◌⊎◌, inl, inr, Bool, true, false, not, ◌||◌, ◌&&◌, List, [], ◌∷◌, ◌++◌, length, map, refl, sym, ◌∙◌, ap, subst, ⊎_elim, arith, zero, suc, Option, Some, None, if◌then◌else◌, get_or, slice_get}
use Rattle.std.specs.Str.{bytes_eq}
use Rattle.std.specs.Option.{option_map}
use Rattle.std.proofs.lemmas.Bool.{cases_Bool, both_ways, eqb-true, eq-eqb}
use Rattle.std.proofs.lemmas.Option.{slice_get-map}
use Rattle.surf_rules.specs.Names.{with_text}
use Rattle.surf_logic.specs.Equations.{EquationOf}
use Rattle.surf_logic.specs.Order.{has, or_else, first_missing}
use Rattle.surf_logic.proofs.Has.{In, in_append, found_first}
use Rattle.surf_flatten.specs.declared.checks.Ports.{Ports}
use Rattle.surf_flatten.specs.declared.models.Bind.{Bind}
use Rattle.surf_flatten.specs.declared.models.Item.{Item}
use Rattle.surf_flatten.specs.declared.models.Item.TheVariants.{Cover, Place}
use Rattle.surf_flatten.specs.declared.places.Places.{Places as Table}
use Rattle.surf_flatten.specs.Placements.{Placement}
use Rattle.surf_flatten.specs.Designs.{Design, is_name, model_named}
use Rattle.surf_flatten.specs.Reaching.{place_from, place_of, items_at, targets, Places, IsReached, Reaches}
use Rattle.surf_flatten.specs.Faults.{ModelFault, UnknownModel, BadFormal, Unconnected, Recursive, bad_formal, binding_fault, fault_by, placing_fault, Spot, spots_in, spots_from, spots, IsFirst, IsNone, IsMisplaced, IsRecursive}
use Rattle.surf_flatten.specs.Tables.{Finds, place_in, with_texts}
use Rattle.surf_flatten.specs.Checks.{port_of, ports_by, is_free, formal_by, bind_fault, bind_fault_of, fault_at, item_fault, lines_fault, models_fault, placings_fault, back_at, back_fault, recursion_fault}
use Rattle.surf_flatten.specs.Groups.{HasGroups}
use Rattle.surf_flatten.proofs.Finding.{bytes_to, bytes_from, has_put, unequal}
use Rattle.surf_flatten.proofs.Searching.{components_tell, spot_places}
use Rattle.surf_flatten.proofs.Walking.{place_inside}

-- ---- sets

has_one : (ns : List (List ℕ)) (t x : List ℕ) → has bytes_eq (with_text ns t) x ≡ (bytes_eq x t || has bytes_eq ns x)
has_one ns t x = ⊎_elim
    (λ h. ap (λ b. has bytes_eq (if b then ns else ns ++ t ∷ []) x) h ∙ already (bytes_eq x t) (has bytes_eq ns x) (λ e. ap (has bytes_eq ns) (bytes_to x t e) ∙ h))
    (λ f. ap (λ b. has bytes_eq (if b then ns else ns ++ t ∷ []) x) f ∙ has_put ns t x)
    (cases_Bool (has bytes_eq ns t))
  where
    already : (a b : Bool) → (a ≡ true → b ≡ true) → b ≡ (a || b)
    already true b h = h refl
    already false b h = refl

pub has_all : (ns ts : List (List ℕ)) (x : List ℕ) → has bytes_eq (with_texts ns ts) x ≡ (has bytes_eq ts x || has bytes_eq ns x)
has_all ns [] x = refl
has_all ns (t ∷ ts) x =
    has_all (with_text ns t) ts x
    ∙ ap (λ b. has bytes_eq ts x || b) (has_one ns t x)
    ∙ turned (bytes_eq x t) (has bytes_eq ts x) (has bytes_eq ns x)
  where
    turned : (a b c : Bool) → (b || (a || c)) ≡ ((a || b) || c)
    turned true true c = refl
    turned true false c = refl
    turned false b c = refl

or_false : (a : Bool) → (a || false) ≡ a
or_false true = refl
or_false false = refl

pub has_set : (ts : List (List ℕ)) (x : List ℕ) → has bytes_eq (with_texts [] ts) x ≡ has bytes_eq ts x
has_set ts x = has_all [] ts x ∙ or_false (has bytes_eq ts x)

has_both : (xs ys : List (List ℕ)) (x : List ℕ) → has bytes_eq (xs ++ ys) x ≡ (has bytes_eq xs x || has bytes_eq ys x)
has_both [] ys x = refl
has_both (z ∷ xs) ys x = ap (λ b. bytes_eq x z || b) (has_both xs ys x) ∙ turned (bytes_eq x z) (has bytes_eq xs x) (has bytes_eq ys x)
  where
    turned : (a b c : Bool) → (a || (b || c)) ≡ ((a || b) || c)
    turned true b c = refl
    turned false b c = refl

known_ports : (ins outs : List (List ℕ)) (x : List ℕ) → has bytes_eq (with_texts (with_texts [] ins) outs) x ≡ has bytes_eq (ins ++ outs) x
known_ports ins outs x =
    has_all (with_texts [] ins) outs x ∙ ap (λ b. has bytes_eq outs x || b) (has_set ins x) ∙ swap (has bytes_eq outs x) (has bytes_eq ins x) ∙ sym (has_both ins outs x)
  where
    swap : (a b : Bool) → (a || b) ≡ (b || a)
    swap true true = refl
    swap true false = refl
    swap false true = refl
    swap false false = refl

-- ---- the binds of a line

formal_is : (known ports bound above : List (List ℕ)) (bs : List Bind) → ((x : List ℕ) → has bytes_eq known x ≡ has bytes_eq ports x) → ((x : List ℕ) → has bytes_eq bound x ≡ has bytes_eq above x)
    → formal_by known bound bs ≡ bad_formal ports above bs
formal_is known ports bound above [] k a = refl
formal_is known ports bound above (b ∷ bs) k a =
    let h : formal_by known (with_text bound b.formal) bs ≡ bad_formal ports (b.formal ∷ above) bs =
    formal_is known ports (with_text bound b.formal) (b.formal ∷ above) bs k (λ x. has_one bound b.formal x ∙ ap (λ c. bytes_eq x b.formal || c) (a x)) in
    ap (λ c. if c && not (has bytes_eq bound b.formal) then formal_by known (with_text bound b.formal) bs else Some b.formal) (k b.formal)
    ∙ ap (λ c. if has bytes_eq ports b.formal && not c then formal_by known (with_text bound b.formal) bs else Some b.formal) (a b.formal)
    ∙ ap (λ v. if has bytes_eq ports b.formal && not (has bytes_eq above b.formal) then v else Some b.formal) h

missing_same : (a b ns : List (List ℕ)) → ((x : List ℕ) → has bytes_eq a x ≡ has bytes_eq b x) → first_missing bytes_eq a ns ≡ first_missing bytes_eq b ns
missing_same a b [] same = refl
missing_same a b (n ∷ ns) same =
    ap (λ c. if c then first_missing bytes_eq a ns else Some n) (same n) ∙ ap (λ v. if has bytes_eq b n then v else Some n) (missing_same a b ns same)

missing_put : (known ns : List (List ℕ)) (t : List ℕ) → first_missing bytes_eq known (ns ++ t ∷ []) ≡ or_else (first_missing bytes_eq known ns) (if has bytes_eq known t then None else Some t)
missing_put known [] t = refl
missing_put known (n ∷ ns) t = by (has bytes_eq known n) (missing_put known ns t)
  where
    by : (b : Bool) → first_missing bytes_eq known (ns ++ t ∷ []) ≡ or_else (first_missing bytes_eq known ns) (if has bytes_eq known t then None else Some t)
        → (if b then first_missing bytes_eq known (ns ++ t ∷ []) else Some n) ≡ or_else (if b then first_missing bytes_eq known ns else Some n) (if has bytes_eq known t then None else Some t)
    by true h = h
    by false h = refl

in_of : (ns : List (List ℕ)) (t : List ℕ) → has bytes_eq ns t ≡ true → In ns t
in_of [] t h = let bad : false ≡ true = h in cc
in_of (n ∷ ns) t h = ⊎_elim
    (λ e. inl (sym (bytes_to t n e)))
    (λ f. inr (in_of ns t (ap (λ b. b || has bytes_eq ns t) (sym f) ∙ h)))
    (cases_Bool (bytes_eq t n))

missing_all : (known ns ts : List (List ℕ)) → first_missing bytes_eq known (with_texts ns ts) ≡ or_else (first_missing bytes_eq known ns) (first_missing bytes_eq known ts)
missing_all known ns [] = none (first_missing bytes_eq known ns)
  where
    none : (o : Option (List ℕ)) → o ≡ or_else o None
    none None = refl
    none (Some x) = refl
missing_all known ns (t ∷ ts) = missing_all known (with_text ns t) ts ∙ ⊎_elim
    (λ h. ap (λ b. or_else (first_missing bytes_eq known (if b then ns else ns ++ t ∷ [])) (first_missing bytes_eq known ts)) h ∙ there (first_missing bytes_eq known ns) refl h)
    (λ f. ap (λ b. or_else (first_missing bytes_eq known (if b then ns else ns ++ t ∷ [])) (first_missing bytes_eq known ts)) f
    ∙ ap (λ o. or_else o (first_missing bytes_eq known ts)) (missing_put known ns t) ∙ joined (first_missing bytes_eq known ns) (has bytes_eq known t))
    (cases_Bool (has bytes_eq ns t))
  where
    rest : Option (List ℕ)
    rest = first_missing bytes_eq known ts

    there : (o : Option (List ℕ)) → first_missing bytes_eq known ns ≡ o → has bytes_eq ns t ≡ true → or_else o (first_missing bytes_eq known ts) ≡ or_else o (if has bytes_eq known t then first_missing bytes_eq known ts else Some t)
    there None e h = sym (ap (λ b. if b then first_missing bytes_eq known ts else Some t) (found_first bytes_eq bytes_to bytes_from known ns e t (in_of ns t h)))
    there (Some x) e h = refl

    joined : (o : Option (List ℕ)) (b : Bool) → or_else (or_else o (if b then None else Some t)) (first_missing bytes_eq known ts) ≡ or_else o (if b then first_missing bytes_eq known ts else Some t)
    joined None true = refl
    joined None false = refl
    joined (Some x) b = refl

pub bind_is : (m : Design) (p : Placement) → bind_fault (port_of m) p ≡ binding_fault p m
bind_is m p =
    let formals = map (λ (b : Bind). b.formal) p.binds in
    ap (λ o. or_else (option_map (BadFormal p.line) o) (option_map (Unconnected p.line) (first_missing bytes_eq (with_texts [] formals) (with_texts [] m.inputs))))
    (formal_is (with_texts (with_texts [] m.inputs) m.outputs) (m.inputs ++ m.outputs) [] [] p.binds (known_ports m.inputs m.outputs) (λ x. refl))
    ∙ ap (λ o. or_else (option_map (BadFormal p.line) (bad_formal (m.inputs ++ m.outputs) [] p.binds)) (option_map (Unconnected p.line) o))
    (missing_same (with_texts [] formals) formals (with_texts [] m.inputs) (has_set formals) ∙ missing_all formals [] m.inputs)

-- ---- the model of a line

named_from : (n : ℕ) (ms : List Design) (t : List ℕ)
    → ((place_from n ms t ≡ None) × (model_named ms t ≡ None)) ⊎ ((k : ℕ) × (place_from n ms t ≡ Some (n + k)) × (model_named ms t ≡ slice_get ms k))
named_from n [] t = inl (refl, refl)
named_from n (m ∷ ms) t = ⊎_elim
    (λ here.
    let same : n ≡ n + zero = omega arith in
    inr (zero, ap (λ b. if b then Some n else place_from (suc n) ms t) here ∙ ap (λ (v : ℕ). Some v) same, ap (λ b. if b then Some m else model_named ms t) here))
    (λ other. ⊎_elim
    (λ none. inl (ap (λ b. if b then Some n else place_from (suc n) ms t) other ∙ none.0, ap (λ b. if b then Some m else model_named ms t) other ∙ none.1))
    (λ r.
    let same : suc n + r.0 ≡ n + suc r.0 = omega arith in
    inr (suc r.0, ap (λ b. if b then Some n else place_from (suc n) ms t) other ∙ r.1 ∙ ap (λ (v : ℕ). Some v) same, ap (λ b. if b then Some m else model_named ms t) other ∙ r.2))
    (named_from (suc n) ms t))
    (cases_Bool (is_name t m.name))

some_at : (models : List Design) (k : ℕ) → k < length models → (m : Design) × (slice_get models k ≡ Some m)
some_at [] k lt = absurd (omega (arith, lt))
some_at (m ∷ ms) zero lt = (m, refl)
some_at (m ∷ ms) (suc k) lt = some_at ms k (omega (arith, lt))

pub placing_is : (models : List Design) (find : List ℕ → Option ℕ) (p : Placement) → ((t : List ℕ) → find t ≡ place_of models t) → item_fault find (ports_by models) (Place p) ≡ placing_fault models p
placing_is models find p same = ap (fault_at (ports_by models) p) (same p.model) ∙ ⊎_elim
    (λ none. ap (fault_at (ports_by models) p) none.0 ∙ sym (ap (fault_by p) none.1))
    (λ r.
    let first : 0 + r.0 ≡ r.0 = omega arith in
    let place : place_of models p.model ≡ Some r.0 = r.1 ∙ ap (λ (v : ℕ). Some v) first in
    ap (fault_at (ports_by models) p) place ∙ ap (bind_fault_of p) (slice_get-map port_of models r.0) ∙ there (slice_get models r.0) (within r.0 place) ∙ sym (ap (fault_by p) r.2))
    (named_from 0 models p.model)
  where
    within : (k : ℕ) → place_of models p.model ≡ Some k → (m : Design) × (slice_get models k ≡ Some m)
    within k e = some_at models k (place_inside models p.model k e)

    there : (o : Option Design) → ((m : Design) × (o ≡ Some m)) → bind_fault_of p (option_map port_of o) ≡ fault_by p o
    there None s = let bad : None ≡ Some s.0 = s.1 in cc
    there (Some m) s = bind_is m p

-- ---- first faults of spots

pub first_by : (Spot → Option ModelFault) → List Spot → Option ModelFault
first_by f [] = None
first_by f (s ∷ ss) = or_else (f s) (first_by f ss)

first_append : (f : Spot → Option ModelFault) (xs ys : List Spot) → first_by f (xs ++ ys) ≡ or_else (first_by f xs) (first_by f ys)
unfolding first_by
first_append f [] ys = refl
first_append f (x ∷ xs) ys = ap (or_else (f x)) (first_append f xs ys) ∙ regroup (f x) (first_by f xs) (first_by f ys)
  where
    regroup : (a b c : Option ModelFault) → or_else a (or_else b c) ≡ or_else (or_else a b) c
    regroup None b c = refl
    regroup (Some x) b c = refl

opt : (o : Option ModelFault) → (o ≡ None) ⊎ ((x : ModelFault) × (o ≡ Some x))
opt None = inl refl
opt (Some x) = inr (x, refl)

first_is : (P : Spot → Type 0) (f : Spot → Option ModelFault) (xs : List Spot) → ((s : Spot) → In xs s → P s → f s ≡ None → ⊥) → ((s : Spot) (x : ModelFault) → In xs s → f s ≡ Some x → P s)
    → (x : ModelFault) → first_by f xs ≡ Some x → (s : Spot) × IsFirst P xs s × In xs s × (f s ≡ Some x)
unfolding first_by
first_is P f [] told only x e = let bad : None ≡ Some x = e in cc
first_is P f (y ∷ ys) told only x e = ⊎_elim
    (λ none. let r = first_is P f ys (λ s i. told s (inr i)) (λ s z i. only s z (inr i)) x (sym (ap (λ o. or_else o (first_by f ys)) none) ∙ e) in
    (r.0, inr ((λ p. told y (inl refl) p none), r.1), inr r.2, r.3))
    (λ z. let same : Some z.0 ≡ Some x = sym (ap (λ o. or_else o (first_by f ys)) z.1) ∙ e in
    (y, inl (refl, only y z.0 (inl refl) z.1), inl refl, z.1 ∙ same))
    (opt (f y))

none_is : (P : Spot → Type 0) (f : Spot → Option ModelFault) (xs : List Spot) → ((s : Spot) → In xs s → P s → f s ≡ None → ⊥) → first_by f xs ≡ None → IsNone P xs
unfolding first_by
none_is P f [] told e = tt
none_is P f (y ∷ ys) told e = ⊎_elim
    (λ none. ((λ p. told y (inl refl) p none), none_is P f ys (λ s i. told s (inr i)) (sym (ap (λ o. or_else o (first_by f ys)) none) ∙ e)))
    (λ z. let bad : Some z.0 ≡ None = sym (ap (λ o. or_else o (first_by f ys)) z.1) ∙ e in absurd (never z.0 bad))
    (opt (f y))
  where
    never : (x : ModelFault) → Some x ≡ None → ⊥
    never x bad = cc

-- the fault of a spot by the number of its model
pub spot_fault : (ℕ → Item → Option ModelFault) → List ℕ → Spot → Option ModelFault
spot_fault test all s = if get_or all s.place 0 == 0 then None else test (get_or all s.place 0) (Place s.placing)

module _ (test : ℕ → Item → Option ModelFault) (all : List ℕ) (covers : (k : ℕ) (q : EquationOf (List ℕ)) → test k (Cover q) ≡ None) where
  items_first : (n : ℕ) (is : List Item) → first_by (spot_fault test all) (spots_in n is) ≡ (if get_or all n 0 == 0 then None else lines_fault (test (get_or all n 0)) is)
  unfolding first_by spot_fault
  items_first n [] = none (get_or all n 0 == 0) None
    where
      none : (b : Bool) (o : Option ModelFault) → o ≡ (if b then o else o)
      none true o = refl
      none false o = refl
  items_first n (Cover q ∷ is) =
      items_first n is ∙ ap (λ o. if get_or all n 0 == 0 then None else or_else o (lines_fault (test (get_or all n 0)) is)) (sym (covers (get_or all n 0) q))
  items_first n (Place p ∷ is) =
      ap (or_else (if get_or all n 0 == 0 then None else test (get_or all n 0) (Place p))) (items_first n is)
      ∙ both (get_or all n 0 == 0) (test (get_or all n 0) (Place p)) (lines_fault (test (get_or all n 0)) is)
    where
      both : (b : Bool) (x y : Option ModelFault) → or_else (if b then None else x) (if b then None else y) ≡ (if b then None else or_else x y)
      both true x y = refl
      both false x y = refl

  models_first : (n : ℕ) (parts : List ℕ) (ms : List Design) → length parts ≡ length ms → ((k : ℕ) → k < length parts → get_or all (n + k) 0 ≡ get_or parts k 0)
      → models_fault test parts ms ≡ first_by (spot_fault test all) (spots_from n ms)
  unfolding first_by
  models_first n [] [] same at = refl
  models_first n (part ∷ parts) [] same at = absurd (omega (arith, same))
  models_first n [] (m ∷ ms) same at = absurd (omega (arith, same))
  models_first n (part ∷ parts) (m ∷ ms) same at =
      let first : n + 0 ≡ n = omega arith in
      let here : get_or all n 0 ≡ part = ap (λ k. get_or all k 0) (sym first) ∙ at 0 (omega arith) in
      let next : (k : ℕ) → k < length parts → get_or all (suc n + k) 0 ≡ get_or parts k 0 = λ k lt. let e : suc n + k ≡ n + suc k = omega arith in ap (λ i. get_or all i 0) e ∙ at (suc k) (omega (arith, lt)) in
      ap (λ v. or_else (if v == 0 then None else lines_fault (test v) m.items) (models_fault test parts ms)) (sym here)
      ∙ ap (λ o. or_else o (models_fault test parts ms)) (sym (items_first n m.items))
      ∙ ap (or_else (first_by (spot_fault test all) (spots_in n m.items))) (models_first (suc n) parts ms (omega (arith, same)) next)
      ∙ sym (first_append (spot_fault test all) (spots_in n m.items) (spots_from (suc n) ms))

  all_first : (models : List Design) → length all ≡ length models → models_fault test all models ≡ first_by (spot_fault test all) (spots models)
  all_first models same = models_first 0 all models same (λ k lt. let e : 0 + k ≡ k = omega arith in ap (λ i. get_or all i 0) e)

  -- what is told of a model of number 0, and of one of another
  spot_here : (s : Spot) → 0 < get_or all s.place 0 → spot_fault test all s ≡ test (get_or all s.place 0) (Place s.placing)
  unfolding spot_fault
  spot_here s some = ap (λ b. if b then None else test (get_or all s.place 0) (Place s.placing)) (unequal (get_or all s.place 0) 0 (λ (e : get_or all s.place 0 ≡ 0). omega (arith, e, some)))

  spot_some : (s : Spot) (x : ModelFault) → spot_fault test all s ≡ Some x → (0 < get_or all s.place 0) × (test (get_or all s.place 0) (Place s.placing) ≡ Some x)
  unfolding spot_fault
  spot_some s x e = ⊎_elim
      (λ t. let bad : None ≡ Some x = sym (ap (λ b. if b then None else test (get_or all s.place 0) (Place s.placing)) t) ∙ e in absurd (never bad))
      (λ f. (positive (get_or all s.place 0) f, sym (ap (λ b. if b then None else test (get_or all s.place 0) (Place s.placing)) f) ∙ e))
      (cases_Bool (get_or all s.place 0 == 0))
    where
      never : None ≡ Some x → ⊥
      never bad = cc

      positive : (k : ℕ) → (k == 0) ≡ false → 0 < k
      positive zero f = let bad : true ≡ false = f in cc
      positive (suc k) f = omega arith

-- ---- lines with faults of their own

module _ (models : List Design) (find : List ℕ → Option ℕ) (same : (t : List ℕ) → find t ≡ place_of models t) (groups : List ℕ) (long : length groups ≡ length models) (has_groups : HasGroups models groups) where
  abbrev placing_test : ℕ → Item → Option ModelFault
  placing_test k i = item_fault find (ports_by models) i

  placing_told : (s : Spot) → In (spots models) s → IsMisplaced models s → spot_fault placing_test groups s ≡ None → ⊥
  placing_told s i p e = p.1 (sym (spot_here placing_test groups (λ k q. refl) s (has_groups.reached s.place p.0) ∙ placing_is models find s.placing same) ∙ e)

  placing_only : (s : Spot) (x : ModelFault) → In (spots models) s → spot_fault placing_test groups s ≡ Some x → IsMisplaced models s
  placing_only s x i e =
      let r = spot_some placing_test groups (λ k q. refl) s x e in
      let f : placing_fault models s.placing ≡ Some x = sym (placing_is models find s.placing same) ∙ r.1 in
      (has_groups.only s.place r.0, λ none. let bad : None ≡ Some x = sym none ∙ f in never bad)
    where
      never : None ≡ Some x → ⊥
      never bad = cc

  pub placings_found : (x : ModelFault) → placings_fault find (ports_by models) groups models ≡ Some x → (s : Spot) × IsFirst (IsMisplaced models) (spots models) s × (placing_fault models s.placing ≡ Some x)
  placings_found x e =
      let r = first_is (IsMisplaced models) (spot_fault placing_test groups) (spots models) placing_told placing_only x (sym (all_first placing_test groups (λ k q. refl) models long) ∙ e) in
      (r.0, r.1, sym (placing_is models find r.0.placing same) ∙ (spot_some placing_test groups (λ k q. refl) r.0 x r.3).1)

  pub placings_none : placings_fault find (ports_by models) groups models ≡ None → IsNone (IsMisplaced models) (spots models)
  placings_none e = none_is (IsMisplaced models) (spot_fault placing_test groups) (spots models) placing_told (sym (all_first placing_test groups (λ k q. refl) models long) ∙ e)

  -- ---- lines that lead back

  back_told : (s : Spot) → In (spots models) s → IsRecursive models s → spot_fault (back_fault find groups) groups s ≡ None → ⊥
  back_told s i p e =
      let j = p.1.0 in
      let part = get_or groups s.place 0 in
      let together : part ≡ get_or groups j 0 = (components_tell models (λ k. get_or groups k 0) s.place j has_groups.tell p.0 (spot_places models s j i p.1.1)).0 p.1.2 in
      let found : back_at groups part s.placing (find s.placing.model) ≡ Some (Recursive s.placing.line s.placing.model) =
      ap (back_at groups part s.placing) (same s.placing.model ∙ p.1.1) ∙ ap (λ b. if b then Some (Recursive s.placing.line s.placing.model) else None) (eq-eqb (get_or groups j 0) part (sym together)) in
      let here = spot_here (back_fault find groups) groups (λ k q. refl) s (has_groups.reached s.place p.0) in
      let bad : Some (Recursive s.placing.line s.placing.model) ≡ None = sym (here ∙ found) ∙ e in
      never (Recursive s.placing.line s.placing.model) bad
    where
      never : (x : ModelFault) → Some x ≡ None → ⊥
      never x bad = cc

  back_some : (s : Spot) (x : ModelFault) → In (spots models) s → spot_fault (back_fault find groups) groups s ≡ Some x → IsRecursive models s × (x ≡ Recursive s.placing.line s.placing.model)
  back_some s x i e =
      let part = get_or groups s.place 0 in
      let r = spot_some (back_fault find groups) groups (λ k q. refl) s x e in
      let reached : IsReached models s.place = has_groups.only s.place r.0 in
      by reached (find s.placing.model) refl r.1
    where
      fault : ModelFault
      fault = Recursive s.placing.line s.placing.model

      never : None ≡ Some x → ⊥
      never bad = cc

      by : IsReached models s.place → (o : Option ℕ) → find s.placing.model ≡ o → back_at groups (get_or groups s.place 0) s.placing o ≡ Some x → IsRecursive models s × (x ≡ Recursive s.placing.line s.placing.model)
      by reached None at told = absurd (never told)
      by reached (Some j) at told =
          let place : place_of models s.placing.model ≡ Some j = sym (same s.placing.model) ∙ at in
          ⊎_elim
          (λ t.
          let together : get_or groups s.place 0 ≡ get_or groups j 0 = sym (eqb-true (get_or groups j 0) (get_or groups s.place 0) t) in
          let back : Reaches models j s.place = (components_tell models (λ k. get_or groups k 0) s.place j has_groups.tell reached (spot_places models s j i place)).1 together in
          let told_by : Some (Recursive s.placing.line s.placing.model) ≡ Some x = sym (ap (λ b. if b then Some (Recursive s.placing.line s.placing.model) else None) t) ∙ told in
          let is : x ≡ Recursive s.placing.line s.placing.model = cc in
          ((reached, (j, place, back)), is))
          (λ f. let bad : None ≡ Some x = sym (ap (λ b. if b then Some (Recursive s.placing.line s.placing.model) else None) f) ∙ told in absurd (never bad))
          (cases_Bool (get_or groups j 0 == get_or groups s.place 0))

  pub recursion_found : (x : ModelFault) → recursion_fault find groups models ≡ Some x → (s : Spot) × IsFirst (IsRecursive models) (spots models) s × (x ≡ Recursive s.placing.line s.placing.model)
  recursion_found x e =
      let r = first_is (IsRecursive models) (spot_fault (back_fault find groups) groups) (spots models) back_told (λ s z i f. (back_some s z i f).0) x (sym (all_first (back_fault find groups) groups (λ k q. refl) models long) ∙ e) in
      (r.0, r.1, (back_some r.0 x r.2 r.3).1)

  pub recursion_none : recursion_fault find groups models ≡ None → IsNone (IsRecursive models) (spots models)
  recursion_none e = none_is (IsRecursive models) (spot_fault (back_fault find groups) groups) (spots models) back_told (sym (all_first (back_fault find groups) groups (λ k q. refl) models long) ∙ e)
