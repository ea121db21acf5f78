-- Texts in tables: which are there, and what stands beside them.
use Rattle.std.proofs.Common.{ℕ, ◌≡◌, ◌+◌, ◌<◌, inl, inr, Bool, true, false, ◌||◌, ◌==◌, List, [], ◌∷◌, ◌++◌, length, refl, sym, ◌∙◌, ap, subst, ⊎_elim, arith, zero, suc, Option, Some, None, slice_get, if◌then◌else◌, get_or, drop, add-one}
use Rattle.std.proofs.Math.Seq.{drop-cons}
use Rattle.std.specs.Str.{bytes_eq}
use Rattle.std.proofs.lemmas.Bool.{cases_Bool, both_ways, eqb-true}
use Rattle.std.proofs.lemmas.Slice.Eq.{bytes_eq-Decides}
use Rattle.surf_rules.specs.Names.{AreDistinct, with_text}
use Rattle.surf_logic.specs.Order.{has, or_else, first_missing}
use Rattle.surf_logic.proofs.Has.{In, has_in, has_from, or_left, or_right}
use Rattle.surf_flatten.specs.Designs.{Design, is_name}
use Rattle.surf_flatten.specs.Reaching.{place_from}
use Rattle.surf_flatten.specs.Faults.{ModelFault, ModelTwice, named, twice_at, model_twice}
use Rattle.surf_flatten.specs.Tables.{found_in, names_after, places_after}

pub bytes_to : (a b : List ℕ) → bytes_eq a b ≡ true → a ≡ b
bytes_to a b t = (bytes_eq-Decides a b).0 t

pub bytes_from : (a : List ℕ) → bytes_eq a a ≡ true
bytes_from a = (bytes_eq-Decides a a).1 refl

pub bytes_swap : (a b : List ℕ) → bytes_eq a b ≡ bytes_eq b a
bytes_swap a b = ⊎_elim
    (λ t. t ∙ sym (subst (λ v. bytes_eq b v ≡ true) (sym (bytes_to a b t)) (bytes_from b)))
    (λ f. f ∙ sym (⊎_elim (λ t. absurd (both_ways _ f (subst (λ v. bytes_eq a v ≡ true) (sym (bytes_to b a t)) (bytes_from a)))) (λ g. g) (cases_Bool (bytes_eq b a))))
    (cases_Bool (bytes_eq a b))

pub unequal : (a b : ℕ) → (a ≡ b → ⊥) → (a == b) ≡ false
unequal a b ne = ⊎_elim (λ t. absurd (ne (eqb-true a b t))) (λ f. f) (cases_Bool (a == b))

-- the list from a place on
pub rest_at : {X : Type 0} (xs : List X) (i : ℕ) (x : X) → i < length xs → x ≡ get_or xs i x → drop i xs ≡ x ∷ drop (i + 1) xs
rest_at xs i x lt is = let next : suc i ≡ i + 1 = omega arith in drop-cons xs i x lt ∙ ap (λ v. v ∷ drop (suc i) xs) (sym is) ∙ ap (λ (k : ℕ). x ∷ drop k xs) next

-- ---- sets

pub has_at : (ns : List (List ℕ)) (k : ℕ) (t : List ℕ) → slice_get ns k ≡ Some t → has bytes_eq ns t ≡ true
has_at [] k t e = let bad : None ≡ Some t = e in cc
has_at (n ∷ ns) zero t e = let same : n ≡ t = cc in or_left _ _ (subst (λ v. bytes_eq t v ≡ true) (sym same) (bytes_from t))
has_at (n ∷ ns) (suc k) t e = or_right _ _ (has_at ns k t e)

place_at : (ns : List (List ℕ)) (t : List ℕ) → has bytes_eq ns t ≡ true → (k : ℕ) × (slice_get ns k ≡ Some t)
place_at [] t h = let bad : false ≡ true = h in cc
place_at (n ∷ ns) t h = ⊎_elim
    (λ e. (zero, ap (λ (v : List ℕ). Some v) (sym (bytes_to t n e))))
    (λ f. let r = place_at ns t (ap (λ b. b || has bytes_eq ns t) (sym f) ∙ h) in (suc r.0, r.1))
    (cases_Bool (bytes_eq t n))

pub hasnt_at : (ns : List (List ℕ)) (t : List ℕ) → ((k : ℕ) → slice_get ns k ≡ Some t → ⊥) → has bytes_eq ns t ≡ false
hasnt_at ns t none = ⊎_elim (λ h. let r = place_at ns t h in absurd (none r.0 r.1)) (λ f. f) (cases_Bool (has bytes_eq ns t))

pub has_put : (ns : List (List ℕ)) (n t : List ℕ) → has bytes_eq (ns ++ n ∷ []) t ≡ has bytes_eq (n ∷ ns) t
has_put [] n t = refl
has_put (m ∷ ns) n t = ap (λ b. bytes_eq t m || b) (has_put ns n t) ∙ turned (bytes_eq t m) (bytes_eq t n) (has bytes_eq ns t)
  where
    turned : (a b c : Bool) → (a || (b || c)) ≡ (b || (a || c))
    turned true true c = refl
    turned true false c = refl
    turned false b c = refl

-- ---- places

pub found_none : (ns : List (List ℕ)) (ps : List ℕ) (t : List ℕ) → ((k : ℕ) → slice_get ns k ≡ Some t → ⊥) → found_in ns ps t ≡ None
found_none [] ps t none = refl
found_none (n ∷ ns) [] t none = refl
found_none (n ∷ ns) (p ∷ ps) t none = ⊎_elim
    (λ e. absurd (none zero (ap (λ (v : List ℕ). Some v) (bytes_to n t e))))
    (λ f. ap (λ b. if b then Some p else found_in ns ps t) f ∙ found_none ns ps t (λ k e. none (suc k) e))
    (cases_Bool (bytes_eq n t))

distinct_tail : (n : List ℕ) (ns : List (List ℕ)) → AreDistinct (n ∷ ns) → AreDistinct ns
distinct_tail n ns d = λ i j t a b. let e : suc i ≡ suc j = d (suc i) (suc j) t a b in omega (arith, e)

pub found_at : (ns : List (List ℕ)) (ps : List ℕ) (k : ℕ) (t : List ℕ) → AreDistinct ns → slice_get ns k ≡ Some t → found_in ns ps t ≡ slice_get ps k
found_at [] ps k t d e = let bad : None ≡ Some t = e in cc
found_at (n ∷ ns) [] k t d e = refl
found_at (n ∷ ns) (p ∷ ps) zero t d e =
    let same : n ≡ t = cc in
    ap (λ b. if b then Some p else found_in ns ps t) (subst (λ v. bytes_eq v t ≡ true) (sym same) (bytes_from t))
found_at (n ∷ ns) (p ∷ ps) (suc k) t d e = ⊎_elim
    (λ same. let bad : zero ≡ suc k = d zero (suc k) t (ap (λ (v : List ℕ). Some v) (bytes_to n t same)) e in absurd (omega (arith, bad)))
    (λ f. ap (λ b. if b then Some p else found_in ns ps t) f ∙ found_at ns ps k t (distinct_tail n ns d) e)
    (cases_Bool (bytes_eq n t))

pub found_put : (ns : List (List ℕ)) (ps : List ℕ) (n : List ℕ) (p : ℕ) (t : List ℕ) → length ns ≡ length ps → found_in (ns ++ n ∷ []) (ps ++ p ∷ []) t ≡ or_else (found_in ns ps t) (if bytes_eq n t then Some p else None)
found_put [] [] n p t e = refl
found_put [] (q ∷ ps) n p t e = absurd (omega (arith, e))
found_put (m ∷ ns) [] n p t e = absurd (omega (arith, e))
found_put (m ∷ ns) (q ∷ ps) n p t e = by (bytes_eq m t) (found_put ns ps n p t (omega (arith, e)))
  where
    by : (b : Bool) → found_in (ns ++ n ∷ []) (ps ++ p ∷ []) t ≡ or_else (found_in ns ps t) (if bytes_eq n t then Some p else None)
        → (if b then Some q else found_in (ns ++ n ∷ []) (ps ++ p ∷ []) t) ≡ or_else (if b then Some q else found_in ns ps t) (if bytes_eq n t then Some p else None)
    by true h = refl
    by false h = h

-- ---- the models by name

or_else_if : (a : Option ℕ) (b : Bool) (p : ℕ) (r : Option ℕ) → or_else (or_else a (if b then Some p else None)) r ≡ or_else a (if b then Some p else r)
or_else_if None true p r = refl
or_else_if None false p r = refl
or_else_if (Some x) b p r = refl

name_step : (ns : List (List ℕ)) (ps : List ℕ) (p : ℕ) (o : Option (List ℕ)) (t : List ℕ) (r : Option ℕ) → length ns ≡ length ps
    → or_else (found_in (names_after ns o) (places_after ps p o) t) r ≡ or_else (found_in ns ps t) (if is_name t o then Some p else r)
name_step ns ps p None t r e = refl
name_step ns ps p (Some n) t r e = ap (λ a. or_else a r) (found_put ns ps n p t e) ∙ or_else_if (found_in ns ps t) (bytes_eq n t) p r

pub place_step : (ns : List (List ℕ)) (ps : List ℕ) (models : List Design) (p : ℕ) (m : Design) (t : List ℕ) → length ns ≡ length ps → p < length models → m ≡ get_or models p m
    → or_else (found_in (names_after ns m.name) (places_after ps p m.name) t) (place_from (p + 1) (drop (p + 1) models) t) ≡ or_else (found_in ns ps t) (place_from p (drop p models) t)
place_step ns ps models p m t e lt is =
    let rest : place_from (p + 1) (drop (p + 1) models) t ≡ place_from (suc p) (drop (p + 1) models) t = ap (λ (k : ℕ). place_from k (drop (p + 1) models) t) (omega arith) in
    ap (or_else (found_in (names_after ns m.name) (places_after ps p m.name) t)) rest
    ∙ name_step ns ps p m.name t (place_from (suc p) (drop (p + 1) models) t) e
    ∙ sym (ap (λ v. or_else (found_in ns ps t) (place_from p v t)) (rest_at models p m lt is))

pub paired_after : (ns : List (List ℕ)) (ps : List ℕ) (p : ℕ) (o : Option (List ℕ)) → length ns ≡ length ps → length (names_after ns o) ≡ length (places_after ps p o)
paired_after ns ps p None e = e
paired_after ns ps p (Some n) e = omega (arith, length_put ns n, length_put ps p)
  where
    length_put : {X : Type 0} (xs : List X) (x : X) → length (xs ++ x ∷ []) ≡ suc (length xs)
    length_put [] x = refl
    length_put (y ∷ xs) x = ap suc (length_put xs x)

same_twice : (xs ys : List (List ℕ)) (ms : List Design) → ((t : List ℕ) → has bytes_eq xs t ≡ has bytes_eq ys t) → model_twice xs ms ≡ model_twice ys ms
same_twice xs ys [] same = refl
same_twice xs ys (m ∷ ms) same = by (λ us vs. same_twice us vs ms) m.name
  where
    by : ((us vs : List (List ℕ)) → ((t : List ℕ) → has bytes_eq us t ≡ has bytes_eq vs t) → model_twice us ms ≡ model_twice vs ms) → (o : Option (List ℕ))
        → or_else (twice_at m.line xs o) (model_twice (named o xs) ms) ≡ or_else (twice_at m.line ys o) (model_twice (named o ys) ms)
    by h None = h xs ys same
    by h (Some n) =
        ap (λ b. or_else (if b then Some (ModelTwice m.line n) else None) (model_twice (n ∷ xs) ms)) (same n)
        ∙ ap (or_else (twice_at m.line ys (Some n))) (h (n ∷ xs) (n ∷ ys) (λ t. ap (λ b. bytes_eq t n || b) (same t)))

twice_named : (ns : List (List ℕ)) (o : Option (List ℕ)) (line : ℕ) (ms : List Design) → twice_at line ns o ≡ None → or_else (twice_at line ns o) (model_twice (named o ns) ms) ≡ model_twice (names_after ns o) ms
twice_named ns None line ms once = refl
twice_named ns (Some n) line ms once = ap (λ v. or_else v (model_twice (n ∷ ns) ms)) once ∙ sym (same_twice (ns ++ n ∷ []) (n ∷ ns) ms (has_put ns n))

pub twice_step : (ns : List (List ℕ)) (models : List Design) (p : ℕ) (m : Design) → p < length models → m ≡ get_or models p m → twice_at m.line ns m.name ≡ None
    → model_twice (names_after ns m.name) (drop (p + 1) models) ≡ model_twice ns (drop p models)
twice_step ns models p m lt is once =
    sym (ap (model_twice ns) (rest_at models p m lt is) ∙ twice_named ns m.name m.line (drop (p + 1) models) once)

pub twice_here : (ns : List (List ℕ)) (models : List Design) (p : ℕ) (m : Design) (f : ModelFault) → p < length models → m ≡ get_or models p m → twice_at m.line ns m.name ≡ Some f
    → model_twice ns (drop p models) ≡ Some f
twice_here ns models p m f lt is here =
    ap (model_twice ns) (rest_at models p m lt is) ∙ ap (λ v. or_else v (model_twice (named m.name ns) (drop (p + 1) models))) here

pub or_none : (a : Option ℕ) → or_else a None ≡ a
or_none None = refl
or_none (Some x) = refl
