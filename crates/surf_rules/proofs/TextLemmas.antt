-- Look-ups of texts among the keys of a set.
use Rattle.std.proofs.Common.{◌⊎◌, inl, inr, ⊎_elim, ℕ, ◌≡◌, ◌+◌, ◌-◌, length-append, Bool, true, false, ◌||◌, List, [], ◌∷◌, ◌++◌, map, length, Option, Some, None, Vec, slice_get, position, get_or, refl, sym, ◌∙◌, ap, subst, arith, zero, suc, option_map, if◌then◌else◌}
use Rattle.std.specs.declared.alloc.Global.{Global}
use Rattle.std.specs.List.{list_any}
use Rattle.std.specs.Str.{bytes_eq}
use Rattle.std.proofs.lemmas.Bool.{both_ways}
use Rattle.std.proofs.Math.Bool.{or-true}
use Rattle.std.proofs.lemmas.Option.{slice_get-map, slice_get-get_or}
use Rattle.std.proofs.lemmas.List.Quantifiers.{position-Some}
use Rattle.std.proofs.lemmas.Slice.Eq.{bytes_eq-Decides}
use Rattle.surf_rules.specs.Names.{AreDistinct, with_text}

abbrev pub texts : List (Vec ℕ Global) → List (List ℕ)
texts keys = map (λ v. v.items) keys

position_at : {X : Type 0} (p : X → Bool) (xs : List X) (i : ℕ) → position p xs ≡ Some i → (x : X) × (slice_get xs i ≡ Some x) × (p x ≡ true)
position_at p [] i is = cc
position_at p (x ∷ xs) i is =
    let h = position-Some p (x ∷ xs) i x is in
    (get_or (x ∷ xs) i x, slice_get-get_or (x ∷ xs) i x h.0, h.1)

any_at : {X : Type 0} (p : X → Bool) (xs : List X) (i : ℕ) (x : X) → slice_get xs i ≡ Some x → p x ≡ true → list_any p xs ≡ true
any_at p [] i x is t = cc
any_at p (y ∷ ys) zero x is t = let same : y ≡ x = cc in rw (same, t) refl
any_at p (y ∷ ys) (suc i) x is t = rw (any_at p ys i x is t, or-true) refl

some_key : {X Y : Type 0} (f : X → Y) (o : Option X) (y : Y) → option_map f o ≡ Some y → (x : X) × (o ≡ Some x) × (f x ≡ y)
some_key f None y is = cc
some_key f (Some x) y is = (x, refl, cc)

any_text : (keys : List (Vec ℕ Global)) (bs : List ℕ) → list_any (bytes_eq bs) (texts keys) ≡ list_any (λ k. bytes_eq bs k.items) keys
any_text [] bs = refl
any_text (k ∷ keys) bs = ap (λ b. bytes_eq bs k.items || b) (any_text keys bs)

pub found_text : (keys : List (Vec ℕ Global)) (bs : List ℕ) (i : ℕ) → position (λ k. bytes_eq bs k.items) keys ≡ Some i → slice_get (texts keys) i ≡ Some bs
found_text keys bs i is =
    let h = position_at (λ k. bytes_eq bs k.items) keys i is in
    slice_get-map (λ (v : Vec ℕ Global). v.items) keys i ∙ ap (λ o. option_map (λ (v : Vec ℕ Global). v.items) o) h.1 ∙ ap (λ (t : List ℕ). Some t) (sym ((bytes_eq-Decides bs h.0.items).0 h.2))

pub no_text : (keys : List (Vec ℕ Global)) (bs : List ℕ) (i : ℕ) → list_any (λ k. bytes_eq bs k.items) keys ≡ false → slice_get (texts keys) i ≡ Some bs → ⊥
no_text keys bs i none is =
    let h = some_key (λ (v : Vec ℕ Global). v.items) (slice_get keys i) bs (sym (slice_get-map (λ (v : Vec ℕ Global). v.items) keys i) ∙ is) in
    both_ways _ none (any_at (λ k. bytes_eq bs k.items) keys i h.0 h.1 ((bytes_eq-Decides bs h.0.items).1 (sym h.2)))

texts-push : (keys : List (Vec ℕ Global)) (v : Vec ℕ Global) → texts (keys ++ v ∷ []) ≡ texts keys ++ v.items ∷ []
texts-push [] v = refl
texts-push (k ∷ keys) v = ap (λ ts. k.items ∷ ts) (texts-push keys v)

last_text : (ts : List (List ℕ)) (bs : List ℕ) → slice_get (ts ++ bs ∷ []) (length ts) ≡ Some bs
last_text [] bs = refl
last_text (t ∷ ts) bs = last_text ts bs

pub length-texts : (keys : List (Vec ℕ Global)) → length (texts keys) ≡ length keys
length-texts [] = refl
length-texts (k ∷ keys) = ap suc (length-texts keys)

-- the texts after a push
pub pushed : (keys new : List (Vec ℕ Global)) (v : Vec ℕ Global) (bs : List ℕ) → new ≡ keys ++ v ∷ [] → v.items ≡ bs → texts new ≡ texts keys ++ bs ∷ []
pushed keys new v bs is items = ap texts is ∙ texts-push keys v ∙ ap (λ t. texts keys ++ t ∷ []) items

pub pushed_length : (keys new : List (Vec ℕ Global)) (v : Vec ℕ Global) → new ≡ keys ++ v ∷ [] → length (texts new) ≡ length (texts keys) + 1
pushed_length keys new v is = omega (arith, length-texts new, length-texts keys, ap length is, length-append keys (v ∷ []))

pub pushed_text : (keys new : List (Vec ℕ Global)) (v : Vec ℕ Global) (bs : List ℕ) (n : ℕ) → new ≡ keys ++ v ∷ [] → v.items ≡ bs → n ≡ length new → slice_get (texts new) (n - 1) ≡ Some bs
pushed_text keys new v bs n is items len =
    let at : n - 1 ≡ length (texts keys) = omega (arith, len, ap length is, length-append keys (v ∷ []), length-texts keys) in
    ap (λ t. slice_get t (n - 1)) (pushed keys new v bs is items) ∙ ap (λ k. slice_get (texts keys ++ bs ∷ []) k) at ∙ last_text (texts keys) bs

pub pushed_with : (keys new : List (Vec ℕ Global)) (v : Vec ℕ Global) (bs : List ℕ) → new ≡ keys ++ v ∷ [] → v.items ≡ bs → list_any (λ k. bytes_eq bs k.items) keys ≡ false → texts new ≡ with_text (texts keys) bs
pushed_with keys new v bs is items none =
    pushed keys new v bs is items ∙ sym (ap (λ b. if b then texts keys else texts keys ++ bs ∷ []) (any_text keys bs ∙ none))

pub known_with : (keys : List (Vec ℕ Global)) (bs : List ℕ) (i : ℕ) → position (λ k. bytes_eq bs k.items) keys ≡ Some i → texts keys ≡ with_text (texts keys) bs
known_with keys bs i is =
    let any : list_any (bytes_eq bs) (texts keys) ≡ true = any_at (bytes_eq bs) (texts keys) i bs (found_text keys bs i is) ((bytes_eq-Decides bs bs).1 refl) in
    sym (ap (λ b. if b then texts keys else texts keys ++ bs ∷ []) any)

-- where a text stands once there is one more
where_is : (ts : List (List ℕ)) (bs : List ℕ) (i : ℕ) (t : List ℕ) → slice_get (ts ++ bs ∷ []) i ≡ Some t → (slice_get ts i ≡ Some t) ⊎ ((i ≡ length ts) × (t ≡ bs))
where_is [] bs zero t is = inr (refl, cc)
where_is [] bs (suc i) t is = absurd (cc)
where_is (x ∷ ts) bs zero t is = inl is
where_is (x ∷ ts) bs (suc i) t is = ⊎_elim (λ at. inl at) (λ h. inr (ap suc h.0, h.1)) (where_is ts bs i t is)

-- one more text among distinct ones that it is not among
distinct_more : (ts : List (List ℕ)) (bs : List ℕ) → AreDistinct ts → ((k : ℕ) → slice_get ts k ≡ Some bs → ⊥) → AreDistinct (ts ++ bs ∷ [])
distinct_more ts bs distinct absent i j t at_i at_j =
    ⊎_elim
    (λ a. ⊎_elim (λ b. distinct i j t a b) (λ b. absurd (absent i (a ∙ ap (λ (v : List ℕ). Some v) b.1))) (where_is ts bs j t at_j))
    (λ a. ⊎_elim (λ b. absurd (absent j (b ∙ ap (λ (v : List ℕ). Some v) a.1))) (λ b. a.0 ∙ sym b.0) (where_is ts bs j t at_j))
    (where_is ts bs i t at_i)

pub pushed_distinct : (keys new : List (Vec ℕ Global)) (v : Vec ℕ Global) (bs : List ℕ) → new ≡ keys ++ v ∷ [] → v.items ≡ bs → list_any (λ k. bytes_eq bs k.items) keys ≡ false → AreDistinct (texts keys) → AreDistinct (texts new)
pushed_distinct keys new v bs is items none distinct =
    subst AreDistinct (sym (pushed keys new v bs is items)) (distinct_more (texts keys) bs distinct (λ k at. no_text keys bs k none at))
