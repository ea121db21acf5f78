-- The names whose flags were down, and the names that each name is given from.
use Rattle.std.proofs.Common.{ℕ, ◌≡◌, ◌≢◌, ◌+◌, ◌<◌, Bool, true, false, not, ◌||◌, ◌&&◌, List, [], ◌∷◌, ◌++◌, length, refl, sym, ◌∙◌, ap, subst, ⊎_elim, arith, zero, suc, if◌then◌else◌, get_or, get_or-set_same, get_or-set_other, nat_eq}
use Rattle.std.specs.List.{All, list_any}
use Rattle.std.proofs.lemmas.Bool.{eqb-true, eqb-false, and_parts, cases_Bool, false≢true}
use Rattle.std.proofs.Math.ListN.{set, length-set, replicate}
use Rattle.std.proofs.lemmas.List.{length-replicate, replicate-append-replicate}
use Rattle.std.proofs.lemmas.List.Elements.{All-head, All-tail}
use Rattle.surf_logic.specs.Equations.{EquationOf, at}
use Rattle.surf_logic.specs.Order.{has, is_from, EquationInRange}
use Rattle.surf_logic.specs.Marks.{marked, fresh, down_count, AreSources, added, all_added}
use Rattle.surf_logic.proofs.Has.{In, any_in, has_in, has_from}
use Rattle.surf_logic.proofs.Marking.{set_at, within_set, has_append, or_false, or_assoc}
use Rattle.surf_logic.proofs.Turning.{all_from_in, in_of_all}
use Rattle.surf_logic.proofs.Evaluating.{same_to}
use Rattle.surf_logic.proofs.Cycling.{up_again, one_fewer}

skipped : (e b c : Bool) → (e ≡ true → b ≡ true) → (c && not b) ≡ ((e || c) && not b)
skipped true true true h = refl
skipped true true false h = refl
skipped true false c h = absurd (false≢true (h refl))
skipped false b c h = refl

put_first : (e b c : Bool) → (e ≡ true → b ≡ false) → (e || (c && not (e || b))) ≡ ((e || c) && not b)
put_first true true c h = absurd (false≢true (sym (h refl)))
put_first true false c h = refl
put_first false b c h = refl

-- what is fresh is in the list, and its flag is down
pub has_fresh : (flags : List Bool) (ns : List ℕ) (m : ℕ) → All (λ n. n < length flags) ns → has nat_eq (fresh flags ns) m ≡ (has nat_eq ns m && not (at flags m))
has_fresh flags [] m within = refl
has_fresh flags (n ∷ ns) m within =
    let lt : n < length flags = All-head (λ k. k < length flags) n ns within in
    let rest : All (λ k. k < length flags) ns = All-tail (λ k. k < length flags) n ns within in
    ⊎_elim
    (λ t. ap (λ b. has nat_eq (if b then fresh flags ns else n ∷ fresh (set flags n true) ns) m) t ∙ has_fresh flags ns m rest
    ∙ skipped (nat_eq m n) (at flags m) (has nat_eq ns m) (λ e. ap (at flags) (eqb-true m n e) ∙ t))
    (λ f. ap (λ b. has nat_eq (if b then fresh flags ns else n ∷ fresh (set flags n true) ns) m) f
    ∙ ap (λ b. nat_eq m n || b) (has_fresh (set flags n true) ns m (within_set flags n ns rest) ∙ ap (λ b. has nat_eq ns m && not b) (set_at flags n m lt))
    ∙ put_first (nat_eq m n) (at flags m) (has nat_eq ns m) (λ e. ap (at flags) (eqb-true m n e) ∙ f))
    (cases_Bool (at flags n))

-- each flag that goes up is that of a fresh name
pub fresh_count : (flags : List Bool) (ns : List ℕ) → All (λ n. n < length flags) ns → down_count (marked flags ns) + length (fresh flags ns) ≡ down_count flags
fresh_count flags [] within = omega arith
fresh_count flags (n ∷ ns) within =
    let lt : n < length flags = All-head (λ k. k < length flags) n ns within in
    let rest : All (λ k. k < length flags) ns = All-tail (λ k. k < length flags) n ns within in
    let shown = λ (b : Bool). if b then fresh flags ns else n ∷ fresh (set flags n true) ns in
    ⊎_elim
    (λ t.
    let same : down_count (marked (set flags n true) ns) ≡ down_count (marked flags ns) = ap (λ v. down_count (marked v ns)) (up_again flags n t) in
    let here : length (shown (at flags n)) ≡ length (fresh flags ns) = ap (λ b. length (shown b)) t in
    let later : down_count (marked flags ns) + length (fresh flags ns) ≡ down_count flags = fresh_count flags ns rest in
    omega (arith, same, here, later))
    (λ f.
    let here : length (shown (at flags n)) ≡ suc (length (fresh (set flags n true) ns)) = ap (λ b. length (shown b)) f in
    let later : down_count (marked (set flags n true) ns) + length (fresh (set flags n true) ns) ≡ down_count (set flags n true) = fresh_count (set flags n true) ns (within_set flags n ns rest) in
    let one : down_count (set flags n true) + 1 ≡ down_count flags = one_fewer flags n lt f in
    omega (arith, here, later, one))
    (cases_Bool (at flags n))

-- a name whose flag is up changes nothing
pub fresh_skip : (flags : List Bool) (n : ℕ) (ns : List ℕ) → at flags n ≡ true → fresh flags (n ∷ ns) ≡ fresh flags ns
fresh_skip flags n ns t = ap (λ b. if b then fresh flags ns else n ∷ fresh (set flags n true) ns) t

pub marked_skip : (flags : List Bool) (n : ℕ) (ns : List ℕ) → at flags n ≡ true → marked flags (n ∷ ns) ≡ marked flags ns
marked_skip flags n ns t = ap (λ v. marked v ns) (up_again flags n t)

pub fresh_take : (flags : List Bool) (n : ℕ) (ns : List ℕ) → at flags n ≡ false → fresh flags (n ∷ ns) ≡ n ∷ fresh (set flags n true) ns
fresh_take flags n ns f = ap (λ b. if b then fresh flags ns else n ∷ fresh (set flags n true) ns) f

and_true : (b : Bool) → (b && true) ≡ b
and_true true = refl
and_true false = refl

all_down : (count n : ℕ) → at (replicate count false) n ≡ false
all_down zero n = refl
all_down (suc count) zero = refl
all_down (suc count) (suc n) = all_down count n

-- where no flag is up all names are fresh
all_fresh : (count : ℕ) (ns : List ℕ) (m : ℕ) → All (λ n. n < count) ns → has nat_eq (fresh (replicate count false) ns) m ≡ has nat_eq ns m
all_fresh count ns m within =
    has_fresh (replicate count false) ns m (subst (λ k. All (λ n. n < k) ns) (sym (length-replicate count false)) within)
    ∙ ap (λ b. has nat_eq ns m && not b) (all_down count m)
    ∙ and_true (has nat_eq ns m)

no_source : (count n m : ℕ) → has nat_eq (get_or (replicate count []) n []) m ≡ false
no_source zero n m = refl
no_source (suc count) zero m = refl
no_source (suc count) (suc n) m = no_source count n m

pub added_length : (sources : List (List ℕ)) (q : EquationOf ℕ) → length (added sources q) ≡ length sources
added_length sources q = length-set sources q.output (get_or sources q.output [] ++ fresh (replicate (length sources) false) q.inputs)

added_is : (sources : List (List ℕ)) (q : EquationOf ℕ) (n m : ℕ) → EquationInRange (length sources) q → has nat_eq (get_or (added sources q) n []) m ≡ (has nat_eq (get_or sources n []) m || is_from nat_eq n m q)
added_is sources q n m r =
    let old : List ℕ = get_or sources q.output [] in
    let new : List ℕ = fresh (replicate (length sources) false) q.inputs in
    ⊎_elim
    (λ t.
    let same : q.output ≡ n = eqb-true q.output n t in
    let here : get_or (added sources q) n [] ≡ old ++ new = ap (λ k. get_or (added sources q) k []) (sym same) ∙ get_or-set_same sources q.output (old ++ new) [] r.output in
    ap (λ v. has nat_eq v m) here ∙ has_append old new m
    ∙ ap (λ b. has nat_eq old m || b) (all_fresh (length sources) q.inputs m r.inputs)
    ∙ ap (λ k. has nat_eq (get_or sources k []) m || has nat_eq q.inputs m) same
    ∙ ap (λ b. has nat_eq (get_or sources n []) m || (b && has nat_eq q.inputs m)) (sym t))
    (λ f.
    let apart : n ≢ q.output = λ e. eqb-false q.output n f (sym e) in
    ap (λ v. has nat_eq v m) (get_or-set_other sources q.output n (old ++ new) [] apart)
    ∙ sym (or_false (has nat_eq (get_or sources n []) m))
    ∙ ap (λ b. has nat_eq (get_or sources n []) m || (b && has nat_eq q.inputs m)) (sym f))
    (cases_Bool (nat_eq q.output n))

all_is : (sources : List (List ℕ)) (qs : List (EquationOf ℕ)) (n m : ℕ) → All (EquationInRange (length sources)) qs → has nat_eq (get_or (all_added sources qs) n []) m ≡ (has nat_eq (get_or sources n []) m || list_any (is_from nat_eq n m) qs)
all_is sources [] n m within = sym (or_false (has nat_eq (get_or sources n []) m))
all_is sources (q ∷ qs) n m within =
    all_is (added sources q) qs n m (subst (λ k. All (EquationInRange k) qs) (sym (added_length sources q)) (All-tail (EquationInRange (length sources)) q qs within))
    ∙ ap (λ b. b || list_any (is_from nat_eq n m) qs) (added_is sources q n m (All-head (EquationInRange (length sources)) q qs within))
    ∙ or_assoc (has nat_eq (get_or sources n []) m) (is_from nat_eq n m q) (list_any (is_from nat_eq n m) qs)

pub all_length : (sources : List (List ℕ)) (qs : List (EquationOf ℕ)) → length (all_added sources qs) ≡ length sources
all_length sources [] = refl
all_length sources (q ∷ qs) = all_length (added sources q) qs ∙ added_length sources q

pub sources_are : (count : ℕ) (qs : List (EquationOf ℕ)) → All (EquationInRange count) qs → AreSources qs (all_added (replicate count []) qs)
sources_are count qs within =
    let none : List ℕ = [] in
    record {
      is = λ n m lt.
          all_is (replicate count none) qs n m (subst (λ k. All (EquationInRange k) qs) (sym (length-replicate count none)) within)
          ∙ ap (λ b. b || list_any (is_from nat_eq n m) qs) (no_source count n m);
    }

pub get_any : {X : Type 0} (xs : List X) (i : ℕ) (d e : X) → i < length xs → get_or xs i d ≡ get_or xs i e
get_any [] i d e lt = absurd (omega arith)
get_any (x ∷ xs) zero d e lt = refl
get_any (x ∷ xs) (suc i) d e lt = get_any xs i d e (omega arith)

-- the sources are inputs
pub sources_in : (qs : List (EquationOf ℕ)) (sources : List (List ℕ)) → All (EquationInRange (length sources)) qs → AreSources qs sources → All (All (λ n. n < length sources)) sources
sources_in qs sources within are = λ k d lt. all_from_in (λ n. n < length sources) (get_or sources k d) (λ m i.
    let here : In (get_or sources k []) m = subst (λ v. In v m) (get_any sources k d [] lt) i in
    let r = any_in (is_from nat_eq k m) qs (sym (are.is k m lt) ∙ has_from nat_eq eqb-true same_to (get_or sources k []) m here) in
    let among : In r.0.inputs m = has_in nat_eq eqb-true same_to r.0.inputs m (and_parts _ _ r.2).1 in
    in_of_all (λ n. n < length sources) r.0.inputs m (in_of_all (EquationInRange (length sources)) qs r.0 within r.1).inputs among)

pub replicate_more : {X : Type 0} (n : ℕ) (x : X) → replicate n x ++ x ∷ [] ≡ replicate (n + 1) x
replicate_more n x = replicate-append-replicate n 1 x
