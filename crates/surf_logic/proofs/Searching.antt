-- The search for a name that depends on itself.
use Rattle.std.proofs.Common.{ℕ, ◌≡◌, ◌+◌, ◌<◌, ◌⊎◌, inl, inr, Bool, true, false, not, ◌&&◌, List, [], ◌∷◌, ◌++◌, length, refl, sym, ◌∙◌, ap, subst, ⊎_elim, arith, zero, suc, get_or, nat_eq}
use Rattle.std.specs.List.{All, list_any}
use Rattle.std.proofs.lemmas.Bool.{eqb-true, eq-eqb, and_parts, or_cases, cases_Bool, false≢true}
use Rattle.std.proofs.lemmas.List.{length-append}
use Rattle.std.proofs.lemmas.List.Elements.{All-append, All-get_or}
use Rattle.surf_logic.specs.Equations.{EquationOf, at}
use Rattle.surf_logic.specs.Order.{has, is_from, GivenBy}
use Rattle.surf_logic.specs.Marks.{Marks, marked, fresh, down_count, AreSources, Tells, Reached}
use Rattle.surf_logic.proofs.Has.{In, has_in, has_from, or_left, or_right, in_left, in_right}
use Rattle.surf_logic.proofs.Marking.{marked_at, marked_length, has_append}
use Rattle.surf_logic.proofs.Turning.{all_from_in, in_of_all}
use Rattle.surf_logic.proofs.Evaluating.{same_to}
use Rattle.surf_logic.proofs.Cycling.{given_push}
use Rattle.surf_logic.proofs.Gathering.{has_fresh, fresh_count}

-- the name itself, or one that is up
abbrev pub Begun : ℕ → List Bool → ℕ → Type 0
Begun name flags n = (n ≡ name) ⊎ (at flags n ≡ true)

-- what is up depends on these, and what these depend on is up, but for those that wait
pub record Searched (sources : List (List ℕ)) (name : ℕ) (flags : List Bool) (waiting : List ℕ) : Type 0 where
  pub reached : (qs : List (EquationOf ℕ)) → AreSources qs sources → Reached qs name flags
  pub begun : (n : ℕ) → has nat_eq waiting n ≡ true → Begun name flags n
  pub closed : (n m : ℕ) → Begun name flags n → has nat_eq (get_or sources n []) m ≡ true → (has nat_eq waiting n ≡ true) ⊎ (at flags m ≡ true)
  pub range : All (λ n. n < length flags) waiting
  pub same : length flags ≡ length sources

up_in : (flags : List Bool) (n : ℕ) → at flags n ≡ true → n < length flags
up_in [] n t = absurd (false≢true t)
up_in (b ∷ bs) zero t = omega arith
up_in (b ∷ bs) (suc n) t = let lt = up_in bs n t in omega (arith, lt)

begun_in : (flags : List Bool) (name n : ℕ) → name < length flags → Begun name flags n → n < length flags
begun_in flags name n lt b = ⊎_elim (λ e. subst (λ k. k < length flags) (sym e) lt) (λ t. up_in flags n t) b

pub searched_first : (sources : List (List ℕ)) (name : ℕ) (flags : List Bool) → Marks flags [] → length sources ≡ length flags → name < length flags → Searched sources name flags (name ∷ [])
searched_first sources name flags none same lt =
    let down : (n : ℕ) → at flags n ≡ true → ⊥ = λ n t. false≢true (sym (none.is n (up_in flags n t)) ∙ t) in
    record {
      reached = λ qs are. record { from = λ n h t. absurd (down n t) };
      begun = λ n t. ⊎_elim (λ e. inl (eqb-true n name e)) (λ f. absurd (false≢true f)) (or_cases _ _ t);
      closed = λ n m b t. ⊎_elim (λ e. inl (or_left _ _ (eq-eqb n name e))) (λ u. absurd (down n u)) b;
      range = all_from_in (λ n. n < length flags) (name ∷ []) (λ n i. ⊎_elim (λ e. subst (λ k. k < length flags) e lt) (λ l. absurd l) i);
      same = sym same;
    }

-- what waits last has sources
pub searched_in : (sources : List (List ℕ)) (name : ℕ) (flags : List Bool) (waiting rest : List ℕ) (next : ℕ) → Searched sources name flags waiting → waiting ≡ rest ++ next ∷ [] → next < length sources
searched_in sources name flags waiting rest next s split =
    subst (λ k. next < k) s.same (in_of_all (λ k. k < length flags) waiting next s.range (subst (λ v. In v next) (sym split) (in_right rest (next ∷ []) next (inl refl))))

and_not : (a b : Bool) → a ≡ true → b ≡ false → (a && not b) ≡ true
and_not a b t f = ap (λ v. v && not b) t ∙ ap not f

pub searched_next : (sources : List (List ℕ)) (name : ℕ) (flags : List Bool) (waiting rest : List ℕ) (next : ℕ)
    → Searched sources name flags waiting → name < length flags → All (All (λ n. n < length sources)) sources → waiting ≡ rest ++ next ∷ []
    → Searched sources name (marked flags (get_or sources next [])) (rest ++ fresh flags (get_or sources next []))
searched_next sources name flags waiting rest next s lt within split =
    let found : List ℕ = get_or sources next [] in
    let wide : length (marked flags found) ≡ length flags = marked_length flags found in
    let waits : has nat_eq waiting next ≡ true = ap (λ v. has nat_eq v next) split ∙ has_append rest (next ∷ []) next ∙ or_right _ _ (or_left _ _ (eq-eqb next next refl)) in
    let from : Begun name flags next = s.begun next waits in
    let next_in : next < length flags = begun_in flags name next lt from in
    let next_source : next < length sources = subst (λ k. next < k) s.same next_in in
    let found_source : All (λ n. n < length sources) found = All-get_or (All (λ n. n < length sources)) sources next [] next_source within in
    let found_in : All (λ n. n < length flags) found = subst (λ k. All (λ n. n < k) found) (sym s.same) found_source in
    let up = λ (n : ℕ) (t : at flags n ≡ true). let u : at (marked flags found) n ≡ true = marked_at flags found n found_in ∙ or_left _ _ t in u in
    let up_found = λ (n : ℕ) (t : has nat_eq found n ≡ true). let u : at (marked flags found) n ≡ true = marked_at flags found n found_in ∙ or_right _ _ t in u in
    let waits_still = λ (n : ℕ) (t : has nat_eq waiting n ≡ true). let r : (has nat_eq rest n ≡ true) ⊎ (n ≡ next) = ⊎_elim (λ a. inl a) (λ b. ⊎_elim (λ e. inr (eqb-true n next e)) (λ f. absurd (false≢true f)) (or_cases _ _ b)) (or_cases _ _ (sym (has_append rest (next ∷ []) n) ∙ ap (λ v. has nat_eq v n) (sym split) ∙ t)) in r in
    record {
      reached = λ qs are. record {
        from = λ n h t. ⊎_elim
            (λ old. (s.reached qs are).from n (omega (arith, h, wide)) old)
            (λ new.
            let step : list_any (is_from nat_eq next n) qs ≡ true = sym (are.is next n next_source) ∙ new in
            ⊎_elim
            (λ e. let none : List ℕ = [] in (none, subst (λ v. list_any (is_from nat_eq v n) qs ≡ true) e step))
            (λ u. let d = (s.reached qs are).from next next_in u in (d.0 ++ next ∷ [], given_push qs name d.0 next n d.1 step))
            from)
            (or_cases _ _ (sym (marked_at flags found n found_in) ∙ t));
      };
      begun = λ n t. ⊎_elim
          (λ a. ⊎_elim (λ e. inl e) (λ u. inr (up n u)) (s.begun n (ap (λ v. has nat_eq v n) split ∙ has_append rest (next ∷ []) n ∙ or_left _ _ a)))
          (λ b. inr (up_found n (and_parts _ _ (sym (has_fresh flags found n found_in) ∙ b)).0))
          (or_cases _ _ (sym (has_append rest (fresh flags found) n) ∙ t));
      closed = λ n m b t.
          let old = λ (h : Begun name flags n). let r : (has nat_eq (rest ++ fresh flags found) n ≡ true) ⊎ (at (marked flags found) m ≡ true) = ⊎_elim
          (λ w. ⊎_elim
          (λ a. inl (has_append rest (fresh flags found) n ∙ or_left _ _ a))
          (λ e. inr (up_found m (subst (λ k. has nat_eq (get_or sources k []) m ≡ true) e t)))
          (waits_still n w))
          (λ u. inr (up m u))
          (s.closed n m h t) in r in
          ⊎_elim
          (λ e. old (inl e))
          (λ u. ⊎_elim
          (λ was. old (inr was))
          (λ down. inl (has_append rest (fresh flags found) n ∙ or_right _ _ (has_fresh flags found n found_in ∙ and_not _ _ (⊎_elim (λ was. absurd (false≢true (sym down ∙ was))) (λ new. new) (or_cases _ _ (sym (marked_at flags found n found_in) ∙ u))) down)))
          (cases_Bool (at flags n)))
          b;
      range = subst (λ k. All (λ n. n < k) (rest ++ fresh flags found)) (sym wide) (All-append (λ n. n < length flags) rest (fresh flags found)
          (all_from_in (λ n. n < length flags) rest (λ n i. in_of_all (λ k. k < length flags) waiting n s.range (subst (λ v. In v n) (sym split) (in_left rest (next ∷ []) n i))))
          (all_from_in (λ n. n < length flags) (fresh flags found) (λ n i. in_of_all (λ k. k < length flags) found n found_in (has_in nat_eq eqb-true same_to found n (and_parts _ _ (sym (has_fresh flags found n found_in) ∙ has_from nat_eq eqb-true same_to (fresh flags found) n i)).0))));
      same = wide ∙ s.same;
    }

-- one name fewer is down or waits
pub searched_fewer : (flags : List Bool) (found waiting rest : List ℕ) (next : ℕ) → All (λ n. n < length flags) found → waiting ≡ rest ++ next ∷ []
    → down_count (marked flags found) + length (rest ++ fresh flags found) < down_count flags + length waiting
searched_fewer flags found waiting rest next within split =
    let count : down_count (marked flags found) + length (fresh flags found) ≡ down_count flags = fresh_count flags found within in
    let before : length waiting ≡ length rest + 1 = ap length split ∙ length-append rest (next ∷ []) in
    let after : length (rest ++ fresh flags found) ≡ length rest + length (fresh flags found) = length-append rest (fresh flags found) in
    omega (arith, count, before, after)

-- closed flags hold all that the name depends on
all_reached : (qs : List (EquationOf ℕ)) (name : ℕ) (flags : List Bool) → ((m n : ℕ) → Begun name flags m → list_any (is_from nat_eq m n) qs ≡ true → at flags n ≡ true)
    → (m : ℕ) (ks : List ℕ) (n : ℕ) → Begun name flags m → GivenBy nat_eq qs m ks n → at flags n ≡ true
all_reached qs name flags one m [] n here g = one m n here g
all_reached qs name flags one m (k ∷ ks) n here g = all_reached qs name flags one k ks n (inr (one m k here g.0)) g.1

pub searched_tells : (sources : List (List ℕ)) (name : ℕ) (flags : List Bool) (b : Bool) → Searched sources name flags [] → name < length flags → b ≡ at flags name → (qs : List (EquationOf ℕ)) → AreSources qs sources → Tells qs name b
searched_tells sources name flags true s lt is qs are = (s.reached qs are).from name lt (sym is)
searched_tells sources name flags false s lt is qs are = λ d.
    let one = λ (m n : ℕ) (b : Begun name flags m) (g : list_any (is_from nat_eq m n) qs ≡ true). let u : at flags n ≡ true = ⊎_elim
    (λ f. absurd (false≢true f))
    (λ u. u)
    (s.closed m n b (are.is m n (subst (λ k. m < k) s.same (begun_in flags name m lt b)) ∙ g)) in u in
    false≢true (is ∙ all_reached qs name flags one name d.0 name (inl refl) d.1)
