-- What flags say of names.
use Rattle.std.proofs.Common.{ℕ, ◌≡◌, ◌≢◌, ◌+◌, ◌<◌, Bool, true, false, ◌||◌, List, [], ◌∷◌, ◌++◌, length, refl, sym, ◌∙◌, ap, subst, ⊎_elim, arith, add-one, zero, suc, Some, if◌then◌else◌, get_or, get_or-set_same, get_or-set_other, nat_eq, drop}
use Rattle.std.specs.List.{All, list_any, list_all}
use Rattle.std.proofs.Math.ListN.{set, length-set, replicate}
use Rattle.std.proofs.Math.Seq.{drop-cons}
use Rattle.std.proofs.lemmas.Bool.{eqb-true, eqb-false, cases_Bool}
use Rattle.std.proofs.lemmas.List.Elements.{All-nil, All-head, All-tail, All-cons, All-append}
use Rattle.surf_logic.specs.Equations.{EquationOf, Numbered, at}
use Rattle.surf_logic.specs.Order.{has, first_twice, first_missing, outputs_of, inputs_of, list_fault, or_else, InRange, EquationInRange, is_ready}
use Rattle.surf_logic.specs.Marks.{Marks, twice_by, missing_by, marked, flags_fault, undriven_by, ready_by}

pub or_false : (b : Bool) → (b || false) ≡ b
or_false true = refl
or_false false = refl

pub or_assoc : (a b c : Bool) → ((a || b) || c) ≡ (a || (b || c))
or_assoc true b c = refl
or_assoc false b c = refl

same_or : (a b : Bool) → a ≡ true → (a || b) ≡ true
same_or a b t = ap (λ v. v || b) t

both_true : (a b c : Bool) → a ≡ true → b ≡ true → a ≡ (b || c)
both_true a b c t u = t ∙ sym (same_or b c u)

pub has_append : (xs ys : List ℕ) (n : ℕ) → has nat_eq (xs ++ ys) n ≡ (has nat_eq xs n || has nat_eq ys n)
has_append [] ys n = refl
has_append (x ∷ xs) ys n = ap (λ b. nat_eq n x || b) (has_append xs ys n) ∙ sym (or_assoc (nat_eq n x) (has nat_eq xs n) (has nat_eq ys n))

-- a flag after one was put up
pub set_at : (flags : List Bool) (m n : ℕ) → m < length flags → at (set flags m true) n ≡ (nat_eq n m || at flags n)
set_at flags m n lt = ⊎_elim
    (λ t. both_true (at (set flags m true) n) (nat_eq n m) (at flags n) (ap (at (set flags m true)) (eqb-true n m t) ∙ get_or-set_same flags m true false lt) t)
    (λ f. let ne : n ≢ m = eqb-false n m f in get_or-set_other flags m n true false ne ∙ ap (λ b. b || at flags n) (sym f))
    (cases_Bool (nat_eq n m))

pub marks_more : (flags : List Bool) (known : List ℕ) (m : ℕ) → Marks flags known → m < length flags → Marks (set flags m true) (m ∷ known)
marks_more flags known m k lt = record { is = λ n h. set_at flags m n lt ∙ ap (λ b. nat_eq n m || b) (k.is n (omega (arith, length-set flags m true))) }

pub within_set : (flags : List Bool) (m : ℕ) (ns : List ℕ) → All (λ n. n < length flags) ns → All (λ n. n < length (set flags m true)) ns
within_set flags m ns h = subst (λ k. All (λ n. n < k) ns) (sym (length-set flags m true)) h

pub twice_is : (flags : List Bool) (known ns : List ℕ) → Marks flags known → All (λ n. n < length flags) ns → twice_by flags ns ≡ first_twice nat_eq known ns
twice_is flags known [] k within = refl
twice_is flags known (m ∷ ns) k within =
    let lt : m < length flags = All-head (λ n. n < length flags) m ns within in
    ap (λ b. if b then Some m else twice_by (set flags m true) ns) (k.is m lt)
    ∙ ap (λ o. if has nat_eq known m then Some m else o) (twice_is (set flags m true) (m ∷ known) ns (marks_more flags known m k lt) (within_set flags m ns (All-tail (λ n. n < length flags) m ns within)))

pub missing_is : (flags : List Bool) (known ns : List ℕ) → Marks flags known → All (λ n. n < length flags) ns → missing_by flags ns ≡ first_missing nat_eq known ns
missing_is flags known [] k within = refl
missing_is flags known (m ∷ ns) k within =
    ap (λ b. if b then missing_by flags ns else Some m) (k.is m (All-head (λ n. n < length flags) m ns within))
    ∙ ap (λ o. if has nat_eq known m then o else Some m) (missing_is flags known ns k (All-tail (λ n. n < length flags) m ns within))

pub marked_length : (flags : List Bool) (ns : List ℕ) → length (marked flags ns) ≡ length flags
marked_length flags [] = refl
marked_length flags (m ∷ ns) = marked_length (set flags m true) ns ∙ length-set flags m true

mixed : (a b c : Bool) → ((a || b) || c) ≡ (b || (a || c))
mixed true true c = refl
mixed true false c = refl
mixed false true c = refl
mixed false false c = refl

pub marked_at : (flags : List Bool) (ns : List ℕ) (n : ℕ) → All (λ m. m < length flags) ns → at (marked flags ns) n ≡ (at flags n || has nat_eq ns n)
marked_at flags [] n within = sym (or_false (at flags n))
marked_at flags (m ∷ ns) n within =
    marked_at (set flags m true) ns n (within_set flags m ns (All-tail (λ k. k < length flags) m ns within))
    ∙ ap (λ b. b || has nat_eq ns n) (set_at flags m n (All-head (λ k. k < length flags) m ns within))
    ∙ mixed (nat_eq n m) (at flags n) (has nat_eq ns n)

pub marks_list : (flags : List Bool) (known ns : List ℕ) → Marks flags known → All (λ m. m < length flags) ns → Marks (marked flags ns) (known ++ ns)
marks_list flags known ns k within = record {
  is = λ n h.
      marked_at flags ns n within ∙ ap (λ b. b || has nat_eq ns n) (k.is n (omega (arith, marked_length flags ns))) ∙ sym (has_append known ns n);
}

pub missing_append : (flags : List Bool) (xs ys : List ℕ) → missing_by flags (xs ++ ys) ≡ or_else (missing_by flags xs) (missing_by flags ys)
missing_append flags [] ys = refl
missing_append flags (x ∷ xs) ys = ⊎_elim
    (λ t. ap (λ b. if b then missing_by flags (xs ++ ys) else Some x) t ∙ missing_append flags xs ys ∙ ap (λ b. or_else (if b then missing_by flags xs else Some x) (missing_by flags ys)) (sym t))
    (λ f. ap (λ b. if b then missing_by flags (xs ++ ys) else Some x) f ∙ ap (λ b. or_else (if b then missing_by flags xs else Some x) (missing_by flags ys)) (sym f))
    (cases_Bool (at flags x))

pub missing_step : (flags : List Bool) (qs : List (EquationOf ℕ)) (i : ℕ) (q : EquationOf ℕ) → i < length qs → q ≡ get_or qs i q
    → missing_by flags (inputs_of (drop i qs)) ≡ or_else (missing_by flags q.inputs) (missing_by flags (inputs_of (drop (i + 1) qs)))
missing_step flags qs i q lt is =
    ap (λ v. missing_by flags (inputs_of v)) (drop-cons qs i q lt)
    ∙ missing_append flags (get_or qs i q).inputs (inputs_of (drop (suc i) qs))
    ∙ ap (λ (v : EquationOf ℕ). or_else (missing_by flags v.inputs) (missing_by flags (inputs_of (drop (suc i) qs)))) (sym is)
    ∙ ap (λ k. or_else (missing_by flags q.inputs) (missing_by flags (inputs_of (drop k qs)))) (sym (add-one i))

pub outputs_in : (count : ℕ) (qs : List (EquationOf ℕ)) → All (EquationInRange count) qs → All (λ n. n < count) (outputs_of qs)
outputs_in count [] h = All-nil (λ n. n < count)
outputs_in count (q ∷ qs) h = All-cons (λ n. n < count) q.output (outputs_of qs) (All-head (EquationInRange count) q qs h).output (outputs_in count qs (All-tail (EquationInRange count) q qs h))

pub inputs_in : (count : ℕ) (qs : List (EquationOf ℕ)) → All (EquationInRange count) qs → All (λ n. n < count) (inputs_of qs)
inputs_in count [] h = All-nil (λ n. n < count)
inputs_in count (q ∷ qs) h = All-append (λ n. n < count) q.inputs (inputs_of qs) (All-head (EquationInRange count) q qs h).inputs (inputs_in count qs (All-tail (EquationInRange count) q qs h))

pub flags_is : (driven seen : List Bool) (p : Numbered) → InRange p → length driven ≡ length p.names → length seen ≡ length p.names → Marks driven [] → Marks seen []
    → flags_fault driven seen p.parts ≡ list_fault nat_eq p.parts
flags_is driven seen p r wide wide_seen k s =
    let to_driven = λ (ns : List ℕ) (h : All (λ n. n < length p.names) ns). subst (λ v. All (λ n. n < v) ns) (sym wide) h in
    let to_seen = λ (ns : List ℕ) (h : All (λ n. n < length p.names) ns). subst (λ v. All (λ n. n < v) ns) (sym wide_seen) h in
    let one = marked driven p.parts.inputs in
    let marks_one : Marks one p.parts.inputs = marks_list driven [] p.parts.inputs k (to_driven p.parts.inputs r.inputs) in
    let wide_one : length one ≡ length p.names = marked_length driven p.parts.inputs ∙ wide in
    let to_one = λ (ns : List ℕ) (h : All (λ n. n < length p.names) ns). subst (λ v. All (λ n. n < v) ns) (sym wide_one) h in
    let outs = outputs_of p.parts.equations in
    let two = marked one outs in
    let marks_two : Marks two (p.parts.inputs ++ outs) = marks_list one p.parts.inputs outs marks_one (to_one outs (outputs_in (length p.names) p.parts.equations r.equations)) in
    let wide_two : length two ≡ length p.names = marked_length one outs ∙ wide_one in
    let asked = inputs_of p.parts.equations ++ p.parts.outputs in
    let all_asked : All (λ n. n < length two) asked = subst (λ v. All (λ n. n < v) asked) (sym wide_two)
    (All-append (λ n. n < length p.names) (inputs_of p.parts.equations) p.parts.outputs (inputs_in (length p.names) p.parts.equations r.equations) r.outputs) in
    let a : twice_by driven p.parts.inputs ≡ first_twice nat_eq [] p.parts.inputs = twice_is driven [] p.parts.inputs k (to_driven p.parts.inputs r.inputs) in
    let b : twice_by seen p.parts.outputs ≡ first_twice nat_eq [] p.parts.outputs = twice_is seen [] p.parts.outputs s (to_seen p.parts.outputs r.outputs) in
    let c : twice_by one outs ≡ first_twice nat_eq p.parts.inputs outs = twice_is one p.parts.inputs outs marks_one (to_one outs (outputs_in (length p.names) p.parts.equations r.equations)) in
    let d : undriven_by two p.parts ≡ first_missing nat_eq (p.parts.inputs ++ outs) asked = sym (missing_append two (inputs_of p.parts.equations) p.parts.outputs) ∙ missing_is two (p.parts.inputs ++ outs) asked marks_two all_asked in
    rw (a, b, c, d) refl

pub no_marks : (count : ℕ) → Marks (replicate count false) []
no_marks count = record { is = λ n h. down count n }
  where
    down : (count n : ℕ) → at (replicate count false) n ≡ false
    down zero n = refl
    down (suc count) zero = refl
    down (suc count) (suc n) = down count n

pub ready_is : (flags : List Bool) (known : List ℕ) (ns : List ℕ) → Marks flags known → All (λ n. n < length flags) ns → list_all (at flags) ns ≡ list_all (has nat_eq known) ns
ready_is flags known [] k within = refl
ready_is flags known (n ∷ ns) k within =
    let here : at flags n ≡ has nat_eq known n = k.is n (All-head (λ m. m < length flags) n ns within) in
    let rest : list_all (at flags) ns ≡ list_all (has nat_eq known) ns = ready_is flags known ns k (All-tail (λ m. m < length flags) n ns within) in
    rw (here, rest) refl

pub any_ready_is : (flags : List Bool) (known : List ℕ) (qs : List (EquationOf ℕ)) → Marks flags known → All (EquationInRange (length flags)) qs → list_any (ready_by flags) qs ≡ list_any (is_ready nat_eq known) qs
any_ready_is flags known [] k within = refl
any_ready_is flags known (q ∷ qs) k within =
    let here : ready_by flags q ≡ is_ready nat_eq known q = ready_is flags known q.inputs k (All-head (EquationInRange (length flags)) q qs within).inputs in
    let rest : list_any (ready_by flags) qs ≡ list_any (is_ready nat_eq known) qs = any_ready_is flags known qs k (All-tail (EquationInRange (length flags)) q qs within) in
    rw (here, rest) refl
