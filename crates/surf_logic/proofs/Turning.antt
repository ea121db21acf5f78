-- A turn in the code, and the circuit when all turns are done.
use Rattle.std.proofs.Common.{ℕ, ◌≡◌, ◌<◌, ◌⊎◌, inl, inr, Bool, true, false, List, [], ◌∷◌, ◌++◌, length, refl, sym, ◌∙◌, ap, subst, ⊎_elim, arith, zero, suc, Option, Some, None, IfNone, if◌then◌else◌, get_or, nat_eq, drop, take}
use Rattle.std.specs.List.{All, list_any, remove}
use Rattle.std.proofs.Math.ListN.{set, length-set}
use Rattle.std.proofs.lemmas.Bool.{eqb-true}
use Rattle.std.proofs.lemmas.List.Elements.{All-nil, All-head, All-tail, All-cons, All-append, All-take, All-drop, All-get_or}
use Rattle.surf_logic.specs.Equations.{EquationOf, PartsOf, Numbered}
use Rattle.surf_logic.specs.Order.{has, outputs_of, inputs_of, Turn, Turns, Ordered, EquationInRange, InRange, IsCircuit, list_fault, first_twice, first_missing, or_else}
use Rattle.surf_logic.specs.Marks.{Marks, ReadyAt, ready_by, marked, twice_by}
use Rattle.surf_logic.proofs.Has.{In, in_append, in_left, in_right, from_map, in_flat, has_in, has_from, found_first}
use Rattle.surf_logic.proofs.Taking.{Took, known_after, took_more, took_end, known_end, ordered, driven_once, acyclic, each_is}
use Rattle.surf_logic.proofs.Marking.{marks_list, twice_is, marks_more, ready_is, any_ready_is}
use Rattle.surf_logic.proofs.Evaluating.{Sound, sound, same_to}

split_one : {X : Type 0} (xs : List X) (i : ℕ) (d : X) → i < length xs → xs ≡ take i xs ++ get_or xs i d ∷ drop (suc i) xs
split_one [] i d lt = absurd (omega arith)
split_one (x ∷ xs) zero d lt = refl
split_one (x ∷ xs) (suc i) d lt = ap (λ v. x ∷ v) (split_one xs i d (omega arith))

turn_of : (flags : List Bool) (known : List ℕ) (rest : List (EquationOf ℕ)) (i : ℕ) (q : EquationOf ℕ) → Marks flags known → All (EquationInRange (length flags)) rest → ReadyAt flags rest i → q ≡ get_or rest i q
    → Turn nat_eq known rest q (remove rest i)
turn_of flags known rest i q k within r is =
    let mine : EquationInRange (length flags) q = subst (EquationInRange (length flags)) (sym is) (All-get_or (EquationInRange (length flags)) rest i q r.within within) in
    record {
      before = take i rest;
      after = drop (suc i) rest;
      splits = split_one rest i q r.within ∙ ap (λ (v : EquationOf ℕ). take i rest ++ v ∷ drop (suc i) rest) (sym is);
      leaves = refl;
      waiting = sym (any_ready_is flags known (take i rest) k (All-take (EquationInRange (length flags)) i rest within)) ∙ r.waiting;
      ready = sym (ready_is flags known q.inputs k mine.inputs) ∙ ap (ready_by flags) is ∙ r.ready q;
    }

pub record Along (names : List ℕ) (initial : List (EquationOf ℕ)) (known : List Bool) (taken rest : List (EquationOf ℕ)) : Type 0 where
  pub took : Took nat_eq names initial taken rest
  pub marks : Marks known (known_after names taken)
  pub range : All (EquationInRange (length known)) rest

pub next_along : (names : List ℕ) (initial taken rest pushed left : List (EquationOf ℕ)) (known : List Bool) (i : ℕ) (q : EquationOf ℕ)
    → Took nat_eq names initial taken rest → Marks known (known_after names taken) → All (EquationInRange (length known)) rest
    → ReadyAt known rest i → q ≡ get_or rest i q → pushed ≡ taken ++ q ∷ [] → left ≡ remove rest i → Along names initial (set known q.output true) pushed left
next_along names initial taken rest pushed left known i q t k within r is push out =
    let turn : Turn nat_eq (known_after names taken) rest q (remove rest i) = turn_of known (known_after names taken) rest i q k within r is in
    let mine : EquationInRange (length known) q = subst (EquationInRange (length known)) (sym is) (All-get_or (EquationInRange (length known)) rest i q r.within within) in
    let more : Took nat_eq names initial (taken ++ q ∷ []) (remove rest i) = took_more nat_eq eqb-true same_to names initial taken rest q (remove rest i) t turn in
    let marks : Marks (set known q.output true) (q.output ∷ known_after names taken) = marks_more known (known_after names taken) q.output k mine.output in
    let fewer : All (EquationInRange (length known)) (remove rest i) = All-append (EquationInRange (length known)) (take i rest) (drop (suc i) rest) (All-take (EquationInRange (length known)) i rest within) (All-drop (EquationInRange (length known)) (suc i) rest within) in
    record {
      took = subst (λ v. Took nat_eq names initial v left) (sym push) (subst (λ v. Took nat_eq names initial (taken ++ q ∷ []) v) (sym out) more);
      marks = subst (λ v. Marks (set known q.output true) (known_after names v)) (sym push) (subst (Marks (set known q.output true)) (sym (known_end nat_eq eqb-true same_to names taken q)) marks);
      range = subst (λ v. All (EquationInRange (length (set known q.output true))) v) (sym out) (subst (λ n. All (EquationInRange n) (remove rest i)) (sym (length-set known q.output true)) fewer);
    }

pub turns_end : (names : List ℕ) (initial taken rest : List (EquationOf ℕ)) (known : List Bool) → Took nat_eq names initial taken rest → Marks known (known_after names taken) → All (EquationInRange (length known)) rest
    → list_any (ready_by known) rest ≡ false → Turns nat_eq names initial taken rest
turns_end names initial taken rest known t k within none = took_end nat_eq eqb-true same_to names initial taken rest t (sym (any_ready_is known (known_after names taken) rest k within) ∙ none)

pub all_from_in : {X : Type 0} (P : X → Type 0) (xs : List X) → ((x : X) → In xs x → P x) → All P xs
all_from_in P [] h = All-nil P
all_from_in P (x ∷ xs) h = All-cons P x xs (h x (inl refl)) (all_from_in P xs (λ y i. h y (inr i)))

pub in_of_all : {X : Type 0} (P : X → Type 0) (xs : List X) (x : X) → All P xs → In xs x → P x
in_of_all P [] x h i = absurd i
in_of_all P (y ∷ ys) x h i = ⊎_elim (λ same. subst P same (All-head P y ys h)) (λ later. in_of_all P ys x (All-tail P y ys h) later) i

pub taken_in : (known : List ℕ) (rest taken left : List (EquationOf ℕ)) → Turns nat_eq known rest taken left → (p : EquationOf ℕ) → In taken p → In rest p
taken_in known rest [] left t p i = absurd i
taken_in known rest (q ∷ qs) left t p i =
    let turn = t.1 in
    subst (λ v. In v p) (sym turn.splits) (⊎_elim
    (λ same. in_right turn.before (q ∷ turn.after) p (inl same))
    (λ later. ⊎_elim (λ b. in_left turn.before (q ∷ turn.after) p b) (λ a. in_right turn.before (q ∷ turn.after) p (inr a))
    (in_append turn.before turn.after p (subst (λ v. In v p) turn.leaves (taken_in (q.output ∷ known) t.0 qs left t.2 p later))))
    i)

pub known_is : (known : List ℕ) (qs : List (EquationOf ℕ)) (n : ℕ) → In (known_after known qs) n → In known n ⊎ In (outputs_of qs) n
known_is known [] n i = inl i
known_is known (q ∷ qs) n i = ⊎_elim
    (λ k. ⊎_elim (λ same. inr (inl same)) (λ l. inl l) k)
    (λ o. inr (inr o))
    (known_is (q.output ∷ known) qs n i)

all_found : (known ns : List ℕ) → ((n : ℕ) → In ns n → has nat_eq known n ≡ true) → first_missing nat_eq known ns ≡ None
all_found known [] h = refl
all_found known (n ∷ ns) h = ap (λ b. if b then first_missing nat_eq known ns else Some n) (h n (inl refl)) ∙ all_found known ns (λ m i. h m (inr i))

from_flat : (qs : List (EquationOf ℕ)) (n : ℕ) → In (inputs_of qs) n → (q : EquationOf ℕ) × In qs q × In q.inputs n
from_flat [] n i = absurd i
from_flat (q ∷ qs) n i = ⊎_elim
    (λ h. (q, inl refl, h))
    (λ l. let r = from_flat qs n l in (r.0, inr r.1, r.2))
    (in_append q.inputs (inputs_of qs) n i)

none_of : (p : PartsOf ℕ) → Sound nat_eq p → list_fault nat_eq p ≡ None
none_of p s =
    let a : or_else (first_twice nat_eq [] p.inputs) (first_twice nat_eq [] p.outputs) ≡ None = rw (s.inputs_once) s.outputs_once in
    let b = s.driven_once in
    let c = s.driven in
    let d = s.some_output in
    rw (a, b, c, d) refl

pub circuit_is : (p : Numbered) (taken : List (EquationOf ℕ)) → InRange p → list_fault nat_eq p.parts ≡ None → Turns nat_eq p.parts.inputs p.parts.equations taken []
    → IsCircuit (record { names = p.names; parts = record { inputs = p.parts.inputs; outputs = p.parts.outputs; equations = taken } })
circuit_is p taken r none t =
    let s = sound nat_eq p.parts none in
    let once : first_twice nat_eq p.parts.inputs (outputs_of taken) ≡ None = driven_once nat_eq eqb-true same_to p.parts.inputs p.parts.equations taken [] t s.driven_once in
    let known = p.parts.inputs ++ outputs_of p.parts.equations in
    let asked = inputs_of p.parts.equations ++ p.parts.outputs in
    let now : (n : ℕ) → In asked n → has nat_eq (p.parts.inputs ++ outputs_of taken) n ≡ true = λ n i.
    has_from nat_eq eqb-true same_to (p.parts.inputs ++ outputs_of taken) n
    (⊎_elim
    (λ k. in_left p.parts.inputs (outputs_of taken) n k)
    (λ o.
    let d = from_map (λ (v : EquationOf ℕ). v.output) p.parts.equations n o in
    ⊎_elim
    (λ k. ⊎_elim
    (λ a. in_left p.parts.inputs (outputs_of taken) n (subst (In p.parts.inputs) d.2 a))
    (λ b. in_right p.parts.inputs (outputs_of taken) n (subst (In (outputs_of taken)) d.2 b))
    (known_is p.parts.inputs taken d.0.output k))
    (λ l. absurd l)
    (each_is nat_eq eqb-true same_to p.parts.inputs p.parts.equations taken [] t d.0 d.1))
    (in_append p.parts.inputs (outputs_of p.parts.equations) n (has_in nat_eq eqb-true same_to known n (found_first nat_eq eqb-true same_to known asked s.driven n i)))) in
    let driven : first_missing nat_eq (p.parts.inputs ++ outputs_of taken) (inputs_of taken ++ p.parts.outputs) ≡ None =
    all_found (p.parts.inputs ++ outputs_of taken) (inputs_of taken ++ p.parts.outputs) (λ n i. now n (⊎_elim
    (λ a. let f = from_flat taken n a in in_left (inputs_of p.parts.equations) p.parts.outputs n (in_flat (λ (v : EquationOf ℕ). v.inputs) p.parts.equations f.0 n (taken_in p.parts.inputs p.parts.equations taken [] t f.0 f.1) f.2))
    (λ b. in_right (inputs_of p.parts.equations) p.parts.outputs n b)
    (in_append (inputs_of taken) p.parts.outputs n i))) in
    let order : Ordered nat_eq p.parts.inputs taken = ordered nat_eq eqb-true same_to p.parts.inputs p.parts.equations taken [] t in
    record {
      in_range = record {
        inputs = r.inputs;
        outputs = r.outputs;
        equations = all_from_in (EquationInRange (length p.names)) taken (λ q i. in_of_all (EquationInRange (length p.names)) p.parts.equations q r.equations (taken_in p.parts.inputs p.parts.equations taken [] t q i));
        names = r.names;
      };
      no_fault = none_of (record { inputs = p.parts.inputs; outputs = p.parts.outputs; equations = taken })
          (record { inputs_once = s.inputs_once; outputs_once = s.outputs_once; driven_once = once; driven = driven; some_output = s.some_output });
      no_cycle = acyclic nat_eq eqb-true same_to p.parts.inputs taken once order;
      ordered = order;
    }

-- where no name stands twice, all flags are put up
pub all_marked : (flags new : List Bool) (names : List ℕ) (o : Option ℕ) → Marks flags [] → All (λ n. n < length flags) names → first_twice nat_eq [] names ≡ None
    → o ≡ twice_by flags names → IfNone o (new ≡ marked flags names) → Marks new names
all_marked flags new names None k within once is made = subst (λ v. Marks v names) (sym made) (marks_list flags [] names k within)
all_marked flags new names (Some n) k within once is made =
    let bad : Some n ≡ None = is ∙ twice_is flags [] names k within ∙ once in cc

pub empty_of : {X : Type 0} (xs : List X) → length xs ≡ 0 → xs ≡ []
empty_of [] is = refl
empty_of (x ∷ xs) is = absurd (omega (arith, is))
