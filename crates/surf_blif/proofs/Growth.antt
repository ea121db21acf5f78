-- Lists of texts that grow keep what their numbers name.
use Rattle.std.proofs.Common.{ℕ, zero, suc, ◌≡◌, ◌+◌, ◌<◌, ◌≤◌, List, [], ◌∷◌, ◌++◌, length, map, refl, sym, subst, ◌∙◌, ap, arith, Bool, true, false, Some, slice_get, unwrap_or, if◌then◌else◌, length-append, All, get_or, nat_le, le-leb}
use Rattle.std.proofs.lemmas.List.{map-append}
use Rattle.std.specs.List.{list_any}
use Rattle.std.specs.Str.{bytes_eq}
use Rattle.surf_rules.specs.Names.{text_of, with_text}
use Rattle.surf_logic.specs.Equations.{EquationOf, PartsOf}
use Rattle.surf_blif.specs.Logical.{front_of, last_of}
use Rattle.surf_blif.specs.Covers.{RowOf}
use Rattle.surf_blif.specs.Steps.{Held, keeping, with_inputs, with_outputs, with_equation, parts_with_row, add_row, on_last}
use Rattle.surf_blif.proofs.Lists.{front_put, last_put, map_put, map_on_last}
use Rattle.surf_blif.specs.Drafts.{IsGrown, EquationBelow, PartsBelow}
use Rattle.surf_logic.specs.Renamed.{equation_by, parts_by}

pub head_of : {X : Type 0} (P : X → Type 0) (x : X) (xs : List X) → All P (x ∷ xs) → P x
head_of P x xs h = h zero x (omega arith)

pub tail_of : {X : Type 0} (P : X → Type 0) (x : X) (xs : List X) → All P (x ∷ xs) → All P xs
tail_of P x xs h = λ k d lt. h (suc k) d (omega (arith, lt))

front_kept : (ts us : List (List ℕ)) (k : ℕ) → k < length ts → slice_get (ts ++ us) k ≡ slice_get ts k
front_kept [] us k lt = absurd (omega (arith, lt))
front_kept (t ∷ ts) us zero lt = refl
front_kept (t ∷ ts) us (suc k) lt = front_kept ts us k (omega (arith, lt))

grown_if : (b : Bool) (ts : List (List ℕ)) (t : List ℕ) → IsGrown 1 ts (if b then ts else ts ++ t ∷ [])
grown_if true ts t = record { longer = omega arith; most = omega arith; kept = λ k lt. refl }
grown_if false ts t = record { longer = omega (arith, length-append ts (t ∷ [])); most = omega (arith, length-append ts (t ∷ [])); kept = λ k lt. front_kept ts (t ∷ []) k lt }

pub grown_by : (a b : List (List ℕ)) (t : List ℕ) → b ≡ with_text a t → IsGrown 1 a b
grown_by a b t is = subst (λ v. IsGrown 1 a v) (sym is) (grown_if (list_any (bytes_eq t) a) a t)

pub grown_not : (n : ℕ) (a : List (List ℕ)) → IsGrown n a a
grown_not n a = record { longer = omega arith; most = omega arith; kept = λ k lt. refl }

pub grown_then : (m n k : ℕ) (a b c : List (List ℕ)) → m + n ≤ k → IsGrown m a b → IsGrown n b c → IsGrown k a c
grown_then m n k a b c le g h = record {
  longer = omega (arith, g.longer, h.longer);
  most = omega (arith, le, g.most, h.most);
  kept = λ i lt. h.kept i (omega (arith, lt, g.longer)) ∙ g.kept i lt;
}

pub text_at : (ts : List (List ℕ)) (k : ℕ) (t : List ℕ) → slice_get ts k ≡ Some t → text_of ts k ≡ t
text_at ts k t is = ap (λ o. unwrap_or o []) is

text_kept : (n : ℕ) (a b : List (List ℕ)) (k : ℕ) → IsGrown n a b → k < length a → text_of b k ≡ text_of a k
text_kept n a b k g lt = ap (λ o. unwrap_or o []) (g.kept k lt)

pub names_kept : (n : ℕ) (a b : List (List ℕ)) (ks : List ℕ) → IsGrown n a b → All (λ k. k < length a) ks → map (text_of b) ks ≡ map (text_of a) ks
names_kept n a b [] g h = refl
names_kept n a b (k ∷ ks) g h =
    rw (text_kept n a b k g (head_of (λ k. k < length a) k ks h), names_kept n a b ks g (tail_of (λ k. k < length a) k ks h)) refl

equation_kept : (n : ℕ) (a b : List (List ℕ)) (q : EquationOf ℕ) → IsGrown n a b → EquationBelow (length a) q → equation_by (text_of b) q ≡ equation_by (text_of a) q
equation_kept n a b q g h = rw (text_kept n a b q.output g h.output, names_kept n a b q.inputs g h.inputs) refl

equations_kept : (n : ℕ) (a b : List (List ℕ)) (qs : List (EquationOf ℕ)) → IsGrown n a b → All (EquationBelow (length a)) qs → map (equation_by (text_of b)) qs ≡ map (equation_by (text_of a)) qs
equations_kept n a b [] g h = refl
equations_kept n a b (q ∷ qs) g h =
    rw (equation_kept n a b q g (head_of (EquationBelow (length a)) q qs h), equations_kept n a b qs g (tail_of (EquationBelow (length a)) q qs h)) refl

pub parts_kept : (n : ℕ) (a b : List (List ℕ)) (p : PartsOf ℕ) → IsGrown n a b → PartsBelow (length a) p → parts_by (text_of b) p ≡ parts_by (text_of a) p
parts_kept n a b p g h = rw (names_kept n a b p.inputs g h.inputs, names_kept n a b p.outputs g h.outputs, equations_kept n a b p.equations g h.equations) refl

below_more : (m n : ℕ) (q : EquationOf ℕ) → m ≤ n → EquationBelow m q → EquationBelow n q
below_more m n q le h = record { output = omega (arith, le, h.output); inputs = λ k d lt. omega (arith, le, h.inputs k d lt) }

pub parts_below : (m n : ℕ) (p : PartsOf ℕ) → m ≤ n → PartsBelow m p → PartsBelow n p
parts_below m n p le h = record {
  inputs = λ k d lt. omega (arith, le, h.inputs k d lt);
  outputs = λ k d lt. omega (arith, le, h.outputs k d lt);
  equations = λ k d lt. below_more m n (get_or p.equations k d) le (h.equations k d lt);
}

pub names_below : (m n : ℕ) (ks : List ℕ) → m ≤ n → All (λ k. k < m) ks → All (λ k. k < n) ks
names_below m n ks le h = λ k d lt. omega (arith, le, h k d lt)

-- lists that grow
pub join_all : {X : Type 0} (P : X → Type 0) (xs ys : List X) → All P xs → All P ys → All P (xs ++ ys)
join_all P [] ys h g k d lt = g k d lt
join_all P (x ∷ xs) ys h g zero d lt = head_of P x xs h
join_all P (x ∷ xs) ys h g (suc k) d lt = join_all P xs ys (tail_of P x xs h) g k d (omega (arith, lt))

alone : {X : Type 0} (P : X → Type 0) (x : X) → P x → All P (x ∷ [])
alone P x h zero d lt = h
alone P x h (suc k) d lt = absurd (omega (arith, lt))

cons_all : {X : Type 0} (P : X → Type 0) (x : X) (xs : List X) → P x → All P xs → All P (x ∷ xs)
cons_all P x xs h g zero d lt = h
cons_all P x xs h g (suc k) d lt = g k d (omega (arith, lt))

pub put_all : {X : Type 0} (P : X → Type 0) (xs : List X) (x : X) → All P xs → P x → All P (xs ++ x ∷ [])
put_all P xs x h g = join_all P xs (x ∷ []) h (alone P x g)

pub put_below : (n : ℕ) (ks : List ℕ) (k : ℕ) → All (λ k. k < n) ks → k < n → All (λ k. k < n) (ks ++ k ∷ [])
put_below n ks k h lt = put_all (λ k. k < n) ks k h lt

-- parts that grow
pub inputs_put : (n : ℕ) (a b : List (List ℕ)) (p : PartsOf ℕ) (more : List ℕ) (ts : List (List ℕ)) → IsGrown n a b → PartsBelow (length a) p → map (text_of b) more ≡ ts
    → parts_by (text_of b) (record { inputs = p.inputs ++ more; outputs = p.outputs; equations = p.equations }) ≡ with_inputs (parts_by (text_of a) p) ts
inputs_put n a b p more ts g h is =
    rw (map-append (text_of b) p.inputs more, is, names_kept n a b p.inputs g h.inputs, names_kept n a b p.outputs g h.outputs, equations_kept n a b p.equations g h.equations) refl

pub outputs_put : (n : ℕ) (a b : List (List ℕ)) (p : PartsOf ℕ) (more : List ℕ) (ts : List (List ℕ)) → IsGrown n a b → PartsBelow (length a) p → map (text_of b) more ≡ ts
    → parts_by (text_of b) (record { inputs = p.inputs; outputs = p.outputs ++ more; equations = p.equations }) ≡ with_outputs (parts_by (text_of a) p) ts
outputs_put n a b p more ts g h is =
    rw (map-append (text_of b) p.outputs more, is, names_kept n a b p.inputs g h.inputs, names_kept n a b p.outputs g h.outputs, equations_kept n a b p.equations g h.equations) refl

-- an equation without rows, whose output is the last of these numbers
pub equation_put : (n : ℕ) (a b : List (List ℕ)) (p : PartsOf ℕ) (ks : List ℕ) (k : ℕ) (ts : List (List ℕ)) → IsGrown n a b → PartsBelow (length a) p → map (text_of b) (ks ++ k ∷ []) ≡ ts
    → parts_by (text_of b) (record { inputs = p.inputs; outputs = p.outputs; equations = p.equations ++ (record { output = k; inputs = ks; rows = []; polarity = true }) ∷ [] }) ≡ with_equation (parts_by (text_of a) p) ts
equation_put n a b p ks k ts g h is =
    let e : map (text_of b) ks ++ text_of b k ∷ [] ≡ ts = sym (map_put (text_of b) ks k) ∙ is in
    let front : front_of ts ≡ map (text_of b) ks = ap front_of (sym e) ∙ front_put (map (text_of b) ks) (text_of b k) in
    let last : last_of [] ts ≡ text_of b k = ap (last_of []) (sym e) ∙ last_put [] (map (text_of b) ks) (text_of b k) in
    rw (map_put (equation_by (text_of b)) p.equations (record { output = k; inputs = ks; rows = []; polarity = true }), names_kept n a b p.inputs g h.inputs, names_kept n a b p.outputs g h.outputs, equations_kept n a b p.equations g h.equations, front, last) refl

-- a row of the last equation
add_by : (f : ℕ → List ℕ) (r : RowOf) (q : EquationOf ℕ) → equation_by f (add_row r q) ≡ add_row r (equation_by f q)
add_by f r q = refl

pub row_put : (a : List (List ℕ)) (p : PartsOf ℕ) (r : RowOf)
    → parts_by (text_of a) (record { inputs = p.inputs; outputs = p.outputs; equations = on_last (add_row r) p.equations }) ≡ parts_with_row (parts_by (text_of a) p) r
row_put a p r = rw (map_on_last (equation_by (text_of a)) (add_row r) (add_row r) (add_by (text_of a) r) p.equations) refl

pub last_below : (n : ℕ) (r : RowOf) (qs : List (EquationOf ℕ)) → All (EquationBelow n) qs → All (EquationBelow n) (on_last (add_row r) qs)
last_below n r [] h = h
last_below n r (q ∷ []) h = alone (EquationBelow n) (add_row r q) (let b : EquationBelow n q = head_of (EquationBelow n) q [] h in record { output = b.output; inputs = b.inputs })
last_below n r (q ∷ u ∷ us) h = cons_all (EquationBelow n) q (on_last (add_row r) (u ∷ us)) (head_of (EquationBelow n) q (u ∷ us) h) (last_below n r (u ∷ us) (tail_of (EquationBelow n) q (u ∷ us) h))

-- what is held where the cost is within the limit
pub keeps_within : (h : Held) (more k : ℕ) (p q : PartsOf (List ℕ)) → k ≡ more → h.cost + k ≤ 1000 → q ≡ p → (record { cost = h.cost + k; parts = q }) ≡ keeping h more p
keeps_within h more k p q is le same =
    let t : nat_le (h.cost + more) 1000 ≡ true = le-leb (h.cost + more) 1000 (omega (arith, is, le)) in
    rw (is, same, t) refl
