-- What holds of the numbers that are read.
use Rattle.std.proofs.Common.{ℕ, suc, zero, ◌≡◌, ◌<◌, ◌≤◌, Bool, true, false, List, [], ◌∷◌, length, Option, Some, None, Result, Ok, Err, if◌then◌else◌, ◌==◌, ◌&&◌, nat_lt, nat_le, bytes_eq, codes, refl, sym, ◌∙◌, ap, subst, arith}
use Rattle.std.specs.List.{AllByRecursion}
use Rattle.std.proofs.lemmas.Bool.{and_parts, leb-true, ltb-false, ltb-true}
use Rattle.surf_auto.specs.Tables.{greatest}
use Rattle.surf_auto.specs.declared.error.SourceError.{SourceError}
use Rattle.surf_base.specs.Decimal.{decimal_below, decimal_of, if_below}
use Rattle.surf_table.specs.TableLines.{Line, that_passes, number_onto, numbers, numbers_line, number_line, version_line, degree_line, states_line, edge_line, weights_line, if_own, next_line}
use Rattle.surf_auto.specs.declared.error.SourceError.TheVariants.{TooManyRules}
use Rattle.surf_auto.specs.Locals.{is_degree}
use Rattle.surf_table.specs.Parts.{IsHead, IsRow}
use Rattle.surf_table.specs.TableTexts.{Head, read_head, rules_of, and_then, read_line, read}

if_some : {A : Type 0} (b : Bool) (o : Option A) (a : A) → (if b then o else None) ≡ Some a → (b ≡ true) × (o ≡ Some a)
if_some true o a h = (refl, h)
if_some false o a h = absurd cc

pub passes : (p : ℕ → Bool) (o : Option ℕ) (k : ℕ) → that_passes p o ≡ Some k → p k ≡ true
passes p None k h = absurd cc
passes p (Some j) k h =
    let t = if_some (p j) (Some j) k h in
    let e : j ≡ k = cc in
    ap p (sym e) ∙ t.0

below_if : (n : ℕ) (o : Option ℕ) (k : ℕ) → if_below n o ≡ Some k → k < n
below_if n None k h = absurd cc
below_if n (Some j) k h =
    let t = if_some (nat_lt j n) (Some j) k h in
    let e : j ≡ k = cc in
    ltb-true k n (ap (λ v. nat_lt v n) (sym e) ∙ t.0)

is_below : (n : ℕ) (word : List ℕ) (k : ℕ) → decimal_below n word ≡ Some k → k < n
is_below n word k h = below_if n (decimal_of word) k h

one_more : (count n : ℕ) (o : Option ℕ) (r : Option (List ℕ)) (ks : List ℕ) → ((k : ℕ) → o ≡ Some k → k < n) → ((js : List ℕ) → r ≡ Some js → IsRow count n js) → number_onto o r ≡ Some ks → IsRow (suc count) n ks
one_more count n None r ks first more h = absurd cc
one_more count n (Some k) None ks first more h = absurd cc
one_more count n (Some k) (Some js) ks first more h =
    let e : k ∷ js ≡ ks = cc in
    let r = more js refl in
    let P : List ℕ → Type 0 = λ v. IsRow (suc count) n v in
    subst P e (record { whole = ap suc r.whole; below = (first k refl, r.below) })

pub numbers_row : (count n : ℕ) (words : List (List ℕ)) (ks : List ℕ) → numbers count n words ≡ Some ks → IsRow count n ks
numbers_row zero n [] ks h =
    let e : [] ≡ ks = cc in
    let P : List ℕ → Type 0 = λ v. IsRow zero n v in
    subst P e (record { whole = refl; below = tt })
numbers_row zero n (word ∷ words) ks h = absurd cc
numbers_row (suc count) n [] ks h = absurd cc
numbers_row (suc count) n (word ∷ words) ks h = one_more count n (decimal_below n word) (numbers count n words) ks (is_below n word) (numbers_row count n words) h

pub line_row : (key : List ℕ) (count n : ℕ) (words : List (List ℕ)) (ks : List ℕ) → numbers_line key count n words ≡ Some ks → IsRow count n ks
line_row key count n [] ks h = absurd cc
line_row key count n (word ∷ words) ks h = numbers_row count n words ks (if_some (bytes_eq word key) (numbers count n words) ks h).1

own_some : (own : ℕ) (o : Option ℕ) (r : Option (List ℕ)) (ks : List ℕ) → if_own own o r ≡ Some ks → r ≡ Some ks
own_some own None r ks h = absurd cc
own_some own (Some k) r ks h = (if_some (k == own) r ks h).1

pub next_row : (sums n own : ℕ) (words : List (List ℕ)) (ks : List ℕ) → next_line sums n own words ≡ Some ks → IsRow sums n ks
next_row sums n own [] ks h = absurd cc
next_row sums n own (word ∷ []) ks h = absurd cc
next_row sums n own (word ∷ state ∷ words) ks h =
    let r = if_some (bytes_eq word (codes "next")) (if_own own (decimal_of state) (numbers sums n words)) ks h in
    numbers_row sums n words ks (own_some own (decimal_of state) (numbers sums n words) ks r.1)

-- ---- lines

line_some : {A : Type 0} (n : ℕ) (ls : List Line) (o : Option A) (a : A) (rest : List Line) → read_line n ls o ≡ Ok (a, rest) → o ≡ Some a
line_some n ls None a rest h = absurd cc
line_some {A} n ls (Some b) a rest h =
    let p : (b, ls) ≡ (a, rest) = cc in
    ap (λ (v : A × List Line). Some v.0) p

-- what was read stands in some words
pub read_some : {A : Type 0} (P : A → Type 0) (expected : List (List ℕ) → Option A) → ((words : List (List ℕ)) (a : A) → expected words ≡ Some a → P a) → (ls : List Line) (a : A) (rest : List Line) → read expected ls ≡ Ok (a, rest) → P a
read_some P expected all [] a rest h = absurd cc
read_some P expected all (l ∷ ls) a rest h = all l.words a (line_some l.number ls (expected l.words) a rest h)

-- ---- the weights

pub light : (ks : List ℕ) → AllByRecursion (λ k. k < 256) ks → greatest ks ≤ 255
light [] h = omega arith
light (k ∷ ks) h = let r = light ks h.1 in let f : k < 256 = h.0 in omega arith

pub few_states : (words : List (List ℕ)) (n : ℕ) → states_line words ≡ Some n → (1 ≤ n) × (n ≤ 256)
few_states words n h =
    let p = and_parts (nat_le 1 n) (nat_le n 256) (passes (λ k. nat_le 1 k && nat_le k 256) (number_line (codes "states") words) n h) in
    (leb-true 1 n p.0, leb-true n 256 p.1)

pub states_read : (ls : List Line) (n : ℕ) (rest : List Line) → read states_line ls ≡ Ok (n, rest) → (1 ≤ n) × (n ≤ 256)
states_read ls n rest h = read_some (λ n. (1 ≤ n) × (n ≤ 256)) states_line few_states ls n rest h

pub weights_read : (n : ℕ) (ls : List Line) (ws : List ℕ) (rest : List Line) → read (weights_line n) ls ≡ Ok (ws, rest) → IsRow n 256 ws
weights_read n ls ws rest h = read_some (IsRow n 256) (weights_line n) (line_row (codes "weights") n 256) ls ws rest h

pub few_weights : (n : ℕ) (ls rest ls1 rest1 : List Line) (ws : List ℕ) → read states_line ls ≡ Ok (n, rest) → read (weights_line n) ls1 ≡ Ok (ws, rest1) → length ws ≤ 256
few_weights n ls rest ls1 rest1 ws h k = let r = (weights_read n ls1 ws rest1 k).whole in let s = (states_read ls n rest h).1 in omega arith

pub light_weights : (n : ℕ) (ls : List Line) (ws : List ℕ) (rest : List Line) → read (weights_line n) ls ≡ Ok (ws, rest) → greatest ws ≤ 255
light_weights n ls ws rest h = light ws (weights_read n ls ws rest h).below

-- ---- the header

-- what was read first, and what was made of it
pub record Then {A B : Type 0} (r : Result (A × List Line) SourceError) (more : A → List Line → Result B SourceError) (b : B) : Type 0 where
  pub value : A
  pub rest : List Line
  pub first : r ≡ Ok (value, rest)
  pub second : more value rest ≡ Ok b

pub then_of : {A B : Type 0} (r : Result (A × List Line) SourceError) (more : A → List Line → Result B SourceError) (b : B) → and_then r more ≡ Ok b → Then r more b
then_of (Err f) more b h = absurd cc
then_of (Ok r) more b h = record { value = r.0; rest = r.1; first = refl; second = h }

abbrev if_many : Bool → ℕ → Head → List Line → Result (Head × List Line) SourceError
if_many b n h ls = if b then Err (TooManyRules n) else Ok (h, ls)

few_rules_in : (b : Bool) (n : ℕ) (h k : Head) (ls rest : List Line) → if_many b n h ls ≡ Ok (k, rest) → (k ≡ h) × (b ≡ false)
few_rules_in true n h k ls rest e = absurd cc
few_rules_in false n h k ls rest e =
    let p : (h, ls) ≡ (k, rest) = cc in
    (ap (λ (v : Head × List Line). v.0) (sym p), refl)

degree_known : (words : List (List ℕ)) (d : ℕ) → degree_line words ≡ Some d → is_degree d ≡ true
degree_known words d h = passes is_degree (number_line (codes "degree") words) d h

edge_below : (n : ℕ) (words : List (List ℕ)) (s : ℕ) → edge_line n words ≡ Some s → s < n
edge_below n words s h = ltb-true s n (passes (λ k. nat_lt k n) (number_line (codes "edge") words) s h)

pub head_is : (ls : List Line) (h : Head) (rest : List Line) → read_head ls ≡ Ok (h, rest) → IsHead h
head_is ls h rest e =
    let v = then_of (read version_line ls) _ (h, rest) e in
    let d = then_of (read degree_line v.rest) _ (h, rest) v.second in
    let n = then_of (read states_line d.rest) _ (h, rest) d.second in
    let s = then_of (read (edge_line n.value) n.rest) _ (h, rest) n.second in
    let w = then_of (read (weights_line n.value) s.rest) _ (h, rest) s.second in
    let made : Head = record { degree = d.value; edge = s.value; weights = w.value } in
    let r = few_rules_in (nat_lt 1048576 (rules_of d.value w.value)) (rules_of d.value w.value) made h w.rest rest w.second in
    let row = weights_read n.value s.rest w.value w.rest w.first in
    let few = states_read d.rest n.value n.rest n.first in
    let below = read_some (λ k. k < n.value) (edge_line n.value) (edge_below n.value) n.rest s.value s.rest s.first in
    let P : Head → Type 0 = IsHead in
    subst P (sym r.0) (record {
      known = read_some (λ k. is_degree k ≡ true) degree_line degree_known v.rest d.value d.rest d.first;
      edge_within = (let e = row.whole in omega arith);
      some = (let e = row.whole in omega (arith, few.0));
      few = (let e = row.whole in omega (arith, few.1));
      weights = row.below;
      few_rules = ltb-false 1048576 (rules_of d.value w.value) r.1;
    })
