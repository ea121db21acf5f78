-- Each row has one literal per input.
use Rattle.std.proofs.Common.{ℕ, ◌≡◌, ◌<◌, ◌^◌, Bool, true, false, ◌&&◌, ◌==◌, List, [], ◌∷◌, length, map, refl, sym, ◌∙◌, ap, All, Option, Some, None, if◌then◌else◌, get_or}
use Rattle.std.specs.List.{list_all}
use Rattle.std.proofs.lemmas.List.Sums.{AllPass-from_list_all}
use Rattle.std.proofs.lemmas.List.{length-map}
use Rattle.std.proofs.lemmas.Bool.{eq-eqb, eqb-true}
use Rattle.surf_logic.specs.declared.equation.Literal.{Literal}
use Rattle.surf_logic.specs.Equations.{EquationOf, PartsOf}
use Rattle.surf_logic.specs.Order.{EquationInRange, InRange}
use Rattle.surf_logic.specs.Renamed.{equation_by}
use Rattle.surf_blif.specs.Logical.{front_of}
use Rattle.surf_blif.specs.Lines.{Line, Skipped, Model, End, Bad, Inputs, Outputs, Names, Other, Row}
use Rattle.surf_blif.specs.Covers.{RowOf, constant_row, equation_of, is_literal, literal_of, row_of, row_with, signed_row, bit_of}
use Rattle.surf_blif.specs.Drafts.{EquationBelow, PartsBelow, rows_fit}
use Rattle.surf_blif.specs.Grammar.{Placed, equations_in, onto_rows, rows_in}
use Rattle.surf_blif.proofs.Words.{both, right}

abbrev fits : ℕ → Option RowOf → Bool
fits n None = true
fits n (Some r) = length r.literals == n

with_fits : (n : ℕ) (t : List ℕ) (o : Option Bool) → (length t == n) ≡ true → fits n (row_with t o) ≡ true
with_fits n t None h = refl
with_fits n t (Some b) h = rw (length-map t literal_of) h

constant_fits : (n : ℕ) (ts : List (List ℕ)) → (n == 0) ≡ true → fits n (constant_row ts) ≡ true
constant_fits n [] h = refl
constant_fits n (t ∷ []) h = with_fits n [] (bit_of t) (eq-eqb 0 n (sym (eqb-true n 0 h)))
constant_fits n (t ∷ u ∷ ts) h = refl

if_fits : (n : ℕ) (c : Bool) (o p : Option RowOf) → (c ≡ true → fits n o ≡ true) → (c ≡ false → fits n p ≡ true) → fits n (if c then o else p) ≡ true
if_fits n true o p h g = h refl
if_fits n false o p h g = g refl

signed_fits : (n : ℕ) (ts : List (List ℕ)) → fits n (signed_row n ts) ≡ true
signed_fits n [] = refl
signed_fits n (t ∷ []) = refl
signed_fits n (t ∷ u ∷ []) = if_fits n (list_all is_literal t && (length t == n)) (row_with t (bit_of u)) None (λ h. with_fits n t (bit_of u) (right _ _ h)) (λ _. refl)
signed_fits n (t ∷ u ∷ v ∷ ts) = refl

row_fits : (n : ℕ) (ts : List (List ℕ)) → fits n (row_of n ts) ≡ true
row_fits n ts = if_fits n (n == 0) (constant_row ts) (signed_row n ts) (constant_fits n ts) (λ _. signed_fits n ts)

abbrev all_fit : ℕ → List RowOf → Bool
all_fit n rows = list_all (λ row. length row == n) (map (λ (r : RowOf). r.literals) rows)

onto_fits : (n : ℕ) (o : Option RowOf) (rows : List RowOf) → fits n o ≡ true → all_fit n rows ≡ true → all_fit n (onto_rows o rows) ≡ true
onto_fits n None rows h g = g
onto_fits n (Some r) rows h g = both (length r.literals == n) (all_fit n rows) h g

line_fits : (n k : ℕ) (l : Line) (ls : List Placed) → all_fit n (rows_in n ls) ≡ true → all_fit n (rows_in n ((record { number = k; line = l }) ∷ ls)) ≡ true
line_fits n k (Row ts) ls h = onto_fits n (row_of n ts) (rows_in n ls) (row_fits n ts) h
line_fits n k Skipped ls h = h
line_fits n k (Model stand) ls h = refl
line_fits n k (End stand) ls h = refl
line_fits n k Bad ls h = refl
line_fits n k (Inputs ts) ls h = refl
line_fits n k (Outputs ts) ls h = refl
line_fits n k (Names ts) ls h = refl
line_fits n k (Other t) ls h = refl

rows_in_fit : (n : ℕ) (ls : List Placed) → all_fit n (rows_in n ls) ≡ true
rows_in_fit n [] = refl
rows_in_fit n (l ∷ ls) = line_fits n l.number l.line ls (rows_in_fit n ls)

equation_fits : (k : ℕ) (l : Line) (ls : List Placed) → list_all rows_fit (equations_in ls) ≡ true → list_all rows_fit (equations_in ((record { number = k; line = l }) ∷ ls)) ≡ true
equation_fits k (Names ts) ls h = both (rows_fit (equation_of ts (rows_in (length (front_of ts)) ls))) (list_all rows_fit (equations_in ls)) (rows_in_fit (length (front_of ts)) ls) h
equation_fits k (Row ts) ls h = h
equation_fits k Skipped ls h = h
equation_fits k (Model stand) ls h = h
equation_fits k (End stand) ls h = h
equation_fits k Bad ls h = h
equation_fits k (Inputs ts) ls h = h
equation_fits k (Outputs ts) ls h = h
equation_fits k (Other t) ls h = h

equations_fit : (ls : List Placed) → list_all rows_fit (equations_in ls) ≡ true
equations_fit [] = refl
equations_fit (l ∷ ls) = equation_fits l.number l.line ls (equations_fit ls)

fits_by : (f : ℕ → List ℕ) (q : EquationOf ℕ) → rows_fit (equation_by f q) ≡ rows_fit q
fits_by f q = ap (λ n. list_all (λ row. length row == n) q.rows) (length-map q.inputs f)

fit_by : (f : ℕ → List ℕ) (qs : List (EquationOf ℕ)) → list_all rows_fit (map (equation_by f) qs) ≡ list_all rows_fit qs
fit_by f [] = refl
fit_by f (q ∷ qs) = rw (fits_by f q, fit_by f qs) refl

-- equations over numbers that name those of lines
pub rows_are : (f : ℕ → List ℕ) (qs : List (EquationOf ℕ)) (ls : List Placed) → map (equation_by f) qs ≡ equations_in ls → list_all rows_fit qs ≡ true
rows_are f qs ls is = sym (fit_by f qs) ∙ ap (list_all rows_fit) is ∙ equations_fit ls

same_length : (n : ℕ) (rows : List (List Literal)) → list_all (λ row. length row == n) rows ≡ true → All (λ row. length row ≡ n) rows
same_length n rows h = λ k d lt. eqb-true (length (get_or rows k d)) n (AllPass-from_list_all (λ row. length row == n) rows h k d lt)

equation_in : (n : ℕ) (q : EquationOf ℕ) → EquationBelow n q → rows_fit q ≡ true → EquationInRange n q
equation_in n q b h = record { output = b.output; inputs = b.inputs; rows = same_length (length q.inputs) q.rows h }

pub in_range : (names : List (List ℕ)) (p : PartsOf ℕ) → length names < 2 ^ 32 → PartsBelow (length names) p → list_all rows_fit p.equations ≡ true → InRange (record { names = names; parts = p })
in_range names p few b h = record {
  inputs = b.inputs;
  outputs = b.outputs;
  equations = λ k d lt. equation_in (length names) (get_or p.equations k d) (b.equations k d lt) (AllPass-from_list_all rows_fit p.equations h k d lt);
  names = few;
}
