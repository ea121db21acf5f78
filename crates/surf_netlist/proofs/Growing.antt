-- Gates that are made one after another are those of the definition.
use Rattle.std.proofs.Common.{◌≡◌, ℕ, suc, ◌+◌, ◌≤◌, Bool, true, false, Option, Some, None, not, nat_eq, if◌then◌else◌, List, [], ◌∷◌, ◌++◌, map, length, take, refl, sym, ap, ◌∙◌, append_assoc, ⊎_elim, arith}
use Rattle.std.specs.Prelude.{◌&&◌}
use Rattle.std.specs.List.{list_any}
use Rattle.std.proofs.lemmas.List.{length-append, length_push, append-nil}
use Rattle.std.proofs.Math.Seq.{take-append_seam}
use Rattle.std.proofs.lemmas.Bool.{cases_Bool, eqb-true}
use Rattle.surf_tiles.specs.declared.netlist.Gate.{Gate}
use Rattle.surf_tiles.specs.declared.netlist.Gate.TheVariants.{Constant}
use Rattle.surf_netlist.specs.declared.signed.Signed.{Signed}
use Rattle.surf_netlist.specs.Gates.{plain, Made, and_gate, or_gate, and_chain, or_chain, rows_made, is_empty, finished, cover_gates}
use Rattle.surf_netlist.specs.Making.{Making, with_or, and_all, or_all}

pub and_grows : (inputs : ℕ) (gates : List Gate) (so_far : Option Signed) (row : List Signed) → length gates ≤ length (and_all inputs gates so_far row).gates
and_grows inputs gates so_far [] = omega arith
and_grows inputs gates None (s ∷ row) = and_grows inputs gates (Some s) row
and_grows inputs gates (Some t) (s ∷ row) =
    let h = and_grows inputs (gates ++ and_gate t s ∷ []) (Some (plain (inputs + length gates))) row in let l = length_push gates (and_gate t s) in omega (arith, h, l)

-- a row that has begun
pub and_is : (inputs : ℕ) (gates : List Gate) (t : Signed) (row : List Signed) →
    and_all inputs gates (Some t) row ≡ record { gates = gates ++ (and_chain (inputs + length gates) t row).gates; so_far = Some (and_chain (inputs + length gates) t row).result }
and_is inputs gates t [] = ap (λ (g : List Gate). let m : Making = record { gates = g; so_far = Some t } in m) (sym (append-nil gates))
and_is inputs gates t (s ∷ row) =
    let g : Gate = and_gate t s in
    let next : ℕ = inputs + length gates in
    let e : inputs + length (gates ++ g ∷ []) ≡ next + 1 = (let l = length_push gates g in omega (arith, l)) in
    let m : Made = and_chain (next + 1) (plain next) row in
    and_is inputs (gates ++ g ∷ []) (plain next) row
    ∙ ap (λ (n : ℕ). let k : Making = record { gates = (gates ++ g ∷ []) ++ (and_chain n (plain next) row).gates; so_far = Some (and_chain n (plain next) row).result } in k) e
    ∙ ap (λ (x : List Gate). let k : Making = record { gates = x; so_far = Some m.result } in k) (append_assoc gates (g ∷ []) m.gates)

pub record Extends (xs ys : List Gate) : Type 0 where
  pub more : List Gate
  pub is : ys ≡ xs ++ more

extends_same : (xs : List Gate) → Extends xs xs
extends_same xs = record { more = []; is = sym (append-nil xs) }

extends_then : (xs ys zs : List Gate) → Extends xs ys → Extends ys zs → Extends xs zs
extends_then xs ys zs a b = record { more = a.more ++ b.more; is = b.is ∙ ap (λ (x : List Gate). x ++ b.more) a.is ∙ append_assoc xs a.more b.more }

pub extends_long : (xs ys : List Gate) → Extends xs ys → length xs ≤ length ys
extends_long xs ys e = let l = length-append xs e.more in let k = ap length e.is in omega (arith, l, k)

and_extends : (inputs : ℕ) (gates : List Gate) (so_far : Option Signed) (row : List Signed) → Extends gates (and_all inputs gates so_far row).gates
and_extends inputs gates so_far [] = extends_same gates
and_extends inputs gates None (s ∷ row) = and_extends inputs gates (Some s) row
and_extends inputs gates (Some t) (s ∷ row) =
    extends_then gates (gates ++ and_gate t s ∷ []) _ (record { more = and_gate t s ∷ []; is = refl }) (and_extends inputs (gates ++ and_gate t s ∷ []) (Some (plain (inputs + length gates))) row)

-- what further rows make
abbrev pub or_rest : (inputs : ℕ) → Option Signed → List (List Signed) → Making → Making
or_rest inputs so_far rows made =
    elim made.so_far [
      | None ↦ record { gates = made.gates; so_far = None }
      | Some s ↦ or_all inputs (with_or inputs made.gates so_far s).gates (with_or inputs made.gates so_far s).so_far rows
    ]

with_or_extends : (inputs : ℕ) (gates : List Gate) (so_far : Option Signed) (s : Signed) → Extends gates (with_or inputs gates so_far s).gates
with_or_extends inputs gates None s = extends_same gates
with_or_extends inputs gates (Some t) s = record { more = or_gate t s ∷ []; is = refl }

or_extends : (inputs : ℕ) (gates : List Gate) (so_far : Option Signed) (rows : List (List Signed)) → Extends gates (or_all inputs gates so_far rows).gates
or_extends inputs gates so_far [] = extends_same gates
or_extends inputs gates so_far (row ∷ rows) =
    let made = and_all inputs gates None row in
    extends_then gates made.gates _ (and_extends inputs gates None row) (go made.gates made.so_far (λ g o. or_extends inputs g o rows))
  where
    go : (g : List Gate) (o : Option Signed) → ((g' : List Gate) (o' : Option Signed) → Extends g' (or_all inputs g' o' rows).gates) → Extends g (or_rest inputs so_far rows (record { gates = g; so_far = o })).gates
    go g None deep = extends_same g
    go g (Some s) deep = extends_then g _ _ (with_or_extends inputs g so_far s) (deep (with_or inputs g so_far s).gates (with_or inputs g so_far s).so_far)

pub or_kept : (inputs : ℕ) (gates : List Gate) (so_far : Option Signed) (rows : List (List Signed)) → take (length gates) (or_all inputs gates so_far rows).gates ≡ gates
or_kept inputs gates so_far rows = let e = or_extends inputs gates so_far rows in ap (take (length gates)) e.is ∙ take-append_seam gates e.more

pub or_grows : (inputs : ℕ) (gates : List Gate) (so_far : Option Signed) (rows : List (List Signed)) → length gates ≤ length (or_all inputs gates so_far rows).gates
or_grows inputs gates so_far rows = extends_long gates _ (or_extends inputs gates so_far rows)

-- a row's gates are among those of the rows
pub row_within : (inputs : ℕ) (gates : List Gate) (so_far : Option Signed) (row : List Signed) (rows : List (List Signed)) → length (and_all inputs gates None row).gates ≤ length (or_all inputs gates so_far (row ∷ rows)).gates
row_within inputs gates so_far row rows = let made = and_all inputs gates None row in go made.gates made.so_far
  where
    go : (g : List Gate) (o : Option Signed) → length g ≤ length (or_rest inputs so_far rows (record { gates = g; so_far = o })).gates
    go g None = omega arith
    go g (Some s) =
        let a = extends_long g (with_or inputs g so_far s).gates (with_or_extends inputs g so_far s) in
        let b = or_grows inputs (with_or inputs g so_far s).gates (with_or inputs g so_far s).so_far rows in omega (arith, a, b)

-- rows that have begun
or_is : (inputs : ℕ) (gates : List Gate) (t : Signed) (rows : List (List Signed)) → list_any is_empty rows ≡ false →
    or_all inputs gates (Some t) rows ≡ record { gates = gates ++ (or_chain (inputs + length gates) t rows).gates; so_far = Some (or_chain (inputs + length gates) t rows).result }
or_is inputs gates t [] full = ap (λ (g : List Gate). let m : Making = record { gates = g; so_far = Some t } in m) (sym (append-nil gates))
or_is inputs gates t ([] ∷ rows) full = absurd cc
or_is inputs gates t ((s ∷ row) ∷ rows) full =
    let next : ℕ = inputs + length gates in
    let r : Made = and_chain next s row in
    let g : Gate = or_gate t r.result in
    let gates' : List Gate = gates ++ r.gates in
    let n : ℕ = next + length r.gates in
    let l = length-append gates r.gates in
    let e : inputs + length gates' ≡ n = omega (arith, l) in
    let e' : inputs + length (gates' ++ g ∷ []) ≡ n + 1 = (let k = length_push gates' g in omega (arith, l, k)) in
    let m : Made = or_chain (n + 1) (plain n) rows in
    ap (or_rest inputs (Some t) rows) (and_is inputs gates s row)
    ∙ or_is inputs (gates' ++ g ∷ []) (plain (inputs + length gates')) rows full
    ∙ ap (λ (x : ℕ). let k : Making = record { gates = (gates' ++ g ∷ []) ++ (or_chain x (plain (inputs + length gates')) rows).gates; so_far = Some (or_chain x (plain (inputs + length gates')) rows).result } in k) e'
    ∙ ap (λ (x : ℕ). let k : Making = record { gates = (gates' ++ g ∷ []) ++ (or_chain (n + 1) (plain x) rows).gates; so_far = Some (or_chain (n + 1) (plain x) rows).result } in k) e
    ∙ ap (λ (x : List Gate). let k : Making = record { gates = x; so_far = Some m.result } in k) (append_assoc gates' (g ∷ []) m.gates ∙ append_assoc gates r.gates (g ∷ m.gates))

rows_are : (inputs : ℕ) (gates : List Gate) (s : Signed) (row : List Signed) (rows : List (List Signed)) → list_any is_empty rows ≡ false →
    or_all inputs gates None ((s ∷ row) ∷ rows) ≡ record { gates = gates ++ (rows_made (inputs + length gates) (s ∷ row) rows).gates; so_far = Some (rows_made (inputs + length gates) (s ∷ row) rows).result }
rows_are inputs gates s row rows full =
    let next : ℕ = inputs + length gates in
    let r : Made = and_chain next s row in
    let gates' : List Gate = gates ++ r.gates in
    let e : inputs + length gates' ≡ next + length r.gates = (let l = length-append gates r.gates in omega (arith, l)) in
    let m : Made = or_chain (next + length r.gates) r.result rows in
    ap (or_rest inputs None rows) (and_is inputs gates s row)
    ∙ or_is inputs gates' r.result rows full
    ∙ ap (λ (x : ℕ). let k : Making = record { gates = gates' ++ (or_chain x r.result rows).gates; so_far = Some (or_chain x r.result rows).result } in k) e
    ∙ ap (λ (x : List Gate). let k : Making = record { gates = x; so_far = Some m.result } in k) (append_assoc gates r.gates m.gates)

none_made : (inputs : ℕ) (gates : List Gate) (so_far : Option Signed) (rows : List (List Signed)) → list_any is_empty rows ≡ true → (or_all inputs gates so_far rows).so_far ≡ None
none_made inputs gates so_far [] some = absurd cc
none_made inputs gates so_far ([] ∷ rows) some = refl
none_made inputs gates so_far ((s ∷ row) ∷ rows) some =
    let next : ℕ = inputs + length gates in
    let r : Made = and_chain next s row in
    let w : Making = with_or inputs (gates ++ r.gates) so_far r.result in
    ap (λ (m : Making). (or_rest inputs so_far rows m).so_far) (and_is inputs gates s row) ∙ none_made inputs w.gates w.so_far rows some

pub not_zero : (n : ℕ) → nat_eq (suc n) 0 ≡ false
not_zero n = ⊎_elim (λ t. absurd (let e = eqb-true (suc n) 0 t in omega (arith, e))) (λ f. f) (cases_Bool (nat_eq (suc n) 0))

and_right : (a : Bool) → a ≡ (a && true)
and_right true = refl
and_right false = refl

and_wrong : (a : Bool) → false ≡ (a && false)
and_wrong true = refl
and_wrong false = refl

-- where the rows give nothing, the equation is constant
pub constant_made : {X : Type 0} (f : X → List Signed) (inputs : ℕ) (gates : List Gate) (rows : List X) (polarity : Bool) → (or_all inputs gates None (map f rows)).so_far ≡ None →
    cover_gates (inputs + length gates) (map f rows) polarity ≡ Constant (polarity && not (nat_eq (length rows) 0)) ∷ []
constant_made f inputs gates [] polarity none = ap (λ (b : Bool). Constant b ∷ []) (and_wrong polarity)
constant_made f inputs gates (x ∷ rows) polarity none = go (f x) none (list_any is_empty (map f rows)) refl ∙ ap (λ (b : Bool). Constant (polarity && not b) ∷ []) (sym (not_zero (length rows)))
  where
    go : (row : List Signed) → (or_all inputs gates None (row ∷ map f rows)).so_far ≡ None → (b : Bool) → list_any is_empty (map f rows) ≡ b →
        cover_gates (inputs + length gates) (row ∷ map f rows) polarity ≡ Constant (polarity && true) ∷ []
    go [] none' b e = ap (λ (c : Bool). Constant c ∷ []) (and_right polarity)
    go (s ∷ row) none' true e =
        ap (λ (t : Bool). if t then Constant polarity ∷ [] else finished polarity (rows_made (inputs + length gates) (s ∷ row) (map f rows)).gates (rows_made (inputs + length gates) (s ∷ row) (map f rows)).result) e
        ∙ ap (λ (c : Bool). Constant c ∷ []) (and_right polarity)
    go (s ∷ row) none' false e = let h = ap (λ (m : Making). m.so_far) (rows_are inputs gates s row (map f rows) e) in absurd (cc (h, none'))

pub record IsFinished (gates after : List Gate) (s : Signed) (polarity : Bool) (all : List Gate) : Type 0 where
  pub made : List Gate
  pub is : after ≡ gates ++ made
  pub all_is : all ≡ finished polarity made s

-- where they give a signed net, the gates end with it
pub finished_made : {X : Type 0} (f : X → List Signed) (inputs : ℕ) (gates : List Gate) (rows : List X) (polarity : Bool) (s : Signed) → (or_all inputs gates None (map f rows)).so_far ≡ Some s →
    IsFinished gates (or_all inputs gates None (map f rows)).gates s polarity (cover_gates (inputs + length gates) (map f rows) polarity)
finished_made f inputs gates [] polarity s some = absurd cc
finished_made f inputs gates (x ∷ rows) polarity s some = go (f x) some (list_any is_empty (map f rows)) refl
  where
    go : (row : List Signed) → (or_all inputs gates None (row ∷ map f rows)).so_far ≡ Some s → (b : Bool) → list_any is_empty (map f rows) ≡ b →
        IsFinished gates (or_all inputs gates None (row ∷ map f rows)).gates s polarity (cover_gates (inputs + length gates) (row ∷ map f rows) polarity)
    go [] some' b e = absurd cc
    go (t ∷ row) some' true e = let h = none_made inputs gates None ((t ∷ row) ∷ map f rows) e in absurd (cc (h, some'))
    go (t ∷ row) some' false e =
        let h = rows_are inputs gates t row (map f rows) e in
        let m : Made = rows_made (inputs + length gates) (t ∷ row) (map f rows) in
        let k : m.result ≡ s = (let k' = ap (λ (x : Making). x.so_far) h in cc (k', some')) in
        record {
          made = m.gates;
          is = ap (λ (x : Making). x.gates) h;
          all_is = ap (λ (b : Bool). if b then Constant polarity ∷ [] else finished polarity m.gates m.result) e ∙ ap (finished polarity m.gates) k;
        }
