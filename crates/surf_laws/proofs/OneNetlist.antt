-- A circuit's netlist doesn't depend on how its names are numbered.
use Rattle.std.proofs.Common.{ℕ, suc, ◌≡◌, ◌+◌, ◌-◌, ◌<◌, true, List, [], ◌∷◌, ◌++◌, map, length, refl, sym, ◌∙◌, ap, subst, ⊎_elim, arith, Some, if◌then◌else◌, nat_eq, unwrap_or}
use Rattle.std.specs.List.{All, slice_get}
use Rattle.std.specs.Option.{option_to_list}
use Rattle.std.proofs.lemmas.Bool.{eqb-true, cases_Bool, both_ways}
use Rattle.std.proofs.lemmas.Option.{slice_get-get_or}
use Rattle.std.proofs.lemmas.List.Elements.{All-head, All-tail}
use Rattle.surf_rules.specs.Names.{text_of, AreDistinct}
use Rattle.surf_logic.specs.declared.equation.Literal.{Literal}
use Rattle.surf_logic.specs.Equations.{EquationOf, PartsOf, Numbered}
use Rattle.surf_logic.specs.Order.{EquationInRange}
use Rattle.surf_logic.specs.Renamed.{AreNamed, by_text, equation_by}
use Rattle.surf_logic.proofs.Evaluating.{same_to}
use Rattle.surf_tiles.specs.declared.netlist.Gate.{Gate}
use Rattle.surf_tiles.specs.Netlists.{NetlistOf}
use Rattle.surf_netlist.specs.Gates.{signed_literal, signed_row, cover_gates, gates_of_equation}
use Rattle.surf_netlist.specs.Circuits.{with_net, gates_from, nets_from, input_nets, gates_of}

pub first_same : {X : Type 0} (x y : X) (xs ys : List X) → x ∷ xs ≡ y ∷ ys → x ≡ y
first_same x y xs ys e = cc

pub rest_same : {X : Type 0} (x y : X) (xs ys : List X) → x ∷ xs ≡ y ∷ ys → xs ≡ ys
rest_same x y xs ys e = cc

text_is : (ts : List (List ℕ)) (n : ℕ) → n < length ts → slice_get ts n ≡ Some (text_of ts n)
text_is ts n lt = let e = slice_get-get_or ts n [] lt in e ∙ ap (λ o. Some (unwrap_or o [])) (sym e)

one_number : (ts : List (List ℕ)) → AreDistinct ts → (a b : ℕ) → a < length ts → b < length ts → text_of ts a ≡ text_of ts b → a ≡ b
one_number ts distinct a b la lb same = distinct a b (text_of ts a) (text_is ts a la) (text_is ts b lb ∙ ap Some (sym same))

-- numbers in two lists of distinct texts
module _ (ts us : List (List ℕ)) (dt : AreDistinct ts) (du : AreDistinct us) where
  -- they number one text
  record Same (a b : ℕ) : Type 0 where
    left : a < length ts
    right : b < length us
    text : text_of ts a ≡ text_of us b

  abbrev AllSame : List ℕ → List ℕ → Type 0
  AllSame [] [] = Unit {0}
  AllSame [] (b ∷ ys) = ⊥
  AllSame (a ∷ xs) [] = ⊥
  AllSame (a ∷ xs) (b ∷ ys) = Same a b × AllSame xs ys

  record Alike (q r : EquationOf ℕ) : Type 0 where
    output : Same q.output r.output
    inputs : AllSame q.inputs r.inputs
    rows : q.rows ≡ r.rows
    polarity : q.polarity ≡ r.polarity

  abbrev AllAlike : List (EquationOf ℕ) → List (EquationOf ℕ) → Type 0
  AllAlike [] [] = Unit {0}
  AllAlike [] (r ∷ rs) = ⊥
  AllAlike (q ∷ qs) [] = ⊥
  AllAlike (q ∷ qs) (r ∷ rs) = Alike q r × AllAlike qs rs

  all_same : (xs ys : List ℕ) → All (λ n. n < length ts) xs → All (λ n. n < length us) ys → map (text_of ts) xs ≡ map (text_of us) ys → AllSame xs ys
  all_same [] [] ia ib e = tt
  all_same [] (b ∷ ys) ia ib e = cc
  all_same (a ∷ xs) [] ia ib e = cc
  all_same (a ∷ xs) (b ∷ ys) ia ib e = (
    record {
      left = All-head (λ n. n < length ts) a xs ia;
      right = All-head (λ n. n < length us) b ys ib;
      text = first_same (text_of ts a) (text_of us b) (map (text_of ts) xs) (map (text_of us) ys) e;
    },
    all_same xs ys (All-tail (λ n. n < length ts) a xs ia) (All-tail (λ n. n < length us) b ys ib)
        (rest_same (text_of ts a) (text_of us b) (map (text_of ts) xs) (map (text_of us) ys) e),
  )

  alike : (q r : EquationOf ℕ) → EquationInRange (length ts) q → EquationInRange (length us) r → equation_by (text_of ts) q ≡ equation_by (text_of us) r → Alike q r
  alike q r iq ir e = record {
    output = record { left = iq.output; right = ir.output; text = ap (λ (v : EquationOf (List ℕ)). v.output) e };
    inputs = all_same q.inputs r.inputs iq.inputs ir.inputs (ap (λ (v : EquationOf (List ℕ)). v.inputs) e);
    rows = ap (λ (v : EquationOf (List ℕ)). v.rows) e;
    polarity = ap (λ (v : EquationOf (List ℕ)). v.polarity) e;
  }

  all_alike : (qs rs : List (EquationOf ℕ)) → All (EquationInRange (length ts)) qs → All (EquationInRange (length us)) rs
      → map (equation_by (text_of ts)) qs ≡ map (equation_by (text_of us)) rs → AllAlike qs rs
  all_alike [] [] iq ir e = tt
  all_alike [] (r ∷ rs) iq ir e = cc
  all_alike (q ∷ qs) [] iq ir e = cc
  all_alike (q ∷ qs) (r ∷ rs) iq ir e =
      let head = first_same (equation_by (text_of ts) q) (equation_by (text_of us) r) (map (equation_by (text_of ts)) qs) (map (equation_by (text_of us)) rs) e in
      let tail = rest_same (equation_by (text_of ts) q) (equation_by (text_of us) r) (map (equation_by (text_of ts)) qs) (map (equation_by (text_of us)) rs) e in (
        alike q r (All-head (EquationInRange (length ts)) q qs iq) (All-head (EquationInRange (length us)) r rs ir) head,
        all_alike qs rs (All-tail (EquationInRange (length ts)) q qs iq) (All-tail (EquationInRange (length us)) r rs ir) tail,
      )

  -- two numbers are one in the one list where they are in the other
  same_test : (a b m n : ℕ) → Same a b → Same m n → nat_eq a m ≡ nat_eq b n
  same_test a b m n s t = ⊎_elim
      (λ yes. yes ∙ sym (subst (λ v. nat_eq b v ≡ true) (there (eqb-true a m yes)) (same_to b)))
      (λ no_. ⊎_elim
      (λ yes. absurd (both_ways _ no_ (subst (λ v. nat_eq a v ≡ true) (here (eqb-true b n yes)) (same_to a))))
      (λ not_. no_ ∙ sym not_)
      (cases_Bool (nat_eq b n)))
      (cases_Bool (nat_eq a m))
    where
      there : a ≡ m → b ≡ n
      there e = one_number us du b n s.right t.right (sym s.text ∙ ap (text_of ts) e ∙ t.text)

      here : b ≡ n → a ≡ m
      here e = one_number ts dt a m s.left t.left (s.text ∙ ap (text_of us) e ∙ sym t.text)

  -- they give one text one net
  abbrev Agree : (ℕ → ℕ) → (ℕ → ℕ) → Type 0
  Agree f g = (a b : ℕ) → Same a b → f a ≡ g b

  with_agrees : (f g : ℕ → ℕ) (m n x y : ℕ) → Agree f g → Same m n → x ≡ y → Agree (with_net f m x) (with_net g n y)
  with_agrees f g m n x y agree t e a b s =
      ap (λ v. if v then x else f a) (same_test a b m n s t)
      ∙ ap (λ v. if nat_eq b n then v else f a) e
      ∙ ap (λ v. if nat_eq b n then y else v) (agree a b s)

  inputs_agree : (next : ℕ) (xs ys : List ℕ) → AllSame xs ys → Agree (input_nets next xs) (input_nets next ys)
  inputs_agree next [] [] all a b s = refl
  inputs_agree next [] (n ∷ ns) all a b s = absurd all
  inputs_agree next (m ∷ ms) [] all a b s = absurd all
  inputs_agree next (m ∷ ms) (n ∷ ns) all a b s =
      ap (λ v. if v then next else input_nets (next + 1) ms a) (same_test a b m n s all.0)
      ∙ ap (λ v. if nat_eq b n then next else v) (inputs_agree (next + 1) ms ns all.1 a b s)

  row_same : (f g : ℕ → ℕ) (xs ys : List ℕ) (row : List Literal) → Agree f g → AllSame xs ys → signed_row f xs row ≡ signed_row g ys row
  row_same f g [] [] row agree all = refl
  row_same f g [] (b ∷ ys) row agree all = absurd all
  row_same f g (a ∷ xs) [] row agree all = absurd all
  row_same f g (a ∷ xs) (b ∷ ys) [] agree all = refl
  row_same f g (a ∷ xs) (b ∷ ys) (l ∷ row) agree all =
      ap (λ v. option_to_list (signed_literal l v) ++ signed_row f xs row) (agree a b all.0)
      ∙ ap (λ v. option_to_list (signed_literal l (g b)) ++ v) (row_same f g xs ys row agree all.1)

  rows_same : (f g : ℕ → ℕ) (xs ys : List ℕ) (rows : List (List Literal)) → Agree f g → AllSame xs ys → map (signed_row f xs) rows ≡ map (signed_row g ys) rows
  rows_same f g xs ys [] agree all = refl
  rows_same f g xs ys (row ∷ rows) agree all =
      ap (λ v. v ∷ map (signed_row f xs) rows) (row_same f g xs ys row agree all)
      ∙ ap (λ v. signed_row g ys row ∷ v) (rows_same f g xs ys rows agree all)

  gates_same : (x y : ℕ) (f g : ℕ → ℕ) (q r : EquationOf ℕ) → x ≡ y → Agree f g → Alike q r → gates_of_equation x f q ≡ gates_of_equation y g r
  gates_same x y f g q r e agree a =
      ap (λ v. cover_gates v (map (signed_row f q.inputs) q.rows) q.polarity) e
      ∙ ap (λ v. cover_gates y v q.polarity) (rows_same f g q.inputs r.inputs q.rows agree a.inputs ∙ ap (map (signed_row g r.inputs)) a.rows)
      ∙ ap (cover_gates y (map (signed_row g r.inputs) r.rows)) a.polarity

  next_same : (x y : ℕ) (xs ys : List Gate) → x ≡ y → xs ≡ ys → x + length xs ≡ y + length ys
  next_same x y xs ys e same = let long : length xs ≡ length ys = ap length same in omega (arith, e, long)

  -- after one equation
  with_last : (x y : ℕ) (f g : ℕ → ℕ) (q r : EquationOf ℕ) → x ≡ y → Agree f g → Alike q r
      → Agree (with_net f q.output (x + length (gates_of_equation x f q) - 1)) (with_net g r.output (y + length (gates_of_equation y g r) - 1))
  with_last x y f g q r e agree a =
      with_agrees f g q.output r.output (x + length (gates_of_equation x f q) - 1) (y + length (gates_of_equation y g r) - 1) agree a.output
      (ap (λ n. n - 1) (next_same x y (gates_of_equation x f q) (gates_of_equation y g r) e (gates_same x y f g q r e agree a)))

  from_same : (x y : ℕ) (f g : ℕ → ℕ) (qs rs : List (EquationOf ℕ)) → x ≡ y → Agree f g → AllAlike qs rs → gates_from x f qs ≡ gates_from y g rs
  from_same x y f g [] [] e agree all = refl
  from_same x y f g [] (r ∷ rs) e agree all = absurd all
  from_same x y f g (q ∷ qs) [] e agree all = absurd all
  from_same x y f g (q ∷ qs) (r ∷ rs) e agree all =
      let same = gates_same x y f g q r e agree all.0 in
      ap (λ v. v ++ gates_from (x + length (gates_of_equation x f q)) (with_net f q.output (x + length (gates_of_equation x f q) - 1)) qs) same
      ∙ ap (λ v. gates_of_equation y g r ++ v) (from_same
      (x + length (gates_of_equation x f q)) (y + length (gates_of_equation y g r))
      (with_net f q.output (x + length (gates_of_equation x f q) - 1)) (with_net g r.output (y + length (gates_of_equation y g r) - 1))
      qs rs
      (next_same x y (gates_of_equation x f q) (gates_of_equation y g r) e same)
      (with_last x y f g q r e agree all.0) all.1)

  nets_agree : (x y : ℕ) (f g : ℕ → ℕ) (qs rs : List (EquationOf ℕ)) → x ≡ y → Agree f g → AllAlike qs rs → Agree (nets_from x f qs) (nets_from y g rs)
  nets_agree x y f g [] [] e agree all = agree
  nets_agree x y f g [] (r ∷ rs) e agree all = absurd all
  nets_agree x y f g (q ∷ qs) [] e agree all = absurd all
  nets_agree x y f g (q ∷ qs) (r ∷ rs) e agree all = nets_agree
      (x + length (gates_of_equation x f q)) (y + length (gates_of_equation y g r))
      (with_net f q.output (x + length (gates_of_equation x f q) - 1)) (with_net g r.output (y + length (gates_of_equation y g r) - 1))
      qs rs
      (next_same x y (gates_of_equation x f q) (gates_of_equation y g r) e (gates_same x y f g q r e agree all.0))
      (with_last x y f g q r e agree all.0) all.1

  nets_same : (f g : ℕ → ℕ) (xs ys : List ℕ) → Agree f g → AllSame xs ys → map f xs ≡ map g ys
  nets_same f g [] [] agree all = refl
  nets_same f g [] (b ∷ ys) agree all = absurd all
  nets_same f g (a ∷ xs) [] agree all = absurd all
  nets_same f g (a ∷ xs) (b ∷ ys) agree all =
      ap (λ v. v ∷ map f xs) (agree a b all.0) ∙ ap (λ v. g b ∷ v) (nets_same f g xs ys agree all.1)

  long_same : (xs ys : List ℕ) → AllSame xs ys → length xs ≡ length ys
  long_same [] [] all = refl
  long_same [] (b ∷ ys) all = absurd all
  long_same (a ∷ xs) [] all = absurd all
  long_same (a ∷ xs) (b ∷ ys) all = ap suc (long_same xs ys all.1)

  parts_same : (p r : PartsOf ℕ) → AllSame p.inputs r.inputs → AllSame p.outputs r.outputs → AllAlike p.equations r.equations → gates_of p ≡ gates_of r
  parts_same p r inputs outputs equations =
      let long = long_same p.inputs r.inputs inputs in
      let agree = inputs_agree 0 p.inputs r.inputs inputs in
      let make : ℕ → List Gate → List ℕ → NetlistOf = λ i gs os. record { inputs = i; gates = gs; outputs = os } in
      let gates = gates_from (length p.inputs) (input_nets 0 p.inputs) p.equations in
      let nets = map (nets_from (length p.inputs) (input_nets 0 p.inputs) p.equations) p.outputs in
      ap (λ i. make i gates nets) long
      ∙ ap (λ gs. make (length r.inputs) gs nets) (from_same (length p.inputs) (length r.inputs) (input_nets 0 p.inputs) (input_nets 0 r.inputs) p.equations r.equations long agree equations)
      ∙ ap (make (length r.inputs) (gates_from (length r.inputs) (input_nets 0 r.inputs) r.equations))
      (nets_same (nets_from (length p.inputs) (input_nets 0 p.inputs) p.equations) (nets_from (length r.inputs) (input_nets 0 r.inputs) r.equations) p.outputs r.outputs
      (nets_agree (length p.inputs) (length r.inputs) (input_nets 0 p.inputs) (input_nets 0 r.inputs) p.equations r.equations long agree equations) outputs)

-- circuits that are the same by the texts of their names have one netlist
pub netlist_is_one : (c d : Numbered) → AreNamed c → AreNamed d → (by_text c).inputs ≡ (by_text d).inputs → (by_text c).outputs ≡ (by_text d).outputs
    → (by_text c).equations ≡ (by_text d).equations → gates_of c.parts ≡ gates_of d.parts
netlist_is_one c d nc nd inputs outputs equations =
    parts_same c.names d.names nc.distinct nd.distinct c.parts d.parts
    (all_same c.names d.names nc.distinct nd.distinct c.parts.inputs d.parts.inputs nc.range.inputs nd.range.inputs inputs)
    (all_same c.names d.names nc.distinct nd.distinct c.parts.outputs d.parts.outputs nc.range.outputs nd.range.outputs outputs)
    (all_alike c.names d.names nc.distinct nd.distinct c.parts.equations d.parts.equations nc.range.equations nd.range.equations equations)
