-- The gates of an equation give its value.
use Rattle.std.proofs.Common.{◌≡◌, ℕ, suc, ◌+◌, ◌-◌, ◌<◌, ◌≤◌, Bool, true, false, cond, not, List, [], ◌∷◌, ◌++◌, length, refl, sym, ap, ◌∙◌, subst, inl, inr, arith}
use Rattle.std.specs.Prelude.{◌&&◌, ◌||◌}
use Rattle.std.specs.List.{list_any}
use Rattle.std.proofs.lemmas.List.{get_or_append_left, length-append}
use Rattle.std.proofs.Math.Seq.{get_or-append_seam}
use Rattle.std.proofs.Math.Bool.{and_assoc, or_assoc}
use Rattle.std.proofs.lemmas.Bool.{cases_lt}
use Rattle.surf_tiles.specs.declared.netlist.Gate.{Gate}
use Rattle.surf_tiles.specs.declared.netlist.Gate.TheVariants.{Constant, One, Two}
use Rattle.surf_tiles.specs.Netlists.{gate_value, value_in, with_gates}
use Rattle.surf_netlist.specs.declared.signed.Signed.{Signed}
use Rattle.surf_netlist.specs.Gates.{plain, Made, and_gate, or_gate, and_chain, or_chain, complement, complement_last, finished, is_empty, cover_gates}

abbrev pub signed_by : (ℕ → Bool) → Signed → Bool
signed_by val s = cond s.positive (val s.net) (not (val s.net))

abbrev pub all_signed : (ℕ → Bool) → List Signed → Bool
all_signed val [] = true
all_signed val (s ∷ row) = signed_by val s && all_signed val row

abbrev pub some_signed : (ℕ → Bool) → List (List Signed) → Bool
some_signed val [] = false
some_signed val (row ∷ rows) = all_signed val row || some_signed val rows

and_bits : (p q v w : Bool) → cond v (cond w (p && q) (p && not q)) (cond w (not p && q) (not p && not q)) ≡ (cond p v (not v) && cond q w (not w))
and_bits true true true true = refl
and_bits true true true false = refl
and_bits true true false true = refl
and_bits true true false false = refl
and_bits true false true true = refl
and_bits true false true false = refl
and_bits true false false true = refl
and_bits true false false false = refl
and_bits false true true true = refl
and_bits false true true false = refl
and_bits false true false true = refl
and_bits false true false false = refl
and_bits false false true true = refl
and_bits false false true false = refl
and_bits false false false true = refl
and_bits false false false false = refl

or_bits : (p q v w : Bool) → cond v (cond w (p || q) (p || not q)) (cond w (not p || q) (not p || not q)) ≡ (cond p v (not v) || cond q w (not w))
or_bits true true true true = refl
or_bits true true true false = refl
or_bits true true false true = refl
or_bits true true false false = refl
or_bits true false true true = refl
or_bits true false true false = refl
or_bits true false false true = refl
or_bits true false false false = refl
or_bits false true true true = refl
or_bits false true true false = refl
or_bits false true false true = refl
or_bits false true false false = refl
or_bits false false true true = refl
or_bits false false true false = refl
or_bits false false false true = refl
or_bits false false false false = refl

and_value : (val : ℕ → Bool) (a b : Signed) → gate_value val (and_gate a b) ≡ (signed_by val a && signed_by val b)
and_value val a b = and_bits a.positive b.positive (val a.net) (val b.net)

or_value : (val : ℕ → Bool) (a b : Signed) → gate_value val (or_gate a b) ≡ (signed_by val a || signed_by val b)
or_value val a b = or_bits a.positive b.positive (val a.net) (val b.net)

-- the values of gates in order
abbrev pub with_gate : List Bool → Gate → List Bool
with_gate values g = values ++ gate_value (value_in values) g ∷ []

one_longer : (values : List Bool) (g : Gate) → length (with_gate values g) ≡ length values + 1
one_longer values g = length-append values (gate_value (value_in values) g ∷ [])

gate_keeps : (values : List Bool) (g : Gate) (m : ℕ) → m < length values → value_in (with_gate values g) m ≡ value_in values m
gate_keeps values g m b = get_or_append_left values (gate_value (value_in values) g ∷ []) false m b

gate_new : (values : List Bool) (g : Gate) (n : ℕ) → n ≡ length values → value_in (with_gate values g) n ≡ gate_value (value_in values) g
gate_new values g n e = ap (value_in (with_gate values g)) e ∙ get_or-append_seam values (gate_value (value_in values) g) [] false

pub gates_longer : (gates : List Gate) (values : List Bool) → length (with_gates gates values) ≡ length values + length gates
gates_longer [] values = omega arith
gates_longer (g ∷ gates) values = let a = gates_longer gates (with_gate values g) in let b = one_longer values g in omega (arith, a, b)

pub gates_keep : (gates : List Gate) (values : List Bool) (m : ℕ) → m < length values → value_in (with_gates gates values) m ≡ value_in values m
gates_keep [] values m b = refl
gates_keep (g ∷ gates) values m b = let l = one_longer values g in gates_keep gates (with_gate values g) m (omega (arith, l, b)) ∙ gate_keeps values g m b

pub gates_then : (gates more : List Gate) (values : List Bool) → with_gates (gates ++ more) values ≡ with_gates more (with_gates gates values)
gates_then [] more values = refl
gates_then (g ∷ gates) more values = gates_then gates more (with_gate values g)

abbrev pub AllBelow : (n : ℕ) → List Signed → Type 0
AllBelow n [] = Unit {0}
AllBelow n (s ∷ row) = (s.net < n) × AllBelow n row

pub below_more : (n m : ℕ) (row : List Signed) → n ≤ m → AllBelow n row → AllBelow m row
below_more n m [] b h = tt
below_more n m (s ∷ row) b (h, k) = (omega (arith, b, h), below_more n m row b k)

signed_same : (val val' : ℕ → Bool) (s : Signed) → val s.net ≡ val' s.net → signed_by val s ≡ signed_by val' s
signed_same val val' s e = ap (λ (x : Bool). cond s.positive x (not x)) e

all_same : (val val' : ℕ → Bool) (n : ℕ) (row : List Signed) → AllBelow n row → ((m : ℕ) → m < n → val m ≡ val' m) → all_signed val row ≡ all_signed val' row
all_same val val' n [] h same = refl
all_same val val' n (s ∷ row) (h, k) same = ap (λ (x : Bool). x && all_signed val row) (signed_same val val' s (same s.net h)) ∙ ap (λ (x : Bool). signed_by val' s && x) (all_same val val' n row k same)

-- what gates give, when they stand after values
pub record Given (values : List Bool) (next : ℕ) (so_far : Signed) (m : Made) (b : Bool) : Type 0 where
  pub value : signed_by (value_in (with_gates m.gates values)) m.result ≡ b
  pub within : m.result.net < next + length m.gates
  pub none : length m.gates ≡ 0 → m.result ≡ so_far
  pub last : 0 < length m.gates → (m.result.net + 1 ≡ next + length m.gates) × (m.result.positive ≡ true)

-- a gate, and what is made of it and after it
gate_given : (values : List Bool) (next : ℕ) (so_far : Signed) (g : Gate) (m : Made) (b : Bool) → Given (with_gate values g) (next + 1) (plain next) m b → Given values next so_far (record { gates = g ∷ m.gates; result = m.result }) b
gate_given values next so_far g m b h = record {
  value = h.value;
  within = (let w = h.within in omega (arith, w));
  none = λ e. absurd (omega (arith, e));
  last = λ l. elim (cases_lt 0 (length m.gates)) as (λ x. (m.result.net + 1 ≡ next + length (g ∷ m.gates)) × (m.result.positive ≡ true)) [
    | inl l' ↦ (let k = h.last l' in let k' = k.0 in (omega (arith, k'), k.1))
    | inr l' ↦ (let k = h.none (omega (arith, l')) in let k' : m.result.net ≡ next = ap (λ (x : Signed). x.net) k in (omega (arith, k', l'), ap (λ (x : Signed). x.positive) k))
  ];
}

and_given : (values : List Bool) (next : ℕ) (so_far : Signed) (row : List Signed) → next ≡ length values → so_far.net < next → AllBelow next row → Given values next so_far (and_chain next so_far row) (signed_by (value_in values) so_far && all_signed (value_in values) row)
and_given values next so_far [] e b h = record { value = and_one (signed_by (value_in values) so_far); within = omega (arith, b); none = λ k. refl; last = λ k. absurd (omega (arith, k)) }
  where
    and_one : (x : Bool) → x ≡ (x && true)
    and_one true = refl
    and_one false = refl
and_given values next so_far (s ∷ row) e b (h, k) =
    let g : Gate = and_gate so_far s in
    let l = one_longer values g in
    let deep = and_given (with_gate values g) (next + 1) (plain next) row (omega (arith, l, e)) (omega arith) (below_more next (next + 1) row (omega arith) k) in
    let p : (value_in (with_gate values g) next && all_signed (value_in (with_gate values g)) row) ≡ (signed_by (value_in values) so_far && (signed_by (value_in values) s && all_signed (value_in values) row)) =
    ap (λ (x : Bool). x && all_signed (value_in (with_gate values g)) row) (gate_new values g next e ∙ and_value (value_in values) so_far s) ∙
    ap (λ (x : Bool). (signed_by (value_in values) so_far && signed_by (value_in values) s) && x) (all_same (value_in (with_gate values g)) (value_in values) next row k (λ m c. gate_keeps values g m (omega (arith, c, e)))) ∙
    and_assoc (signed_by (value_in values) so_far) (signed_by (value_in values) s) (all_signed (value_in values) row) in
    subst (Given values next so_far (and_chain next so_far (s ∷ row))) p (gate_given values next so_far g (and_chain (next + 1) (plain next) row) _ deep)

-- rows with a signed net each
abbrev pub AllRows : (n : ℕ) → List (List Signed) → Type 0
AllRows n [] = Unit {0}
AllRows n ([] ∷ rows) = ⊥
AllRows n ((s ∷ row) ∷ rows) = (s.net < n) × AllBelow n row × AllRows n rows

pub rows_more : (n m : ℕ) (rows : List (List Signed)) → n ≤ m → AllRows n rows → AllRows m rows
rows_more n m [] b h = tt
rows_more n m ([] ∷ rows) b h = absurd h
rows_more n m ((s ∷ row) ∷ rows) b (h, k, l) = (omega (arith, b, h), below_more n m row b k, rows_more n m rows b l)

some_same : (val val' : ℕ → Bool) (n : ℕ) (rows : List (List Signed)) → AllRows n rows → ((m : ℕ) → m < n → val m ≡ val' m) → some_signed val rows ≡ some_signed val' rows
some_same val val' n [] h same = refl
some_same val val' n ([] ∷ rows) h same = absurd h
some_same val val' n ((s ∷ row) ∷ rows) (h, k, l) same = ap (λ (x : Bool). x || some_signed val rows) (all_same val val' n (s ∷ row) (h, k) same) ∙ ap (λ (x : Bool). all_signed val' (s ∷ row) || x) (some_same val val' n rows l same)

given_after : (values : List Bool) (next : ℕ) (s : Signed) (r m : Made) (b c : Bool) → Given values next s r b → Given (with_gates r.gates values) (next + length r.gates) r.result m c → Given values next s (record { gates = r.gates ++ m.gates; result = m.result }) c
given_after values next s r m b c h k =
    let l : length (r.gates ++ m.gates) ≡ length r.gates + length m.gates = length-append r.gates m.gates in
    record {
      value = subst (λ (x : List Bool). signed_by (value_in x) m.result ≡ c) (sym (gates_then r.gates m.gates values)) k.value;
      within = (let w = k.within in omega (arith, w, l));
      none = λ e. k.none (omega (arith, e, l)) ∙ h.none (omega (arith, e, l));
      last = λ z. elim (cases_lt 0 (length m.gates)) as (λ x. (m.result.net + 1 ≡ next + length (r.gates ++ m.gates)) × (m.result.positive ≡ true)) [
        | inl z' ↦ (let t = k.last z' in let t' = t.0 in (omega (arith, t', l), t.1))
        | inr z' ↦ (
            let e : m.result ≡ r.result = k.none (omega (arith, z')) in
            let t = h.last (omega (arith, z, z', l)) in
            let t' = t.0 in
            let e' : m.result.net ≡ r.result.net = ap (λ (x : Signed). x.net) e in (omega (arith, t', l, e', z'), ap (λ (x : Signed). x.positive) e ∙ t.1))
      ];
    }

given_other : (values : List Bool) (next : ℕ) (s s' : Signed) (m : Made) (b : Bool) → Given values next s m b → 0 < length m.gates → Given values next s' m b
given_other values next s s' m b h z = record { value = h.value; within = h.within; none = λ e. absurd (omega (arith, e, z)); last = h.last }

or_given : (values : List Bool) (next : ℕ) (so_far : Signed) (rows : List (List Signed)) → next ≡ length values → so_far.net < next → AllRows next rows → Given values next so_far (or_chain next so_far rows) (signed_by (value_in values) so_far || some_signed (value_in values) rows)
or_given values next so_far [] e b h = record { value = or_none (signed_by (value_in values) so_far); within = omega (arith, b); none = λ k. refl; last = λ k. absurd (omega (arith, k)) }
  where
    or_none : (x : Bool) → x ≡ (x || false)
    or_none true = refl
    or_none false = refl
or_given values next so_far ([] ∷ rows) e b h = absurd h
or_given values next so_far ((s ∷ row) ∷ rows) e b (h, k, l) =
    let r : Made = and_chain next s row in
    let given = and_given values next s row e h k in
    let values' : List Bool = with_gates r.gates values in
    let n : ℕ = next + length r.gates in
    let long : length values' ≡ length values + length r.gates = gates_longer r.gates values in
    let en : n ≡ length values' = omega (arith, long, e) in
    let g : Gate = or_gate so_far r.result in
    let long' = one_longer values' g in
    let m : Made = or_chain (n + 1) (plain n) rows in
    let deep = or_given (with_gate values' g) (n + 1) (plain n) rows (omega (arith, long', en)) (omega arith) (rows_more next (n + 1) rows (omega arith) l) in
    let p : (value_in (with_gate values' g) n || some_signed (value_in (with_gate values' g)) rows) ≡ (signed_by (value_in values) so_far || (all_signed (value_in values) (s ∷ row) || some_signed (value_in values) rows)) =
    ap (λ (x : Bool). x || some_signed (value_in (with_gate values' g)) rows) (gate_new values' g n en ∙ or_value (value_in values') so_far r.result ∙
    ap (λ (x : Bool). x || signed_by (value_in values') r.result) (signed_same (value_in values') (value_in values) so_far (gates_keep r.gates values so_far.net (omega (arith, b, e)))) ∙
    ap (λ (x : Bool). signed_by (value_in values) so_far || x) given.value) ∙
    ap (λ (x : Bool). (signed_by (value_in values) so_far || all_signed (value_in values) (s ∷ row)) || x)
    (some_same (value_in (with_gate values' g)) (value_in values) next rows l (λ x c. gate_keeps values' g x (omega (arith, c, e, long)) ∙ gates_keep r.gates values x (omega (arith, c, e)))) ∙
    or_assoc (signed_by (value_in values) so_far) (all_signed (value_in values) (s ∷ row)) (some_signed (value_in values) rows) in
    let whole = given_after values next s r (record { gates = g ∷ m.gates; result = m.result }) _ _ given (gate_given values' n r.result g m _ deep) in
    subst (Given values next so_far (or_chain next so_far ((s ∷ row) ∷ rows))) p
    (given_other values next s so_far (record { gates = r.gates ++ (g ∷ m.gates); result = m.result }) _ whole (let z = length-append r.gates (g ∷ m.gates) in omega (arith, z)))

-- the last gate complemented
two_bits : (a b c d v w : Bool) → cond v (cond w (not d) (not c)) (cond w (not b) (not a)) ≡ not (cond v (cond w d c) (cond w b a))
two_bits a b c d true true = refl
two_bits a b c d true false = refl
two_bits a b c d false true = refl
two_bits a b c d false false = refl

one_bits : (z o v : Bool) → cond v (not o) (not z) ≡ not (cond v o z)
one_bits z o true = refl
one_bits z o false = refl

complement_value : (val : ℕ → Bool) (g : Gate) → gate_value val (complement g) ≡ not (gate_value val g)
complement_value val (Constant v) = refl
complement_value val (One z o input) = one_bits z o (val input)
complement_value val (Two t00 t01 t10 t11 first second) = two_bits t00 t01 t10 t11 (val first) (val second)

pub complement_long : (g : Gate) (gates : List Gate) → length (complement_last (g ∷ gates)) ≡ length (g ∷ gates)
complement_long g [] = refl
complement_long g (h ∷ gates) = ap suc (complement_long h gates)

complement_gives : (g : Gate) (gates : List Gate) (values : List Bool) (n : ℕ) → n ≡ length values + length gates → value_in (with_gates (complement_last (g ∷ gates)) values) n ≡ not (value_in (with_gates (g ∷ gates) values) n)
complement_gives g [] values n e =
    gate_new values (complement g) n (omega (arith, e)) ∙ complement_value (value_in values) g ∙ ap not (sym (gate_new values g n (omega (arith, e))))
complement_gives g (h ∷ gates) values n e = let l = one_longer values g in complement_gives h gates (with_gate values g) n (omega (arith, l, e))

finish_bits : (polarity positive v : Bool) → cond positive (cond v polarity (not polarity)) (cond v (not polarity) polarity) ≡ cond polarity (cond positive v (not v)) (not (cond positive v (not v)))
finish_bits true true true = refl
finish_bits true true false = refl
finish_bits true false true = refl
finish_bits true false false = refl
finish_bits false true true = refl
finish_bits false true false = refl
finish_bits false false true = refl
finish_bits false false false = refl

one_gate : (values : List Bool) (polarity positive : Bool) (net : ℕ) → gate_value (value_in values) (cond positive (One (not polarity) polarity net) (One polarity (not polarity) net)) ≡ cond positive (cond (value_in values net) polarity (not polarity)) (cond (value_in values net) (not polarity) polarity)
one_gate values polarity true net = refl
one_gate values polarity false net = refl

-- the last gate gives the value, by the polarity
finish_given : (values : List Bool) (next : ℕ) (s0 : Signed) (gates : List Gate) (s : Signed) (b polarity : Bool) → next ≡ length values → Given values next s0 (record { gates = gates; result = s }) b →
    value_in (with_gates (finished polarity gates s) values) (next + length (finished polarity gates s) - 1) ≡ cond polarity b (not b)
finish_given values next s0 [] s b polarity e h =
    let n : next + 1 - 1 ≡ next = omega arith in
    let g : Gate = cond s.positive (One (not polarity) polarity s.net) (One polarity (not polarity) s.net) in
    ap (value_in (with_gate values g)) n ∙ gate_new values g next e ∙ one_gate values polarity s.positive s.net ∙ finish_bits polarity s.positive (value_in values s.net) ∙ ap (λ (x : Bool). cond polarity x (not x)) h.value
finish_given values next s0 (g ∷ gates) s b true e h =
    let (l, t) = h.last (omega arith) in
    let n : next + length (g ∷ gates) - 1 ≡ s.net = omega (arith, l) in
    ap (value_in (with_gates (g ∷ gates) values)) n ∙ sym (ap (λ (x : Bool). cond x (value_in (with_gates (g ∷ gates) values) s.net) (not (value_in (with_gates (g ∷ gates) values) s.net))) t) ∙ h.value
finish_given values next s0 (g ∷ gates) s b false e h =
    let (l, t) = h.last (omega arith) in
    let c = complement_long g gates in
    let n : next + length (complement_last (g ∷ gates)) - 1 ≡ s.net = omega (arith, l, c) in
    ap (value_in (with_gates (complement_last (g ∷ gates)) values)) n ∙ complement_gives g gates values s.net (omega (arith, l, e)) ∙
    ap not (sym (ap (λ (x : Bool). cond x (value_in (with_gates (g ∷ gates) values) s.net) (not (value_in (with_gates (g ∷ gates) values) s.net))) t) ∙ h.value)

-- the rows of an equation
abbrev pub RowsBelow : (n : ℕ) → List (List Signed) → Type 0
RowsBelow n [] = Unit {0}
RowsBelow n (row ∷ rows) = AllBelow n row × RowsBelow n rows

pub full_rows : (n : ℕ) (rows : List (List Signed)) → RowsBelow n rows → list_any is_empty rows ≡ false → AllRows n rows
full_rows n [] h e = tt
full_rows n ([] ∷ rows) h e = absurd cc
full_rows n ((s ∷ row) ∷ rows) ((a, b), k) e = (a, b, full_rows n rows k e)

empty_row : (val : ℕ → Bool) (rows : List (List Signed)) → list_any is_empty rows ≡ true → some_signed val rows ≡ true
empty_row val [] e = absurd cc
empty_row val ([] ∷ rows) e = refl
empty_row val ((s ∷ row) ∷ rows) e = ap (λ (x : Bool). all_signed val (s ∷ row) || x) (empty_row val rows e) ∙ or_true (all_signed val (s ∷ row))
  where
    or_true : (x : Bool) → (x || true) ≡ true
    or_true true = refl
    or_true false = refl

abbrev pub signed_value : (ℕ → Bool) → List (List Signed) → (polarity : Bool) → Bool
signed_value val [] polarity = false
signed_value val (row ∷ rows) polarity = cond polarity (some_signed val (row ∷ rows)) (not (some_signed val (row ∷ rows)))

constant_given : (values : List Bool) (next : ℕ) (v : Bool) → next ≡ length values → value_in (with_gate values (Constant v)) (next + 1 - 1) ≡ v
constant_given values next v e = let n : next + 1 - 1 ≡ next = omega arith in ap (value_in (with_gate values (Constant v))) n ∙ gate_new values (Constant v) next e

polarity_bits : (polarity : Bool) → polarity ≡ cond polarity true (not true)
polarity_bits true = refl
polarity_bits false = refl

pub rows_given : (values : List Bool) (next : ℕ) (rows : List (List Signed)) (polarity : Bool) → next ≡ length values → RowsBelow next rows →
    value_in (with_gates (cover_gates next rows polarity) values) (next + length (cover_gates next rows polarity) - 1) ≡ signed_value (value_in values) rows polarity
rows_given values next [] polarity e h = constant_given values next false e
rows_given values next ([] ∷ rows) polarity e h = constant_given values next polarity e ∙ polarity_bits polarity
rows_given values next ((s ∷ row) ∷ rows) polarity e h = go (list_any is_empty rows) refl
  where
    r : Made
    r = and_chain next s row

    m : Made
    m = or_chain (next + length r.gates) r.result rows

    made : Bool → List Gate
    made t = cond t (Constant polarity ∷ []) (finished polarity (r.gates ++ m.gates) m.result)

    go : (t : Bool) → list_any is_empty rows ≡ t → value_in (with_gates (made t) values) (next + length (made t) - 1) ≡ signed_value (value_in values) ((s ∷ row) ∷ rows) polarity
    go true k = constant_given values next polarity e ∙ polarity_bits polarity ∙ ap (λ (x : Bool). cond polarity x (not x)) (sym (empty_row (value_in values) ((s ∷ row) ∷ rows) k))
    go false k =
        let full = full_rows next rows h.1 k in
        let given = and_given values next s row e h.0.0 h.0.1 in
        let values' : List Bool = with_gates r.gates values in
        let n : ℕ = next + length r.gates in
        let long = gates_longer r.gates values in
        let or = or_given values' n r.result rows (omega (arith, long, e)) given.within (rows_more next n rows (omega arith) full) in
        let p : (signed_by (value_in values') r.result || some_signed (value_in values') rows) ≡ some_signed (value_in values) ((s ∷ row) ∷ rows) =
        ap (λ (x : Bool). x || some_signed (value_in values') rows) given.value ∙ ap (λ (x : Bool). all_signed (value_in values) (s ∷ row) || x) (some_same (value_in values') (value_in values) next rows full (λ x c. gates_keep r.gates values x (omega (arith, c, e)))) in
        finish_given values next s (r.gates ++ m.gates) m.result _ polarity e (given_after values next s r m _ _ given or) ∙ ap (λ (x : Bool). cond polarity x (not x)) p
