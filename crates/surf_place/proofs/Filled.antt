-- Rows that are taken one after another give the source row and the last row of each net.
use Rattle.std.proofs.Common.{◌≡◌, ◌≢◌, ℕ, zero, suc, ◌+◌, ◌<◌, Bool, true, false, cond, Some, List, [], ◌∷◌, map, length, get_or, refl, sym, ap, ◌∙◌, subst, ⊎_elim, arith, nat_eq, get_or-set_same, get_or-set_other}
use Rattle.std.specs.List.{range_with_len}
use Rattle.std.proofs.Math.ListN.{set, length-set}
use Rattle.std.proofs.lemmas.List.{get_or_append_left, get_or_push, length_push, ext_get_or}
use Rattle.std.proofs.lemmas.List.FromFn.{length-map-range_with_len, get_or-map-range_with_len}
use Rattle.std.proofs.lemmas.Bool.{cases_lt, cases_eq, eq-eqb, ne_eqb}
use Rattle.surf_tiles.specs.declared.netlist.Gate.{Gate}
use Rattle.surf_tiles.specs.declared.netlist.Gate.TheVariants.{Constant, One, Two}
use Rattle.surf_tiles.specs.Netlists.{NetlistOf, nets_of, IsNetlist}
use Rattle.surf_place.specs.Drawing.{Row, Source, Tap, Ends, net_of, input_rows, gate_rows, rows_of, row_at, greatest, found, begins, source_row, last_row}
use Rattle.surf_place.specs.Filling.{Filled, nothing, with_source, with_use, with_row, filled}
use Rattle.surf_place.proofs.Rows.{Counted, begun_after, Sound, More, begun_at, begun_last, rows_sound}

-- rows that are followed by others
pub inputs_then : (f : Filled) (count net : ℕ) (below : List Row) → filled f (input_rows count net below) ≡ filled (filled f (input_rows count net [])) below
inputs_then f zero net below = refl
inputs_then f (suc count) net below = inputs_then (with_source f) count (net + 1) below

pub gates_then : (f : Filled) (net : ℕ) (gates : List Gate) (below : List Row) → filled f (gate_rows net gates below) ≡ filled (filled f (gate_rows net gates [])) below
gates_then f net [] below = refl
gates_then f net (Constant v ∷ gates) below = gates_then (with_source f) (net + 1) gates below
gates_then f net (One z o input ∷ gates) below = gates_then (with_source (with_use f input)) (net + 1) gates below
gates_then f net (Two t00 t01 t10 t11 first second ∷ gates) below = gates_then (with_source (with_use (with_use f first) second)) (net + 1) gates below

-- the greatest number that passes, one number on
found_here : (test : ℕ → Bool) (k : ℕ) → test k ≡ true → found (greatest test (suc k)) ≡ k
found_here test k e = ap (λ (b : Bool). found (cond b (Some k) (greatest test k))) e

found_before : (test : ℕ → Bool) (k : ℕ) → test k ≡ false → found (greatest test (suc k)) ≡ found (greatest test k)
found_before test k e = ap (λ (b : Bool). found (cond b (Some k) (greatest test k))) e

abbrev begins_in : NetlistOf → ℕ → ℕ → Bool
begins_in N n r = begins (row_at N r) n

abbrev names_in : NetlistOf → ℕ → ℕ → Bool
names_in N n r = nat_eq (net_of (row_at N r)) n

-- what holds of the nets that have begun above row k
pub record IsFilled (N : NetlistOf) (k begun : ℕ) (f : Filled) : Type 0 where
  pub row : f.row ≡ k
  pub sources_long : length f.source ≡ begun
  pub lasts_long : length f.last ≡ begun
  pub source : (n : ℕ) → n < begun → get_or f.source n 0 ≡ found (greatest (begins_in N n) k)
  pub last : (n : ℕ) → n < begun → get_or f.last n 0 ≡ found (greatest (names_in N n) k)

nothing_filled : (N : NetlistOf) → IsFilled N 0 0 nothing
nothing_filled N = record { row = refl; sources_long = refl; lasts_long = refl; source = λ n b. absurd (omega (arith, b)); last = λ n b. absurd (omega (arith, b)) }

begun_filled : (N : NetlistOf) (k begun : ℕ) (f : Filled) → ((n : ℕ) → n ≢ begun → begins_in N n k ≡ false) → begins_in N begun k ≡ true → net_of (row_at N k) ≡ begun → IsFilled N k begun f → IsFilled N (suc k) (begun + 1) (with_source f)
begun_filled N k begun f others own names h = record {
  row = (let r = h.row in omega (arith, r));
  sources_long = (let l = length_push f.source f.row in let e = h.sources_long in omega (arith, l, e));
  lasts_long = (let l = length_push f.last f.row in let e = h.lasts_long in omega (arith, l, e));
  source = λ n b. ⊎_elim
      (λ c. get_or_append_left f.source (f.row ∷ []) 0 n (let e = h.sources_long in omega (arith, c, e)) ∙ h.source n c ∙ sym (found_before (begins_in N n) k (others n (λ e. omega (arith, e, c)))))
      (λ c. let e : n ≡ begun = omega (arith, b, c) in get_or_push f.source f.row 0 n (h.sources_long ∙ sym e) ∙ h.row ∙ sym (found_here (begins_in N n) k (ap (λ (m : ℕ). begins_in N m k) e ∙ own)))
      (cases_lt n begun);
  last = λ n b. ⊎_elim
      (λ c. get_or_append_left f.last (f.row ∷ []) 0 n (let e = h.lasts_long in omega (arith, c, e)) ∙ h.last n c ∙ sym (found_before (names_in N n) k (ne_eqb (net_of (row_at N k)) n (λ e. omega (arith, names, e, c)))))
      (λ c. let e : n ≡ begun = omega (arith, b, c) in get_or_push f.last f.row 0 n (h.lasts_long ∙ sym e) ∙ h.row ∙ sym (found_here (names_in N n) k (eq-eqb (net_of (row_at N k)) n (names ∙ sym e))))
      (cases_lt n begun);
}

used_filled : (N : NetlistOf) (k begun net : ℕ) (f : Filled) → ((n : ℕ) → begins_in N n k ≡ false) → net_of (row_at N k) ≡ net → net < begun → IsFilled N k begun f → IsFilled N (suc k) begun (with_use f net)
used_filled N k begun net f others names within h = record {
  row = (let r = h.row in omega (arith, r));
  sources_long = h.sources_long;
  lasts_long = length-set f.last net f.row ∙ h.lasts_long;
  source = λ n b. h.source n b ∙ sym (found_before (begins_in N n) k (others n));
  last = λ n b. ⊎_elim
      (λ e. ap (λ (m : ℕ). get_or (set f.last net f.row) m 0) e ∙ get_or-set_same f.last net f.row 0 (let l = h.lasts_long in omega (arith, l, within)) ∙ h.row ∙ sym (found_here (names_in N n) k (eq-eqb (net_of (row_at N k)) n (names ∙ sym e))))
      (λ o. get_or-set_other f.last net n f.row 0 o ∙ h.last n b ∙ sym (found_before (names_in N n) k (ne_eqb (net_of (row_at N k)) n (λ e. o (sym e ∙ names)))))
      (cases_eq n net);
}

row_filled : (N : NetlistOf) (k begun : ℕ) (f : Filled) (row : Row) → row_at N k ≡ row → Counted begun row → IsFilled N k begun f → IsFilled N (suc k) (begun_after begun row) (with_row f row)
row_filled N k begun f (Source net device) is counted h =
    begun_filled N k begun f (λ n o. ap (λ (r : Row). begins r n) is ∙ ne_eqb net n (λ e. o (sym e ∙ counted))) (ap (λ (r : Row). begins r begun) is ∙ eq-eqb net begun counted) (ap net_of is ∙ counted) h
row_filled N k begun f (Tap net gate device) is counted h = used_filled N k begun net f (λ n. ap (λ (r : Row). begins r n) is) (ap net_of is) counted h
row_filled N k begun f (Ends net) is counted h = used_filled N k begun net f (λ n. ap (λ (r : Row). begins r n) is) (ap net_of is) counted h

rows_filled : (N : NetlistOf) (rows : List Row) (k begun : ℕ) (above : Row) (f : Filled) → ((i : ℕ) → get_or rows i (Ends 0) ≡ row_at N (k + i)) → Sound N begun above rows → IsFilled N k begun f → IsFilled N (k + length rows) (begun_at begun rows (length rows)) (filled f rows)
rows_filled N [] k begun above f at s h = let e : k ≡ k + 0 = omega arith in subst (λ (n : ℕ). IsFilled N n begun f) e h
rows_filled N (row ∷ rows) k begun above f at (More _ _ _ _ follows counted s) h =
    let here : row_at N k ≡ row = ap (row_at N) (let z : k ≡ k + 0 = omega arith in z) ∙ sym (at 0) in
    let deep = rows_filled N rows (suc k) (begun_after begun row) row (with_row f row) (λ i. at (suc i) ∙ ap (row_at N) (let z : k + suc i ≡ suc k + i = omega arith in z)) s (row_filled N k begun f row here counted h) in
    let e : suc k + length rows ≡ k + suc (length rows) = omega arith in
    subst (λ (n : ℕ). IsFilled N n (begun_at (begun_after begun row) rows (length rows)) (filled (with_row f row) rows)) e deep

-- all rows of a netlist
pub all_filled : (N : NetlistOf) → IsNetlist N → IsFilled N (length (rows_of N)) (nets_of N) (filled nothing (rows_of N))
all_filled N good =
    let s = rows_sound N good.ordered good.outputs in
    let h = rows_filled N (rows_of N) 0 0 (Ends 0) nothing (λ i. ap (row_at N) (let z : i ≡ 0 + i = omega arith in z)) s (nothing_filled N) in
    let e : 0 + length (rows_of N) ≡ length (rows_of N) = omega arith in
    subst (λ (n : ℕ). IsFilled N n (nets_of N) (filled nothing (rows_of N))) e (subst (λ (b : ℕ). IsFilled N (0 + length (rows_of N)) b (filled nothing (rows_of N))) (begun_last N 0 (Ends 0) (rows_of N) s) h)

table_is : (N : NetlistOf) (f : ℕ → ℕ) (xs : List ℕ) → length xs ≡ nets_of N → ((n : ℕ) → n < nets_of N → get_or xs n 0 ≡ f n) → xs ≡ map f (range_with_len 0 (nets_of N))
table_is N f xs long at =
    ext_get_or 0 xs (map f (range_with_len 0 (nets_of N))) (long ∙ sym (length-map-range_with_len f 0 (nets_of N)))
    (λ i b. let c : i < nets_of N = omega (arith, b, long) in at i c ∙ sym (get_or-map-range_with_len f 0 (nets_of N) i i 0 c (omega arith)))

pub record AreTables (N : NetlistOf) (f : Filled) : Type 0 where
  pub rows : f.row ≡ length (rows_of N)
  pub sources : f.source ≡ map (source_row N) (range_with_len 0 (nets_of N))
  pub lasts : f.last ≡ map (last_row N) (range_with_len 0 (nets_of N))

pub are_tables : (N : NetlistOf) → IsNetlist N → AreTables N (filled nothing (rows_of N))
are_tables N good =
    let h = all_filled N good in
    record {
      rows = h.row;
      sources = table_is N (source_row N) (filled nothing (rows_of N)).source h.sources_long h.source;
      lasts = table_is N (last_row N) (filled nothing (rows_of N)).last h.lasts_long h.last;
    }
