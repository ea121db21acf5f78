-- What stands at a site at first, and that its text is a name.
use Rattle.std.specs.Prelude.{if◌then◌else◌, slice_index}
use Rattle.std.specs.List.{list_all}
use Rattle.std.proofs.Common.{◌≡◌, ℕ, suc, ◌*◌, ◌/◌, ◌%◌, ◌^◌, ◌<◌, ◌≤◌, ◌≢◌, Bool, true, false, nat_le, List, [], ◌∷◌, ◌++◌, map, length, Some, None, sym, refl, ap, ◌∙◌, subst, arith}
use Rattle.std.proofs.lemmas.Bool.{and_from, and_parts, le-leb, leb-true, ne_eqb}
use Rattle.std.proofs.lemmas.List.Folds.{list_all-append}
use Rattle.std.proofs.lemmas.Nat.{mod_below, mul-add-lt}
use Rattle.std.proofs.lemmas.Option.{cond_some}
use Rattle.std.specs.Fmt.{decimal}
use Rattle.surf_base.specs.Decimal.{is_digit}
use Rattle.surf_lattice.specs.declared.site.Site.{Site}
use Rattle.surf_lattice.specs.Grids.{Grid, colour, degree, place, site_at, sites}
use Rattle.surf_sync.specs.Listing.{Name}
use Rattle.surf_sync.specs.Rules.{below}
use Rattle.surf_sync.proofs.Loops.{map_map}
use Rattle.surf_auto.specs.Sync.{Universe, IsUniverse, state_at}
use Rattle.surf_text.specs.Bytes.{is_plain}
use Rattle.surf_manifest_lines.specs.Item.{is_name}
use Rattle.surf_sync.specs.Codes.{Mark}
use Rattle.surf_sync.specs.Codes.Mark.{Frame, Cell}
use Rattle.surf_sync.specs.Spelling.{spell}
use Rattle.surf_sync.proofs.Few.{few_degree}
use Rattle.surf_sync.proofs.Spelling.{IsSmallMark, spells}
use Rattle.surf_colony.specs.Colonies.{back, first_mark, framed, in_box}
use Rattle.surf_colony.specs.Numbers.{cell_place, cell_state}
use Rattle.surf_colony.proofs.Boards.{box_from}
use Rattle.surf_colony.proofs.Built.{unframed_in}

-- where a cell stands
pub record Stands (g : Grid) (s : Site) (n : ℕ) : Type 0 where
  pub boxed : in_box g s ≡ true
  pub at : n ≡ place g (back g s)
  pub within : n < g.width * g.height

pub stands_at : (g : Grid) (s : Site) (n : ℕ) → cell_place g s ≡ Some n → Stands g s n
stands_at g s n e =
    let w = cond_some (in_box g s) (place g (back g s)) n e in
    let u = unframed_in g s (box_from g s w.0) in
    let b : place g (back g s) < g.width * g.height = mul-add-lt _ g.width _ g.height u.1 u.0 in
    record { boxed = w.0; at = sym w.1; within = subst (λ m. m < g.width * g.height) w.1 b }

pub state_stands : (U : Universe) (s : Site) (n : ℕ) → cell_place U.grid s ≡ Some n → Some (slice_index U.cells n) ≡ cell_state U s
state_stands U s n e =
    let t = stands_at U.grid s n e in
    rw t.boxed (ap (λ i. Some (slice_index U.cells i)) t.at)

none_if : {A B : Type 0} (b : Bool) (x : A) (y : B) → (if b then Some x else None) ≡ None → None ≡ (if b then Some y else None)
none_if true x y e = absurd cc
none_if false x y e = refl

pub no_state : (U : Universe) (s : Site) → cell_place U.grid s ≡ None → None ≡ cell_state U s
no_state U s e = none_if (in_box U.grid s) (place U.grid (back U.grid s)) (state_at U (back U.grid s)) e

-- a start state is a state of the first phase
pub state_within : (U : Universe) → IsUniverse U → (s : Site) → in_box U.grid s ≡ true → state_at U (back U.grid s) < U.rule.states 0
state_within U is s e =
    let u = unframed_in U.grid s (box_from U.grid s e) in
    let p : place U.grid (back U.grid s) < U.grid.width * U.grid.height = mul-add-lt _ U.grid.width _ U.grid.height u.1 u.0 in
    let size = is.one_per_site in
    is.cells_within (place U.grid (back U.grid s)) (omega arith)

pub first_cell : (U : Universe) (s : Site) (state shade acc : ℕ) → in_box U.grid s ≡ true → state ≡ state_at U (back U.grid s) → shade ≡ colour (framed U.grid) s → acc ≡ U.rule.start 0 →
    Cell (record { current = state; generation = 0; colour = shade; previous = state; reads = 0; acc = acc }) ≡ first_mark U s
first_cell U s state shade acc boxed is tint begins = rw (boxed, is, tint, begins) refl

-- ---- the texts of marks are names

plain_digits : (ds : List ℕ) → list_all is_digit ds ≡ true → list_all is_plain ds ≡ true
plain_digits [] h = refl
plain_digits (d ∷ ds) h =
    let p = and_parts (is_digit d) (list_all is_digit ds) h in
    let q = and_parts (nat_le 48 d) (nat_le d 57) p.0 in
    and_from (is_plain d) (list_all is_plain ds) (and_from (nat_le 33 d) (nat_le d 126) (le-leb 33 d (let l = leb-true 48 d q.0 in omega (arith, l))) (le-leb d 126 (let u = leb-true d 57 q.1 in omega (arith, u)))) (plain_digits ds p.1)

both : (xs ys : List ℕ) → list_all is_plain xs ≡ true → list_all is_plain ys ≡ true → list_all is_plain (xs ++ ys) ≡ true
both xs ys a b = list_all-append is_plain xs ys ∙ and_from (list_all is_plain xs) (list_all is_plain ys) a b

wide : (n : ℕ) → n < 2 ^ 32 → n < 2 ^ 64
wide n h = omega arith

plain_decimal : (n : ℕ) → n < 2 ^ 32 → list_all is_plain (decimal n) ≡ true
plain_decimal n h = plain_digits (decimal n) (spells n (wide n h)).digits

bar : (n : ℕ) (rest : List ℕ) → n < 2 ^ 32 → list_all is_plain rest ≡ true → list_all is_plain (decimal n ++ 95 ∷ rest) ≡ true
bar n rest h p = both (decimal n) (95 ∷ rest) (plain_decimal n h) (and_from (is_plain 95) (list_all is_plain rest) refl p)

-- a text of plain bytes that begins with a digit or with E
starts_name : (b : ℕ) (bs : List ℕ) → list_all is_plain (b ∷ bs) ≡ true → 48 ≤ b → b ≤ 69 → is_name (b ∷ bs) ≡ true
starts_name b bs plain low high =
    let p : b ≢ 35 = omega arith in
    let q : b ≢ 37 = omega arith in
    let r : b ≢ 33 = omega arith in
    let s : b ≢ 40 = omega arith in
    let t : b ≢ 43 = omega arith in
    let u : b ≢ 45 = omega arith in
    rw (plain, ne_eqb b 35 p, ne_eqb b 37 q, ne_eqb b 33 r, ne_eqb b 40 s, ne_eqb b 43 t, ne_eqb b 45 u) refl

digit_name : (ds rest : List ℕ) → 1 ≤ length ds → list_all is_digit ds ≡ true → list_all is_plain (ds ++ rest) ≡ true → is_name (ds ++ rest) ≡ true
digit_name [] rest some digits plain = absurd (omega (arith, some))
digit_name (d ∷ ds) rest some digits plain =
    let p = and_parts (is_digit d) (list_all is_digit ds) digits in
    let q = and_parts (nat_le 48 d) (nat_le d 57) p.0 in
    let l = leb-true 48 d q.0 in
    let u = leb-true d 57 q.1 in
    starts_name d (ds ++ rest) plain l (omega (arith, u))

pub mark_name : (m : Mark) → IsSmallMark m → is_name (spell m) ≡ true
mark_name (Frame k) h = starts_name 69 (95 ∷ decimal k) (and_from (is_plain 69) _ refl (and_from (is_plain 95) _ refl (plain_decimal k h))) (omega arith) (omega arith)
mark_name (Cell c) h =
    let s = spells c.current (wide c.current h.current) in
    let rest = 95 ∷ (decimal c.generation ++ 95 ∷ (decimal c.colour ++ 95 ∷ (decimal c.previous ++ 95 ∷ (decimal c.reads ++ 95 ∷ decimal c.acc)))) in
    digit_name (decimal c.current) rest s.some s.digits
    (bar c.current _ h.current (bar c.generation _ h.generation (bar c.colour _ h.colour (bar c.previous _ h.previous (bar c.reads _ h.reads (plain_decimal c.acc h.acc))))))

pub first_small : (U : Universe) → IsUniverse U → (s : Site) (b : Bool) → in_box U.grid s ≡ b → IsSmallMark (first_mark U s)
first_small U is s true e =
    let some = is.is_local.some_phase in
    let state = state_within U is s e in
    let few = is.is_local.few_states 0 some in
    let d = few_degree U.rule.degree is.is_local.known in
    let g = is.same_degree in
    let tint : colour (framed U.grid) s < suc (degree U.grid.kind) = mod_below _ _ (omega arith) in
    let a = is.is_local.start_within 0 some in
    let f = is.is_local.few_accs 0 0 some (omega arith) in
    rw e (record { current = omega arith; generation = omega arith; colour = omega arith; previous = omega arith; reads = omega arith; acc = omega arith })
first_small U is s false e =
    let d = few_degree U.rule.degree is.is_local.known in
    let g = is.same_degree in
    let tint : colour (framed U.grid) s < suc (degree U.grid.kind) = mod_below _ _ (omega arith) in
    let small : colour (framed U.grid) s < 2 ^ 32 = omega arith in
    rw e small

pub first_name : (U : Universe) → IsUniverse U → (s : Site) → is_name (spell (first_mark U s)) ≡ true
first_name U is s = mark_name (first_mark U s) (first_small U is s (in_box U.grid s) refl)

-- ---- sites of a grid by their places

pub site_of_place : (g : Grid) (width p : ℕ) → width ≡ g.width → (let s : Site = record { x = p % width; y = p / width } in s) ≡ site_at g p
site_of_place g width p e = ap (λ w. let s : Site = record { x = p % w; y = p / w } in s) e

pub named_sites : (h : Site → Mark) (g : Grid) (names : List (List ℕ)) (numbers : List ℕ) (n : ℕ) → n ≡ g.width * g.height → Name names numbers (map (λ q. spell (h (site_at g q))) (below n)) → Name names numbers (map (λ s. spell (h s)) (sites g))
named_sites h g names numbers n all e =
    subst (Name names numbers) (ap (λ m. map (λ q. spell (h (site_at g q))) (below m)) all ∙ sym (map_map (λ s. spell (h s)) (site_at g) (below (g.width * g.height)))) e
