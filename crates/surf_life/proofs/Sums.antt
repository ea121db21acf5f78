-- The sums of three columns about a cell, and the rows that are written by them.
use Rattle.std.specs.Prelude.{if◌then◌else◌, nat_lt, nat_le, ◌&&◌}
use Rattle.std.proofs.Common.{◌≡◌, ℕ, suc, ◌+◌, ◌-◌, ◌*◌, ◌%◌, ◌<◌, ◌≤◌, Bool, true, false, List, length, map, slice_index, Option, Some, None, sym, refl, ap, ◌∙◌, subst, inl, inr, arith}
use Rattle.std.specs.List.{between, range_with_len}
use Rattle.std.proofs.Math.Nat.{mul-le-mul_right}
use Rattle.std.proofs.lemmas.Bool.{cases_eq, cases_lt}
use Rattle.std.proofs.lemmas.List.{get_or_past}
use Rattle.std.proofs.lemmas.List.Edits.{get_or-between, length-between}
use Rattle.std.proofs.lemmas.List.FromFn.{fill_by_all}
use Rattle.surf_lattice.specs.declared.site.Site.{Site}
use Rattle.surf_lattice.specs.Grids.{Grid, IsInside, moved, place, site_at, site_from, sites}
use Rattle.surf_lattice.proofs.Moves.{moves_moved, moved_round}
use Rattle.surf_auto.specs.Counts.{Counts}
use Rattle.surf_auto.specs.Sync.{seen_at}
use Rattle.surf_auto.proofs.Cells.{map_map}
use Rattle.surf_auto.proofs.Phases.{site, site_place}
use Rattle.surf_life.specs.Moore.{near, live_near, live_around, moore_next}
use Rattle.surf_life.specs.Rows.{AreTwo, shown, square_of, cell_at, column_sum, AreSums, IsTableOf, AreNextBelow}
use Rattle.surf_life.proofs.Rules.{alive_small, alive_same}
use Rattle.surf_life.proofs.Halves.{stays}

-- numbers past the end of a list are 0
pub bounded : (xs : List ℕ) (n b : ℕ) → length xs ≡ n → ((x : ℕ) → x < n → slice_index xs x ≤ b) → (x : ℕ) → slice_index xs x ≤ b
bounded xs n b size within x = elim (cases_lt x n) [
  | inl h ↦ within x h
  | inr h ↦ let past : slice_index xs x ≡ 0 = get_or_past xs x 0 (omega arith) in omega arith
]

-- ---- columns

moved_from : (wrap : Bool) (side x shift : ℕ) → moved wrap side x shift ≡ moved wrap side 0 (x + shift)
moved_from true side x shift = let e : x + shift ≡ 0 + (x + shift) = omega arith in ap (λ v. Some ((v + side - 1) % side)) e
moved_from false side x shift = let e : x + shift ≡ 0 + (x + shift) = omega arith in ap (λ v. if◌then◌else◌ {A = Option ℕ} (nat_lt 0 v && nat_le v side) (Some (v - 1)) None) e

-- column x + 1 counts from the one before the first
column_inside : (wrap : Bool) (side x : ℕ) → x < side → moved wrap side 0 (x + 1) ≡ Some x
column_inside wrap side x h = sym (moved_from wrap side x 1) ∙ stays wrap side x h

column_first : (side : ℕ) → 1 ≤ side → moved true side 0 0 ≡ Some (side - 1)
column_first side h = moved_round side 0 0 (omega arith) refl refl

column_last : (side : ℕ) → 1 ≤ side → moved true side 0 (side + 1) ≡ Some 0
column_last side h =
    let turned : side + 1 ≡ (side - 1) + 2 = omega arith in
    ap (moved true side 0) turned
    ∙ sym (moved_from true side (side - 1) 2)
    ∙ moves_moved true side (side - 1) 2 0 (omega arith) (omega arith) (record { lands = omega arith; by = inr (inr (refl, omega arith)) })

column_none : (side : ℕ) → 1 ≤ side → moved false side 0 (side + 1) ≡ None
column_none side h = grind arith

-- ---- what stands near a site

seen_small : (g : Grid) (cells : List ℕ) → AreTwo cells → (o : Option Site) → seen_at 0 (shown g cells) o ≤ 1
seen_small g cells two None = omega arith
seen_small g cells two (Some t) = two (place g t)

pub cell_small : (g : Grid) (cells : List ℕ) → AreTwo cells → (column : Option ℕ) (y dy : ℕ) → cell_at g cells column y dy ≤ 1
cell_small g cells two column y dy = seen_small g cells two (site_from column (moved g.wrap g.height y dy))

none_left : (m : Option ℕ) → site_from None m ≡ None
none_left None = refl
none_left (Some y) = refl

pub no_row : (g : Grid) (cells : List ℕ) (x y dy : ℕ) → moved g.wrap g.height y dy ≡ None → cell_at g cells (Some x) y dy ≡ 0
no_row g cells x y dy e = ap (λ m. seen_at 0 (shown g cells) (site_from (Some x) m)) e

pub some_row : (g : Grid) (cells : List ℕ) (x y dy row : ℕ) → moved g.wrap g.height y dy ≡ Some row → cell_at g cells (Some x) y dy ≡ slice_index cells (row * g.width + x)
some_row g cells x y dy row e = ap (λ m. seen_at 0 (shown g cells) (site_from (Some x) m)) e

no_column : (g : Grid) (cells : List ℕ) (y : ℕ) → 0 ≡ column_sum g cells None y
no_column g cells y =
    let none : (dy : ℕ) → cell_at g cells None y dy ≡ 0 = λ dy. ap (seen_at 0 (shown g cells)) (none_left (moved g.wrap g.height y dy)) in
    rw (none 0, none 1, none 2) refl

live_is : (g : Grid) (cells : List ℕ) → AreTwo cells → (s : Site) (dx dy : ℕ) → live_near g (shown g cells) s dx dy ≡ cell_at g cells (moved g.wrap g.width 0 (s.x + dx)) s.y dy
live_is g cells two s dx dy =
    alive_same (seen_at 0 (shown g cells) (near g s dx dy)) (seen_small g cells two (near g s dx dy))
    ∙ ap (λ c. cell_at g cells c s.y dy) (moved_from g.wrap g.width s.x dx)

own_is : (g : Grid) (cells : List ℕ) (s : Site) → IsInside g s → cell_at g cells (moved g.wrap g.width 0 (s.x + 1)) s.y 1 ≡ shown g cells s
own_is g cells s inside =
    ap (λ c. cell_at g cells c s.y 1) (column_inside g.wrap g.width s.x inside.0)
    ∙ ap (λ m. seen_at 0 (shown g cells) (site_from (Some s.x) m)) (stays g.wrap g.height s.y inside.1)

pub around_small : (g : Grid) (state : Site → ℕ) (s : Site) → live_around g state s ≤ 8
around_small g state s =
    let small : (dx dy : ℕ) → live_near g state s dx dy ≤ 1 = λ dx dy. alive_small (seen_at 0 state (near g s dx dy)) in
    let a = small 0 0 in
    let b = small 1 0 in
    let c = small 2 0 in
    let d = small 0 1 in
    let e = small 2 1 in
    let f = small 0 2 in
    let h = small 1 2 in
    let i = small 2 2 in
    omega arith

-- three sums are the cell and its eight neighbours
nine_are : (g : Grid) (cells : List ℕ) → AreTwo cells → (s : Site) → IsInside g s → (sums : List ℕ) → AreSums g cells s.y sums →
    slice_index sums s.x + slice_index sums (s.x + 1) + slice_index sums (s.x + 2) ≡ shown g cells s + live_around g (shown g cells) s
nine_are g cells two s inside sums are =
    let x = inside.0 in
    let west : slice_index sums s.x ≡ column_sum g cells (moved g.wrap g.width 0 (s.x + 0)) s.y = are s.x (omega arith) ∙ (let z : s.x ≡ s.x + 0 = omega arith in ap (λ v. column_sum g cells (moved g.wrap g.width 0 v) s.y) z) in
    let mid : slice_index sums (s.x + 1) ≡ column_sum g cells (moved g.wrap g.width 0 (s.x + 1)) s.y = are (s.x + 1) (omega arith) in
    let east : slice_index sums (s.x + 2) ≡ column_sum g cells (moved g.wrap g.width 0 (s.x + 2)) s.y = are (s.x + 2) (omega arith) in
    let own = own_is g cells s inside in
    let near_is = live_is g cells two s in
    let a = near_is 0 0 in
    let b = near_is 1 0 in
    let c = near_is 2 0 in
    let d = near_is 0 1 in
    let e = near_is 2 1 in
    let f = near_is 0 2 in
    let h = near_is 1 2 in
    let i = near_is 2 2 in
    omega (arith, west, mid, east, own, a, b, c, d, e, f, h, i)

-- ---- the sums of a row

sum_first : (wrap : Bool) (width height : ℕ) (cells : List ℕ) (y : ℕ) (old : List ℕ) (sum : ℕ) → 1 ≤ width →
    ((x : ℕ) → x < width → slice_index old (x + 1) ≡ column_sum (square_of wrap width height) cells (Some x) y) →
    sum ≡ (if◌then◌else◌ {A = ℕ} wrap (slice_index old width) 0) → sum ≡ column_sum (square_of wrap width height) cells (moved wrap width 0 0) y
sum_first true width height cells y old sum some inner is =
    let back : width ≡ (width - 1) + 1 = omega arith in
    is
    ∙ ap (slice_index old) back
    ∙ inner (width - 1) (omega arith)
    ∙ ap (λ c. column_sum (square_of true width height) cells c y) (sym (column_first width some))
sum_first false width height cells y old sum some inner is = is ∙ no_column (square_of false width height) cells y

sum_last : (wrap : Bool) (width height : ℕ) (cells : List ℕ) (y : ℕ) (old : List ℕ) (sum : ℕ) → 1 ≤ width →
    ((x : ℕ) → x < width → slice_index old (x + 1) ≡ column_sum (square_of wrap width height) cells (Some x) y) →
    sum ≡ (if◌then◌else◌ {A = ℕ} wrap (slice_index old 1) 0) → sum ≡ column_sum (square_of wrap width height) cells (moved wrap width 0 (width + 1)) y
sum_last true width height cells y old sum some inner is =
    let back : 1 ≡ 0 + 1 = omega arith in
    is
    ∙ ap (slice_index old) back
    ∙ inner 0 (omega arith)
    ∙ ap (λ c. column_sum (square_of true width height) cells c y) (sym (column_last width some))
sum_last false width height cells y old sum some inner is =
    is ∙ no_column (square_of false width height) cells y ∙ ap (λ c. column_sum (square_of false width height) cells c y) (sym (column_none width some))

pub sums_are : (wrap : Bool) (width height : ℕ) (cells : List ℕ) (y : ℕ) (old new : List ℕ) → 1 ≤ width →
    ((x : ℕ) → x < width → slice_index old (x + 1) ≡ column_sum (square_of wrap width height) cells (Some x) y) →
    slice_index new 0 ≡ (if◌then◌else◌ {A = ℕ} wrap (slice_index old width) 0) →
    slice_index new (width + 1) ≡ (if◌then◌else◌ {A = ℕ} wrap (slice_index old 1) 0) →
    ((x : ℕ) → x < width → slice_index new (x + 1) ≡ slice_index old (x + 1)) →
    AreSums (square_of wrap width height) cells y new
sums_are wrap width height cells y old new some inner first last kept =
    let g : Grid = square_of wrap width height in
    λ x h. elim (cases_eq x 0) [
      | inl z ↦ subst (λ v. slice_index new v ≡ column_sum g cells (moved wrap width 0 v) y) (sym z) (sum_first wrap width height cells y old (slice_index new 0) some inner first)
      | inr n ↦ elim (cases_eq x (width + 1)) [
        | inl z ↦ subst (λ v. slice_index new v ≡ column_sum g cells (moved wrap width 0 v) y) (sym z) (sum_last wrap width height cells y old (slice_index new (width + 1)) some inner last)
        | inr m ↦
            let back : (x - 1) + 1 ≡ x = omega arith in
            let low : x - 1 < width = omega arith in
            subst (λ v. slice_index new v ≡ column_sum g cells (moved wrap width 0 v) y) back
            (kept (x - 1) low ∙ inner (x - 1) low ∙ ap (λ c. column_sum g cells c y) (sym (column_inside wrap width (x - 1) low)))
      ]
    ]

pub sum_small : (g : Grid) (cells : List ℕ) → AreTwo cells → (column : Option ℕ) (y : ℕ) → column_sum g cells column y ≤ 3
sum_small g cells two column y =
    let a = cell_small g cells two column y 0 in
    let b = cell_small g cells two column y 1 in
    let c = cell_small g cells two column y 2 in
    omega arith

-- ---- keys

joined : (own count : ℕ) → own * 8 + (own + count) ≡ own * 9 + count
joined own count = omega arith

-- the key of a cell is 9 times its state and the count of its live neighbours
key_is : (g : Grid) (cells : List ℕ) → AreTwo cells → (s : Site) → IsInside g s → (sums : List ℕ) → AreSums g cells s.y sums → (key : ℕ) →
    key ≡ shown g cells s * 8 + (slice_index sums s.x + slice_index sums (s.x + 1) + slice_index sums (s.x + 2)) →
    key ≡ shown g cells s * 9 + live_around g (shown g cells) s
key_is g cells two s inside sums are key e =
    e ∙ ap (λ n. shown g cells s * 8 + n) (nine_are g cells two s inside sums are) ∙ joined (shown g cells s) (live_around g (shown g cells) s)

pub key_small : (g : Grid) (cells : List ℕ) → AreTwo cells → (y : ℕ) (sums : List ℕ) → AreSums g cells y sums → (x own key : ℕ) → x < g.width → own ≤ 1 →
    key ≡ own * 8 + (slice_index sums x + slice_index sums (x + 1) + slice_index sums (x + 2)) → key ≤ 17
key_small g cells two y sums are x own key low one e =
    let small : (k : ℕ) → k < g.width + 2 → slice_index sums k ≤ 3 = λ k h. subst (λ v. v ≤ 3) (sym (are k h)) (sum_small g cells two (moved g.wrap g.width 0 k) y) in
    let a = small x (omega arith) in
    let b = small (x + 1) (omega arith) in
    let c = small (x + 2) (omega arith) in
    omega arith

-- a part of the cells is a row
pub part_at : (cells : List ℕ) (first width x : ℕ) → x < width → slice_index (between first (first + width) cells) x ≡ slice_index cells (first + x)
part_at cells first width x h = get_or-between cells first (first + width) x 0 (omega arith)

pub part_length : (cells : List ℕ) (first width : ℕ) → first + width ≤ length cells → length (between first (first + width) cells) ≡ width
part_length cells first width h = let n = length-between cells first (first + width) h in omega (arith, n)

pub row_fits : (width height y count : ℕ) → y < height → count ≡ width * height → y * width + width ≤ count
row_fits width height y count h size = let m : suc y * width ≤ height * width = mul-le-mul_right width h in omega arith

-- ---- a row more is written

-- what is written at a key is the next state
cell_written : (C : Counts) (g : Grid) (cells table sums : List ℕ) (x y key state : ℕ) → AreTwo cells → IsTableOf C table → x < g.width → y < g.height → AreSums g cells y sums →
    key ≡ slice_index cells (y * g.width + x) * 8 + (slice_index sums x + slice_index sums (x + 1) + slice_index sums (x + 2)) →
    state ≡ slice_index table key → state ≡ moore_next C g (shown g cells) (site_at g (y * g.width + x))
cell_written C g cells table sums x y key state two is low below are keyed written =
    let s : Site = site x y in
    let inside : IsInside g s = (low, below) in
    written
    ∙ ap (slice_index table) (key_is g cells two s inside sums are key keyed)
    ∙ is (shown g cells s) (live_around g (shown g cells) s) (two (place g s)) (around_small g (shown g cells) s)
    ∙ ap (moore_next C g (shown g cells)) (sym (site_place g s inside))

pub row_written : (C : Counts) (g : Grid) (cells table sums keys old new : List ℕ) (y : ℕ) → AreTwo cells → IsTableOf C table → y < g.height → AreSums g cells y sums →
    ((x : ℕ) → x < g.width → slice_index keys x ≡ slice_index cells (y * g.width + x) * 8 + (slice_index sums x + slice_index sums (x + 1) + slice_index sums (x + 2))) →
    ((x : ℕ) → x < g.width → slice_index new (y * g.width + x) ≡ slice_index table (slice_index keys x)) →
    ((i : ℕ) → i < y * g.width → slice_index new i ≡ slice_index old i) →
    AreNextBelow C g cells old (y * g.width) → AreNextBelow C g cells new ((y + 1) * g.width)
row_written C g cells table sums keys old new y two is below are keyed written kept above = λ k h. elim (cases_lt k (y * g.width)) [
  | inl l ↦ kept k l ∙ above k l
  | inr m ↦
      let x : ℕ = k - y * g.width in
      let back : y * g.width + x ≡ k = omega arith in
      let low : x < g.width = omega arith in
      subst (λ v. slice_index new v ≡ moore_next C g (shown g cells) (site_at g v)) back
      (cell_written C g cells table sums x y (slice_index keys x) (slice_index new (y * g.width + x)) two is low below are (keyed x low) (written x low))
]

pub all_written : (C : Counts) (g : Grid) (cells next : List ℕ) → length next ≡ g.width * g.height → AreNextBelow C g cells next (g.height * g.width) → next ≡ map (moore_next C g (shown g cells)) (sites g)
all_written C g cells next size all =
    let turned : g.width * g.height ≡ g.height * g.width = omega arith in
    fill_by_all (λ k. moore_next C g (shown g cells) (site_at g k)) next (g.width * g.height) 0 size (λ k h. all k (let b : k < g.height * g.width = omega arith in b))
    ∙ sym (map_map (moore_next C g (shown g cells)) (site_at g) (range_with_len 0 (g.width * g.height)))
