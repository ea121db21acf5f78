-- The cells that are read, and the universe that they make.
use Rattle.std.proofs.Common.{ℕ, zero, ◌≡◌, ◌*◌, ◌<◌, ◌≤◌, Bool, true, false, if◌then◌else◌, List, [], ◌∷◌, length, map, replicate, slice_index, Option, Some, None, Ok, Err, sym, ◌∙◌, ap, subst, arith, inl, inr, ◌||◌, ◌==◌, nat_lt, suc}
use Rattle.std.specs.List.{list_any}
use Rattle.std.proofs.lemmas.Bool.{cases_Bool, eqb-false, ltb-false, or_parts}
use Rattle.std.proofs.lemmas.List.{length-map}
use Rattle.std.proofs.lemmas.List.FromFn.{length-map-range_with_len}
use Rattle.surf_lattice.specs.declared.site.Site.{Site}
use Rattle.surf_lattice.specs.Grids.{degree, site_at, sites}
use Rattle.surf_auto.specs.Locals.{IsLocal, LocalRule}
use Rattle.surf_auto.specs.Sync.{IsUniverse, universe}
use Rattle.surf_auto.specs.declared.error.SourceError.{SourceError}
use Rattle.surf_auto.specs.declared.error.SourceError.TheVariants.{Unclosed}
use Rattle.surf_rle.specs.Patterns.{Mark, Placed, before_end, has_end, placed, first_fault, unless, covers, cell_at, cells_read}
use Rattle.surf_rle.specs.Rle.{box_fault}
use Rattle.surf_rle.specs.Sheets.{area, sheet_grid}
use Rattle.surf_rle.specs.Drawings.{AreCells, IsPlaced, rest_of, over}
use Rattle.surf_rle.specs.declared.sheet.Sheet.{Sheet}
use Rattle.surf_rle.proofs.Covered.{over_zeros}

-- a pattern whose cells are not drawn yet
pub nothing_drawn : (s : Sheet) (n : ℕ) (cells : List ℕ) (ms : List Mark) → cells ≡ replicate n 0 →
    cells_read s ms ≡ rest_of s (record { row = 0; column = 0 }) cells ms
nothing_drawn s n cells ms zeros =
    ap (λ v. unless (first_fault s.width s.height (placed 0 0 (before_end ms))) (if has_end ms then Ok v else Err Unclosed))
    (sym (ap (λ v. over s v (placed 0 0 (before_end ms))) zeros ∙ over_zeros s n (placed 0 0 (before_end ms))))

-- ---- each cell is dead or live

one_or_none : (b : Bool) → (if◌then◌else◌ {A = ℕ} b 1 0) < 2
one_or_none true = omega arith
one_or_none false = omega arith

all_two : (corner : ℕ) (ps : List Placed) (xs : List Site) (i : ℕ) → slice_index (map (cell_at corner ps) xs) i < 2
all_two corner ps [] i = omega arith
all_two corner ps (x ∷ xs) zero = one_or_none (list_any (covers corner x) ps)
all_two corner ps (x ∷ xs) (suc i) = all_two corner ps xs i

read_two : (corner : ℕ) (ps : List Placed) (xs : List Site) (o : Option SourceError) (b : Bool) (cells : List ℕ) →
    unless o (if b then Ok (map (cell_at corner ps) xs) else Err Unclosed) ≡ Ok cells → (map (cell_at corner ps) xs ≡ cells)
read_two corner ps xs None true cells is = cc
read_two corner ps xs None false cells is = cc
read_two corner ps xs (Some f) b cells is = cc

-- ---- the box

pub record Fits (s : Sheet) : Type 0 where
  pub wide : 1 ≤ s.width
  pub high : 1 ≤ s.height
  pub few : area s ≤ 1000000

some : (n : ℕ) → (n == 0) ≡ false → 1 ≤ n
some n h = let e = eqb-false n 0 h in omega (arith, e)

pub box_fits : (s : Sheet) → box_fault s ≡ None → Fits s
box_fits s is = elim (cases_Bool ((s.width == 0) || (s.height == 0))) [
  | inl empty ↦ let no = rw empty at is in cc
  | inr filled ↦ elim (cases_Bool (nat_lt 1000000 (area s))) [
    | inl large ↦ let no = rw (filled, large) at is in cc
    | inr small ↦ let p = or_parts (s.width == 0) (s.height == 0) filled in record {
      wide = some s.width p.0;
      high = some s.height p.1;
      few = ltb-false 1000000 (area s) small;
    }
  ]
]

pub are_cells : (s : Sheet) (cells : List ℕ) (ms : List Mark) → IsPlaced s → box_fault s ≡ None → cells_read s ms ≡ Ok cells → AreCells s cells
are_cells s cells ms at box read =
    let f = box_fits s box in
    let g = sheet_grid s in
    let ps = placed 0 0 (before_end ms) in
    let is = read_two s.corner ps (sites g) (first_fault s.width s.height ps) (has_end ms) cells read in
    record {
      is_grid = record { wide = omega (arith, f.wide, at.across); high = omega (arith, f.high, at.down); joined = at.joined };
      coloured = at.coloured;
      one_per_site = ap length (sym is) ∙ length-map (sites g) (cell_at s.corner ps) ∙ length-map-range_with_len (site_at g) 0 (g.width * g.height);
      few = f.few;
      two = λ i below. subst (λ xs. slice_index xs i < 2) is (all_two s.corner ps (sites g) i);
    }

-- the universe of a rule on such cells
pub on_cells : (s : Sheet) (R : LocalRule) (cells : List ℕ) → AreCells s cells → IsLocal R → R.degree ≡ degree s.kind →
    ((i : ℕ) → i < length cells → slice_index cells i < R.states 0) → IsUniverse (universe (sheet_grid s) R 0 cells)
on_cells s R cells are local same within = record {
  is_grid = are.is_grid;
  coloured = are.coloured;
  is_local = local;
  same_degree = same;
  one_per_site = are.one_per_site;
  few_sites = omega (arith, are.few, are.one_per_site);
  cells_within = within;
  edge_within = local.some_states;
}
