-- The colony of an automaton is a colony, and its board shows what the box does.
use Rattle.std.specs.Prelude.{if◌then◌else◌, ◌&&◌, nat_lt, nat_le, slice_get}
use Rattle.std.specs.Option.{option_map}
use Rattle.std.proofs.Common.{◌≡◌, ℕ, zero, suc, ◌+◌, ◌-◌, ◌*◌, ◌%◌, ◌<◌, ◌≤◌, Bool, true, false, Option, Some, None, sym, refl, ap, ◌∙◌, subst, inl, inr, arith}
use Rattle.std.proofs.lemmas.Bool.{cases_Bool, lt-ltb, le-leb}
use Rattle.std.proofs.lemmas.Bool.Decides.{nat_tests}
use Rattle.std.proofs.lemmas.List.{length-map}
use Rattle.std.proofs.lemmas.Nat.{mul-add-lt}
use Rattle.std.proofs.lemmas.Option.{slice_get-map}
use Rattle.surf_lattice.specs.declared.site.Site.{Site}
use Rattle.surf_lattice.specs.Grids.{Grid, IsInside, degree, shift_x, shift_y, moved, site_from, sites, neighbour, place, site_at}
use Rattle.surf_lattice.proofs.Moves.{Moves, moves_moved, shift_x_small, shift_y_small}
use Rattle.surf_lattice.proofs.Neighbours.{adjacent_from}
use Rattle.surf_world.proofs.Places.{site_of, sites_length}
use Rattle.surf_auto.specs.Locals.{gathered}
use Rattle.surf_auto.specs.Sync.{Universe, IsUniverse, seen_at, phase_sync, state_at}
use Rattle.surf_auto.proofs.Phases.{gathered_same}
use Rattle.surf_sync.specs.Codes.{Mark, WholeBy, protocol}
use Rattle.surf_sync.specs.Codes.Mark.{Frame, Cell}
use Rattle.surf_sync.proofs.Listed.{holds_reads}
use Rattle.surf_colony.specs.Colonies.{border, framed, onto, back, in_box, first_mark, colony_of, StartsWithin}
use Rattle.surf_colony.proofs.Plans.{IsBoard, Plan, IsPlan, IsColony, first_code, seen_by, shown_after}
use Rattle.surf_colony.proofs.Boards.{InBox, IsBox, board_of, box_from, inside_of, place_or, site-place, place-site, Next, next_of, surface_next, cell_in_box, is_board}

abbrev pub plan_of : Universe → Option ℕ → Plan
plan_of U last = record {
  board = board_of U.grid;
  rule = U.rule;
  edge = U.edge;
  begins = λ p. state_at U (back U.grid (site_at (framed U.grid) p));
  last = last;
}

same_tests : (width u z : ℕ) → z ≡ u → (nat_lt 0 u && nat_le u width) ≡ (nat_le 1 z && nat_lt z (width + 1))
same_tests width u z e = grind (arith, nat_tests)

-- one coordinate: a move inside the box, seen from the surface
box_moved : (wrap : Bool) (width x shift z : ℕ) → x < width → shift ≤ 2 → Moves wrap (width + 2 * border wrap) (x + border wrap) shift z → moved wrap width x shift ≡ (if nat_le (border wrap) z && nat_lt z (width + border wrap) then Some (z - border wrap) else None)
box_moved true width x shift z h two m =
    let w : width + 0 ≡ width = omega arith in
    let v : x + 0 ≡ x = omega arith in
    let n : Moves true width x shift z = subst (λ u. Moves true width u shift z) v (subst (λ u. Moves true u (x + 0) shift z) w m) in
    let l = n.lands in
    let a : nat_le 0 z ≡ true = le-leb 0 z (omega arith) in
    let b : nat_lt z (width + 0) ≡ true = lt-ltb z (width + 0) (omega arith) in
    let c : z ≡ z - 0 = omega arith in
    moves_moved true width x shift z h two n ∙ rw (a, b) (ap Some c)
box_moved false width x shift z h two m =
    let e : z ≡ x + shift = elim m.by [
      | inl e ↦ omega arith
      | inr w ↦ absurd (elim w [ inl v ↦ (let f : false ≡ true = v.0 in cc) | inr v ↦ (let f : false ≡ true = v.0 in cc) ])
    ] in
    let b : (nat_lt 0 (x + shift) && nat_le (x + shift) width) ≡ (nat_le 1 z && nat_lt z (width + 1)) = same_tests width (x + shift) z e in
    let c : x + shift - 1 ≡ z - 1 = omega arith in
    ap (λ (t : Bool). if◌then◌else◌ {A = Option ℕ} t (Some (x + shift - 1)) None) b ∙ ap (λ u. if◌then◌else◌ {A = Option ℕ} (nat_le 1 z && nat_lt z (width + 1)) (Some u) None) c

both_sites : (a b : Bool) (x y : ℕ) → site_from (if a then Some x else None) (if b then Some y else None) ≡ (if a && b then Some (record { x = x; y = y }) else None)
both_sites true true x y = refl
both_sites true false x y = refl
both_sites false true x y = refl
both_sites false false x y = refl

-- ---- what a cell of the surface sees is what its cell of the box does

pub framed_in : (g : Grid) (s : Site) → (s.x < g.width) × (s.y < g.height) → InBox g (onto g s)
framed_in g s h = let a = h.0 in let b = h.1 in record { x_low = omega arith; x_high = omega arith; y_low = omega arith; y_high = omega arith }

pub unframed_in : (g : Grid) (t : Site) → InBox g t → ((back g t).x < g.width) × ((back g t).y < g.height)
unframed_in g t b = let a = b.x_low in let c = b.x_high in let d = b.y_low in let e = b.y_high in (omega arith, omega arith)

pub framed_unframed : (g : Grid) (t : Site) → InBox g t → onto g (back g t) ≡ t
framed_unframed g t b =
    let a = b.x_low in
    let d = b.y_low in
    let u : t.x - border g.wrap + border g.wrap ≡ t.x = omega arith in
    let v : t.y - border g.wrap + border g.wrap ≡ t.y = omega arith in
    ap (λ x. let s : Site = record { x = x; y = t.y - border g.wrap + border g.wrap } in s) u ∙ ap (λ y. let s : Site = record { x = t.x; y = y } in s) v

pub box_neighbour : (g : Grid) (s : Site) → (s.x < g.width) × (s.y < g.height) → (i : ℕ) (n : Next g (onto g s) i) → neighbour g s i ≡ (if in_box g n.site then Some (back g n.site) else None)
box_neighbour g s h i n =
    ap (λ u. site_from u (moved g.wrap g.height s.y (shift_y i))) (box_moved g.wrap g.width s.x (shift_x i) n.site.x h.0 (shift_x_small i) n.across)
    ∙ ap (λ v. site_from (if nat_le (border g.wrap) n.site.x && nat_lt n.site.x (g.width + border g.wrap) then Some (n.site.x - border g.wrap) else None) v) (box_moved g.wrap g.height s.y (shift_y i) n.site.y h.1 (shift_y_small i) n.down)
    ∙ both_sites (nat_le (border g.wrap) n.site.x && nat_lt n.site.x (g.width + border g.wrap)) (nat_le (border g.wrap) n.site.y && nat_lt n.site.y (g.height + border g.wrap)) (n.site.x - border g.wrap) (n.site.y - border g.wrap)

pub frame_next : (g : Grid) (s : Site) (b : InBox g s) (i : ℕ) (n : Next g s i) → (board_of g).neighbour (place (framed g) s) i ≡ place (framed g) n.site
unfolding board_of
frame_next g s b i n =
    ap (λ u. place_or (framed g) (place (framed g) s) (neighbour (framed g) u i)) (site-place (framed g) s (let h = b.x_high in omega arith))
    ∙ ap (place_or (framed g) (place (framed g) s)) n.is

pub cell_place : (g : Grid) (s : Site) → s.x < (framed g).width → (board_of g).cell (place (framed g) s) ≡ in_box g s
unfolding board_of
cell_place g s h = ap (in_box g) (site-place (framed g) s h)

seen_same : (U : Universe) (last : Option ℕ) (state : ℕ → ℕ) (shows : Site → ℕ) → ((t : Site) → (t.x < U.grid.width) × (t.y < U.grid.height) → state (place (framed U.grid) (onto U.grid t)) ≡ shows t) → (s : Site) → (s.x < U.grid.width) × (s.y < U.grid.height) → (i : ℕ) → seen_by (plan_of U last) state (place (framed U.grid) (onto U.grid s)) i ≡ seen_at U.edge shows (neighbour U.grid s i)
seen_same U last state shows agree s h i =
    let b : InBox U.grid (onto U.grid s) = framed_in U.grid s h in
    let n = next_of U.grid (onto U.grid s) b i in
    ap (λ q. if (board_of U.grid).cell q then state q else U.edge) (frame_next U.grid (onto U.grid s) b i n)
    ∙ ap (λ t. if t then state (place (framed U.grid) n.site) else U.edge) (cell_place U.grid n.site n.across.lands)
    ∙ elim (cases_Bool (in_box U.grid n.site)) [
      | inl e ↦
          let m = box_from U.grid n.site e in
          let a : state (place (framed U.grid) n.site) ≡ shows (back U.grid n.site) = ap (λ t. state (place (framed U.grid) t)) (sym (framed_unframed U.grid n.site m)) ∙ agree (back U.grid n.site) (unframed_in U.grid n.site m) in
          ap (λ t. if t then state (place (framed U.grid) n.site) else U.edge) e
          ∙ a
          ∙ ap (λ t. seen_at U.edge shows (if t then Some (back U.grid n.site) else None)) (sym e)
          ∙ ap (seen_at U.edge shows) (sym (box_neighbour U.grid s h i n))
      | inr e ↦
          ap (λ t. if t then state (place (framed U.grid) n.site) else U.edge) e
          ∙ ap (λ t. seen_at U.edge shows (if t then Some (back U.grid n.site) else None)) (sym e)
          ∙ ap (seen_at U.edge shows) (sym (box_neighbour U.grid s h i n))
    ]

-- the board shows what the box does
pub same_sync : (U : Universe) (last : Option ℕ) → U.rule.degree ≡ degree U.grid.kind → (g : ℕ) (s : Site) → (s.x < U.grid.width) × (s.y < U.grid.height) → shown_after (plan_of U last) g (place (framed U.grid) (onto U.grid s)) ≡ phase_sync U g s
unfolding board_of
same_sync U last same zero s h =
    let b : InBox U.grid (onto U.grid s) = framed_in U.grid s h in
    let u : s.x + border U.grid.wrap - border U.grid.wrap ≡ s.x = omega arith in
    let v : s.y + border U.grid.wrap - border U.grid.wrap ≡ s.y = omega arith in
    ap (λ t. state_at U (back U.grid t)) (site-place (framed U.grid) (onto U.grid s) (let k = b.x_high in omega arith))
    ∙ ap (λ x. state_at U (record { x = x; y = s.y + border U.grid.wrap - border U.grid.wrap })) u
    ∙ ap (λ y. state_at U (record { x = s.x; y = y })) v
same_sync U last same (suc g) s h =
    let f : ℕ = g % U.rule.phases in
    let seen_there : ℕ → ℕ = seen_by (plan_of U last) (λ q. shown_after (plan_of U last) g q) (place (framed U.grid) (onto U.grid s)) in
    ap (λ c. U.rule.finish f c (gathered U.rule f seen_there U.rule.degree)) (same_sync U last same g s h)
    ∙ ap (λ d. U.rule.finish f (phase_sync U g s) (gathered U.rule f seen_there d)) same
    ∙ ap (λ a. U.rule.finish f (phase_sync U g s) a)
    (gathered_same U.rule f seen_there (λ i. seen_at U.edge (λ t. phase_sync U g t) (neighbour U.grid s i)) (seen_same U last (λ q. shown_after (plan_of U last) g q) (λ t. phase_sync U g t) (same_sync U last same g) s h) (degree U.grid.kind))

-- ---- the plan and the colony of an automaton

-- the box of an automaton
pub box_is : (U : Universe) → IsUniverse U → IsBox U.grid
box_is U is = record { is_grid = is.is_grid; coloured = is.coloured }

pub plan_ok : (U : Universe) (last : Option ℕ) → IsUniverse U → StartsWithin U → IsPlan (plan_of U last)
unfolding board_of
plan_ok U last is starts = record {
  is_board = subst (λ d. IsBoard d (board_of U.grid)) (sym is.same_degree) (is_board U.grid (box_is U is));
  is_local = is.is_local;
  edge_within = is.edge_within;
  begins_within = λ p f cell h.
      let b = cell_in_box U.grid p cell in
      let u = unframed_in U.grid (site_at (framed U.grid) p) b in
      let place_in : place U.grid (back U.grid (site_at (framed U.grid) p)) < U.grid.width * U.grid.height = mul-add-lt _ U.grid.width _ U.grid.height u.1 u.0 in
      starts _ f (rw is.one_per_site place_in) h;
}

start_at : (U : Universe) (last : Option ℕ) (p : ℕ) → p < (board_of U.grid).places → slice_get (colony_of U last).start p ≡ Some (first_mark U (site_at (framed U.grid) p))
unfolding board_of
start_at U last p h = slice_get-map (first_mark U) (sites (framed U.grid)) p ∙ ap (option_map (first_mark U)) (site_of (framed U.grid) p h)

marked : (U : Universe) (last : Option ℕ) (p : ℕ) (b : Bool) → in_box U.grid (site_at (framed U.grid) p) ≡ b →
    first_mark U (site_at (framed U.grid) p) ≡ (if b then Cell (first_code (plan_of U last) p) else Frame ((board_of U.grid).colour p))
unfolding board_of
marked U last p b e = ap (λ t. if t then Cell (first_code (plan_of U last) p) else Frame ((board_of U.grid).colour p)) e

pub colony_ok : (U : Universe) (last : Option ℕ) → IsUniverse U → WholeBy last U.rule.phases → IsColony (plan_of U last) (colony_of U last)
unfolding board_of
colony_ok U last is whole = record {
  holds = holds_reads (protocol U.rule U.edge last) is.is_local.some_phase whole;
  direction = λ s t inside cell beside. (
    beside.direction,
    subst (λ d. beside.direction < d) (sym is.same_degree) beside.listed,
    ap (λ u. place_or (framed U.grid) (place (framed U.grid) s) (neighbour (framed U.grid) u beside.direction)) (site-place (framed U.grid) s inside.0)
        ∙ ap (place_or (framed U.grid) (place (framed U.grid) s)) beside.moves,
  );
  reached = λ p i cell below.
      let s : Site = site_at (framed U.grid) p in
      let b = cell_in_box U.grid p cell in
      let n = next_of U.grid s b i in
      let inside : IsInside (framed U.grid) s = inside_of U.grid s b in
      (s, n.site, place-site (framed U.grid) p, sym (surface_next U.grid p i n), inside, (n.across.lands, n.down.lands), adjacent_from (framed U.grid) s i n.site inside (subst (λ d. i < d) is.same_degree below) n.is);
  size = length-map (sites (framed U.grid)) (first_mark U) ∙ sites_length (framed U.grid);
  start_cell = λ p cell.
      start_at U last p ((is_board U.grid (box_is U is)).within p cell) ∙ ap (λ (m : Mark). Some m) (marked U last p true cell);
  start_frame = λ p out below.
      start_at U last p below ∙ ap (λ (m : Mark). Some m) (marked U last p false out);
}
