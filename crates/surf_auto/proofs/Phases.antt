-- The phases of a step, one after another.
use Rattle.std.specs.List.{range_with_len}
use Rattle.std.proofs.Common.{ℕ, zero, suc, ◌≡◌, ◌≢◌, ◌+◌, ◌*◌, ◌%◌, ◌/◌, ◌<◌, ◌≤◌, List, ◌∷◌, length, map, get_or, Option, Some, None, slice_index, refl, sym, ◌∙◌, ap, subst, inl, inr, arith}
use Rattle.std.proofs.lemmas.Bool.{cases_eq, eq-eqb, ne_eqb}
use Rattle.std.proofs.lemmas.Nat.{div-add-mod', div-mul-add, mod-mul-add, mod_below}
use Rattle.std.proofs.lemmas.List.FromFn.{length-map-range_with_len, get_or-map-range_with_len, fill_by_all}
use Rattle.std.proofs.Math.Nat.{add-mul-mod_self_left}
use Rattle.surf_lattice.specs.declared.site.Site.{Site}
use Rattle.surf_lattice.specs.Grids.{Grid, IsInside, degree, neighbour, place, site_at, sites}
use Rattle.surf_lattice.proofs.Neighbours.{neighbour_inside}
use Rattle.surf_auto.specs.Locals.{LocalRule, following, gathered}
use Rattle.surf_auto.specs.Sync.{Universe, universe, IsUniverse, StandsIn, seen_at, seen, state_at, next_state, phase_sync, sync}
use Rattle.surf_auto.proofs.Cells.{place_in, place_site, site_inside, gathered_within, map_map}

abbrev pub site : ℕ → ℕ → Site
site x y = record { x = x; y = y }

-- the site at the place of a site
pub site_place : (g : Grid) (p : Site) → IsInside g p → site_at g (place g p) ≡ p
site_place g p i =
    let x : place g p % g.width ≡ p.x = mod-mul-add p.y g.width p.x i.0 in
    let y : place g p / g.width ≡ p.y = div-mul-add p.y g.width p.x i.0 in
    let same : site (place g p % g.width) (place g p / g.width) ≡ site p.x p.y = cc in
    same

small_mod : (f n : ℕ) → f < n → f % n ≡ f
small_mod f n h = let z : 0 * n + f ≡ f = omega arith in ap (λ v. v % n) (sym z) ∙ mod-mul-add 0 n f h

-- ---- what holds of each site of a list of all sites

range_same : (u v : ℕ → ℕ) (a n : ℕ) → ((i : ℕ) → i < a + n → u i ≡ v i) → map u (range_with_len a n) ≡ map v (range_with_len a n)
range_same u v a zero same = refl
range_same u v a (suc n) same =
    ap (λ x. x ∷ map u (range_with_len (a + 1) n)) (same a (omega arith))
    ∙ ap (λ xs. v a ∷ xs) (range_same u v (a + 1) n (λ i h. same i (omega arith)))

sites_same : (g : Grid) (u v : Site → ℕ) → ((s : Site) → IsInside g s → u s ≡ v s) → map u (sites g) ≡ map v (sites g)
sites_same g u v same =
    map_map u (site_at g) (range_with_len 0 (g.width * g.height))
    ∙ range_same (λ i. u (site_at g i)) (λ i. v (site_at g i)) 0 (g.width * g.height) (λ i h. same (site_at g i) (site_inside g i (omega arith)))
    ∙ sym (map_map v (site_at g) (range_with_len 0 (g.width * g.height)))

pub sites_length : (g : Grid) (u : Site → ℕ) → length (map u (sites g)) ≡ g.width * g.height
sites_length g u =
    ap length (map_map u (site_at g) (range_with_len 0 (g.width * g.height)))
    ∙ length-map-range_with_len (λ i. u (site_at g i)) 0 (g.width * g.height)

at_number : (g : Grid) (u : Site → ℕ) (i : ℕ) → i < g.width * g.height → slice_index (map u (sites g)) i ≡ u (site_at g i)
at_number g u i h =
    let z : 0 + i ≡ i = omega arith in
    ap (λ v. get_or v i 0) (map_map u (site_at g) (range_with_len 0 (g.width * g.height)))
    ∙ get_or-map-range_with_len (λ k. u (site_at g k)) 0 (g.width * g.height) i i 0 h z

at_site : (g : Grid) (u : Site → ℕ) (s : Site) → IsInside g s → slice_index (map u (sites g)) (place g s) ≡ u s
at_site g u s inside = at_number g u (place g s) (place_in g s inside) ∙ ap u (site_place g s inside)

-- ---- all states of a phase are in range

seen_below : (U : Universe) (f : ℕ) (state : Site → ℕ) → U.edge < U.rule.states f → ((t : Site) → IsInside U.grid t → state t < U.rule.states f) → (s : Site) → IsInside U.grid s → (i : ℕ) (o : Option Site) → neighbour U.grid s i ≡ o → seen_at U.edge state o < U.rule.states f
seen_below U f state edge within s inside i None e = edge
seen_below U f state edge within s inside i (Some t) e = within t (neighbour_inside U.grid s i t inside e)

following_next : (n f : ℕ) → suc f < n → following n f ≡ suc f
following_next n f h = let d : suc f ≢ n = λ e. omega (arith, e, h) in rw (ne_eqb (suc f) n d) refl

-- a phase that follows, as a remainder
following_end : (n f : ℕ) → suc f ≡ n → following n f ≡ 0
following_end n f e = rw (eq-eqb (suc f) n e) refl

remainder_follows : (n g : ℕ) → 0 < n → following n (g % n) ≡ suc g % n
remainder_follows n g h =
    let s : g / n * n + g % n ≡ g = div-add-mod' g n in
    let b : g % n < n = mod_below g n h in
    elim (cases_eq (suc (g % n)) n) [
      | inl e ↦
          let t : (g / n + 1) * n + 0 ≡ suc g = omega arith in
          following_end n (g % n) e ∙ sym (ap (λ v. v % n) (sym t) ∙ mod-mul-add (g / n + 1) n 0 h)
      | inr d ↦
          let l : suc (g % n) < n = omega arith in
          let t : g / n * n + suc (g % n) ≡ suc g = omega arith in
          following_next n (g % n) l ∙ sym (ap (λ v. v % n) (sym t) ∙ mod-mul-add (g / n) n (suc (g % n)) l)
    ]

some_phases : (U : Universe) → IsUniverse U → 0 < U.rule.phases
some_phases U is = let p = is.is_local.some_phase in omega arith

sync_within : (U : Universe) → IsUniverse U → (g : ℕ) → (s : Site) → IsInside U.grid s → phase_sync U g s < U.rule.states (g % U.rule.phases)
sync_within U is zero s inside =
    let size = is.one_per_site in
    let p = place_in U.grid s inside in
    let b : state_at U s < U.rule.states 0 = is.cells_within (place U.grid s) (omega arith) in
    subst (λ f. state_at U s < U.rule.states f) (sym (small_mod 0 U.rule.phases (some_phases U is))) b
sync_within U is (suc g) s inside =
    let R = U.rule in
    let f = g % U.rule.phases in
    let state = phase_sync U g in
    let below : f < R.phases = mod_below g R.phases (some_phases U is) in
    let within = sync_within U is g in
    let see : (i : ℕ) → seen U state s i < R.states f = λ i. seen_below U f state (is.edge_within f below) within s inside i (neighbour U.grid s i) refl in
    let a = gathered_within R is.is_local f below (seen U state s) see R.degree (omega arith) in
    let b : gathered R f (seen U state s) (degree U.grid.kind) < R.accs f R.degree = subst (λ d. gathered R f (seen U state s) d < R.accs f R.degree) is.same_degree a in
    let done : R.finish f (state s) (gathered R f (seen U state s) (degree U.grid.kind)) < R.states (following R.phases f) = is.is_local.finish_within f (state s) (gathered R f (seen U state s) (degree U.grid.kind)) below (within s inside) b in
    subst (λ k. next_state U f state s < R.states k) (remainder_follows R.phases g (some_phases U is)) done

-- ---- from one phase to the next

-- the cells after so many phases
abbrev pub after_phases : Universe → ℕ → Universe
after_phases U g = universe U.grid U.rule U.edge (map (phase_sync U g) (sites U.grid))

few_after : (U : Universe) → IsUniverse U → (g : ℕ) → length (map (phase_sync U g) (sites U.grid)) ≤ 1000000
few_after U is g = subst (λ n. n ≤ 1000000) (is.one_per_site ∙ sym (sites_length U.grid (phase_sync U g))) is.few_sites

after_within : (U : Universe) → IsUniverse U → (g f : ℕ) → g % U.rule.phases ≡ f → (i : ℕ) → i < length (map (phase_sync U g) (sites U.grid)) → slice_index (map (phase_sync U g) (sites U.grid)) i < U.rule.states f
after_within U is g f e i lt =
    let b : i < U.grid.width * U.grid.height = subst (λ n. i < n) (sites_length U.grid (phase_sync U g)) lt in
    let w : phase_sync U g (site_at U.grid i) < U.rule.states f = subst (λ k. phase_sync U g (site_at U.grid i) < U.rule.states k) e (sync_within U is g (site_at U.grid i) (site_inside U.grid i b)) in
    subst (λ v. v < U.rule.states f) (sym (at_number U.grid (phase_sync U g) i b)) w

stands_at : (U : Universe) → IsUniverse U → (f : ℕ) → f < U.rule.phases → StandsIn (after_phases U f) f
stands_at U is f h = record {
  in_phase = h;
  same_degree = is.same_degree;
  one_per_site = sites_length U.grid (phase_sync U f);
  few_sites = few_after U is f;
  cells_within = after_within U is f f (small_mod f U.rule.phases h);
  edge_within = is.edge_within f h;
}

pub stands : (U : Universe) → IsUniverse U → (f : ℕ) → f < U.rule.phases → (cells : List ℕ) → cells ≡ map (phase_sync U f) (sites U.grid) → StandsIn (universe U.grid U.rule U.edge cells) f
stands U is f h cells e = subst (λ v. StandsIn (universe U.grid U.rule U.edge v) f) (sym e) (stands_at U is f h)

pub gathered_same : (R : LocalRule) (f : ℕ) (u v : ℕ → ℕ) → ((i : ℕ) → u i ≡ v i) → (n : ℕ) → gathered R f u n ≡ gathered R f v n
gathered_same R f u v same zero = refl
gathered_same R f u v same (suc n) = ap (λ a. R.add f a n (u n)) (gathered_same R f u v same n) ∙ ap (R.add f (gathered R f v n) n) (same n)

seen_alike : (U : Universe) (u v : Site → ℕ) → ((t : Site) → IsInside U.grid t → u t ≡ v t) → (s : Site) → IsInside U.grid s → (i : ℕ) (o : Option Site) → neighbour U.grid s i ≡ o → seen_at U.edge u o ≡ seen_at U.edge v o
seen_alike U u v same s inside i None e = refl
seen_alike U u v same s inside i (Some t) e = same t (neighbour_inside U.grid s i t inside e)

next_alike : (U : Universe) (f : ℕ) (u v : Site → ℕ) → ((t : Site) → IsInside U.grid t → u t ≡ v t) → (s : Site) → IsInside U.grid s → next_state U f u s ≡ next_state U f v s
next_alike U f u v same s inside =
    ap (λ own. U.rule.finish f own (gathered U.rule f (seen U u s) (degree U.grid.kind))) (same s inside)
    ∙ ap (U.rule.finish f (v s)) (gathered_same U.rule f (seen U u s) (seen U v s) (λ i. seen_alike U u v same s inside i (neighbour U.grid s i) refl) (degree U.grid.kind))

next_sites : (U : Universe) (f : ℕ) → f < U.rule.phases → map (next_state U f (state_at (universe U.grid U.rule U.edge (map (phase_sync U f) (sites U.grid))))) (sites U.grid) ≡ map (phase_sync U (suc f)) (sites U.grid)
next_sites U f h =
    sites_same U.grid (next_state U f (state_at (universe U.grid U.rule U.edge (map (phase_sync U f) (sites U.grid))))) (next_state U f (phase_sync U f))
    (λ s inside. next_alike U f (state_at (universe U.grid U.rule U.edge (map (phase_sync U f) (sites U.grid)))) (phase_sync U f) (λ t i. at_site U.grid (phase_sync U f) t i) s inside)
    ∙ ap (λ k. map (next_state U k (phase_sync U f)) (sites U.grid)) (sym (small_mod f U.rule.phases h))

-- the cells after one phase more
pub next_cells : (U : Universe) (f : ℕ) → f < U.rule.phases → (cells after : List ℕ) → cells ≡ map (phase_sync U f) (sites U.grid) →
    after ≡ map (next_state (universe U.grid U.rule U.edge cells) f (state_at (universe U.grid U.rule U.edge cells))) (sites U.grid) →
    after ≡ map (phase_sync U (suc f)) (sites U.grid)
next_cells U f h cells after e a =
    a ∙ ap (λ v. map (next_state U f (state_at (universe U.grid U.rule U.edge v))) (sites U.grid)) e ∙ next_sites U f h

-- after all phases one step is done
pub step_done : (U : Universe) (f : ℕ) (cells : List ℕ) → f ≡ U.rule.phases → cells ≡ map (phase_sync U f) (sites U.grid) → cells ≡ map (sync U 1) (sites U.grid)
step_done U f cells e c =
    let one : f ≡ 1 * U.rule.phases = omega arith in
    c ∙ ap (λ n. map (phase_sync U n) (sites U.grid)) one

-- before any the cells are those of the universe
pub no_phase : (U : Universe) → length U.cells ≡ U.grid.width * U.grid.height → U.cells ≡ map (state_at U) (sites U.grid)
no_phase U size =
    fill_by_all (λ i. state_at U (site_at U.grid i)) U.cells (U.grid.width * U.grid.height) 0 size (λ k h. ap (slice_index U.cells) (sym (place_site U.grid k)))
    ∙ sym (map_map (state_at U) (site_at U.grid) (range_with_len 0 (U.grid.width * U.grid.height)))

no_time : (times n : ℕ) → times ≡ 0 → 0 ≡ times * n
no_time times n e = let z : 0 ≡ 0 * n = omega arith in subst (λ t. 0 ≡ t * n) (sym e) z

pub no_step : (U : Universe) → IsUniverse U → (times : ℕ) → times ≡ 0 → U.cells ≡ map (sync U times) (sites U.grid)
no_step U is times e = no_phase U is.one_per_site ∙ ap (λ n. map (phase_sync U n) (sites U.grid)) (no_time times U.rule.phases e)

-- ---- from one step to the next

whole_steps : (k n : ℕ) → 0 < n → (k * n) % n ≡ 0
whole_steps k n h = let z : k * n + 0 ≡ k * n = omega arith in ap (λ v. v % n) (sym z) ∙ mod-mul-add k n 0 h

same_phase : (k n j : ℕ) → (k * n + j) % n ≡ j % n
same_phase k n j = let z : k * n + j ≡ j + n * k = omega arith in ap (λ v. v % n) z ∙ add-mul-mod_self_left j n k

-- after whole steps the cells make a universe again
is_universe_at : (U : Universe) → IsUniverse U → (k : ℕ) → IsUniverse (after_phases U (k * U.rule.phases))
is_universe_at U is k = record {
  is_grid = is.is_grid;
  coloured = is.coloured;
  is_local = is.is_local;
  same_degree = is.same_degree;
  one_per_site = sites_length U.grid (sync U k);
  few_sites = few_after U is (k * U.rule.phases);
  cells_within = after_within U is (k * U.rule.phases) 0 (whole_steps k U.rule.phases (some_phases U is));
  edge_within = is.edge_within;
}

pub is_universe : (U : Universe) → IsUniverse U → (k : ℕ) (cells : List ℕ) → cells ≡ map (sync U k) (sites U.grid) → IsUniverse (universe U.grid U.rule U.edge cells)
is_universe U is k cells e = subst (λ v. IsUniverse (universe U.grid U.rule U.edge v)) (sym e) (is_universe_at U is k)

-- and its phases go on with those before
phases_go_on : (U : Universe) (k j : ℕ) (s : Site) → IsInside U.grid s → phase_sync (after_phases U (k * U.rule.phases)) j s ≡ phase_sync U (k * U.rule.phases + j) s
phases_go_on U k zero s inside =
    let z : k * U.rule.phases ≡ k * U.rule.phases + 0 = omega arith in
    at_site U.grid (sync U k) s inside ∙ ap (λ n. phase_sync U n s) z
phases_go_on U k (suc j) s inside =
    let n : suc (k * U.rule.phases + j) ≡ k * U.rule.phases + suc j = omega arith in
    next_alike U (j % U.rule.phases) (phase_sync (after_phases U (k * U.rule.phases)) j) (phase_sync U (k * U.rule.phases + j)) (λ t i. phases_go_on U k j t i) s inside
    ∙ ap (λ f. next_state U f (phase_sync U (k * U.rule.phases + j)) s) (sym (same_phase k U.rule.phases j))
    ∙ ap (λ m. phase_sync U m s) n

steps_at : (U : Universe) (k j : ℕ) (s : Site) → IsInside U.grid s → sync (after_phases U (k * U.rule.phases)) j s ≡ sync U (k + j) s
steps_at U k j s inside =
    let n : k * U.rule.phases + j * U.rule.phases ≡ (k + j) * U.rule.phases = omega arith in
    phases_go_on U k (j * U.rule.phases) s inside ∙ ap (λ m. phase_sync U m s) n

-- j steps of what all cells show after k steps are k + j steps
pub steps_add : (U : Universe) (k j : ℕ) (cells after : List ℕ) → cells ≡ map (sync U k) (sites U.grid) →
    after ≡ map (sync (universe U.grid U.rule U.edge cells) j) (sites U.grid) → after ≡ map (sync U (k + j)) (sites U.grid)
steps_add U k j cells after e a =
    a
    ∙ ap (λ v. map (sync (universe U.grid U.rule U.edge v) j) (sites U.grid)) e
    ∙ sites_same U.grid (sync (after_phases U (k * U.rule.phases)) j) (sync U (k + j)) (λ s inside. steps_at U k j s inside)
