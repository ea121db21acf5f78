-- The cells of a grid as steps of eight neighbours make them.
use Rattle.std.proofs.Common.{◌≡◌, ℕ, zero, suc, ◌+◌, ◌*◌, ◌<◌, ◌≤◌, List, length, get_or, map, slice_index, sym, refl, ap, ◌∙◌, subst, add-one, arith}
use Rattle.std.specs.List.{range_with_len}
use Rattle.std.proofs.lemmas.List.FromFn.{fill_by_all, get_or-map-range_with_len}
use Rattle.surf_lattice.specs.declared.site.Site.{Site}
use Rattle.surf_lattice.specs.declared.site.GridKind.{GridKind}
use Rattle.surf_lattice.specs.declared.site.GridKind.TheVariants.{Square, Hex}
use Rattle.surf_lattice.specs.Grids.{Grid, IsInside, degree, place, site_at, sites}
use Rattle.surf_auto.specs.Counts.{Counts, looked_up}
use Rattle.surf_auto.specs.Sync.{IsUniverse, sync}
use Rattle.surf_auto.proofs.Cells.{map_map, place_in, place_site, site_inside}
use Rattle.surf_auto.proofs.Phases.{site_place, sites_length}
use Rattle.surf_life.specs.Laws.{halves}
use Rattle.surf_life.specs.Moore.{live_around, moore_next, moore_sync}
use Rattle.surf_life.specs.Rows.{AreTwo, shown}
use Rattle.surf_life.proofs.Halves.{around_same, steps_by_eight}
use Rattle.surf_life.proofs.Rules.{looked_up_small}
use Rattle.surf_life.proofs.Sums.{bounded}

at_number : (g : Grid) (u : Site → ℕ) (i : ℕ) → i < g.width * g.height → slice_index (map u (sites g)) i ≡ u (site_at g i)
at_number g u i h =
    let z : 0 + i ≡ i = omega arith in
    ap (λ v. get_or v i 0) (map_map u (site_at g) (range_with_len 0 (g.width * g.height)))
    ∙ get_or-map-range_with_len (λ k. u (site_at g k)) 0 (g.width * g.height) i i 0 h z

at_site : (g : Grid) (u : Site → ℕ) (s : Site) → IsInside g s → shown g (map u (sites g)) s ≡ u s
at_site g u s inside = at_number g u (place g s) (place_in g s inside) ∙ ap u (site_place g s inside)

-- a list of as many numbers as sites, by its sites
listed : (g : Grid) (u : Site → ℕ) (cells : List ℕ) → length cells ≡ g.width * g.height → ((i : ℕ) → i < g.width * g.height → slice_index cells i ≡ u (site_at g i)) → cells ≡ map u (sites g)
listed g u cells size all =
    fill_by_all (λ k. u (site_at g k)) cells (g.width * g.height) 0 size all
    ∙ sym (map_map u (site_at g) (range_with_len 0 (g.width * g.height)))

pub sites_same : (g : Grid) (u v : Site → ℕ) → ((s : Site) → IsInside g s → u s ≡ v s) → map u (sites g) ≡ map v (sites g)
sites_same g u v same = listed g v (map u (sites g)) (sites_length g u) (λ i h. at_number g u i h ∙ same (site_at g i) (site_inside g i h))

-- before any step
pub no_step : (C : Counts) (g : Grid) (cells : List ℕ) → length cells ≡ g.width * g.height → cells ≡ map (moore_sync C g cells 0) (sites g)
no_step C g cells size = listed g (moore_sync C g cells 0) cells size (λ i h. ap (slice_index cells) (sym (place_site g i)))

-- a step more
pub one_step : (C : Counts) (g : Grid) (first cells next : List ℕ) (k : ℕ) → cells ≡ map (moore_sync C g first k) (sites g) → next ≡ map (moore_next C g (shown g cells)) (sites g) → next ≡ map (moore_sync C g first (k + 1)) (sites g)
one_step C g first cells next k before is =
    let same : (s : Site) → IsInside g s → shown g cells s ≡ moore_sync C g first k s = λ s inside. ap (λ v. shown g v s) before ∙ at_site g (moore_sync C g first k) s inside in
    is
    ∙ sites_same g (moore_next C g (shown g cells)) (moore_sync C g first (suc k)) (λ s inside.
    ap (looked_up C (shown g cells s)) (around_same g (shown g cells) (moore_sync C g first k) same s inside)
    ∙ ap (λ own. looked_up C own (live_around g (moore_sync C g first k) s)) (same s inside))
    ∙ ap (λ n. map (moore_sync C g first n) (sites g)) (sym (add-one k))

sync_small : (C : Counts) (g : Grid) (first : List ℕ) → AreTwo first → (k : ℕ) (s : Site) → moore_sync C g first k s ≤ 1
sync_small C g first two zero s = two (place g s)
sync_small C g first two (suc k) s = looked_up_small C (moore_sync C g first k s) (live_around g (moore_sync C g first k) s)

-- all cells stay dead or live
pub stay_two : (C : Counts) (g : Grid) (first cells : List ℕ) (k : ℕ) → AreTwo first → cells ≡ map (moore_sync C g first k) (sites g) → AreTwo cells
stay_two C g first cells k two is =
    bounded cells (g.width * g.height) 1 (ap length is ∙ sites_length g (moore_sync C g first k)) (λ i h.
    let e : slice_index cells i ≡ moore_sync C g first k (site_at g i) = ap (λ v. slice_index v i) is ∙ at_number g (moore_sync C g first k) i h in
    subst (λ v. v ≤ 1) (sym e) (sync_small C g first two k (site_at g i)))

pub sized : (C : Counts) (g : Grid) (first cells : List ℕ) (k : ℕ) → cells ≡ map (moore_sync C g first k) (sites g) → length cells ≡ g.width * g.height
sized C g first cells k is = ap length is ∙ sites_length g (moore_sync C g first k)

-- ---- the cells of an automaton

pub are_two : (C : Counts) (g : Grid) (cells : List ℕ) → IsUniverse (halves C g cells) → AreTwo cells
are_two C g cells is = bounded cells (length cells) 1 refl (λ i h. let w : slice_index cells i < 2 = is.cells_within i h in omega arith)

square_only : (kind : GridKind) → 4 ≡ degree kind → kind ≡ Square
square_only Square e = refl
square_only Hex e = absurd (omega arith)

pub is_square : (C : Counts) (g : Grid) (cells : List ℕ) → IsUniverse (halves C g cells) → g.kind ≡ Square
is_square C g cells is = square_only g.kind is.same_degree

pub by_phases : (C : Counts) (g : Grid) (cells after : List ℕ) (k : ℕ) → IsUniverse (halves C g cells) → after ≡ map (moore_sync C g cells k) (sites g) → after ≡ map (sync (halves C g cells) k) (sites g)
by_phases C g cells after k is e = e ∙ sites_same g (moore_sync C g cells k) (sync (halves C g cells) k) (λ s inside. sym (steps_by_eight C g cells is k s inside))
