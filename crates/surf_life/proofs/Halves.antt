-- Two phases are one step of eight neighbours.
use Rattle.std.proofs.Common.{◌≡◌, ℕ, zero, suc, ◌+◌, ◌*◌, ◌/◌, ◌%◌, ◌<◌, ◌≤◌, Bool, List, slice_index, Option, Some, None, sym, refl, ap, ◌∙◌, subst, inl, arith}
use Rattle.std.proofs.lemmas.Nat.{div-mul-add, mod-mul-add}
use Rattle.surf_lattice.specs.declared.site.Site.{Site}
use Rattle.surf_lattice.specs.Grids.{Grid, IsInside, moved, place, site_from}
use Rattle.surf_lattice.proofs.Moves.{moved_moves, moves_moved}
use Rattle.surf_auto.specs.Counts.{Counts, alive, looked_up}
use Rattle.surf_auto.specs.Locals.{gathered}
use Rattle.surf_auto.specs.Sync.{Universe, IsUniverse, phase_sync, seen, seen_at, sync}
use Rattle.surf_auto.proofs.Cells.{place_in}
use Rattle.surf_life.specs.Moore.{near, live_near, live_around, moore_sync}
use Rattle.surf_life.specs.Halves.{moore_finish, moore_rule}
use Rattle.surf_life.specs.Laws.{halves}
use Rattle.surf_life.proofs.Rules.{alive_small, alive_same, looked_up_small}

-- ---- sites near a site

-- a coordinate that isn't shifted stays
pub stays : (wrap : Bool) (side x : ℕ) → x < side → moved wrap side x 1 ≡ Some x
stays wrap side x h = moves_moved wrap side x 1 x h (omega arith) (record { lands = h; by = inl (omega arith) })

-- a shifted coordinate is on its side
pub moved_within : (wrap : Bool) (side x shift z : ℕ) → x < side → shift ≤ 2 → moved wrap side x shift ≡ Some z → z < side
moved_within wrap side x shift z h two e = (moved_moves wrap side x shift z h two e).lands

record Parts (ox oy : Option ℕ) (t : Site) : Type 0 where
  x_is : ox ≡ Some t.x
  y_is : oy ≡ Some t.y

parts : (ox oy : Option ℕ) (t : Site) → site_from ox oy ≡ Some t → Parts ox oy t
parts (Some x) (Some y) t e = let same : record { x = x; y = y } ≡ t = cc in record { x_is = ap (λ (s : Site). Some s.x) same; y_is = ap (λ (s : Site). Some s.y) same }
parts None (Some y) t e = cc
parts (Some x) None t e = cc
parts None None t e = cc

-- a site near one inside is inside
pub near_inside : (g : Grid) (s t : Site) (dx dy : ℕ) → IsInside g s → dx ≤ 2 → dy ≤ 2 → near g s dx dy ≡ Some t → IsInside g t
near_inside g s t dx dy inside a b e =
    let p = parts (moved g.wrap g.width s.x dx) (moved g.wrap g.height s.y dy) t e in
    (moved_within g.wrap g.width s.x dx t.x inside.0 a p.x_is, moved_within g.wrap g.height s.y dy t.y inside.1 b p.y_is)

seen_same : (u v : Site → ℕ) (o : Option Site) → ((t : Site) → o ≡ Some t → u t ≡ v t) → seen_at 0 u o ≡ seen_at 0 v o
seen_same u v None h = refl
seen_same u v (Some t) h = h t refl

-- what stands around a site depends on the cells of the grid alone
pub around_same : (g : Grid) (u v : Site → ℕ) → ((t : Site) → IsInside g t → u t ≡ v t) → (s : Site) → IsInside g s → live_around g u s ≡ live_around g v s
around_same g u v same s inside =
    let at : (dx dy : ℕ) → dx ≤ 2 → dy ≤ 2 → seen_at 0 u (near g s dx dy) ≡ seen_at 0 v (near g s dx dy) = λ dx dy a b. seen_same u v (near g s dx dy) (λ t e. same t (near_inside g s t dx dy inside a b e)) in
    let zero_small : 0 ≤ 2 = omega arith in
    let one_small : 1 ≤ 2 = omega arith in
    let two_small : 2 ≤ 2 = omega arith in
    rw (at 0 0 zero_small zero_small, at 1 0 one_small zero_small, at 2 0 two_small zero_small, at 0 1 zero_small one_small, at 2 1 two_small one_small, at 0 2 zero_small two_small, at 1 2 one_small two_small, at 2 2 two_small two_small) refl

-- ---- rows of three

-- the live cells west and east
beside : Grid → (Site → ℕ) → Site → ℕ
beside g state s = live_near g state s 0 1 + live_near g state s 2 1

beside_small : (g : Grid) (state : Site → ℕ) (s : Site) → beside g state s < 3
unfolding beside
beside_small g state s = let a = alive_small (seen_at 0 state (near g s 0 1)) in let b = alive_small (seen_at 0 state (near g s 2 1)) in omega arith

-- the live cells in a row of three
row : Grid → (Site → ℕ) → Site → ℕ → ℕ
row g state s dy = live_near g state s 0 dy + live_near g state s 1 dy + live_near g state s 2 dy

counted : (g : Grid) (state : Site → ℕ) (s : Site) (a b c : ℕ) → a ≡ beside g state s → b ≡ row g state s 0 → c ≡ row g state s 2 → a + (b + c) ≡ live_around g state s
unfolding beside row
counted g state s a b c p q r = omega arith

quotient : (own c : ℕ) → c < 3 → (own * 3 + c) / 3 ≡ own
quotient own c h = div-mul-add own 3 c h

remainder : (own c : ℕ) → c < 3 → (own * 3 + c) % 3 ≡ c
remainder own c h = mod-mul-add own 3 c h

none_right : (m : Option ℕ) → site_from m None ≡ None
none_right None = refl
none_right (Some x) = refl

-- what a cell shows between the phases
abbrev Between : Grid → (Site → ℕ) → (Site → ℕ) → Type 0
Between g before between = (t : Site) → IsInside g t → (before t ≤ 1) × (between t ≡ before t * 3 + beside g before t)

-- a neighbour north or south adds its row
row_added : (g : Grid) (before between : Site → ℕ) → Between g before between → (s : Site) → IsInside g s → (dy : ℕ) → dy ≤ 2 → (o : Option ℕ) → moved g.wrap g.height s.y dy ≡ o →
    seen_at 0 between (near g s 1 dy) / 3 + seen_at 0 between (near g s 1 dy) % 3 ≡ row g before s dy
unfolding row beside
row_added g before between is s inside dy two None e =
    let none : (dx : ℕ) → near g s dx dy ≡ None = λ dx. ap (λ v. site_from (moved g.wrap g.width s.x dx) v) e ∙ none_right (moved g.wrap g.width s.x dx) in
    let z : 0 / 3 + 0 % 3 ≡ (0 + 0) + 0 = refl in
    ap (λ u. seen_at 0 between u / 3 + seen_at 0 between u % 3) (none 1)
    ∙ z
    ∙ ap (λ u. (alive (seen_at 0 before u) + 0) + 0) (sym (none 0))
    ∙ ap (λ u. (live_near g before s 0 dy + alive (seen_at 0 before u)) + 0) (sym (none 1))
    ∙ ap (λ u. (live_near g before s 0 dy + live_near g before s 1 dy) + alive (seen_at 0 before u)) (sym (none 2))
row_added g before between is s inside dy two (Some y) e =
    let t : Site = record { x = s.x; y = y } in
    let ty : y < g.height = moved_within g.wrap g.height s.y dy y inside.1 two e in
    let within : IsInside g t = (inside.0, ty) in
    let mid : near g s 1 dy ≡ Some t = ap (λ u. site_from u (moved g.wrap g.height s.y dy)) (stays g.wrap g.width s.x inside.0) ∙ ap (λ v. site_from (Some s.x) v) e in
    let side : (dx : ℕ) → near g s dx dy ≡ near g t dx 1 = λ dx. ap (λ v. site_from (moved g.wrap g.width s.x dx) v) (e ∙ sym (stays g.wrap g.height y ty)) in
    let f = (is t within).1 in
    let c : beside g before t < 3 = beside_small g before t in
    let q : between t / 3 ≡ before t = ap (λ u. u / 3) f ∙ quotient (before t) (beside g before t) c in
    let r : between t % 3 ≡ live_near g before t 0 1 + live_near g before t 2 1 = ap (λ u. u % 3) f ∙ remainder (before t) (beside g before t) c in
    let w : alive (before t) ≡ before t = alive_same (before t) (is t within).0 in
    let added : between t / 3 + between t % 3 ≡ (live_near g before t 0 1 + alive (before t)) + live_near g before t 2 1 = omega arith in
    ap (λ u. seen_at 0 between u / 3 + seen_at 0 between u % 3) mid
    ∙ added
    ∙ ap (λ u. (alive (seen_at 0 before u) + alive (before t)) + live_near g before t 2 1) (sym (side 0))
    ∙ ap (λ u. (live_near g before s 0 dy + alive (seen_at 0 before u)) + live_near g before t 2 1) (sym mid)
    ∙ ap (λ u. (live_near g before s 0 dy + live_near g before s 1 dy) + alive (seen_at 0 before u)) (sym (side 2))

-- ---- two phases

module _ (C : Counts) (g : Grid) (cells : List ℕ) (is : IsUniverse (halves C g cells)) where
  abbrev U : Universe
  U = halves C g cells

  -- the first phase
  even_step : (n : ℕ) (s : Site) → n % 2 ≡ 0 → phase_sync U (suc n) s ≡ phase_sync U n s * 3 + beside g (phase_sync U n) s
  unfolding beside
  even_step n s e =
      let state : Site → ℕ = phase_sync U n in
      let see : ℕ → ℕ = seen U state s in
      let h : state s * 3 + ((0 + alive (see 0)) + alive (see 1)) ≡ state s * 3 + (alive (see 0) + alive (see 1)) = omega arith in
      ap (λ d. moore_finish C (n % 2) (state s) (gathered (moore_rule C) (n % 2) see d)) (sym is.same_degree)
      ∙ ap (λ f. moore_finish C f (state s) (gathered (moore_rule C) f see 4)) e
      ∙ h

  -- what is added in the second
  abbrev adds : (Site → ℕ) → Site → ℕ → ℕ
  adds state s dy = seen_at 0 state (near g s 1 dy) / 3 + seen_at 0 state (near g s 1 dy) % 3

  odd_step : (n : ℕ) (s : Site) → n % 2 ≡ 1 → phase_sync U (suc n) s ≡ looked_up C (phase_sync U n s / 3) (phase_sync U n s % 3 + (adds (phase_sync U n) s 0 + adds (phase_sync U n) s 2))
  odd_step n s e =
      let state : Site → ℕ = phase_sync U n in
      let see : ℕ → ℕ = seen U state s in
      let z : (0 + adds state s 0) + adds state s 2 ≡ adds state s 0 + adds state s 2 = omega arith in
      ap (λ d. moore_finish C (n % 2) (state s) (gathered (moore_rule C) (n % 2) see d)) (sym is.same_degree)
      ∙ ap (λ f. moore_finish C f (state s) (gathered (moore_rule C) f see 4)) e
      ∙ ap (λ a. looked_up C (state s / 3) (state s % 3 + a)) z

  moore_small : (k : ℕ) (s : Site) → IsInside g s → moore_sync C g cells k s ≤ 1
  moore_small zero s inside =
      let p = place_in g s inside in
      let size = is.one_per_site in
      let w : slice_index cells (place g s) < 2 = is.cells_within (place g s) (omega arith) in
      omega arith
  moore_small (suc k) s inside = looked_up_small C (moore_sync C g cells k s) (live_around g (moore_sync C g cells k) s)

  -- at an even number of phases the cells show the states of half as many steps
  pub even_phases : (k : ℕ) (s : Site) → IsInside g s → phase_sync U (2 * k) s ≡ moore_sync C g cells k s
  even_phases zero s inside = refl
  even_phases (suc k) s inside =
      let before : Site → ℕ = phase_sync U (2 * k) in
      let between : Site → ℕ = phase_sync U (suc (2 * k)) in
      let step : 2 * suc k ≡ suc (suc (2 * k)) = omega arith in
      let even : 2 * k % 2 ≡ 0 = omega arith in
      let odd : suc (2 * k) % 2 ≡ 1 = omega arith in
      let small : (t : Site) → IsInside g t → before t ≤ 1 = λ t i. subst (λ u. u ≤ 1) (sym (even_phases k t i)) (moore_small k t i) in
      let first : Between g before between = λ t i. (small t i, even_step (2 * k) t even) in
      let c = beside_small g before s in
      let own : between s / 3 ≡ before s = ap (λ u. u / 3) (even_step (2 * k) s even) ∙ quotient (before s) (beside g before s) c in
      let mid : between s % 3 ≡ beside g before s = ap (λ u. u % 3) (even_step (2 * k) s even) ∙ remainder (before s) (beside g before s) c in
      let north : adds between s 0 ≡ row g before s 0 = row_added g before between first s inside 0 (omega arith) (moved g.wrap g.height s.y 0) refl in
      let south : adds between s 2 ≡ row g before s 2 = row_added g before between first s inside 2 (omega arith) (moved g.wrap g.height s.y 2) refl in
      ap (λ n. phase_sync U n s) step
      ∙ odd_step (suc (2 * k)) s odd
      ∙ ap (λ u. looked_up C u (between s % 3 + (adds between s 0 + adds between s 2))) own
      ∙ ap (looked_up C (before s)) (counted g before s (between s % 3) (adds between s 0) (adds between s 2) mid north south ∙ around_same g before (moore_sync C g cells k) (even_phases k) s inside)
      ∙ ap (λ u. looked_up C u (live_around g (moore_sync C g cells k) s)) (even_phases k s inside)

  pub steps_by_eight : (k : ℕ) (s : Site) → IsInside g s → sync U k s ≡ moore_sync C g cells k s
  steps_by_eight k s inside = let turned : k * 2 ≡ 2 * k = omega arith in ap (λ n. phase_sync U n s) turned ∙ even_phases k s inside
