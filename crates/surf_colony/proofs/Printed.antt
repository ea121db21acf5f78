-- The theorem on the colony whose names are texts.
use Rattle.std.specs.Prelude.{slice_get}
use Rattle.std.specs.Option.{option_map}
use Rattle.std.proofs.Common.{◌≡◌, ℕ, zero, suc, ◌+◌, ◌-◌, ◌*◌, ◌^◌, ◌<◌, ◌≤◌, true, List, [], ◌∷◌, map, length, Option, Some, None, sym, ap, ◌∙◌, subst, inl, inr, arith}
use Rattle.std.proofs.lemmas.Bool.{cases_Bool, eqb-true, or_cases}
use Rattle.std.proofs.lemmas.Option.{slice_get_within, cond_some}
use Rattle.std.proofs.lemmas.Nat.{mod_below}
use Rattle.surf_lattice.specs.declared.site.Site.{Site}
use Rattle.surf_lattice.specs.Grids.{IsInside, degree, neighbour, place, site_at}
use Rattle.surf_world.specs.declared.event.Event.{Event}
use Rattle.surf_world.specs.Systems.{Enabled, after, IsRun, left_by}
use Rattle.surf_world.proofs.Renamed.{enabled_renamed, after_renamed, left_renamed}
use Rattle.surf_auto.specs.Locals.{is_degree, preceding}
use Rattle.surf_auto.specs.Sync.{Universe, IsUniverse, phase_sync}
use Rattle.surf_sync.specs.declared.code.Code.{Code}
use Rattle.surf_sync.specs.Codes.{Mark, OpenBy, WholeBy, field_by, fields_by, phase, IsCode, IsMark}
use Rattle.surf_sync.specs.Codes.Mark.{Frame, Cell}
use Rattle.surf_sync.specs.Spelling.{IsSmall, Showing, spell, shown_by, shown_at}
use Rattle.surf_sync.proofs.Spelling.{IsSmallMark, code_read, frame_mute, spell_injective}
use Rattle.surf_colony.specs.Colonies.{framed, onto, back, in_box, colony_of, printed, StartsWithin}
use Rattle.surf_trace.specs.Generations.{generation, observed}
use Rattle.surf_colony.specs.InStep.{EndsBy, IsLast, place_of, final, KeepsInStep}
use Rattle.surf_colony.proofs.Plans.{IsColony, IsWithin, Tells, Synchronous, protocol_of, shown_after}
use Rattle.surf_colony.proofs.Codes.{Clock, code_at}
use Rattle.surf_colony.proofs.Ranges.{code_listed}
use Rattle.surf_colony.proofs.Synchrony.{Synchrony, reads_of, kept}
use Rattle.surf_colony.proofs.Boards.{board_of, box_from, place-site, next_of, cell_in_box, cell_at, is_within, count_cells, some_cell_of, place_within}
use Rattle.surf_colony.proofs.Built.{plan_of, box_is, framed_in, unframed_in, framed_unframed, frame_next, cell_place, box_neighbour, same_sync, plan_ok, colony_ok}
use Rattle.surf_colony.proofs.Runs.{none_yet, starts, came, synchronous}
use Rattle.surf_colony.proofs.Texts.{generation_renamed, Apart, enabled_back}
use Rattle.surf_colony.proofs.Observed.{observes, frame_observed}
use Rattle.surf_trace.proofs.Renamed.{shown_renamed, observed_renamed}

pub whole : (o : Option ℕ) (n : ℕ) → IsLast o n → WholeBy o n
whole None n h = tt
whole (Some l) n h = (h.0, h.1)

few_fields : (o : Option ℕ) (n : ℕ) → n ≤ 16 → IsLast o n → fields_by o n < 2 ^ 32
few_fields None n small h = omega arith
few_fields (Some l) n small h = let b : l < 2 ^ 31 = h.2 in omega arith

before_within : (n f : ℕ) → f < n → preceding n f < n
before_within n zero h = omega arith
before_within n (suc f) h = omega arith

few_degree : (d : ℕ) → is_degree d ≡ true → d ≤ 6
few_degree d h = elim (or_cases _ _ h) [
  | inl e ↦ let s = eqb-true d 4 e in omega (arith, s)
  | inr e ↦ let s = eqb-true d 6 e in omega (arith, s)
]

module _ (U : Universe) (last : Option ℕ) (is : IsUniverse U) (within : StartsWithin U) (ok : IsLast last U.rule.phases) where
  code_small : (c : Code) → IsCode U.rule last c → IsSmall c
  code_small c l =
      let f : phase U.rule c.generation < U.rule.phases = mod_below c.generation U.rule.phases is.is_local.some_phase in
      let a = few_fields last U.rule.phases is.is_local.few_phases ok in
      let b = few_degree U.rule.degree is.is_local.known in
      let fw = l.generation_within in
      let cw = l.current_within in
      let pw = l.previous_within in
      let kw = l.colour_within in
      let rw' = l.reads_within in
      let aw = l.acc_within in
      let s = is.is_local.few_states (phase U.rule c.generation) f in
      let t = is.is_local.few_states (preceding U.rule.phases (phase U.rule c.generation)) (before_within U.rule.phases (phase U.rule c.generation) f) in
      let u = is.is_local.few_accs (phase U.rule c.generation) c.reads f (omega arith) in
      record {
        current = omega arith;
        generation = omega arith;
        colour = omega arith;
        previous = omega arith;
        reads = omega arith;
        acc = omega arith;
      }

  pub mark_small : (m : Mark) → IsMark (protocol_of (plan_of U last)) m → IsSmallMark m
  mark_small (Frame k) h = let b = few_degree U.rule.degree is.is_local.known in omega arith
  mark_small (Cell c) h = code_small c h

  tells : Tells (plan_of U last) (λ m. shown_by (spell m))
  tells c h = ap (option_map (λ (d : Code). let w : Showing = record { state = d.current; generation = d.generation } in w)) (code_read c (code_small c h))

  mute : (k : ℕ) → k < suc U.rule.degree → shown_by (spell (Frame k)) ≡ None
  mute k h = ap (option_map (λ (d : Code). let w : Showing = record { state = d.current; generation = d.generation } in w)) (frame_mute k)

  colony : IsColony (plan_of U last) (colony_of U last)
  colony = colony_ok U last is (whole last U.rule.phases ok)

  apart : Apart spell (colony_of U last).surface IsSmallMark
  apart = record {
    names = spell_injective;
    lefts = λ k r e.
        let o = colony.holds.only k r e in (
          subst (λ x. IsSmallMark x.left) (sym o.4) (code_small o.0 o.6),
          λ b q. mark_small b (subst (IsMark (protocol_of (plan_of U last))) (let x : o.1 ≡ b = (let y : Some o.1 ≡ Some b = ap (λ z. z.right) (sym o.4) ∙ q in cc) in x) o.7),
        );
  }

  good : (c : List Mark) (k : ℕ → Clock) → Synchrony (plan_of U last) c k → (p : ℕ) (m : Mark) → slice_get c p ≡ Some m → IsSmallMark m
  good c k s p m e = elim (cases_Bool ((board_of U.grid).cell p)) [
    | inl own ↦
        let x : Cell (code_at (plan_of U last) p (k p)) ≡ m = (let y : Some (Cell (code_at (plan_of U last) p (k p))) ≡ Some m = sym (s.cells p own) ∙ e in cc) in
        subst IsSmallMark x (code_small (code_at (plan_of U last) p (k p)) (code_listed (plan_of U last) (plan_ok U last is within) p (k p) own (s.reads p own) (s.stays p own)))
    | inr out ↦
        let w : p < length c = slice_get_within c p m e in
        let x : Frame ((board_of U.grid).colour p) ≡ m = (let y : Some (Frame ((board_of U.grid).colour p)) ≡ Some m = sym (s.frames p out (subst (λ n. p < n) s.size w)) ∙ e in cc) in
        subst IsSmallMark x (mark_small (Frame ((board_of U.grid).colour p)) ((plan_ok U last is within).is_board.in_colours p))
  ]

  run_back : (c : List Mark) (k : ℕ → Clock) (es : List Event) → Synchrony (plan_of U last) c k → IsRun (printed U last).surface (map spell c) es → IsRun (colony_of U last).surface c es
  run_back c k [] s run = tt
  run_back c k (e ∷ es) s run =
      let h : Enabled (colony_of U last).surface c e = enabled_back spell (colony_of U last).surface IsSmallMark apart c (good c k s) e run.0 in
      let r = reads_of (plan_ok U last is within) colony s e h in
      (h, run_back (after (colony_of U last).surface c e) _ es (kept (plan_ok U last is within) s e _ r) (subst (λ d. IsRun (printed U last).surface d es) (after_renamed spell (colony_of U last).surface c e) run.1))

  -- the typed run, and what holds of it
  typed : (es : List Event) → IsRun (printed U last).surface (printed U last).start es → IsRun (colony_of U last).surface (colony_of U last).start es
  typed es run = run_back (colony_of U last).start none_yet es (starts (plan_of U last) (colony_of U last) (plan_ok U last is within) colony) run

  facts : (es : List Event) → IsRun (printed U last).surface (printed U last).start es → Synchronous (plan_of U last) (colony_of U last) (λ m. shown_by (spell m)) (U.grid.width + U.grid.height - 2) es
  facts es run = synchronous (plan_of U last) (colony_of U last) (λ m. shown_by (spell m)) (U.grid.width + U.grid.height - 2) es (plan_ok U last is within) colony tells (subst (λ d. IsWithin d (board_of U.grid) (U.grid.width + U.grid.height - 2)) (sym is.same_degree) (is_within U.grid (box_is U is))) (some_cell_of U.grid (box_is U is)) (typed es run)

  gen_is : (es : List Event) (p : ℕ) → generation shown_by (printed U last).surface (printed U last).start es p ≡ generation (λ m. shown_by (spell m)) (colony_of U last).surface (colony_of U last).start es p
  gen_is es p = generation_renamed spell (colony_of U last).surface shown_by (colony_of U last).start es p

  final_is : (es : List Event) → final (printed U last) es ≡ map spell (left_by (colony_of U last).surface (colony_of U last).start es)
  final_is es = left_renamed spell (colony_of U last).surface (colony_of U last).start es

  cell_of : (s : Site) → IsInside U.grid s → (board_of U.grid).cell (place_of U s) ≡ true
  cell_of s h = cell_at U.grid (onto U.grid s) (framed_in U.grid s h)

  site_of_cell : (p : ℕ) → (board_of U.grid).cell p ≡ true → (s : Site) × IsInside U.grid s × (place_of U s ≡ p)
  site_of_cell p cell =
      let b = cell_in_box U.grid p cell in
      let s : Site = back U.grid (site_at (framed U.grid) p) in
      (s, unframed_in U.grid (site_at (framed U.grid) p) b, ap (place (framed U.grid)) (framed_unframed U.grid (site_at (framed U.grid) p) b) ∙ place-site (framed U.grid) p)

  -- a neighbour in the box is one on the surface
  beside : (s t : Site) → IsInside U.grid s → (i : ℕ) → neighbour U.grid s i ≡ Some t → (board_of U.grid).neighbour (place_of U s) i ≡ place_of U t
  beside s t h i e =
      let b = framed_in U.grid s h in
      let n = next_of U.grid (onto U.grid s) b i in
      let w = cond_some (in_box U.grid n.site) (back U.grid n.site) t (sym (box_neighbour U.grid s h i n) ∙ e) in
      frame_next U.grid (onto U.grid s) b i n
      ∙ ap (place (framed U.grid)) (sym (framed_unframed U.grid n.site (box_from U.grid n.site w.0)))
      ∙ ap (λ u. place (framed U.grid) (onto U.grid u)) w.1

  next_below : (i : ℕ) → i < degree U.grid.kind → i < U.rule.degree
  next_below i h = subst (λ d. i < d) (sym is.same_degree) h

observed_here : (U : Universe) (last : Option ℕ) (is : IsUniverse U) (within : StartsWithin U) (ok : IsLast last U.rule.phases) (es : List Event) → IsRun (printed U last).surface (printed U last).start es → (k : ℕ) (s : Site) → IsInside U.grid s →
    (k ≤ generation (λ m. shown_by (spell m)) (colony_of U last).surface (colony_of U last).start es (place_of U s) → observed shown_by (printed U last).surface (printed U last).start es (place_of U s) k ≡ Some (phase_sync U k s))
    × (generation (λ m. shown_by (spell m)) (colony_of U last).surface (colony_of U last).start es (place_of U s) < k → observed shown_by (printed U last).surface (printed U last).start es (place_of U s) k ≡ None)
observed_here U last is within ok es run k s h =
    let w = observes (plan_of U last) (colony_of U last) (λ m. shown_by (spell m)) (plan_ok U last is within) (colony U last is within ok) (tells U last is within ok) (colony_of U last).start none_yet es (starts (plan_of U last) (colony_of U last) (plan_ok U last is within) (colony U last is within ok)) (typed U last is within ok es run) (place_of U s) k (cell_of U last is within ok s h) in
    let o = observed_renamed spell (colony_of U last).surface shown_by (colony_of U last).start es (place_of U s) k in
    let z : 0 + k ≡ k = omega arith in
    (λ a. o ∙ w.0 a ∙ ap (λ g. Some (shown_after (plan_of U last) g (place_of U s))) z ∙ ap Some (same_sync U last is.same_degree k s h), λ b. o ∙ w.1 b)

ends_same : (o : Option ℕ) (reads reads' events : ℕ) (cell cell' : ℕ → Type 0) (gen gen' : ℕ → ℕ) (stuck stuck' : Type 0) → reads ≡ reads' → ((p : ℕ) → cell' p → cell p) → ((p : ℕ) → gen' p ≡ gen p) → (stuck' → stuck) → EndsBy o reads events cell gen stuck → EndsBy o reads' events cell' gen' stuck'
ends_same None reads reads' events cell cell' gen gen' stuck stuck' a b c d h = tt
ends_same (Some l) reads reads' events cell cell' gen gen' stuck stuck' a b c d h =
    (subst (λ r. events ≤ r * l) a h.0, λ s. let w = h.1 (d s) in (subst (λ r. events ≡ r * l) a w.0, λ p q. c p ∙ w.1 p (b p q)))

pub printed_synchrony : (U : Universe) (last : Option ℕ) → IsUniverse U → StartsWithin U → IsLast last U.rule.phases → KeepsInStep U last (printed U last)
printed_synchrony U last is within ok es run =
    let sy = facts U last is within ok es run in
    let c : List Mark = left_by (colony_of U last).surface (colony_of U last).start es in
    let gen : (p : ℕ) → generation shown_by (printed U last).surface (printed U last).start es p ≡ generation (λ m. shown_by (spell m)) (colony_of U last).surface (colony_of U last).start es p = gen_is U last is within ok es in
    let final : final (printed U last) es ≡ map spell (left_by (colony_of U last).surface (colony_of U last).start es) = final_is U last is within ok es in
    record {
      shows = λ s h.
          ap (λ d. shown_at shown_by (slice_get d (place_of U s))) final
          ∙ shown_renamed spell (colony_of U last).surface shown_by (left_by (colony_of U last).surface (colony_of U last).start es) (place_of U s)
          ∙ sy.shows (place_of U s) (cell_of U last is within ok s h)
          ∙ ap (λ u. Some (let w : Showing = record { state = u; generation = field_by last U.rule.phases (generation (λ m. shown_by (spell m)) (colony_of U last).surface (colony_of U last).start es (place_of U s)) } in w)) (same_sync U last is.same_degree _ s h)
          ∙ ap (λ g. Some (let w : Showing = record { state = phase_sync U g s; generation = field_by last U.rule.phases g } in w)) (sym (gen (place_of U s)));
      within_one = λ s t adjacent.
          let n = beside U last is within ok s t adjacent.first adjacent.direction adjacent.moves in
          let below = next_below U last is within ok adjacent.direction adjacent.listed in
          let own = cell_of U last is within ok s adjacent.first in
          let there : (board_of U.grid).cell ((board_of U.grid).neighbour (place_of U s) adjacent.direction) ≡ true = subst (λ q. (board_of U.grid).cell q ≡ true) (sym n) (cell_of U last is within ok t adjacent.second) in
          let u : generation (λ m. shown_by (spell m)) (colony_of U last).surface (colony_of U last).start es (place_of U s) ≤ suc (generation (λ m. shown_by (spell m)) (colony_of U last).surface (colony_of U last).start es (place_of U t)) =
          subst (λ q. generation (λ m. shown_by (spell m)) (colony_of U last).surface (colony_of U last).start es (place_of U s) ≤ suc (generation (λ m. shown_by (spell m)) (colony_of U last).surface (colony_of U last).start es q)) n (sy.within_one (place_of U s) adjacent.direction own below there) in
          let gs = gen (place_of U s) in
          let gt = gen (place_of U t) in
          omega arith;
      goes_on = λ s h opened.
          let w = sy.goes_on (place_of U s) (cell_of U last is within ok s h) (subst (OpenBy last) (gen (place_of U s)) opened) in
          (w.0, subst (λ d. Enabled (printed U last).surface d w.0) (sym final) (enabled_renamed spell (colony_of U last).surface (left_by (colony_of U last).surface (colony_of U last).start es) w.0 w.1));
      stops = λ e h.
          let k = came (plan_of U last) (colony_of U last) (λ m. shown_by (spell m)) (plan_ok U last is within) (colony U last is within ok) (tells U last is within ok) (colony_of U last).start none_yet es (starts (plan_of U last) (colony_of U last) (plan_ok U last is within) (colony U last is within ok)) (typed U last is within ok es run) in
          let w = sy.stops e (enabled_back spell (colony_of U last).surface IsSmallMark (apart U last is within ok) (left_by (colony_of U last).surface (colony_of U last).start es) (good U last is within ok (left_by (colony_of U last).surface (colony_of U last).start es) k.clocks k.holds) e (subst (λ d. Enabled (printed U last).surface d e) final h)) in
          let s = site_of_cell U last is within ok w.0 w.1 in
          (s.0, s.1, subst (OpenBy last) (sym (gen (place_of U s.0) ∙ ap (λ p. generation (λ m. shown_by (spell m)) (colony_of U last).surface (colony_of U last).start es p) s.2)) w.2);
      pace = λ k s h enough.
          let n = count_cells U.grid in
          let w = sy.pace k (place_of U s) (cell_of U last is within ok s h)
          (subst (λ m. U.rule.degree * m * (k + (U.grid.width + U.grid.height - 2)) ≤ length es) (sym n)
          (subst (λ m. m * (U.grid.width * U.grid.height) * (k + (U.grid.width + U.grid.height - 2)) ≤ length es) (sym is.same_degree) enough)) in
          let g = gen (place_of U s) in
          omega arith;
      observes = λ k s h reached.
          let w = observed_here U last is within ok es run k s h in
          let g = gen (place_of U s) in
          w.0 (omega arith);
      not_yet = λ k s h beyond.
          let w = observed_here U last is within ok es run k s h in
          let g = gen (place_of U s) in
          w.1 (omega arith);
      nothing = λ k t inside out.
          observed_renamed spell (colony_of U last).surface shown_by (colony_of U last).start es (place (framed U.grid) t) k
          ∙ frame_observed (plan_of U last) (colony_of U last) (λ m. shown_by (spell m)) (plan_ok U last is within) (colony U last is within ok) (mute U last is within ok) (colony_of U last).start none_yet es (starts (plan_of U last) (colony_of U last) (plan_ok U last is within) (colony U last is within ok)) (typed U last is within ok es run) (place (framed U.grid) t) k
          (cell_place U.grid t inside.0 ∙ out) (place_within U.grid t inside.0 inside.1);
      ends = ends_same last _ _ (length es) _ _ _ _ _ _
          (ap (λ m. U.rule.degree * m) (count_cells U.grid) ∙ ap (λ m. m * (U.grid.width * U.grid.height)) is.same_degree)
          (λ p s. subst (λ q. (board_of U.grid).cell q ≡ true) s.2 (cell_of U last is within ok s.0 s.1))
          gen
          (λ stuck e h. stuck e (subst (λ d. Enabled (printed U last).surface d e) (sym final) (enabled_renamed spell (colony_of U last).surface (left_by (colony_of U last).surface (colony_of U last).start es) e h)))
          sy.ends;
    }
