-- The invariant along a run, and what follows from it.
use Rattle.std.specs.Prelude.{slice_get}
use Rattle.std.proofs.Common.{◌≡◌, ℕ, zero, suc, ◌+◌, ◌*◌, ◌%◌, ◌<◌, ◌≤◌, ◌≢◌, true, ◌⊎◌, List, [], ◌∷◌, length, Option, Some, None, sym, refl, ap, ◌∙◌, subst, inl, inr, arith}
use Rattle.std.proofs.lemmas.Bool.{cases_eq, cases_Bool, cases_lt, eq-eqb, ne_eqb}
use Rattle.std.proofs.Math.Nat.{mul-le-mul_left}
use Rattle.surf_lattice.specs.Grids.{place}
use Rattle.surf_world.specs.declared.event.Event.{Event}
use Rattle.surf_world.specs.Systems.{System, Enabled, after, IsRun, left_by}
use Rattle.surf_sync.specs.Codes.{Mark, OpenBy, field_by, field_at}
use Rattle.surf_sync.specs.Codes.Mark.{Cell}
use Rattle.surf_sync.specs.Spelling.{Showing, shown_at}
use Rattle.surf_sync.proofs.Numbers.{next_of_field, next_apart}
use Rattle.surf_trace.specs.Generations.{changed, generation}
use Rattle.surf_colony.specs.InStep.{EndsBy}
use Rattle.surf_colony.proofs.Plans.{Board, Plan, IsPlan, IsColony, Tells, LocalSynchrony, protocol_of, first_code, shown_after, sum_to, cells_to}
use Rattle.surf_colony.proofs.Ranges.{code_listed}
use Rattle.surf_colony.proofs.Codes.{Clock, code_at, same_code, Stays}
use Rattle.surf_colony.proofs.Synchrony.{Synchrony, reads_of, kept, ticked, ticked_here, ticked_else, tick_cases}
use Rattle.surf_colony.proofs.Pace.{worth, sum_ticked, sum_below, sum_at_most, sum_exact, some_cell, least_cell, may_read}

abbrev pub none_yet : ℕ → Clock
none_yet p = record { gen = 0; reads = 0 }

first_field : (o : Option ℕ) (n : ℕ) → 0 ≡ field_by o n 0
first_field None n = omega arith
first_field (Some l) n = refl

first_is : (A : Plan) (p : ℕ) → first_code A p ≡ code_at A p (record { gen = 0; reads = 0 })
unfolding code_at
first_is A p =
    let y : 0 ≡ 0 % A.rule.phases = omega arith in
    same_code (first_code A p) _ refl (first_field A.last A.rule.phases) refl refl refl (ap A.rule.start y)

first_stays : (o : Option ℕ) → Stays o (record { gen = 0; reads = 0 })
first_stays None = tt
first_stays (Some l) = elim (cases_eq 0 l) [ inl e ↦ inr (e, refl) | inr n ↦ inl (omega arith) ]

pub starts : (A : Plan) (S : System Mark) → IsPlan A → IsColony A S → Synchrony A S.start none_yet
starts A S is colony = record {
  size = colony.size;
  cells = λ p cell. colony.start_cell p cell ∙ ap (λ x. Some (Cell x)) (first_is A p);
  frames = λ p out below. colony.start_frame p out below;
  reads = λ p cell. is.is_board.some_direction;
  stays = λ p cell. first_stays A.last;
  near = λ p i cell below there. omega arith;
  done = λ p i cell below there. omega arith;
}

-- what a cell shows under the invariant
pub shown_here : {A : Plan} {c : List Mark} {k : ℕ → Clock} → IsPlan A → (show : Mark → Option Showing) → Tells A show → Synchrony A c k → (p : ℕ) → A.board.cell p ≡ true → shown_at show (slice_get c p) ≡ Some (record { state = shown_after A (k p).gen p; generation = field_at (protocol_of A) (k p).gen })
unfolding code_at
shown_here {A} {c} {k} is show tells s p cell = ap (shown_at show) (s.cells p cell) ∙ tells (code_at A p (k p)) (code_listed A is p (k p) cell (s.reads p cell) (s.stays p cell))

-- the field changes just where the generation does
pub changed_small : (a b : Option Showing) → changed a b ≤ 1
changed_small None None = omega arith
changed_small None (Some b) = omega arith
changed_small (Some a) None = omega arith
changed_small (Some a) (Some b) = elim (cases_eq a.generation b.generation) [ inl e ↦ rw (eq-eqb a.generation b.generation e) (omega arith) | inr n ↦ rw (ne_eqb a.generation b.generation n) (omega arith) ]

changed_by : (A : Plan) → 0 < A.rule.phases → (j k : Clock) → (k.gen ≡ suc j.gen) ⊎ (k.gen ≡ j.gen) → (s t : ℕ) → changed (Some (record { state = s; generation = field_at (protocol_of A) j.gen })) (Some (record { state = t; generation = field_at (protocol_of A) k.gen })) + j.gen ≡ k.gen
changed_by A some j k h s t = elim h [
  | inl e ↦
      let n : field_at (protocol_of A) j.gen ≢ field_at (protocol_of A) k.gen = λ x. next_apart A.last A.rule.phases (field_at (protocol_of A) j.gen) some (sym (next_of_field A.last A.rule.phases j.gen some) ∙ ap (field_at (protocol_of A)) (sym e) ∙ sym x) in
      rw (ne_eqb (field_at (protocol_of A) j.gen) (field_at (protocol_of A) k.gen) n) (omega arith)
  | inr e ↦
      rw (eq-eqb (field_at (protocol_of A) j.gen) (field_at (protocol_of A) k.gen) (ap (field_at (protocol_of A)) (sym e))) (omega arith)
]

pub changes : {A : Plan} {c d : List Mark} {k : ℕ → Clock} → IsPlan A → (show : Mark → Option Showing) → Tells A show → (q : ℕ) → Synchrony A c k → Synchrony A d (ticked A.rule.degree k q) → (p : ℕ) → A.board.cell p ≡ true → changed (shown_at show (slice_get c p)) (shown_at show (slice_get d p)) + (k p).gen ≡ (ticked A.rule.degree k q p).gen
changes {A} {c} {d} {k} is show tells q s t p cell =
    let moved : ((ticked A.rule.degree k q p).gen ≡ suc (k p).gen) ⊎ ((ticked A.rule.degree k q p).gen ≡ (k p).gen) = elim (cases_eq p q) [
      | inl e ↦ subst (λ x. ((ticked A.rule.degree k q x).gen ≡ suc (k x).gen) ⊎ ((ticked A.rule.degree k q x).gen ≡ (k x).gen)) (sym e) (rw (ticked_here A.rule.degree k q) (elim (tick_cases A.rule.degree (k q)) [ inl w ↦ inl w.1 | inr w ↦ inr w.1 ]))
      | inr n ↦ inr (ap (λ x. x.gen) (ticked_else A.rule.degree k q p n))
    ] in
    rw (shown_here is show tells s p cell, shown_here is show tells t p cell) (changed_by A is.is_local.some_phase (k p) (ticked A.rule.degree k q p) moved (shown_after A (k p).gen p) (shown_after A (ticked A.rule.degree k q p).gen p))

-- after a run: the clocks, the generations that they tell, and the number of events
pub record Came (A : Plan) (S : System Mark) (show : Mark → Option Showing) (c : List Mark) (k : ℕ → Clock) (es : List Event) : Type 0 where
  pub clocks : ℕ → Clock
  pub holds : Synchrony A (left_by S.surface c es) clocks
  pub counted : (p : ℕ) → A.board.cell p ≡ true → generation show S.surface c es p + (k p).gen ≡ (clocks p).gen
  pub total : sum_to A.board (λ q. worth A.rule.degree (clocks q)) A.board.places ≡ length es + sum_to A.board (λ q. worth A.rule.degree (k q)) A.board.places

pub came : (A : Plan) (S : System Mark) (show : Mark → Option Showing) → IsPlan A → IsColony A S → Tells A show → (c : List Mark) (k : ℕ → Clock) (es : List Event) → Synchrony A c k → IsRun S.surface c es → Came A S show c k es
came A S show is colony tells c k [] s run = record { clocks = k; holds = s; counted = λ p cell. omega arith; total = omega arith }
came A S show is colony tells c k (e ∷ es) s run =
    let r = reads_of is colony s e run.0 in
    let p' : ℕ = place S.surface.grid e.first in
    let s' = kept is s e p' r in
    let w = came A S show is colony tells (after S.surface c e) (ticked A.rule.degree k p') es s' run.1 in
    record {
      clocks = w.clocks;
      holds = w.holds;
      counted = λ p cell.
          let a : generation show S.surface (after S.surface c e) es p + (ticked A.rule.degree k p' p).gen ≡ (w.clocks p).gen = w.counted p cell in
          let b : changed (shown_at show (slice_get c p)) (shown_at show (slice_get (after S.surface c e) p)) + (k p).gen ≡ (ticked A.rule.degree k p' p).gen = changes is show tells p' s s' p cell in
          omega arith;
      total =
          let a : sum_to A.board (λ q. worth A.rule.degree (ticked A.rule.degree k p' q)) A.board.places ≡ suc (sum_to A.board (λ q. worth A.rule.degree (k q)) A.board.places) = sum_ticked A.board A.rule.degree k p' A.board.places r.is_cell (is.is_board.within p' r.is_cell) in
          let b = w.total in
          omega arith;
    }

sum_none : (S : Board) (d n : ℕ) → sum_to S (λ q. worth d (none_yet q)) n ≡ 0
sum_none S d zero = refl
sum_none S d (suc n) = rw (sum_none S d n) (elim (cases_Bool (S.cell n)) [ inl e ↦ rw e (omega arith) | inr e ↦ rw e (omega arith) ])

open_less : (o : Option ℕ) (g h : ℕ) → g ≤ h → OpenBy o h → OpenBy o g
open_less None g h le opened = tt
open_less (Some l) g h le opened = omega arith

-- a cell at generation g has made fewer than d * (g + 1) reads
worth_below : {A : Plan} {c : List Mark} {k : ℕ → Clock} → Synchrony A c k → (q b : ℕ) → A.board.cell q ≡ true → (k q).gen < b → worth A.rule.degree (k q) < A.rule.degree * b
worth_below {A} {c} {k} s q b cell h =
    let r : (k q).reads < A.rule.degree = s.reads q cell in
    let m : A.rule.degree * suc (k q).gen ≤ A.rule.degree * b = mul-le-mul_left A.rule.degree h in
    omega arith

-- with a last generation a cell makes at most so many reads, and exactly so many to get there
worth_at_most : (l d : ℕ) (k : Clock) → k.reads < d → Stays (Some l) k → worth d k ≤ d * l
worth_at_most l d k h s = elim s [
  | inl a ↦ (let m : d * suc k.gen ≤ d * l = mul-le-mul_left d a in omega arith)
  | inr b ↦ (let e : d * k.gen ≡ d * l = ap (λ x. d * x) b.0 in let r = b.1 in omega arith)
]

worth_exact : (l d : ℕ) (k : Clock) → (k.gen < l → ⊥) → Stays (Some l) k → (k.gen ≡ l) × (worth d k ≡ d * l)
worth_exact l d k h s = elim s [
  | inl a ↦ absurd (h a)
  | inr b ↦ (b.0, let e : d * k.gen ≡ d * l = ap (λ x. d * x) b.0 in let r = b.1 in omega arith)
]

pub synchronous : LocalSynchrony
synchronous A S show reach es is colony tells wide some run =
    let d : ℕ = A.rule.degree in
    let w = came A S show is colony tells S.start none_yet es (starts A S is colony) run in
    let gen : (p : ℕ) → A.board.cell p ≡ true → generation show S.surface S.start es p ≡ (w.clocks p).gen = λ p cell. (let a : generation show S.surface S.start es p + 0 ≡ (w.clocks p).gen = w.counted p cell in omega arith) in
    let z : sum_to A.board (λ q. worth A.rule.degree (none_yet q)) A.board.places ≡ 0 = sum_none A.board A.rule.degree A.board.places in
    let l = least_cell A.board (λ q. (w.clocks q).gen) A.board.places some.0 some.1 (is.is_board.within some.0 some.1) in
    let least_opens : (p : ℕ) → A.board.cell p ≡ true → OpenBy A.last (w.clocks p).gen → OpenBy A.last (w.clocks l.0).gen = λ p cell h. open_less A.last (w.clocks l.0).gen (w.clocks p).gen (l.2 p (is.is_board.within p cell) cell) h in
    let on : (p : ℕ) → A.board.cell p ≡ true → OpenBy A.last (w.clocks p).gen → (e : Event) × Enabled S.surface (left_by S.surface S.start es) e = λ p cell h.
    may_read is colony w.holds l.0 l.1 (least_opens p cell h) (λ there. l.2 (A.board.neighbour l.0 (w.clocks l.0).reads) (is.is_board.within (A.board.neighbour l.0 (w.clocks l.0).reads) there) there) in
    record {
      shows = λ p cell. shown_here is show tells w.holds p cell ∙ ap (λ g. Some (record { state = shown_after A g p; generation = field_at (protocol_of A) g })) (sym (gen p cell));
      within_one = λ p i cell below there.
          let a : (w.clocks p).gen ≤ suc (w.clocks (A.board.neighbour p i)).gen = w.holds.near p i cell below there in
          let b = gen p cell in
          let c = gen (A.board.neighbour p i) there in
          omega arith;
      goes_on = λ p cell h. on p cell (subst (λ g. OpenBy A.last g) (gen p cell) h);
      stops = λ e h.
          let r = reads_of is colony w.holds e h in
          (place S.surface.grid e.first, r.is_cell, subst (λ g. OpenBy A.last g) (sym (gen (place S.surface.grid e.first) r.is_cell)) r.opened);
      pace = λ k p cell enough. elim (cases_lt (generation show S.surface S.start es p) k) [
        | inr ge ↦ ge
        | inl lt ↦ absurd (
            let here : (w.clocks p).gen < k = (let g = gen p cell in omega arith) in
            let each : (q : ℕ) → A.board.cell q ≡ true → worth A.rule.degree (w.clocks q) < A.rule.degree * (k + reach) = (λ q own.
            let f : (w.clocks q).gen ≤ (w.clocks p).gen + reach = wide (λ x. (w.clocks x).gen) (λ x i a b c. w.holds.near x i a b c) q p own cell in
            worth_below w.holds q (k + reach) own (omega arith)) in
            let s : sum_to A.board (λ q. worth A.rule.degree (w.clocks q)) A.board.places + cells_to A.board A.board.places ≤ cells_to A.board A.board.places * (A.rule.degree * (k + reach)) = sum_below A.board (λ q. worth A.rule.degree (w.clocks q)) (A.rule.degree * (k + reach)) A.board.places each in
            let n : 0 < cells_to A.board A.board.places = some_cell A.board p A.board.places cell (is.is_board.within p cell) in
            let t = w.total in
            omega arith)
      ];
      ends = ends_by A.last w.clocks w.total z w.holds.reads w.holds.stays gen on;
    }
  where
    ends_by : (o : Option ℕ) (k : ℕ → Clock) →
        sum_to A.board (λ q. worth A.rule.degree (k q)) A.board.places ≡ length es + sum_to A.board (λ q. worth A.rule.degree (none_yet q)) A.board.places →
        sum_to A.board (λ q. worth A.rule.degree (none_yet q)) A.board.places ≡ 0 →
        ((p : ℕ) → A.board.cell p ≡ true → (k p).reads < A.rule.degree) →
        ((p : ℕ) → A.board.cell p ≡ true → Stays o (k p)) →
        ((p : ℕ) → A.board.cell p ≡ true → generation show S.surface S.start es p ≡ (k p).gen) →
        ((p : ℕ) → A.board.cell p ≡ true → OpenBy o (k p).gen → (e : Event) × Enabled S.surface (left_by S.surface S.start es) e) →
        EndsBy o (A.rule.degree * cells_to A.board A.board.places) (length es) (λ p. A.board.cell p ≡ true) (generation show S.surface S.start es)
        ((e : Event) → Enabled S.surface (left_by S.surface S.start es) e → ⊥)
    ends_by None k total z reads stays gen on = tt
    ends_by (Some last) k total z reads stays gen on =
        let most : sum_to A.board (λ q. worth A.rule.degree (k q)) A.board.places ≤ cells_to A.board A.board.places * (A.rule.degree * last) = sum_at_most A.board (λ q. worth A.rule.degree (k q)) (A.rule.degree * last) A.board.places (λ q own. worth_at_most last A.rule.degree (k q) (reads q own) (stays q own)) in (
          omega arith,
          λ stuck.
              let each : (q : ℕ) → A.board.cell q ≡ true → ((k q).gen ≡ last) × (worth A.rule.degree (k q) ≡ A.rule.degree * last) = (λ q own. worth_exact last A.rule.degree (k q) (λ h. let x = on q own h in stuck x.0 x.1) (stays q own)) in
              let exact : sum_to A.board (λ q. worth A.rule.degree (k q)) A.board.places ≡ cells_to A.board A.board.places * (A.rule.degree * last) = sum_exact A.board (λ q. worth A.rule.degree (k q)) (A.rule.degree * last) A.board.places (λ q own. (each q own).1) in
              (omega arith, λ p cell. gen p cell ∙ (each p cell).0),
        )
