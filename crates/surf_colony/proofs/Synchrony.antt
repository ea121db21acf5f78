-- The invariant of a colony, and that every event keeps it.
use Rattle.std.specs.Prelude.{if◌then◌else◌, ◌==◌, slice_get}
use Rattle.std.proofs.Common.{◌≡◌, ℕ, suc, ◌<◌, ◌≤◌, ◌≢◌, true, false, ◌⊎◌, List, set, length, length-set, Some, sym, refl, ap, ◌∙◌, subst, inl, inr, arith}
use Rattle.std.proofs.lemmas.Bool.{cases_eq, cases_Bool, eq-eqb, ne_eqb}
use Rattle.std.proofs.lemmas.Option.{slice_get_within}
use Rattle.surf_lattice.specs.Grids.{place}
use Rattle.surf_world.specs.declared.event.Event.{Event}
use Rattle.surf_world.specs.Systems.{System, Enabled, after}
use Rattle.surf_sync.specs.declared.code.Code.{Code}
use Rattle.surf_sync.specs.Codes.{Mark, OpenBy, beside, field_at, sight, read}
use Rattle.surf_sync.specs.Codes.Mark.{Frame, Cell}
use Rattle.surf_sync.proofs.Numbers.{open_gen}
use Rattle.surf_sync.proofs.Sights.{sight_frame}
use Rattle.surf_colony.proofs.Plans.{Plan, IsPlan, IsColony, protocol_of}
use Rattle.surf_colony.proofs.Codes.{Clock, code_at, tick, tick_last, tick_more, sees, read-code_at, Stays, stays_tick}
use Rattle.surf_colony.proofs.Saw.{cell_saw}
use Rattle.surf_colony.proofs.Events.{reading_of}
use Rattle.surf_colony.proofs.Places.{get-set_same, get-set_other, set-same}

-- c is what the colony shows where each cell has come as far as its clock says
pub record Synchrony (A : Plan) (c : List Mark) (k : ℕ → Clock) : Type 0 where
  pub size : length c ≡ A.board.places
  pub cells : (p : ℕ) → A.board.cell p ≡ true → slice_get c p ≡ Some (Cell (code_at A p (k p)))
  pub frames : (p : ℕ) → A.board.cell p ≡ false → p < A.board.places → slice_get c p ≡ Some (Frame (A.board.colour p))
  pub reads : (p : ℕ) → A.board.cell p ≡ true → (k p).reads < A.rule.degree
  pub stays : (p : ℕ) → A.board.cell p ≡ true → Stays A.last (k p)
  pub near : (p i : ℕ) → A.board.cell p ≡ true → i < A.rule.degree → A.board.cell (A.board.neighbour p i) ≡ true → (k p).gen ≤ suc (k (A.board.neighbour p i)).gen
  pub done : (p i : ℕ) → A.board.cell p ≡ true → i < (k p).reads → A.board.cell (A.board.neighbour p i) ≡ true → (k p).gen ≤ (k (A.board.neighbour p i)).gen

-- the clocks after a read of the cell at p
abbrev pub ticked : ℕ → (ℕ → Clock) → ℕ → ℕ → Clock
ticked d k p q = if q == p then tick d (k p) else k q

pub ticked_here : (d : ℕ) (k : ℕ → Clock) (p : ℕ) → ticked d k p p ≡ tick d (k p)
ticked_here d k p = rw (eq-eqb p p refl) refl

pub ticked_else : (d : ℕ) (k : ℕ → Clock) (p q : ℕ) → q ≢ p → ticked d k p q ≡ k q
ticked_else d k p q h = rw (ne_eqb q p h) refl

-- neighbours are within one generation both ways
pub ahead : {A : Plan} {c : List Mark} {k : ℕ → Clock} → IsPlan A → Synchrony A c k → (p i : ℕ) → A.board.cell p ≡ true → i < A.rule.degree → A.board.cell (A.board.neighbour p i) ≡ true → (k (A.board.neighbour p i)).gen ≤ suc (k p).gen
ahead {A} {c} {k} is s p i cell below there =
    let b = is.is_board.back p i cell below there in
    let n : (k (A.board.neighbour p i)).gen ≤ suc (k (A.board.neighbour (A.board.neighbour p i) b.0)).gen = s.near (A.board.neighbour p i) b.0 there b.1 (subst (λ q. A.board.cell q ≡ true) (sym b.2) cell) in
    subst (λ q. (k (A.board.neighbour p i)).gen ≤ suc (k q).gen) b.2 n

-- what a read is: the reader is a cell, it reads the neighbour in its next direction, and that isn't behind
pub record Reads (A : Plan) (S : System Mark) (c : List Mark) (k : ℕ → Clock) (e : Event) (p : ℕ) : Type 0 where
  pub is_cell : A.board.cell p ≡ true
  pub opened : OpenBy A.last (k p).gen
  pub not_behind : A.board.cell (A.board.neighbour p (k p).reads) ≡ true → (k p).gen ≤ (k (A.board.neighbour p (k p).reads)).gen
  pub leaves : after S.surface c e ≡ set c p (Cell (code_at A p (tick A.rule.degree (k p))))

site_cell : {A : Plan} {c : List Mark} {k : ℕ → Clock} → Synchrony A c k → (p : ℕ) (r : Code) → slice_get c p ≡ Some (Cell r) → (A.board.cell p ≡ true) × (r ≡ code_at A p (k p))
site_cell {A} {c} {k} s p r h =
    elim (cases_Bool (A.board.cell p)) [
      | inl e ↦ (e, let f : Some (Cell r) ≡ Some (Cell (code_at A p (k p))) = sym h ∙ s.cells p e in cc)
      | inr e ↦
          let w : p < length c = slice_get_within c p (Cell r) h in
          absurd (let f : Some (Cell r) ≡ Some (Frame (A.board.colour p)) = sym h ∙ s.frames p e (rw (← s.size) w) in cc)
    ]

-- a mark that a cell sees in a neighbour stands in the direction that it reads next, and shows what it is to see
told : {A : Plan} {c : List Mark} {k : ℕ → Clock} → IsPlan A → Synchrony A c k → (p i : ℕ) → A.board.cell p ≡ true → i < A.rule.degree → (m : Mark) (v : ℕ) → slice_get c (A.board.neighbour p i) ≡ Some m → sight (protocol_of A) (code_at A p (k p)) m ≡ Some v → (i ≡ (k p).reads) × (v ≡ sees A (k p).gen p i) × (A.board.cell (A.board.neighbour p i) ≡ true → (k p).gen ≤ (k (A.board.neighbour p i)).gen)
unfolding code_at
told {A} {c} {k} is s p i cell below m v stands saw =
    let one = is.is_board.one_direction (A.board.colour p) i (k p).reads (is.is_board.in_colours p) below (s.reads p cell) in
    let own : A.board.colour (A.board.neighbour p i) ≡ beside A.rule.degree (A.board.colour p) i = is.is_board.coloured p i cell below in
    elim (cases_Bool (A.board.cell (A.board.neighbour p i))) [
      | inl e ↦
          let f : m ≡ Cell (code_at A (A.board.neighbour p i) (k (A.board.neighbour p i))) = (let g : Some m ≡ Some (Cell (code_at A (A.board.neighbour p i) (k (A.board.neighbour p i)))) = sym stands ∙ s.cells (A.board.neighbour p i) e in cc) in
          let w = cell_saw A is.is_local.some_phase p (A.board.neighbour p i) (k p) (k (A.board.neighbour p i)) v (s.near p i cell below e) (ahead is s p i cell below e) (subst (λ x. sight (protocol_of A) (code_at A p (k p)) x ≡ Some v) f saw) in
          (one (sym own ∙ w.0), w.1 ∙ rw e refl, λ _. w.2)
      | inr e ↦
          let f : m ≡ Frame (A.board.colour (A.board.neighbour p i)) = (let g : Some m ≡ Some (Frame (A.board.colour (A.board.neighbour p i))) = sym stands ∙ s.frames (A.board.neighbour p i) e (is.is_board.inside p i cell below) in cc) in
          let w = sight_frame (protocol_of A) (code_at A p (k p)) (A.board.colour (A.board.neighbour p i)) v (subst (λ x. sight (protocol_of A) (code_at A p (k p)) x ≡ Some v) f saw) in
          (one (sym own ∙ w.0), w.1 ∙ rw e refl, λ t. absurd (let u : true ≡ false = sym t ∙ e in cc))
    ]

opened_at : (A : Plan) (p : ℕ) (j : Clock) (r : Code) → OpenBy A.last r.generation → r ≡ code_at A p j → OpenBy A.last (field_at (protocol_of A) j.gen)
unfolding code_at
opened_at A p j r h e = subst (λ x. OpenBy A.last x.generation) e h

pub reads_of : {A : Plan} {S : System Mark} {c : List Mark} {k : ℕ → Clock} → IsPlan A → IsColony A S → Synchrony A c k → (e : Event) → Enabled S.surface c e → Reads A S c k e (place S.surface.grid e.first)
reads_of {A} {S} {c} {k} is colony s e h =
    let r = reading_of A S c e colony.holds h in
    let p : ℕ = place S.surface.grid e.first in
    let w = site_cell s p r.reader r.stands in
    let d = colony.direction e.first r.partner r.inside w.0 r.beside in
    let t = told is s p d.0 w.0 d.1 r.mark r.value (subst (λ q. slice_get c q ≡ Some r.mark) (sym d.2) r.marked) (subst (λ x. sight (protocol_of A) x r.mark ≡ Some r.value) w.1 r.saw) in
    let P : ℕ → Type 0 = λ i. A.board.cell (A.board.neighbour p i) ≡ true → (k p).gen ≤ (k (A.board.neighbour p i)).gen in
    let value : r.value ≡ sees A (k p).gen p (k p).reads = t.1 ∙ ap (λ i. sees A (k p).gen p i) t.0 in
    let new : read (protocol_of A) r.reader r.value ≡ code_at A p (tick A.rule.degree (k p)) = ap (λ x. read (protocol_of A) x r.value) w.1 ∙ ap (λ x. read (protocol_of A) (code_at A p (k p)) x) value ∙ read-code_at A is.is_local.some_phase p (k p) in
    let ne : place S.surface.grid r.partner ≢ p = λ x. is.is_board.apart p d.0 w.0 d.1 (d.2 ∙ x) in
    record {
      is_cell = w.0;
      opened = open_gen A.last A.rule.phases (k p).gen (opened_at A p (k p) r.reader r.opened w.1);
      not_behind = subst P t.0 t.2;
      leaves =
          r.leaves
          ∙ set-same (set c p (Cell (read (protocol_of A) r.reader r.value))) (place S.surface.grid r.partner) r.mark (get-set_other c p (place S.surface.grid r.partner) (Cell (read (protocol_of A) r.reader r.value)) ne ∙ r.marked)
          ∙ ap (λ x. set c p (Cell x)) new;
    }

pub tick_cases : (d : ℕ) (k : Clock) → ((suc k.reads ≡ d) × ((tick d k).gen ≡ suc k.gen) × ((tick d k).reads ≡ 0)) ⊎ ((suc k.reads ≢ d) × ((tick d k).gen ≡ k.gen) × ((tick d k).reads ≡ suc k.reads))
tick_cases d k = elim (cases_eq (suc k.reads) d) [
  | inl e ↦ inl (e, ap (λ x. x.gen) (tick_last d k e), ap (λ x. x.reads) (tick_last d k e))
  | inr n ↦ inr (n, ap (λ x. x.gen) (tick_more d k n), ap (λ x. x.reads) (tick_more d k n))
]

-- no clock runs back
pub forward : (d : ℕ) (k : ℕ → Clock) (p q : ℕ) → (k q).gen ≤ (ticked d k p q).gen
forward d k p q = elim (cases_eq q p) [
  | inl e ↦
      let here : (k p).gen ≤ (ticked d k p p).gen = rw (ticked_here d k p) (let t = tick_cases d (k p) in omega arith) in
      subst (λ x. (k x).gen ≤ (ticked d k p x).gen) (sym e) here
  | inr n ↦ rw (ticked_else d k p q n) (let t : (k q).gen ≤ (k q).gen = omega arith in t)
]

module _ (A : Plan) (c : List Mark) (k : ℕ → Clock) (is : IsPlan A) (s : Synchrony A c k) (p : ℕ) (cell : A.board.cell p ≡ true) (not_behind : A.board.cell (A.board.neighbour p (k p).reads) ≡ true → (k p).gen ≤ (k (A.board.neighbour p (k p).reads)).gen) (opened : OpenBy A.last (k p).gen) where
  all_read : (i : ℕ) → i < suc (k p).reads → A.board.cell (A.board.neighbour p i) ≡ true → (k p).gen ≤ (k (A.board.neighbour p i)).gen
  all_read i h there = elim (cases_eq i (k p).reads) [
    | inl e ↦ subst (λ x. A.board.cell (A.board.neighbour p x) ≡ true → (k p).gen ≤ (k (A.board.neighbour p x)).gen) (sym e) not_behind there
    | inr n ↦ s.done p i cell (omega arith) there
  ]

  near_here : (i : ℕ) → i < A.rule.degree → A.board.cell (A.board.neighbour p i) ≡ true → (ticked A.rule.degree k p p).gen ≤ suc (ticked A.rule.degree k p (A.board.neighbour p i)).gen
  near_here i below there =
      rw (ticked_here A.rule.degree k p, ticked_else A.rule.degree k p (A.board.neighbour p i) (is.is_board.apart p i cell below))
      (elim (tick_cases A.rule.degree (k p)) [
        | inl w ↦ let r : (k p).gen ≤ (k (A.board.neighbour p i)).gen = all_read i (omega arith) there in omega arith
        | inr w ↦ let r : (k p).gen ≤ suc (k (A.board.neighbour p i)).gen = s.near p i cell below there in omega arith
      ])

  done_here : (i : ℕ) → i < (ticked A.rule.degree k p p).reads → A.board.cell (A.board.neighbour p i) ≡ true → (ticked A.rule.degree k p p).gen ≤ (ticked A.rule.degree k p (A.board.neighbour p i)).gen
  done_here i h there =
      let h' : i < (tick A.rule.degree (k p)).reads = rw (ticked_here A.rule.degree k p) at h in
      let t = tick_cases A.rule.degree (k p) in
      let now : (k p).reads < A.rule.degree = s.reads p cell in
      let below : i < A.rule.degree = omega arith in
      rw (ticked_here A.rule.degree k p, ticked_else A.rule.degree k p (A.board.neighbour p i) (is.is_board.apart p i cell below))
      (elim t [
        | inl w ↦ absurd (omega arith)
        | inr w ↦ let r : (k p).gen ≤ (k (A.board.neighbour p i)).gen = all_read i (omega arith) there in omega arith
      ])

  cells_here : slice_get (set c p (Cell (code_at A p (tick A.rule.degree (k p))))) p ≡ Some (Cell (code_at A p (ticked A.rule.degree k p p)))
  cells_here = rw (ticked_here A.rule.degree k p) (get-set_same c p _ (slice_get_within c p _ (s.cells p cell)))

  reads_here : (ticked A.rule.degree k p p).reads < A.rule.degree
  reads_here = let now : (k p).reads < A.rule.degree = s.reads p cell in let t = tick_cases A.rule.degree (k p) in rw (ticked_here A.rule.degree k p) (omega arith)

  kept_set : Synchrony A (set c p (Cell (code_at A p (tick A.rule.degree (k p))))) (ticked A.rule.degree k p)
  kept_set = record {
    size = length-set c p _ ∙ s.size;
    cells = λ q there. elim (cases_eq q p) [
      | inl e ↦ subst (λ x. slice_get (set c p (Cell (code_at A p (tick A.rule.degree (k p))))) x ≡ Some (Cell (code_at A x (ticked A.rule.degree k p x)))) (sym e) cells_here
      | inr n ↦ get-set_other c p q _ n ∙ s.cells q there ∙ ap (λ x. Some (Cell (code_at A q x))) (sym (ticked_else A.rule.degree k p q n))
    ];
    frames = λ q out below.
        let n : q ≢ p = λ e. let t : A.board.cell p ≡ false = subst (λ x. A.board.cell x ≡ false) e out in let u : true ≡ false = sym cell ∙ t in absurd cc in
        get-set_other c p q _ n ∙ s.frames q out below;
    reads = λ q there. elim (cases_eq q p) [
      | inl e ↦ subst (λ x. (ticked A.rule.degree k p x).reads < A.rule.degree) (sym e) reads_here
      | inr n ↦ rw (ticked_else A.rule.degree k p q n) (s.reads q there)
    ];
    stays = λ q there. elim (cases_eq q p) [
      | inl e ↦ subst (λ x. Stays A.last (ticked A.rule.degree k p x)) (sym e) (rw (ticked_here A.rule.degree k p) (stays_tick A.last A.rule.degree (k p) opened))
      | inr n ↦ rw (ticked_else A.rule.degree k p q n) (s.stays q there)
    ];
    near = λ q i own below there. elim (cases_eq q p) [
      | inl e ↦ subst (λ x. A.board.cell (A.board.neighbour x i) ≡ true → (ticked A.rule.degree k p x).gen ≤ suc (ticked A.rule.degree k p (A.board.neighbour x i)).gen) (sym e) (near_here i below) there
      | inr n ↦
          let a : (k q).gen ≤ suc (k (A.board.neighbour q i)).gen = s.near q i own below there in
          let b : (k (A.board.neighbour q i)).gen ≤ (ticked A.rule.degree k p (A.board.neighbour q i)).gen = forward A.rule.degree k p (A.board.neighbour q i) in
          let f : (ticked A.rule.degree k p q).gen ≡ (k q).gen = ap (λ x. x.gen) (ticked_else A.rule.degree k p q n) in
          omega arith
    ];
    done = λ q i own below there. elim (cases_eq q p) [
      | inl e ↦ subst (λ x. i < (ticked A.rule.degree k p x).reads → A.board.cell (A.board.neighbour x i) ≡ true → (ticked A.rule.degree k p x).gen ≤ (ticked A.rule.degree k p (A.board.neighbour x i)).gen) (sym e) (done_here i) below there
      | inr n ↦
          let h : i < (k q).reads = rw (ticked_else A.rule.degree k p q n) at below in
          let a : (k q).gen ≤ (k (A.board.neighbour q i)).gen = s.done q i own h there in
          let b : (k (A.board.neighbour q i)).gen ≤ (ticked A.rule.degree k p (A.board.neighbour q i)).gen = forward A.rule.degree k p (A.board.neighbour q i) in
          let f : (ticked A.rule.degree k p q).gen ≡ (k q).gen = ap (λ x. x.gen) (ticked_else A.rule.degree k p q n) in
          omega arith
    ];
  }

-- every event keeps the invariant, and it is one tick of its cell's clock
pub kept : {A : Plan} {S : System Mark} {c : List Mark} {k : ℕ → Clock} → IsPlan A → Synchrony A c k → (e : Event) (p : ℕ) → Reads A S c k e p → Synchrony A (after S.surface c e) (ticked A.rule.degree k p)
kept {A} {S} {c} {k} is s e p r = subst (λ x. Synchrony A x (ticked A.rule.degree k p)) (sym r.leaves) (kept_set A c k is s p r.is_cell r.not_behind r.opened)
