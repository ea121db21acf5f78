-- Sums over the cells, and a cell of least generation.
use Rattle.std.specs.Prelude.{if◌then◌else◌, slice_get}
use Rattle.std.proofs.Common.{◌≡◌, ℕ, zero, suc, ◌+◌, ◌*◌, ◌<◌, ◌≤◌, ◌≢◌, true, false, ◌⊎◌, List, Some, sym, refl, ap, ◌∙◌, subst, inl, inr, arith, lit<}
use Rattle.std.proofs.lemmas.Bool.{cases_eq, cases_Bool, cases_lt}
use Rattle.surf_world.specs.declared.event.Event.{Event}
use Rattle.surf_world.specs.Systems.{System, Enabled, Fits}
use Rattle.surf_sync.specs.Codes.{Mark, OpenBy, beside, sight, IsMark}
use Rattle.surf_sync.specs.Codes.Mark.{Frame, Cell}
use Rattle.surf_sync.proofs.Numbers.{open_field}
use Rattle.surf_sync.proofs.Sights.{frame_seen}
use Rattle.surf_colony.proofs.Plans.{Board, Plan, IsPlan, IsColony, protocol_of, sum_to, cells_to}
use Rattle.surf_colony.proofs.Codes.{Clock, code_at, tick}
use Rattle.surf_colony.proofs.Saw.{cell_sees}
use Rattle.surf_colony.proofs.Ranges.{code_listed}
use Rattle.surf_colony.proofs.Synchrony.{Synchrony, ahead, ticked, ticked_here, ticked_else, tick_cases}

-- the reads that a cell has made
abbrev pub worth : ℕ → Clock → ℕ
worth d k = d * k.gen + k.reads

worth_tick : (d : ℕ) (k : Clock) → worth d (tick d k) ≡ suc (worth d k)
worth_tick d k = elim (tick_cases d k) [
  | inl w ↦ rw (w.1, w.2) (let e : suc k.reads ≡ d = w.0 in let m : d * suc k.gen ≡ d * k.gen + d = omega arith in omega arith)
  | inr w ↦ rw (w.1, w.2) (omega arith)
]

pub sum_else : (S : Board) (d : ℕ) (k : ℕ → Clock) (p n : ℕ) → n ≤ p → sum_to S (λ q. worth d (ticked d k p q)) n ≡ sum_to S (λ q. worth d (k q)) n
sum_else S d k p zero h = refl
sum_else S d k p (suc n) h =
    rw (ticked_else d k p n (let e : n ≢ p = omega arith in e)) (ap (λ x. (if S.cell n then worth d (k n) else 0) + x) (sum_else S d k p n (omega arith)))

pub sum_ticked : (S : Board) (d : ℕ) (k : ℕ → Clock) (p n : ℕ) → S.cell p ≡ true → p < n → sum_to S (λ q. worth d (ticked d k p q)) n ≡ suc (sum_to S (λ q. worth d (k q)) n)
sum_ticked S d k p zero cell h = absurd (omega arith)
sum_ticked S d k p (suc n) cell h = elim (cases_eq n p) [
  | inl e ↦ subst (λ x. (if S.cell x then worth d (ticked d k p x) else 0) + sum_to S (λ q. worth d (ticked d k p q)) x ≡ suc ((if S.cell x then worth d (k x) else 0) + sum_to S (λ q. worth d (k q)) x)) (sym e)
      (rw (cell, ticked_here d k p, sum_else S d k p p (let r : p ≤ p = omega arith in r), worth_tick d (k p)) (omega arith))
  | inr ne ↦ rw (ticked_else d k p n ne, sum_ticked S d k p n cell (omega arith)) (omega arith)
]

pub sum_below : (S : Board) (f : ℕ → ℕ) (b n : ℕ) → ((q : ℕ) → S.cell q ≡ true → f q < b) → sum_to S f n + cells_to S n ≤ cells_to S n * b
sum_below S f b zero h = omega arith
sum_below S f b (suc n) h = elim (cases_Bool (S.cell n)) [
  | inl e ↦ rw e (let i : sum_to S f n + cells_to S n ≤ cells_to S n * b = sum_below S f b n h in let l : f n < b = h n e in omega arith)
  | inr e ↦ rw e (let i : sum_to S f n + cells_to S n ≤ cells_to S n * b = sum_below S f b n h in omega arith)
]

pub sum_at_most : (S : Board) (f : ℕ → ℕ) (b n : ℕ) → ((q : ℕ) → S.cell q ≡ true → f q ≤ b) → sum_to S f n ≤ cells_to S n * b
sum_at_most S f b zero h = omega arith
sum_at_most S f b (suc n) h = elim (cases_Bool (S.cell n)) [
  | inl e ↦ rw e (let i : sum_to S f n ≤ cells_to S n * b = sum_at_most S f b n h in let l : f n ≤ b = h n e in omega arith)
  | inr e ↦ rw e (let i : sum_to S f n ≤ cells_to S n * b = sum_at_most S f b n h in omega arith)
]

pub sum_exact : (S : Board) (f : ℕ → ℕ) (b n : ℕ) → ((q : ℕ) → S.cell q ≡ true → f q ≡ b) → sum_to S f n ≡ cells_to S n * b
sum_exact S f b zero h = omega arith
sum_exact S f b (suc n) h = elim (cases_Bool (S.cell n)) [
  | inl e ↦ rw e (let i : sum_to S f n ≡ cells_to S n * b = sum_exact S f b n h in let l : f n ≡ b = h n e in omega arith)
  | inr e ↦ rw e (let i : sum_to S f n ≡ cells_to S n * b = sum_exact S f b n h in omega arith)
]

pub some_cell : (S : Board) (p n : ℕ) → S.cell p ≡ true → p < n → 0 < cells_to S n
some_cell S p zero cell h = absurd (omega arith)
some_cell S p (suc n) cell h = elim (cases_eq n p) [
  | inl e ↦ let c : S.cell n ≡ true = subst (λ x. S.cell x ≡ true) (sym e) cell in rw c (omega arith)
  | inr ne ↦ let i : 0 < cells_to S n = some_cell S p n cell (omega arith) in omega arith
]

-- a cell of least generation among those below n
least : (S : Board) (f : ℕ → ℕ) (n : ℕ) → ((p : ℕ) × (S.cell p ≡ true) × ((q : ℕ) → q < n → S.cell q ≡ true → f p ≤ f q)) ⊎ ((q : ℕ) → q < n → S.cell q ≡ false)
least S f zero = inr (λ q h. absurd (omega arith))
least S f (suc n) = elim (cases_Bool (S.cell n)) [
  | inr out ↦ elim (least S f n) [
    | inl w ↦ inl (
      w.0,
      w.1,
      λ q h cell. elim (cases_eq q n) [
        | inl e ↦ absurd (let t : true ≡ false = sym cell ∙ subst (λ x. S.cell x ≡ false) (sym e) out in cc)
        | inr ne ↦ w.2 q (omega arith) cell
      ],
    )
    | inr none ↦ inr (λ q h. elim (cases_eq q n) [ inl e ↦ subst (λ x. S.cell x ≡ false) (sym e) out | inr ne ↦ none q (omega arith) ])
  ]
  | inl own ↦ elim (least S f n) [
    | inl w ↦ elim (cases_lt (f w.0) (f n)) [
      | inl lt ↦ inl (
        w.0,
        w.1,
        λ q h cell. elim (cases_eq q n) [
          | inl e ↦ subst (λ x. f w.0 ≤ f x) (sym e) (omega arith)
          | inr ne ↦ w.2 q (omega arith) cell
        ],
      )
      | inr ge ↦ inl (
        n,
        own,
        λ q h cell. elim (cases_eq q n) [
          | inl e ↦ subst (λ x. f n ≤ f x) (sym e) (omega arith)
          | inr ne ↦ let i : f w.0 ≤ f q = w.2 q (omega arith) cell in omega arith
        ],
      )
    ]
    | inr none ↦ inl (
      n,
      own,
      λ q h cell. elim (cases_eq q n) [
        | inl e ↦ subst (λ x. f n ≤ f x) (sym e) (omega arith)
        | inr ne ↦ absurd (let t : true ≡ false = sym cell ∙ none q (omega arith) in cc)
      ],
    )
  ]
]

pub least_cell : (S : Board) (f : ℕ → ℕ) (n p : ℕ) → S.cell p ≡ true → p < n → (r : ℕ) × (S.cell r ≡ true) × ((q : ℕ) → q < n → S.cell q ≡ true → f r ≤ f q)
least_cell S f n p cell h = elim (least S f n) [
  | inl w ↦ w
  | inr none ↦ absurd (let t : true ≡ false = sym cell ∙ none p h in cc)
]

enabled_from : {A : Plan} {S : System Mark} {c : List Mark} {k : ℕ → Clock} → IsPlan A → IsColony A S → Synchrony A c k → (p : ℕ) → A.board.cell p ≡ true → OpenBy A.last (code_at A p (k p)).generation → (m : Mark) (v : ℕ) → IsMark (protocol_of A) m → slice_get c (A.board.neighbour p (k p).reads) ≡ Some m → sight (protocol_of A) (code_at A p (k p)) m ≡ Some v → (e : Event) × Enabled S.surface c e
enabled_from {A} {S} {c} {k} is colony s p cell opened m v listed stands saw =
    let below : (k p).reads < A.rule.degree = s.reads p cell in
    let r = colony.holds.each (code_at A p (k p)) m v (code_listed A is p (k p) cell below (s.stays p cell)) opened listed saw in
    let n = colony.reached p (k p).reads cell below in
    let e : Event = record { rule = r.0; first = n.0; second = Some n.1 } in
    (e, subst (Fits S.surface.grid c e) (sym r.1) (lit< tt, (n.4, rw n.2 (s.cells p cell)), (n.6, (n.5, rw n.3 stands))))

-- the next read of a cell of which no neighbour is behind is enabled
pub may_read : {A : Plan} {S : System Mark} {c : List Mark} {k : ℕ → Clock} → IsPlan A → IsColony A S → Synchrony A c k → (p : ℕ) → A.board.cell p ≡ true → OpenBy A.last (k p).gen → (A.board.cell (A.board.neighbour p (k p).reads) ≡ true → (k p).gen ≤ (k (A.board.neighbour p (k p).reads)).gen) → (e : Event) × Enabled S.surface c e
unfolding code_at
may_read {A} {S} {c} {k} is colony s p cell opened not_behind =
    let below : (k p).reads < A.rule.degree = s.reads p cell in
    let own : A.board.colour (A.board.neighbour p (k p).reads) ≡ beside A.rule.degree (A.board.colour p) (k p).reads = is.is_board.coloured p (k p).reads cell below in
    let o : OpenBy A.last (code_at A p (k p)).generation = open_field A.last A.rule.phases (k p).gen opened in
    elim (cases_Bool (A.board.cell (A.board.neighbour p (k p).reads))) [
      | inl there ↦ enabled_from is colony s p cell o (Cell (code_at A (A.board.neighbour p (k p).reads) (k (A.board.neighbour p (k p).reads)))) _
          (code_listed A is (A.board.neighbour p (k p).reads) (k (A.board.neighbour p (k p).reads)) there (s.reads (A.board.neighbour p (k p).reads) there) (s.stays (A.board.neighbour p (k p).reads) there))
          (s.cells (A.board.neighbour p (k p).reads) there)
          (cell_sees A is.is_local.some_phase p (A.board.neighbour p (k p).reads) (k p) (k (A.board.neighbour p (k p).reads)) own (not_behind there) (ahead is s p (k p).reads cell below there))
      | inr out ↦ enabled_from is colony s p cell o (Frame (A.board.colour (A.board.neighbour p (k p).reads))) _
          (is.is_board.in_colours (A.board.neighbour p (k p).reads))
          (s.frames (A.board.neighbour p (k p).reads) out (is.is_board.inside p (k p).reads cell below))
          (frame_seen (protocol_of A) (code_at A p (k p)) (A.board.colour (A.board.neighbour p (k p).reads)) own)
    ]
