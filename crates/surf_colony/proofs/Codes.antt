-- The code of a cell is a function of its generation and of how many directions it has read.
use Rattle.std.specs.Prelude.{if◌then◌else◌, ◌==◌}
use Rattle.std.proofs.Common.{◌≡◌, ℕ, suc, ◌-◌, ◌*◌, ◌%◌, ◌<◌, ◌≢◌, ◌⊎◌, Option, Some, None, sym, refl, ap, ◌∙◌, inl, inr, arith}
use Rattle.std.proofs.lemmas.Bool.{cases_eq, eq-eqb, ne_eqb}
use Rattle.std.proofs.lemmas.Nat.{mod_below}
use Rattle.surf_auto.specs.Locals.{gathered}
use Rattle.surf_sync.specs.declared.code.Code.{Code}
use Rattle.surf_sync.specs.Codes.{field_by, fields_by, OpenBy, field_at, phase, next_field, read}
use Rattle.surf_sync.proofs.Numbers.{next_of_field, phase_of_field}
use Rattle.surf_colony.proofs.Plans.{Plan, protocol_of, seen_by, shown_after}

-- how far a cell has come
pub record Clock : Type 0 where
  pub gen : ℕ
  pub reads : ℕ

-- what p sees in direction i, at generation g
abbrev pub sees : Plan → ℕ → ℕ → ℕ → ℕ
sees A g p i = seen_by A (λ q. shown_after A g q) p i

abbrev pub acc_at : Plan → ℕ → ℕ → ℕ → ℕ
acc_at A g p r = gathered A.rule (g % A.rule.phases) (λ i. sees A g p i) r

unfoldable pub code_at : Plan → ℕ → Clock → Code
code_at A p k = record {
  current = shown_after A k.gen p;
  generation = field_at (protocol_of A) k.gen;
  colour = A.board.colour p;
  previous = shown_after A (k.gen - 1) p;
  reads = k.reads;
  acc = acc_at A k.gen p k.reads;
}

-- one read more
unfoldable pub tick : ℕ → Clock → Clock
tick d k = if suc k.reads == d then record { gen = suc k.gen; reads = 0 } else record { gen = k.gen; reads = suc k.reads }

make : ℕ → ℕ → ℕ → ℕ → ℕ → ℕ → Code
make a b c d e f = record { current = a; generation = b; colour = c; previous = d; reads = e; acc = f }

made : (c d : Code) → c.current ≡ d.current → c.generation ≡ d.generation → c.colour ≡ d.colour → c.previous ≡ d.previous → c.reads ≡ d.reads → c.acc ≡ d.acc → make c.current c.generation c.colour c.previous c.reads c.acc ≡ make d.current d.generation d.colour d.previous d.reads d.acc
made c d e1 e2 e3 e4 e5 e6 = rw (e1, e2, e3, e4, e5, e6) refl

pub same_code : (c d : Code) → c.current ≡ d.current → c.generation ≡ d.generation → c.colour ≡ d.colour → c.previous ≡ d.previous → c.reads ≡ d.reads → c.acc ≡ d.acc → c ≡ d
unfolding make
same_code c d e1 e2 e3 e4 e5 e6 = made c d e1 e2 e3 e4 e5 e6

pub tick_last : (d : ℕ) (k : Clock) → suc k.reads ≡ d → tick d k ≡ record { gen = suc k.gen; reads = 0 }
unfolding tick
tick_last d k e = rw (eq-eqb (suc k.reads) d e) refl

pub tick_more : (d : ℕ) (k : Clock) → suc k.reads ≢ d → tick d k ≡ record { gen = k.gen; reads = suc k.reads }
unfolding tick
tick_more d k e = rw (ne_eqb (suc k.reads) d e) refl

read_last : (A : Plan) (r : Code) (v : ℕ) → suc r.reads ≡ A.rule.degree → read (protocol_of A) r v ≡ record {
  current = A.rule.finish (phase A.rule r.generation) r.current (A.rule.add (phase A.rule r.generation) r.acc r.reads v);
  generation = next_field (protocol_of A) r.generation;
  colour = r.colour;
  previous = r.current;
  reads = 0;
  acc = A.rule.start (phase A.rule (next_field (protocol_of A) r.generation));
}
read_last A r v e = rw (eq-eqb (suc r.reads) A.rule.degree e) refl

read_more : (A : Plan) (r : Code) (v : ℕ) → suc r.reads ≢ A.rule.degree → read (protocol_of A) r v ≡ record {
  current = r.current;
  generation = r.generation;
  colour = r.colour;
  previous = r.previous;
  reads = suc r.reads;
  acc = A.rule.add (phase A.rule r.generation) r.acc r.reads v;
}
read_more A r v e = rw (ne_eqb (suc r.reads) A.rule.degree e) refl

pub read-code_at : (A : Plan) → 0 < A.rule.phases → (p : ℕ) (k : Clock) → read (protocol_of A) (code_at A p k) (sees A k.gen p k.reads) ≡ code_at A p (tick A.rule.degree k)
unfolding code_at
read-code_at A some p k =
    let f : field_at (protocol_of A) k.gen % A.rule.phases ≡ k.gen % A.rule.phases = phase_of_field A.last A.rule.phases k.gen some in
    let n : field_at (protocol_of A) (suc k.gen) ≡ next_field (protocol_of A) (field_at (protocol_of A) k.gen) = next_of_field A.last A.rule.phases k.gen some in
    let nf : field_at (protocol_of A) (suc k.gen) % A.rule.phases ≡ suc k.gen % A.rule.phases = phase_of_field A.last A.rule.phases (suc k.gen) some in
    let back : k.gen ≡ suc k.gen - 1 = omega arith in
    elim (cases_eq (suc k.reads) A.rule.degree) [
      | inl e ↦
          read_last A (code_at A p k) (sees A k.gen p k.reads) e
          ∙ same_code _ (code_at A p (record { gen = suc k.gen; reads = 0 }))
          (rw (f, ← e) refl)
          (sym n)
          refl
          (ap (λ x. shown_after A x p) back)
          refl
          (ap (λ x. A.rule.start (x % A.rule.phases)) (sym n) ∙ ap A.rule.start nf)
          ∙ sym (ap (code_at A p) (tick_last A.rule.degree k e))
      | inr d ↦
          read_more A (code_at A p k) (sees A k.gen p k.reads) d
          ∙ same_code _ (code_at A p (record { gen = k.gen; reads = suc k.reads })) refl refl refl refl refl (rw f refl)
          ∙ sym (ap (code_at A p) (tick_more A.rule.degree k d))
    ]

-- a cell at the last generation has read nothing there
abbrev pub Stays : Option ℕ → Clock → Type 0
Stays None k = Unit {0}
Stays (Some l) k = (k.gen < l) ⊎ ((k.gen ≡ l) × (k.reads ≡ 0))

pub stays_tick : (o : Option ℕ) (d : ℕ) (k : Clock) → OpenBy o k.gen → Stays o (tick d k)
stays_tick None d k h = tt
stays_tick (Some l) d k h = elim (cases_eq (suc k.reads) d) [
  | inl e ↦ rw (tick_last d k e) (elim (cases_eq (suc k.gen) l) [ inl s ↦ inr (s, refl) | inr n ↦ inl (omega arith) ])
  | inr n ↦ rw (tick_more d k n) (inl h)
]

pub stays_within : (o : Option ℕ) (n : ℕ) (k : Clock) → 0 < n → Stays o k → field_by o n k.gen < fields_by o n
stays_within None n k some h = mod_below k.gen (3 * n) (omega arith)
stays_within (Some l) n k some h = elim h [ inl a ↦ omega arith | inr b ↦ let e : k.gen ≡ l = b.0 in omega arith ]
