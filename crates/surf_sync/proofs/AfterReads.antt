-- The code after a read is listed.
use Rattle.std.proofs.Common.{◌≡◌, ℕ, suc, ◌<◌, ◌≢◌, Option, refl, subst, inl, inr, arith}
use Rattle.std.proofs.lemmas.Bool.{cases_eq, eq-eqb, ne_eqb}
use Rattle.std.proofs.lemmas.Nat.{mod_below}
use Rattle.surf_auto.specs.Locals.{LocalRule, IsLocal, following, preceding}
use Rattle.surf_sync.specs.declared.code.Code.{Code}
use Rattle.surf_sync.specs.Codes.{Protocol, IsCode, OpenBy, next_by, next_field, phase, protocol, read}
use Rattle.surf_sync.proofs.Numbers.{following_cases}
use Rattle.surf_sync.proofs.Listed.{next_within, phase_of_next}

pub read_last : (P : Protocol) (r : Code) (v : ℕ) → suc r.reads ≡ P.rule.degree → read P r v ≡ record {
  current = P.rule.finish (phase P.rule r.generation) r.current (P.rule.add (phase P.rule r.generation) r.acc r.reads v);
  generation = next_field P r.generation;
  colour = r.colour;
  previous = r.current;
  reads = 0;
  acc = P.rule.start (phase P.rule (next_field P r.generation));
}
read_last P r v e = rw (eq-eqb (suc r.reads) P.rule.degree e) refl

pub read_more : (P : Protocol) (r : Code) (v : ℕ) → suc r.reads ≢ P.rule.degree → read P r v ≡ record {
  current = r.current;
  generation = r.generation;
  colour = r.colour;
  previous = r.previous;
  reads = suc r.reads;
  acc = P.rule.add (phase P.rule r.generation) r.acc r.reads v;
}
read_more P r v e = rw (ne_eqb (suc r.reads) P.rule.degree e) refl

pub preceding_following : (n f : ℕ) → f < n → preceding n (following n f) ≡ f
preceding_following n f h = elim (following_cases n f) [
  | inl w ↦ let e = w.0 in rw w.1 (omega arith)
  | inr w ↦ rw w.1 refl
]

module _ (R : LocalRule) (last : Option ℕ) (is : IsLocal R) (r : Code) (code : IsCode R last r) (opened : OpenBy last r.generation) (v : ℕ) (state : v < R.states (phase R r.generation)) where
  below : phase R r.generation < R.phases
  below = mod_below r.generation R.phases is.some_phase

  added : R.add (phase R r.generation) r.acc r.reads v < R.accs (phase R r.generation) (suc r.reads)
  added = is.add_within (phase R r.generation) r.acc r.reads v below code.acc_within code.reads_within state

  next_phase : phase R (next_by last R.phases r.generation) ≡ following R.phases (phase R r.generation)
  next_phase = phase_of_next last R.phases r.generation is.some_phase

  next_below : following R.phases (phase R r.generation) < R.phases
  next_below = elim (following_cases R.phases (phase R r.generation)) [
    | inl w ↦ rw w.1 (let s = is.some_phase in omega arith)
    | inr w ↦ rw w.1 (let d = w.0 in let b = below in omega arith)
  ]

  pub read_listed : IsCode R last (read (protocol R 0 last) r v)
  read_listed = elim (cases_eq (suc r.reads) R.degree) [
    | inl e ↦ rw (read_last (protocol R 0 last) r v e) (record {
      generation_within = next_within last R.phases r.generation is.some_phase code.generation_within opened;
      current_within =
          rw next_phase
          (is.finish_within (phase R r.generation) r.current (R.add (phase R r.generation) r.acc r.reads v) below code.current_within
          (subst (λ d. R.add (phase R r.generation) r.acc r.reads v < R.accs (phase R r.generation) d) e added));
      previous_within = rw (next_phase, preceding_following R.phases (phase R r.generation) below) code.current_within;
      colour_within = code.colour_within;
      reads_within = let h = code.reads_within in omega arith;
      acc_within = rw next_phase (is.start_within (following R.phases (phase R r.generation)) next_below);
    })
    | inr d ↦ rw (read_more (protocol R 0 last) r v d) (record {
      generation_within = code.generation_within;
      current_within = code.current_within;
      previous_within = code.previous_within;
      colour_within = code.colour_within;
      reads_within = let h = code.reads_within in omega arith;
      acc_within = added;
    })
  ]
