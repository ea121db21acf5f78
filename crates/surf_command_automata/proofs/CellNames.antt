-- Every name of a colony is a cell's or the frame's.
use Rattle.std.specs.Prelude.{All, IfSome, is_some, ◌||◌}
use Rattle.std.proofs.Common.{ℕ, ◌≡◌, ◌<◌, Bool, true, false, List, [], ◌∷◌, Option, Some, None, slice_get, suc, refl, sym, ◌∙◌, ap, subst, inl, inr}
use Rattle.std.proofs.lemmas.List.Elements.{All-map, All-nil, All-cons}
use Rattle.std.proofs.lemmas.Nat.{mod_below}
use Rattle.surf_lattice.specs.declared.site.Site.{Site}
use Rattle.surf_lattice.specs.Grids.{sites}
use Rattle.surf_world.specs.Systems.{Rule}
use Rattle.surf_auto.specs.Locals.{preceding}
use Rattle.surf_auto.specs.Sync.{IsUniverse, Universe}
use Rattle.surf_sync.specs.declared.code.Code.{Code}
use Rattle.surf_sync.specs.Codes.{IsCode, IsMark, Mark, OpenBy, Protocol, phase, protocol, read, read_rule, sight}
use Rattle.surf_sync.specs.Codes.Mark.{Cell, Frame}
use Rattle.surf_sync.specs.Spelling.{code_in, frame_in, spell}
use Rattle.surf_sync.proofs.AfterReads.{preceding_following, read_listed}
use Rattle.surf_sync.proofs.Listed.{phase_of_next}
use Rattle.surf_sync.proofs.Sights.{sight_cell, sight_frame}
use Rattle.surf_sync.proofs.Spelling.{IsSmallMark, code_read, frame_read}
use Rattle.surf_trace.specs.Observations.{AllNamed, RuleNamed, is_cell}
use Rattle.surf_colony.specs.Colonies.{StartsWithin, colony_of, first_mark, framed, in_box, printed}
use Rattle.surf_colony.specs.InStep.{IsLast}
use Rattle.surf_colony.proofs.Built.{colony_ok}
use Rattle.surf_colony.proofs.Printed.{mark_small, whole}
use Rattle.surf_colony.proofs.Starts.{first_small}
use Rattle.surf_cells.specs.CellNames.{OfCells}
use Rattle.surf_cells.proofs.Renamed.{named_to}

-- ---- a mark with small numbers is told by its name

some_first : {X Y : Type 0} (o : Option X) (p : Option Y) (x : X) → o ≡ Some x → (is_some o || is_some p) ≡ true
some_first (Some y) p x is = refl
some_first None p x is = absurd cc

or_some : {Y : Type 0} (b : Bool) (p : Option Y) (y : Y) → p ≡ Some y → (b || is_some p) ≡ true
or_some true p y is = refl
or_some false (Some z) y is = refl
or_some false None y is = absurd cc

abbrev IsTold : Mark → Type 0
IsTold m = is_cell (spell m) ≡ true

mark_told : (m : Mark) → IsSmallMark m → IsTold m
mark_told (Frame k) small = or_some (is_some (code_in (spell (Frame k)))) (frame_in (spell (Frame k))) k (frame_read k small)
mark_told (Cell c) small = some_first (code_in (spell (Cell c))) (frame_in (spell (Cell c))) c (code_read c small)

-- ---- what each element of a list has

all_at_places : {X : Type 0} (P : X → Type 0) (xs : List X) → ((k : ℕ) (x : X) → slice_get xs k ≡ Some x → P x) → All P xs
all_at_places P [] h = All-nil P
all_at_places P (x ∷ xs) h = All-cons P x xs (h 0 x refl) (all_at_places P xs (λ k y is. h (suc k) y is))

all_of_each : {X : Type 0} (P : X → Type 0) (xs : List X) → ((x : X) → P x) → All P xs
all_of_each P [] h = All-nil P
all_of_each P (x ∷ xs) h = All-cons P x xs (h x) (all_of_each P xs h)

if_some : {X : Type 0} (P : X → Type 0) (x : X) → P x → IfSome (Some x) P
if_some P x h = h

module _ (U : Universe) (last : Option ℕ) (is : IsUniverse U) (within : StartsWithin U) (ok : IsLast last U.rule.phases) where
  abbrev own : Protocol
  own = protocol U.rule U.edge last

  -- what a reader sees is a state of its phase
  sight_within : (c : Code) (m : Mark) (v : ℕ) → sight own c m ≡ Some v → IsMark own m → v < U.rule.states (phase U.rule c.generation)
  sight_within c (Frame k) v seen mark =
      let w = sight_frame own c k v seen in
      subst (λ x. x < U.rule.states (phase U.rule c.generation)) (sym w.1) (is.edge_within (phase U.rule c.generation) (mod_below c.generation U.rule.phases is.is_local.some_phase))
  sight_within c (Cell n) v seen mark =
      let w = sight_cell own c n v seen in
      elim w.1 [
        | inl h ↦
            subst (λ x. x < U.rule.states (phase U.rule c.generation)) (sym h.1)
            (subst (λ g. n.current < U.rule.states (phase U.rule g)) h.0 mark.current_within)
        | inr h ↦
            let back : preceding U.rule.phases (phase U.rule n.generation) ≡ phase U.rule c.generation =
            ap (λ g. preceding U.rule.phases (phase U.rule g)) h.0
            ∙ (ap (preceding U.rule.phases) (phase_of_next last U.rule.phases c.generation is.is_local.some_phase)
            ∙ preceding_following U.rule.phases (phase U.rule c.generation) (mod_below c.generation U.rule.phases is.is_local.some_phase)) in
            subst (λ x. x < U.rule.states (phase U.rule c.generation)) (sym h.1)
            (subst (λ f. n.previous < U.rule.states f) back mark.previous_within)
      ]

  listed_told : (m : Mark) → IsMark own m → IsTold m
  listed_told m mark = mark_told m (mark_small U last is within ok m mark)

  read_told : (c : Code) (m : Mark) (v : ℕ) → sight own c m ≡ Some v → OpenBy last c.generation → IsCode U.rule last c → IsMark own m → RuleNamed IsTold (read_rule own c m v)
  read_told c m v seen opened code mark =
      let after : IsCode U.rule last (read own c v) = read_listed U.rule last is.is_local c code opened v (sight_within c m v seen mark) in
      let here : IsTold m = listed_told m mark in
      record {
        left = listed_told (Cell c) code;
        right = if_some IsTold m here;
        left_after = listed_told (Cell (read own c v)) after;
        right_after = if_some IsTold m here;
      }

  rule_told : (k : ℕ) (r : Rule Mark) → slice_get (colony_of U last).surface.rules k ≡ Some r → RuleNamed IsTold r
  rule_told k r here =
      let o = (colony_ok U last is (whole last U.rule.phases ok)).holds.only k r here in
      subst (RuleNamed IsTold) (sym o.4) (read_told o.0 o.1 o.2 o.3 o.5 o.6 o.7)

  first_told : (s : Site) → IsTold (first_mark U s)
  first_told s = mark_told (first_mark U s) (first_small U is s (in_box U.grid s) refl)

  marks_told : AllNamed IsTold (colony_of U last).surface (colony_of U last).start
  marks_told = record {
    in_rules = all_at_places (RuleNamed IsTold) (colony_of U last).surface.rules rule_told;
    in_names = All-map IsTold (first_mark U) (sites (framed U.grid)) (all_of_each (λ s. IsTold (first_mark U s)) (sites (framed U.grid)) first_told);
  }

  pub colony_of_cells : OfCells (printed U last)
  colony_of_cells = named_to spell (λ name. is_cell name ≡ true) (colony_of U last).surface (colony_of U last).start marks_told
