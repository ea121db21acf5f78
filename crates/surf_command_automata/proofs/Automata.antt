-- The surface of an automaton as text, and what it tells of the text that was read.
use Rattle.std.proofs.Common.{ℕ, ◌≡◌, ◌≤◌, arith, List, Option, Some, None, Result, Ok, Err, IfOk, MatchResult, is_ok, refl, sym, ◌∙◌, ap, subst}
use Rattle.std.proofs.lemmas.Bool.{false≢true}
use Rattle.surf_lattice.specs.Grids.{Grid}
use Rattle.surf_world.specs.Systems.{System}
use Rattle.surf_auto.specs.Counts.{Counts}
use Rattle.surf_auto.specs.Locals.{rule_count}
use Rattle.surf_auto.specs.Sync.{IsUniverse, Universe, universe}
use Rattle.surf_colony.specs.Colonies.{StartsWithin, framed, printed}
use Rattle.surf_colony.specs.InStep.{IsLast, KeepsInStep}
use Rattle.surf_manifest.specs.Grammar.{ManifestText, manifest_of}
use Rattle.surf_manifest_print.specs.Prints.{print_of}
use Rattle.surf_life.specs.Halves.{moore_rule}
use Rattle.surf_life.specs.Laws.{halves}
use Rattle.surf_life.proofs.Halves.{steps_by_eight}
use Rattle.surf_life.proofs.Rules.{starts_in_both}
use Rattle.surf_rle.specs.Sources.{Source, Plain, Eight, ShowsSteps, universe_of}
use Rattle.surf_command_automata.specs.Automata.{HoldsColony, colony_manifest, in_phases, printed_colony}
use Rattle.surf_command_automata.specs.Generations.{source_of}
use Rattle.surf_cells.specs.CellNames.{OfCells}
use Rattle.surf_command_automata.proofs.CellNames.{colony_of_cells}
use Rattle.surf_status.specs.declared.status.Refusal.{Refusal}

-- what holds of a value holds where only the error is another
pub mapped : {X E F : Type 0} (r : Result X E) (s : Result X F) (P : X → Type 0) (Q : E → Type 0) → MatchResult r (λ x. s ≡ Ok x) Q → is_ok s ≡ is_ok r → IfOk r P → IfOk s P
mapped (Ok x) s P Q is same p = subst (λ t. IfOk t P) (sym is) p
mapped (Err e) (Ok y) P Q is same p = absurd (false≢true (sym same))
mapped (Err e) (Err f) P Q is same p = tt

frame_of : {X F : Type 0} (r : Result X F) (of : X → System (List ℕ)) (U : Universe) (last : Option ℕ) → IfOk r (λ m. of m ≡ printed U last) → IfOk r (λ m. (of m).surface.grid ≡ framed U.grid)
frame_of (Ok m) of U last is = ap (λ (S : System (List ℕ)). S.surface.grid) is
frame_of (Err f) of U last is = tt

-- a colony is on the framed grid
pub on_frame : {X E F : Type 0} (r : Result X E) (s : Result X F) (of : X → System (List ℕ)) (U : Universe) (last : Option ℕ) (Q : E → Type 0) → MatchResult r (λ x. s ≡ Ok x) Q → is_ok s ≡ is_ok r → IfOk r (λ m. of m ≡ printed U last) → IfOk s (λ m. (of m).surface.grid ≡ framed U.grid)
on_frame r s of U last Q is same colony = frame_of s of U last (mapped r s (λ m. of m ≡ printed U last) Q is same colony)

cells_of : {X F : Type 0} (r : Result X F) (of : X → System (List ℕ)) (U : Universe) (last : Option ℕ) → OfCells (printed U last) → IfOk r (λ m. of m ≡ printed U last) → IfOk r (λ m. OfCells (of m))
cells_of (Ok m) of U last cells is = subst OfCells (sym is) cells
cells_of (Err f) of U last cells is = tt

-- the names of a colony are cells' and the frame's
pub of_cells : {X E F : Type 0} (r : Result X E) (s : Result X F) (of : X → System (List ℕ)) (U : Universe) (last : Option ℕ) (Q : E → Type 0) → IsUniverse U → StartsWithin U → IsLast last U.rule.phases → MatchResult r (λ x. s ≡ Ok x) Q → is_ok s ≡ is_ok r → IfOk r (λ m. of m ≡ printed U last) → IfOk s (λ m. OfCells (of m))
of_cells r s of U last Q universe starts whole is same colony = cells_of s of U last (colony_of_cells U last universe starts whole) (mapped r s (λ m. of m ≡ printed U last) Q is same colony)

-- the surface of a source is that of its universe
pub same_print : (last : Option ℕ) (S : Source) → printed_colony last (Ok S) ≡ printed_colony last (Ok (Plain (universe_of S)))
same_print None S = refl
same_print (Some last) S = refl

-- a source that an input spells
module _ (margin : ℕ) (last : Option ℕ) (input : List ℕ) (S : Source) (spelled : source_of margin input ≡ Ok S) where
  pub output_is : (r : Result (List ℕ) Refusal) → printed_colony last (Ok S) ≡ r → printed_colony last (source_of margin input) ≡ r
  output_is r is = ap (printed_colony last) spelled ∙ is

  pub holds : (m : ManifestText) → m ≡ colony_manifest (universe_of S) last → IsUniverse (universe_of S) → StartsWithin (universe_of S) → m.system.surface.grid ≡ framed (universe_of S).grid → OfCells m.system → KeepsInStep (universe_of S) (in_phases (universe_of S) last) m.system → ShowsSteps S → manifest_of (print_of m None) ≡ Ok m → HoldsColony margin last input (print_of m None)
  holds m colony universe starts grid names in_step steps read = record { source = S; spelled = spelled; manifest = m; read = read; colony = colony; universe = universe; starts = starts; grid = grid; names = names; in_step = in_step; steps = steps }

-- a universe shows its own steps
pub plain_steps : (U : Universe) → ShowsSteps (Plain U)
plain_steps U k s inside = refl

-- cells of which eight neighbours are counted, with a dead edge
module _ (C : Counts) (g : Grid) (edge : ℕ) (cells : List ℕ) (dead : edge ≡ 0) (is : IsUniverse (universe g (moore_rule C) edge cells)) where
  pub same_universe : universe_of (Eight C g cells) ≡ universe g (moore_rule C) edge cells
  same_universe = ap (λ e. universe g (moore_rule C) e cells) (sym dead)

  kept : IsUniverse (halves C g cells)
  kept = subst IsUniverse (sym same_universe) is

  pub eight_steps : ShowsSteps (Eight C g cells)
  eight_steps = λ k s inside. steps_by_eight C g cells kept k s inside

  pub starts_within : StartsWithin (universe g (moore_rule C) edge cells)
  starts_within = λ i f below phase. starts_in_both C g edge cells is i f below phase

-- they have few enough rules
pub few_rules : (C : Counts) → rule_count (moore_rule C) ≤ 1048576
few_rules C = let count : rule_count (moore_rule C) ≡ 555840 = refl in omega (arith, count)
