-- The surface of the automaton that a text spells, as text.
use Rattle.std.specs.Prelude.{ℕ, ◌≡◌, ◌*◌, nat_lt, List, [], Option, Some, None, Result, Ok, Err, if◌then◌else◌}
use Rattle.surf_auto.specs.Locals.{rule_count_in}
use Rattle.surf_auto.specs.Sync.{IsUniverse, Universe}
use Rattle.surf_auto.specs.declared.error.SourceError.{SourceError}
use Rattle.surf_auto.specs.declared.error.SourceError.TheVariants.{TooManyRules}
use Rattle.surf_colony.specs.Colonies.{StartsWithin, framed, printed}
use Rattle.surf_colony.specs.InStep.{KeepsInStep}
use Rattle.surf_manifest.specs.Grammar.{ManifestText, manifest_of}
use Rattle.surf_manifest_print.specs.Prints.{print_of}
use Rattle.surf_rle.specs.Sources.{ShowsSteps, universe_of}
use Rattle.surf_rle.specs.Sources as sources
use Rattle.surf_status.specs.declared.status.Refusal.{Refusal}
use Rattle.surf_status.specs.declared.status.Refusal.TheVariants.{Source}
use Rattle.surf_command_automata.specs.Generations.{source_of}
use Rattle.surf_cells.specs.CellNames.{OfCells}

-- a last generation, if one is given, in phases of the automaton's rule
abbrev pub in_phases : Universe → Option ℕ → Option ℕ
in_phases U None = None
in_phases U (Some last) = Some (last * U.rule.phases)

-- the manifest of the surface on which the automaton's cells keep in step
abbrev pub colony_manifest : Universe → Option ℕ → ManifestText
colony_manifest U last =
    record { options = []; system = printed U (in_phases U last); colormap = None }

abbrev pub colony_text : Universe → Option ℕ → List ℕ
colony_text U last = print_of (colony_manifest U last) None

-- a text, unless there are more rules than a manifest may have
abbrev pub unless_many : ℕ → List ℕ → Result (List ℕ) Refusal
unless_many rules text = if nat_lt 1048576 rules then Err (Source (TooManyRules rules)) else Ok text

-- A last generation, where one is given, multiplies the rules. Without one the source's own limit
-- holds of them.
abbrev pub printed_colony : Option ℕ → Result sources.Source SourceError → Result (List ℕ) Refusal
printed_colony last (Err e) = Err (Source e)
printed_colony None (Ok S) = Ok (colony_text (universe_of S) None)
printed_colony (Some last) (Ok S) =
    unless_many (rule_count_in last (universe_of S).rule) (colony_text (universe_of S) (Some last))

-- The grammar reads in the text the colony of what the input spells: a manifest on the framed grid,
-- whose names are cells' and the frame's, and in every run of which the cells keep in step. A
-- generation is a phase there, and after all phases of k steps each cell shows what the source shows
-- after k steps.
pub record HoldsColony (margin : ℕ) (last : Option ℕ) (input text : List ℕ) : Type 0 where
  pub source : sources.Source
  pub spelled : source_of margin input ≡ Ok source
  pub manifest : ManifestText
  pub read : manifest_of text ≡ Ok manifest
  pub colony : manifest ≡ colony_manifest (universe_of source) last
  pub universe : IsUniverse (universe_of source)
  pub starts : StartsWithin (universe_of source)
  pub grid : manifest.system.surface.grid ≡ framed (universe_of source).grid
  pub names : OfCells manifest.system
  pub in_step :
      KeepsInStep (universe_of source) (in_phases (universe_of source) last) manifest.system
  pub steps : ShowsSteps source
