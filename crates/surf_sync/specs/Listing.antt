-- The order in which the names of a colony are numbered, and lists of rules over their numbers.
use Rattle.std.specs.Prelude.{◌≡◌, ℕ, suc, ◌+◌, ◌*◌, List, [], ◌∷◌, ◌++◌, map, Option, Some, slice_get}
use Rattle.std.specs.List.{flat_map}
use Rattle.surf_rules.specs.Names.{with_text}
use Rattle.surf_rules.specs.declared.rule.Rule.{Rule}
use Rattle.surf_world.specs.Renamings.{renamed_rule}
use Rattle.surf_world.specs.Systems as systems
use Rattle.surf_world.specs.Worlds.{rule_of}
use Rattle.surf_auto.specs.Locals.{code_count, sum_below}
use Rattle.surf_sync.specs.Codes.{Mark, Protocol, fields_by, phase}
use Rattle.surf_sync.specs.Codes.Mark.{Frame, Cell}
use Rattle.surf_sync.specs.Rules.{below, codes_of}
use Rattle.surf_sync.specs.Spelling.{spell}

abbrev pub frame_marks : Protocol → List Mark
frame_marks P = map Frame (below (suc P.rule.degree))

-- the cells of one generation and colour
abbrev pub block_marks : Protocol → ℕ → ℕ → List Mark
block_marks P generation colour = map Cell (codes_of P (phase P.rule generation) generation colour)

abbrev pub generation_marks : Protocol → ℕ → List Mark
generation_marks P generation = flat_map (block_marks P generation) (below (suc P.rule.degree))

-- the frame first, then the cells by generation and colour
unfoldable pub marks_of : Protocol → List Mark
marks_of P = frame_marks P ++ flat_map (generation_marks P) (below (fields_by P.last P.rule.phases))

-- where the cells of a generation begin
abbrev pub start_of : Protocol → ℕ → ℕ
start_of P generation =
    suc P.rule.degree
    + sum_below (λ g. suc P.rule.degree * code_count P.rule (phase P.rule g)) generation

-- the texts with more, each of which goes last where it is new
abbrev pub with_texts : List (List ℕ) → List (List ℕ) → List (List ℕ)
with_texts old [] = old
with_texts old (t ∷ ts) = with_texts (with_text old t) ts

-- each text keeps its number
abbrev pub Keeps : List (List ℕ) → List (List ℕ) → Type 0
Keeps old new = (k : ℕ) (t : List ℕ) → slice_get old k ≡ Some t → slice_get new k ≡ Some t

-- the numbers name these texts
abbrev pub Name : List (List ℕ) → List ℕ → List (List ℕ) → Type 0
Name names numbers texts = map (slice_get names) numbers ≡ map Some texts

-- more texts were numbered
pub record Numbers (old : List (List ℕ)) (before : List ℕ) (texts : List (List ℕ))
    (new : List (List ℕ)) (after : List ℕ) : Type 0 where
  pub names : new ≡ with_texts old texts
  pub numbers : (known : List (List ℕ)) → Name old before known → Name new after (known ++ texts)

-- a rule over the numbers of texts, and what it says
abbrev pub said : List (List ℕ) → Rule → systems.Rule (Option (List ℕ))
said texts r = renamed_rule (slice_get texts) (rule_of r)

abbrev pub spelled : systems.Rule Mark → systems.Rule (Option (List ℕ))
spelled r = renamed_rule (λ m. Some (spell m)) r

-- the rules over the numbers of these texts are these
abbrev pub Say : List (List ℕ) → List Rule → List (systems.Rule Mark) → Type 0
Say texts rules marked = map (said texts) rules ≡ map spelled marked

-- these rules were added
abbrev pub Adds : List (List ℕ) → List Rule → List (systems.Rule Mark) → List Rule → Type 0
Adds texts before marked after =
    (known : List (systems.Rule Mark)) → Say texts before known → Say texts after (known ++ marked)
