-- The rules over numbers of names, and the rules over texts.
use Rattle.std.specs.Prelude.{◌≡◌, ℕ, List, map}
use Rattle.surf_rules.specs.declared.rule.Rule.{Rule}
use Rattle.surf_rules.specs.Names.{text_of}
use Rattle.surf_world.specs.Renamings.{renamed_rule}
use Rattle.surf_world.specs.Worlds as worlds
use Rattle.surf_tiles.specs.Reactions.{reactions}
use Rattle.surf_tiles.specs.Rules.{SayAll}
use Rattle.surf_settle.specs.Settling.{circuit_rules}

-- rules that are the reactions are, over texts, the rules of every circuit
abbrev pub AreCircuitRules : Type 0
AreCircuitRules = (texts : List (List ℕ)) (rules : List Rule) → SayAll texts rules reactions →
    map (λ r. renamed_rule (text_of texts) (worlds.rule_of r)) rules ≡ circuit_rules
