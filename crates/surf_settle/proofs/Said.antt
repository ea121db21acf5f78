-- Rules over numbers say the reactions, text by text.
use Rattle.std.proofs.Common.{◌≡◌, ℕ, List, [], ◌∷◌, map, Option, Some, None, slice_get, unwrap_or, refl, ap}
use Rattle.std.specs.Option.{option_map, option_and_then}
use Rattle.surf_rules.specs.declared.rule.Rule.{Rule}
use Rattle.surf_rules.specs.Names.{text_of}
use Rattle.surf_world.specs.Renamings.{renamed_rule}
use Rattle.surf_world.specs.Worlds as worlds
use Rattle.surf_tiles.specs.declared.reaction.Reaction.{Reaction}
use Rattle.surf_tiles.specs.Rules.{Says, SayAll}
use Rattle.surf_settle.specs.Settling.{rule_of}

text_at : (texts : List (List ℕ)) (k : ℕ) (t : List ℕ) → slice_get texts k ≡ Some t → text_of texts k ≡ t
text_at texts k t is = ap (λ o. unwrap_or o []) is

option_at : (texts : List (List ℕ)) (o : Option ℕ) (t : List ℕ) → option_and_then (slice_get texts) o ≡ Some t → option_map (text_of texts) o ≡ Some t
option_at texts None t is = absurd cc
option_at texts (Some k) t is = ap Some (text_at texts k t is)

one : (texts : List (List ℕ)) (rule : Rule) (r : Reaction) → Says texts rule r → renamed_rule (text_of texts) (worlds.rule_of rule) ≡ rule_of r
one texts rule r h =
    let left = text_at texts rule.left _ h.left in
    let right = option_at texts rule.right _ h.right in
    let left_after = text_at texts rule.left_after _ h.left_after in
    let right_after = option_at texts rule.right_after _ h.right_after in
    rw (h.rate, left, right, left_after, right_after) refl

pub named : (texts : List (List ℕ)) (rules : List Rule) (rs : List Reaction) → SayAll texts rules rs → map (λ r. renamed_rule (text_of texts) (worlds.rule_of r)) rules ≡ map rule_of rs
named texts [] [] h = refl
named texts [] (r ∷ rs) h = absurd h
named texts (rule ∷ rules) [] h = absurd h
named texts (rule ∷ rules) (r ∷ rs) h = cc (one texts rule r h.0, named texts rules rs h.1)
