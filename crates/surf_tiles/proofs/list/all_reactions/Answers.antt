use Rattle.std.proofs.Common.{◌≡◌, ◌++◌, List, ap, ◌∙◌}
use Rattle.surf_tiles.specs.declared.reaction.Reaction.{Reaction}
use Rattle.surf_tiles.specs.Reactions.{reactions}
use Rattle.surf_tiles.proofs.list.all_reactions.Goals as goal

then : (a b c g : List Reaction) → a ≡ c → b ≡ a ++ g → b ≡ c ++ g
then a b c g d e = e ∙ ap (λ v. v ++ g) d

-- the groups follow one another
pub returns : goal.returns
unfolding reactions
returns c =
    let wires = then _ _ _ _ c.in_ok-list.ensures c.in_ok-put_wires.ensures in
    let ports = then _ _ _ _ wires c.in_ok-put_ports.ensures in
    let gates = then _ _ _ _ ports c.in_ok-put_one_gates.ensures in
    let across = then _ _ _ _ gates c.in_ok-put_across.ensures in
    let down = then _ _ _ _ across c.in_ok-put_down.ensures in
    let across_out = then _ _ _ _ down c.in_ok-put_across_out.ensures in
    let down_out = then _ _ _ _ across_out c.in_ok-put_down_out.ensures in
    let two = then _ _ _ _ down_out c.in_ok-put_two_gates.ensures in
    let last = then _ _ _ _ two c.in_ok-put_last_a.ensures in
    then _ _ _ _ last c.in_ok-put_last_b.ensures
