use Rattle.std.proofs.Common.{IfOk, ◌≡◌, subst}
use Rattle.surf_tally.specs.declared.summary.Tally.{Tally}
use Rattle.surf_command_vote.proofs.Counted.{numbered_tally}
use Rattle.surf_command_vote.proofs.voting.tally_on.Goals as goal

pub returns : goal.returns
returns g c =
    subst (λ (u : Tally). IfOk c.tally_world.result (λ t. t ≡ u))
    (numbered_tally c.args.manifest.text.system c.in_ok-world.world c.in_ok-world.names c.args.count c.args.places.now c.in_ok-world.ensures.numbered)
    c.tally_world.ensures
