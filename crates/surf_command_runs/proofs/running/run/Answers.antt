use Rattle.std.proofs.Common.{ap, sym, ◌∙◌}
use Rattle.surf_manifest.specs.Grammar.{manifest_of}
use Rattle.surf_command_runs.proofs.running.run.Goals as goal

pub returns-in-Square-clause-ends : goal.returns-in-Square-clause-ends
returns-in-Square-clause-ends g c = c.run_on.ensures.ends c.args.input.items (ap manifest_of (sym c.deref.ensures.value) ∙ c.in-Ok.ensures.ok)

pub returns-in-Hex-clause-ends : goal.returns-in-Hex-clause-ends
returns-in-Hex-clause-ends g c = c.run_on-in-Hex.ensures.ends c.args.input.items (ap manifest_of (sym c.deref.ensures.value) ∙ c.in-Ok.ensures.ok)

pub returns-in-TorusSquare-clause-ends : goal.returns-in-TorusSquare-clause-ends
returns-in-TorusSquare-clause-ends g c = c.run_on-in-TorusSquare.ensures.ends c.args.input.items (ap manifest_of (sym c.deref.ensures.value) ∙ c.in-Ok.ensures.ok)

pub returns-in-TorusHex-clause-ends : goal.returns-in-TorusHex-clause-ends
returns-in-TorusHex-clause-ends g c = c.run_on-in-TorusHex.ensures.ends c.args.input.items (ap manifest_of (sym c.deref.ensures.value) ∙ c.in-Ok.ensures.ok)
