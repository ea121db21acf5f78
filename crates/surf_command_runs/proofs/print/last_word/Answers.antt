use Rattle.std.proofs.Common.{ap, sym, ◌∙◌}
use Rattle.std.proofs.lemmas.Bool.{false≢true}
use Rattle.surf_world.proofs.Chosen.{none_from_stuck, stuck_from_none}
use Rattle.surf_command_runs.specs.Runs.{word_for}
use Rattle.surf_command_runs.proofs.LastWords.{not_none}
use Rattle.surf_command_runs.proofs.print.last_word.Goals as goal

pub returns-then-is_stuck : goal.returns-then-is_stuck
returns-then-is_stuck g c =
    ap word_for (sym (none_from_stuck c.args.world.now.surface c.args.world.now.names (c.is_stuck.ensures.0 c.if-is_stuck.true)))

pub returns-else-is_stuck : goal.returns-else-is_stuck
returns-else-is_stuck g c =
    sym (not_none _ (λ none. false≢true (sym c.if-is_stuck.false ∙ c.is_stuck.ensures.1 (stuck_from_none c.args.world.now.surface c.args.world.now.names none))))
