use Rattle.surf_command_traces.proofs.replaying.write_valid.Goals as goal

pub returns : goal.returns
returns g c = record { whole = c.write_pieces.ensures.all; front = c.write_pieces.ensures.front; later = c.write_pieces.ensures.later; cause = c.write_pieces.ensures.cause }
