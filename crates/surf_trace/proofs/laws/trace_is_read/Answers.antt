use Rattle.surf_trace.proofs.ReadBack.{trace_back}
use Rattle.surf_trace.proofs.laws.trace_is_read.Goals as goal

pub returns : goal.returns
returns c = trace_back
