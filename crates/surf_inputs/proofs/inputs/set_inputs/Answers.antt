use Rattle.std.proofs.Common.{false, true}
use Rattle.surf_inputs.specs.Inputs.{bit_name}
use Rattle.surf_inputs.proofs.InputLemmas.{added_at}
use Rattle.surf_inputs.proofs.inputs.set_inputs.Goals as goal

-- `0` keeps its number where `1` is added
pub put_bits-requires-clause-zero : goal.put_bits-requires-clause-zero
put_bits-requires-clause-zero c =
    added_at c.intern.new.manifest c.intern-2.new.manifest (bit_name true) c.in_ok-zero.zero (bit_name false) c.in_ok-one.ensures.grown c.in_ok-zero.ensures.found

pub put_bits-requires-clause-one : goal.put_bits-requires-clause-one
put_bits-requires-clause-one c = c.in_ok-one.ensures.found
