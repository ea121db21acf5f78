use Rattle.std.proofs.Common.{sym, subst}
use Rattle.surf_status.specs.Calls.{EndsAs}
use Rattle.surf_status.specs.Writes.{writes}
use Rattle.surf_top.specs.declared.job.Job.{Job}
use Rattle.surf_top.specs.Jobs.{meant}
use Rattle.surf_top.specs.Outputs.{call_of}
use Rattle.surf_top.proofs.top.carry_out.Goals as goal

pub returns-in-Eval-clause-ends : goal.returns-in-Eval-clause-ends
returns-in-Eval-clause-ends g c =
    subst (λ (job : Job). EndsAs (call_of (meant job) c.args.input.items) (writes g.K.Sink.written g.K.Sink.faults c.args.out.now c.evaluate.new.out) c.evaluate.result) (sym c.in-Eval.is) c.evaluate.ensures.ends

pub returns-in-Circuit-clause-ends : goal.returns-in-Circuit-clause-ends
returns-in-Circuit-clause-ends g c =
    subst (λ (job : Job). EndsAs (call_of (meant job) c.args.input.items) (writes g.K.Sink.written g.K.Sink.faults c.args.out.now c.compile_circuit.new.out) c.compile_circuit.result) (sym c.in-Circuit.is) c.compile_circuit.ensures.ends

pub returns-in-Set-clause-ends : goal.returns-in-Set-clause-ends
returns-in-Set-clause-ends g c =
    subst (λ (job : Job). EndsAs (call_of (meant job) c.args.input.items) (writes g.K.Sink.written g.K.Sink.faults c.args.out.now c.set.new.out) c.set.result) (sym c.in-Set.is) c.set.ensures.ends
