use Rattle.std.proofs.Common.{[], ℕ, List, subst}
use Rattle.surf_base.specs.Known.{AppendsFront}
use Rattle.surf_base.proofs.EmitLemmas.{emits_cut, cut_held}
use Rattle.surf_base.proofs.outbox.Outbox.flush.Goals as goal

pub returns-in_err-write_all-clause-emits : goal.returns-in_err-write_all-clause-emits
returns-in_err-write_all-clause-emits g c =
    let front = subst (λ (t : List ℕ). AppendsFront (g.K.Sink.written c.args.sink.now) (g.K.Sink.written c.write_all.new.sink) t) c.self.view_is c.in_err-write_all.ensures.front in
    emits_cut _ _ _ _ _ _ [] _ c.from_residual.ensures.0 (cut_held _ _ _ front) c.write_all.ensures.cause.later c.in_err-write_all.ensures.cause.failed
