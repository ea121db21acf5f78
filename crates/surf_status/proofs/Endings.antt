-- How a command ends whose text was written.
use Rattle.std.proofs.Common.{ℕ, ◌≡◌, List, Result, Ok, Err, sym, subst}
use Rattle.surf_status.specs.declared.status.Status.{Status}
use Rattle.surf_status.specs.Calls.{Call, EndsAs, IsQuiet}
use Rattle.surf_status.specs.Endings.{status_of}
use Rattle.surf_status.specs.Writes.{Writes, Wrote}

pub text_ends : {T E : Type 0} (call : Call) (w : Writes) (text : List ℕ) (r : Result T E) (s : Status) → s ≡ status_of r → call.Is text → call.Shows text → Wrote w text r → EndsAs call w s
text_ends call w text (Ok x) s is of shows wrote =
    subst (λ (p : Status). EndsAs call w p) (sym is) (record { text = text; is = of; shows = shows; whole = wrote.whole })
text_ends call w text (Err x) s is of shows wrote =
    subst (λ (p : Status). EndsAs call w p) (sym is) (wrote.cause, record { text = text; is = of; shows = shows; front = wrote.front })

pub loud : {T E : Type 0} (r : Result T E) (s : Status) → s ≡ status_of r → IsQuiet s → ⊥
loud (Ok x) s is quiet = subst IsQuiet is quiet
loud (Err x) s is quiet = subst IsQuiet is quiet
