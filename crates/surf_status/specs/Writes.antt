-- What a call did to a sink.
use Rattle.std.specs.Prelude.{ℕ, ◌≤◌, List, Option, Result, OnOk, OnErr}
use Rattle.std.specs.Io.KnownBytes.{Appends}
use Rattle.surf_base.specs.Causes.{Rose}
use Rattle.surf_base.specs.Known.{AppendsFront}

-- the bytes that were written and the count of faults, at a call's entry and at its return
pub record Writes : Type 0 where
  pub old : Option (List ℕ)
  pub new : Option (List ℕ)
  pub before : ℕ
  pub now : ℕ

-- the same, as a sink tells them
abbrev pub writes : {K : Type 0} → (K → Option (List ℕ)) → (K → ℕ) → K → K → Writes
writes written faults old new =
    record { old = written old; new = written new; before = faults old; now = faults new }

-- a text was written whole, or a front of it where the sink failed
pub record Wrote {T E : Type 0} (w : Writes) (text : List ℕ) (result : Result T E) : Type 0 where
  pub whole : OnOk result (Appends w.old w.new text)
  pub front : OnErr result (AppendsFront w.old w.new text)
  pub later : w.before ≤ w.now
  pub cause : OnErr result (Rose w.before w.now)
