-- What a printer does to a sink and to the bytes that are held on their way to it.
use Rattle.std.specs.Prelude.{ℕ, ◌≡◌, ◌≤◌, List, ◌++◌, length, Option, Result, OnOk, OnErr}
use Rattle.std.specs.Io.KnownBytes.{Appends}
use Rattle.surf_base.specs.Causes.{Rose}
use Rattle.surf_base.specs.Known.{AppendsFront}

-- a sink and the bytes held on their way to it, at one moment
pub record Outlet : Type 0 where
  pub written : Option (List ℕ)
  pub held : List ℕ
  pub faults : ℕ

abbrev pub outlet : Option (List ℕ) → List ℕ → ℕ → Outlet
outlet written held faults = record { written = written; held = held; faults = faults }

-- the text follows what was held, and of both together all was sent but what is left
pub record Sent (old new : Option (List ℕ)) (held left text : List ℕ) : Type 0 where
  pub sent : List ℕ
  pub appended : Appends old new sent
  pub all : sent ++ left ≡ held ++ text

-- the sink failed: of what was held and the text some bytes had been sent, and a front of the rest
-- was sent then; of the rest all is left but the end of the text
pub record Cut (old new : Option (List ℕ)) (held left text : List ℕ) : Type 0 where
  pub sent : List ℕ
  pub dropped : List ℕ
  pub between : Option (List ℕ)
  pub before : Appends old between sent
  pub front : AppendsFront between new (left ++ dropped)
  pub all : sent ++ (left ++ dropped) ≡ held ++ text
  pub of_text : length dropped ≤ length text

-- the text was taken whole, or the sink failed on the way
pub record Emits {T E : Type 0} (old new : Outlet) (text : List ℕ) (result : Result T E) :
    Type 0 where
  pub whole : OnOk result (Sent old.written new.written old.held new.held text)
  pub cut : OnErr result (Cut old.written new.written old.held new.held text)
  pub later : old.faults ≤ new.faults
  pub cause : OnErr result (Rose old.faults new.faults)
