-- What a refusal says. Want of memory says nothing.
use Rattle.std.specs.Prelude.{◌≡◌, Result, Err}
use Rattle.surf_manifest_lines.specs.declared.error.ManifestError.{ManifestError}
use Rattle.surf_manifest_lines.specs.declared.error.ManifestError.TheVariants.{BadLine, BadRule, BadRate, Ragged, Include, BlockTwice, BadOption, Unclosed, MissingBlock, NoSites, TooManyRules, TooManySites, WrapSize, NoMemory}

-- the refusal is this fault, or memory fails
abbrev pub Refuses : {M : Type 0} → Result M ManifestError → ManifestError → Type 0
Refuses r (BadLine n) = r ≡ Err (BadLine n)
Refuses r (BadRule n) = r ≡ Err (BadRule n)
Refuses r (BadRate n) = r ≡ Err (BadRate n)
Refuses r (Ragged n) = r ≡ Err (Ragged n)
Refuses r (Include n) = r ≡ Err (Include n)
Refuses r (BlockTwice n) = r ≡ Err (BlockTwice n)
Refuses r (BadOption n) = r ≡ Err (BadOption n)
Refuses r (Unclosed n) = r ≡ Err (Unclosed n)
Refuses r (MissingBlock b) = r ≡ Err (MissingBlock b)
Refuses r NoSites = r ≡ Err NoSites
Refuses r (TooManyRules n) = r ≡ Err (TooManyRules n)
Refuses r (TooManySites n) = r ≡ Err (TooManySites n)
Refuses r WrapSize = r ≡ Err WrapSize
Refuses r NoMemory = Unit {0}
