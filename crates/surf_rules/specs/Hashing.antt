-- Where the hash of a name begins.
use Rattle.std.specs.Prelude.{ℕ, List, fold}
use Rattle.std.specs.Hash as fed
use Rattle.std.specs.Hash.DefaultHasher as sip
use Rattle.std.specs.Hash.FoldHasher as folding
use Rattle.std.specs.declared.hash.FoldHasher.{FoldHasher}

-- the state that the SipHash of a text leads to
abbrev pub start_of : List ℕ → FoldHasher
start_of text = fold folding.write folding.initial (fed.u64 (sip.finish (sip.write sip.initial text)))
