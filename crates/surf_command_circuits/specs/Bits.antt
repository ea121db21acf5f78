-- Words of bits.
use Rattle.std.specs.Prelude.{ℕ, Bool, ◌==◌, List, map}

-- the bits that a word of 0 and 1 spells
abbrev pub bits_of : List ℕ → List Bool
bits_of word = map (λ b. b == 49) word
