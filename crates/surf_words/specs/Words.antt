-- The commands, and the words that spell them.
use Rattle.std.specs.Prelude.{ℕ, ◌≤◌, Bool, ◌&&◌, ◌||◌, ◌==◌, nat_le, List, [], ◌∷◌, codes, Option, Some, None, IfSome, option_and_then, if◌then◌else◌}
use Rattle.std.specs.Option.{option_map}
use Rattle.std.specs.List.{list_all}
use Rattle.std.specs.Str.{bytes_eq}
use Rattle.surf_base.specs.Decimal.{decimal_of}
use Rattle.surf_words.specs.declared.command.Command.{Command}
use Rattle.surf_words.specs.declared.command.Command.TheVariants as variants

-- a command with its values
pub data Spoken : Type 0 where
  Run : ℕ → ℕ → Spoken
  Format : Spoken
  Eval : List ℕ → Spoken
  Circuit : Spoken
  Set : List ℕ → Spoken
  Automaton : ℕ → Option ℕ → Spoken
  Step : ℕ → Spoken
  Replay : Spoken
  Outputs : Spoken
  Observe : ℕ → Spoken
  DemoAdder : ℕ → Spoken
  DemoVote : ℕ → Spoken

-- a command of the program as the definitions see it
abbrev pub spoken : Command → Spoken
spoken (variants.Run seed count) = Run seed count
spoken variants.Format = Format
spoken (variants.Eval bits) = Eval bits.now
spoken variants.Circuit = Circuit
spoken (variants.Set bits) = Set bits.now
spoken (variants.Automaton margin last) = Automaton margin last
spoken (variants.Step times) = Step times
spoken variants.Replay = Replay
spoken variants.Outputs = Outputs
spoken (variants.Observe k) = Observe k
spoken (variants.DemoAdder n) = DemoAdder n
spoken (variants.DemoVote n) = DemoVote n

-- the margin of an automaton and its last generation, if one is given, and the size of a
-- demonstration are within their limits
abbrev pub IsWithin : Spoken → Type 0
IsWithin (Automaton margin last) = (margin ≤ 1000) × IfSome last (λ n. (1 ≤ n) × (n ≤ 1000000))
IsWithin (DemoAdder n) = (1 ≤ n) × (n ≤ 32)
IsWithin (DemoVote n) = (1 ≤ n) × (n ≤ 64)
IsWithin other = Unit {0}

-- BITS: a word of 0 and 1, which may be empty
abbrev pub is_bit : ℕ → Bool
is_bit b = (b == 48) || (b == 49)

abbrev pub bits_of : List ℕ → Option (List ℕ)
bits_of w = if list_all is_bit w then Some w else None

-- a decimal from least to most
abbrev pub within : ℕ → ℕ → ℕ → Option ℕ
within least most n = if nat_le least n && nat_le n most then Some n else None

abbrev pub number_of : ℕ → ℕ → List ℕ → Option ℕ
number_of least most w = option_and_then (within least most) (decimal_of w)

abbrev pub one_word : List ℕ → Option Spoken
one_word w =
    if bytes_eq w (codes "format") then Some Format
    else (if bytes_eq w (codes "circuit") then Some Circuit
    else (if bytes_eq w (codes "replay") then Some Replay
    else (if bytes_eq w (codes "outputs") then Some Outputs
    else None)))

abbrev pub two_words : List ℕ → List ℕ → Option Spoken
two_words w a =
    if bytes_eq w (codes "eval") then option_map Eval (bits_of a)
    else (if bytes_eq w (codes "set") then option_map Set (bits_of a)
    else (if bytes_eq w (codes "automaton") then option_map (λ m. Automaton m None)
    (number_of 0 1000 a)
    else (if bytes_eq w (codes "step") then option_map Step (number_of 0 1000000 a)
    else (if bytes_eq w (codes "observe") then option_map Observe (decimal_of a)
    else None))))

abbrev pub demo_words : List ℕ → List ℕ → Option Spoken
demo_words w a =
    if bytes_eq w (codes "adder") then option_map DemoAdder (number_of 1 32 a)
    else (if bytes_eq w (codes "vote") then option_map DemoVote (number_of 1 64 a)
    else None)

abbrev pub run_words : List ℕ → List ℕ → Option Spoken
run_words seed count =
    option_and_then (λ s. option_map (λ n. Run s n) (decimal_of count)) (decimal_of seed)

abbrev pub automaton_words : List ℕ → List ℕ → Option Spoken
automaton_words margin last =
    option_and_then (λ m. option_map (λ n. Automaton m (Some n)) (number_of 1 1000000 last))
    (number_of 0 1000 margin)

abbrev pub three_words : List ℕ → List ℕ → List ℕ → Option Spoken
three_words w a b =
    if bytes_eq w (codes "run") then run_words a b
    else (if bytes_eq w (codes "automaton") then automaton_words a b
    else (if bytes_eq w (codes "demo") then demo_words a b
    else None))

-- the command that the words spell, if they are in the table
abbrev pub words_of : List (List ℕ) → Option Spoken
words_of [] = None
words_of (w ∷ []) = one_word w
words_of (w ∷ a ∷ []) = two_words w a
words_of (w ∷ a ∷ b ∷ []) = three_words w a b
words_of (w ∷ a ∷ b ∷ c ∷ rest) = None
