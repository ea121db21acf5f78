-- Small texts, by computing.
use Rattle.std.proofs.Common.{ℕ, ◌≡◌, true, false, List, [], ◌∷◌, ◌++◌, codes, refl, Some, None}
use Rattle.std.specs.Str.{bytes_eq}
use Rattle.surf_text.specs.Bytes.{ended}
use Rattle.surf_logic.specs.declared.equation.Literal.TheVariants.{Zero, One, Any}
use Rattle.surf_logic.specs.Equations.{cost_of}
use Rattle.surf_logic.specs.Order.{Fault, list_fault, DeclaredTwice, DrivenTwice, NoOutputs, Undriven}
use Rattle.surf_blif.specs.Blifs.{parts_of, text_fault}
use Rattle.surf_blif.specs.Grammar.{TextFault, Unsupported, BadLine, BadCover, MixedCover}

abbrev HasFault : List (List ℕ) → TextFault → Type 0
HasFault ls f = text_fault (ended ls) ≡ Some f

abbrev HasListFault : List (List ℕ) → Fault (List ℕ) → Type 0
HasListFault ls f = list_fault bytes_eq (parts_of (ended ls)) ≡ Some f

abbrev head : List (List ℕ) → List (List ℕ)
head ls = codes ".inputs a" ∷ codes ".outputs o" ∷ ls

inverter : parts_of (ended (codes ".inputs a" ∷ codes ".outputs b" ∷ codes ".names a b" ∷ codes "0 1" ∷ [])) ≡ record {
  inputs = codes "a" ∷ [];
  outputs = codes "b" ∷ [];
  equations = (record { output = codes "b"; inputs = codes "a" ∷ []; rows = (Zero ∷ []) ∷ []; polarity = true }) ∷ [];
}
inverter = refl

-- constants: without rows, with a row of no inputs, and with outputs 0
constants : (parts_of (ended (codes ".names a" ∷ codes ".names b" ∷ codes "1" ∷ codes ".names c" ∷ codes "0" ∷ []))).equations ≡
    (record { output = codes "a"; inputs = []; rows = []; polarity = true })
    ∷ (record { output = codes "b"; inputs = []; rows = [] ∷ []; polarity = true })
    ∷ (record { output = codes "c"; inputs = []; rows = [] ∷ []; polarity = false }) ∷ []
constants = refl

-- a comment, a line that goes on, empty lines, and rows in one cover; what follows the model is not read
joined : parts_of (ended (codes ".model m # n" ∷ codes ".inputs a \\ # b" ∷ codes "c" ∷ [] ∷ codes ".names a c \\" ∷ codes "o" ∷ codes "1- 0" ∷ codes "#" ∷ codes "01 0" ∷ codes ".model p" ∷ codes ".inputs q" ∷ [])) ≡ record {
  inputs = codes "a" ∷ codes "c" ∷ [];
  outputs = [];
  equations = (record { output = codes "o"; inputs = codes "a" ∷ codes "c" ∷ []; rows = (One ∷ Any ∷ []) ∷ (Zero ∷ One ∷ []) ∷ []; polarity = false }) ∷ [];
}
joined = refl

cost : cost_of (parts_of (ended (head (codes ".names a a o" ∷ codes "1- 1" ∷ codes "-- 1" ∷ [])))) ≡ 6
cost = refl

-- faults of lines
mixed : HasFault (head (codes ".names a o" ∷ codes "0 1" ∷ codes "1 0" ∷ [])) (MixedCover 5)
mixed = refl

bad_cover : HasFault (head (codes ".names a o" ∷ codes "01 1" ∷ [])) (BadCover 4)
bad_cover = refl

gate : HasFault (head (codes ".gate inv A=a O=o" ∷ [])) (Unsupported 3 (codes ".gate"))
gate = refl

no_signals : HasFault (head (codes ".names" ∷ [])) (BadLine 3)
no_signals = refl

no_cover : HasFault (codes ".names a o" ∷ codes ".outputs o" ∷ codes "1 1" ∷ []) (BadLine 3)
no_cover = refl

-- the number is that of the first line of those that are joined
first_number : HasFault (codes ".names \\ # c" ∷ codes "a o" ∷ codes "1 \\" ∷ codes "2" ∷ []) (BadCover 3)
first_number = refl

-- a byte that may not stand goes before the directive, also in a line that ends the model, and not in the next model
byte_first : HasFault ((codes ".gate " ++ 7 ∷ []) ∷ []) (BadLine 1)
byte_first = refl

byte_at_end : HasFault (codes ".model m" ∷ (codes ".end " ++ 127 ∷ []) ∷ []) (BadLine 2)
byte_at_end = refl

byte_behind : text_fault (ended (codes ".model m" ∷ (codes ".model " ++ 127 ∷ []) ∷ codes ".gate" ∷ [])) ≡ None
byte_behind = refl

-- faults of equations
undriven : HasListFault (head (codes ".names z o" ∷ codes "1 1" ∷ [])) (Undriven (codes "z"))
undriven = refl

driven_twice : HasListFault (head (codes ".names a o" ∷ codes "1 1" ∷ codes ".names o" ∷ [])) (DrivenTwice (codes "o"))
driven_twice = refl

no_outputs : HasListFault (codes ".inputs a" ∷ codes ".outputs" ∷ []) NoOutputs
no_outputs = refl

declared_twice : HasListFault (codes ".inputs a" ∷ codes ".outputs a a" ∷ []) (DeclaredTwice (codes "a"))
declared_twice = refl
