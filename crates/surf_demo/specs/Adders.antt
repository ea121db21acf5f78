-- A circuit that adds two numbers of n bits and a carry, as text, and the bits at which it is shown.
use Rattle.std.specs.Prelude.{ℕ, zero, suc, ◌+◌, Bool, true, false, ◌==◌, List, [], ◌∷◌, ◌++◌, codes, replicate}
use Rattle.std.specs.Fmt.{decimal}

-- a name: its kind behind a blank, and a number
abbrev pub name_text : List ℕ → ℕ → List ℕ
name_text kind i = kind ++ decimal i

-- the names of a kind with the numbers below n
abbrev pub names_text : List ℕ → ℕ → List ℕ
names_text kind zero = []
names_text kind (suc n) = names_text kind n ++ name_text kind n

-- two bits and the carry that comes to them, and what is driven by them
abbrev pub cover_text : ℕ → List ℕ → List ℕ
cover_text i rest =
    codes ".names a"
    ++ (decimal i ++ (codes " b" ++ (decimal i ++ (codes " c" ++ (decimal i ++ rest)))))

-- their sum is 1 where one of the three is, or all are
abbrev pub sum_text : ℕ → List ℕ
sum_text i =
    cover_text i (codes " s" ++ (decimal i ++ codes "\n100 1\n010 1\n001 1\n111 1\n"))

-- the next carry is 1 where two of the three are
abbrev pub carry_text : ℕ → List ℕ
carry_text i =
    cover_text i (codes " c" ++ (decimal (i + 1) ++ codes "\n11- 1\n1-1 1\n-11 1\n"))

-- the covers of the n lowest bits
abbrev pub covers_text : ℕ → List ℕ
covers_text zero = []
covers_text (suc i) = covers_text i ++ (sum_text i ++ carry_text i)

-- the two numbers and a carry come in, their sum and a carry go out
abbrev pub inputs_text : ℕ → List ℕ
inputs_text n =
    codes ".inputs"
    ++ (names_text (codes " a") n ++ (names_text (codes " b") n ++ codes " c0\n"))

abbrev pub outputs_text : ℕ → List ℕ
outputs_text n =
    codes ".outputs"
    ++ (names_text (codes " s") n ++ (name_text (codes " c") n ++ codes "\n"))

abbrev pub adder_text : ℕ → List ℕ
adder_text n =
    codes ".model adder\n"
    ++ (inputs_text n ++ (outputs_text n ++ (covers_text n ++ codes ".end\n")))

-- the number 1 in n bits, the lowest first
abbrev pub one_bits : ℕ → List Bool
one_bits zero = []
one_bits (suc i) = one_bits i ++ (i == 0) ∷ []

-- all bits of a are 1, b is the number 1, and no carry comes in
abbrev pub adder_bits : ℕ → List Bool
adder_bits n = replicate n true ++ (one_bits n ++ false ∷ [])
