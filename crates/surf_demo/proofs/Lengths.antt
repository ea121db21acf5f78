-- The texts are short.
use Rattle.std.proofs.Common.{ℕ, zero, suc, ◌+◌, ◌*◌, ◌<◌, ◌≤◌, List, [], ◌∷◌, ◌++◌, length, codes, arith, length-append}
use Rattle.std.specs.Fmt.{decimal}
use Rattle.std.proofs.lemmas.Fmt.{length-decimal-le}
use Rattle.surf_demo.specs.Adders.{adder_text, carry_text, cover_text, covers_text, inputs_text, name_text, names_text, outputs_text, sum_text}
use Rattle.surf_demo.specs.Votes.{cell_byte, cells_text, header_text, rows_text, vote_text}

two_digits : (n : ℕ) → n < 100 → length (decimal n) ≤ 2
two_digits n lt = length-decimal-le 2 n (omega arith) (omega (arith, lt)) (omega (arith, lt))

module _ (kind : List ℕ) (short : length kind ≤ 2) where
  name_short : (i : ℕ) → i < 100 → length (name_text kind i) ≤ 4
  name_short i lt = let all = length-append kind (decimal i) in let digits = two_digits i lt in omega (arith, all, digits, short)

  names_short : (n : ℕ) → n ≤ 100 → length (names_text kind n) ≤ 4 * n
  names_short zero le = omega arith
  names_short (suc n) le =
      let all = length-append (names_text kind n) (name_text kind n) in
      let before = names_short n (omega (arith, le)) in
      let last = name_short n (omega (arith, le)) in
      omega (arith, all, before, last)

joined : (xs ys : List ℕ) (a b : ℕ) → length xs ≤ a → length ys ≤ b → length (xs ++ ys) ≤ a + b
joined xs ys a b one other = let all = length-append xs ys in omega (arith, all, one, other)

cover_short : (i : ℕ) (rest : List ℕ) (n : ℕ) → i < 100 → length rest ≤ n → length (cover_text i rest) ≤ n + 18
cover_short i rest n lt short =
    let digits = two_digits i lt in
    let c : length (codes " c" ++ (decimal i ++ rest)) ≤ 2 + (2 + n) = joined (codes " c") (decimal i ++ rest) 2 (2 + n) (omega arith) (joined (decimal i) rest 2 n digits short) in
    let b : length (codes " b" ++ (decimal i ++ (codes " c" ++ (decimal i ++ rest)))) ≤ 2 + (2 + (2 + (2 + n))) =
    joined (codes " b") (decimal i ++ (codes " c" ++ (decimal i ++ rest))) 2 (2 + (2 + (2 + n))) (omega arith) (joined (decimal i) (codes " c" ++ (decimal i ++ rest)) 2 (2 + (2 + n)) digits c) in
    let a : length (cover_text i rest) ≤ 8 + (2 + (2 + (2 + (2 + (2 + n))))) =
    joined (codes ".names a") (decimal i ++ (codes " b" ++ (decimal i ++ (codes " c" ++ (decimal i ++ rest))))) 8 (2 + (2 + (2 + (2 + (2 + n))))) (omega arith) (joined (decimal i) (codes " b" ++ (decimal i ++ (codes " c" ++ (decimal i ++ rest)))) 2 (2 + (2 + (2 + (2 + n)))) digits b) in
    omega (arith, a)

sum_short : (i : ℕ) → i < 100 → length (sum_text i) ≤ 50
sum_short i lt =
    let foot : List ℕ = codes "\n100 1\n010 1\n001 1\n111 1\n" in
    let rest : length (codes " s" ++ (decimal i ++ foot)) ≤ 2 + (2 + 25) = joined (codes " s") (decimal i ++ foot) 2 (2 + 25) (omega arith) (joined (decimal i) foot 2 25 (two_digits i lt) (omega arith)) in
    let all = cover_short i (codes " s" ++ (decimal i ++ foot)) (2 + (2 + 25)) lt rest in
    omega (arith, all)

carry_short : (i : ℕ) → i < 99 → length (carry_text i) ≤ 50
carry_short i lt =
    let foot : List ℕ = codes "\n11- 1\n1-1 1\n-11 1\n" in
    let rest : length (codes " c" ++ (decimal (i + 1) ++ foot)) ≤ 2 + (2 + 19) = joined (codes " c") (decimal (i + 1) ++ foot) 2 (2 + 19) (omega arith) (joined (decimal (i + 1)) foot 2 19 (two_digits (i + 1) (omega (arith, lt))) (omega arith)) in
    let all = cover_short i (codes " c" ++ (decimal (i + 1) ++ foot)) (2 + (2 + 19)) (omega (arith, lt)) rest in
    omega (arith, all)

covers_short : (n : ℕ) → n < 99 → length (covers_text n) ≤ 100 * n
covers_short zero lt = omega arith
covers_short (suc i) lt =
    let all = length-append (covers_text i) (sum_text i ++ carry_text i) in
    let pair = joined (sum_text i) (carry_text i) 50 50 (sum_short i (omega (arith, lt))) (carry_short i (omega (arith, lt))) in
    let before = covers_short i (omega (arith, lt)) in
    omega (arith, all, pair, before)

pub adder_short : (n : ℕ) → n ≤ 32 → length (adder_text n) ≤ 5000
adder_short n le =
    let a = names_short (codes " a") (omega arith) n (omega (arith, le)) in
    let b = names_short (codes " b") (omega arith) n (omega (arith, le)) in
    let s = names_short (codes " s") (omega arith) n (omega (arith, le)) in
    let c = name_short (codes " c") (omega arith) n (omega (arith, le)) in
    let ins = joined (codes ".inputs") (names_text (codes " a") n ++ (names_text (codes " b") n ++ codes " c0\n")) 7 (4 * n + (4 * n + 4)) (omega arith) (joined (names_text (codes " a") n) (names_text (codes " b") n ++ codes " c0\n") (4 * n) (4 * n + 4) a (joined (names_text (codes " b") n) (codes " c0\n") (4 * n) 4 b (omega arith))) in
    let outs = joined (codes ".outputs") (names_text (codes " s") n ++ (name_text (codes " c") n ++ codes "\n")) 8 (4 * n + (4 + 1)) (omega arith) (joined (names_text (codes " s") n) (name_text (codes " c") n ++ codes "\n") (4 * n) (4 + 1) s (joined (name_text (codes " c") n) (codes "\n") 4 1 c (omega arith))) in
    let covers = covers_short n (omega (arith, le)) in
    let end = joined (covers_text n) (codes ".end\n") (100 * n) 5 covers (omega arith) in
    let later = joined (outputs_text n) (covers_text n ++ codes ".end\n") (8 + (4 * n + (4 + 1))) (100 * n + 5) outs end in
    let lines = joined (inputs_text n) (outputs_text n ++ (covers_text n ++ codes ".end\n")) (7 + (4 * n + (4 * n + 4))) (8 + (4 * n + (4 + 1)) + (100 * n + 5)) ins later in
    let all = joined (codes ".model adder\n") (inputs_text n ++ (outputs_text n ++ (covers_text n ++ codes ".end\n"))) 13 (7 + (4 * n + (4 * n + 4)) + (8 + (4 * n + (4 + 1)) + (100 * n + 5))) (omega arith) lines in
    omega (arith, all, le)

cells_long : (y n : ℕ) → length (cells_text y n) ≤ n
cells_long y zero = omega arith
cells_long y (suc x) = let all = joined (cells_text y x) (cell_byte x y ∷ []) x 1 (cells_long y x) (omega arith) in omega (arith, all)

rows_long : (n y : ℕ) → n ≤ 64 → length (rows_text n y) ≤ 66 * y
rows_long n zero le = omega arith
rows_long n (suc y) le =
    let row = joined (cells_text y n) (codes "$\n") n 2 (cells_long y n) (omega arith) in
    let all = joined (rows_text n y) (cells_text y n ++ codes "$\n") (66 * y) (n + 2) (rows_long n y le) row in
    omega (arith, all, le)

pub vote_short : (n : ℕ) → n ≤ 64 → length (vote_text n) ≤ 5000
vote_short n le =
    let digits = two_digits n (omega (arith, le)) in
    let rule : List ℕ = codes ", rule = B34/S234V\n" in
    let third = joined (decimal n) rule 2 19 digits (omega arith) in
    let second = joined (codes ", y = ") (decimal n ++ rule) 6 (2 + 19) (omega arith) third in
    let first = joined (decimal n) (codes ", y = " ++ (decimal n ++ rule)) 2 (6 + (2 + 19)) digits second in
    let header = joined (codes "x = ") (decimal n ++ (codes ", y = " ++ (decimal n ++ rule))) 4 (2 + (6 + (2 + 19))) (omega arith) first in
    let cells = joined (rows_text n n) (codes "!") (66 * n) 1 (rows_long n n le) (omega arith) in
    let all = joined (header_text n) (rows_text n n ++ codes "!") (4 + (2 + (6 + (2 + 19)))) (66 * n + 1) header cells in
    omega (arith, all, le)
