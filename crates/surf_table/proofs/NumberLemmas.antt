-- Numbers of a line, one after another.
use Rattle.std.proofs.Common.{ℕ, suc, zero, ◌≡◌, ◌-◌, ◌<◌, List, [], ◌∷◌, ◌++◌, Option, Some, None, refl, sym, ◌∙◌, ap, arith, append_assoc}
use Rattle.surf_base.specs.Decimal.{decimal_below}
use Rattle.surf_table.specs.TableLines.{number_onto, numbers}
use Rattle.surf_table.specs.Readings.{onto}

onto_more : (kept : List ℕ) (k : ℕ) (more : Option (List ℕ)) → onto kept (number_onto (Some k) more) ≡ onto (kept ++ k ∷ []) more
onto_more kept k None = refl
onto_more kept k (Some ks) = ap (λ v. Some v) (sym (append_assoc kept (k ∷ []) ks))

numbers_suc : (kept : List ℕ) (left limit k : ℕ) (word : List ℕ) (words : List (List ℕ)) → Some k ≡ decimal_below limit word → onto kept (numbers (suc left) limit (word ∷ words)) ≡ onto (kept ++ k ∷ []) (numbers left limit words)
numbers_suc kept left limit k word words is = ap (λ o. onto kept (number_onto o (numbers left limit words))) (sym is) ∙ onto_more kept k (numbers left limit words)

-- a number that is read is kept, and one less is left
pub numbers_step : (kept : List ℕ) (left limit k : ℕ) (word : List ℕ) (words : List (List ℕ)) → 0 < left → Some k ≡ decimal_below limit word → onto kept (numbers left limit (word ∷ words)) ≡ onto (kept ++ k ∷ []) (numbers (left - 1) limit words)
numbers_step kept zero limit k word words some is = absurd (omega arith)
numbers_step kept (suc left) limit k word words some is =
    let e : left ≡ suc left - 1 = omega arith in
    numbers_suc kept left limit k word words is ∙ ap (λ n. onto (kept ++ k ∷ []) (numbers n limit words)) e
