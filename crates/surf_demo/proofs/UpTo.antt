-- Tests that hold of each number from 1 up to another, by computing all of them.
use Rattle.std.proofs.Common.{◌⊎◌, inl, inr, ◌≢◌, ℕ, zero, suc, ◌≡◌, ◌≤◌, ◌==◌, ◌&&◌, Bool, true, subst, arith, ⊎_elim}
use Rattle.std.proofs.lemmas.Bool.{and_parts, cases_Bool, eqb-true, eqb-false}

abbrev pub holds_to : (ℕ → Bool) → ℕ → Bool
holds_to test zero = true
holds_to test (suc n) = test (suc n) && holds_to test n

last_or_below : (m n : ℕ) → n ≤ suc m → (suc m ≡ n) ⊎ (n ≤ m)
last_or_below m n le =
    ⊎_elim (λ e. inl (eqb-true (suc m) n e)) (λ e. inr (let apart : suc m ≢ n = eqb-false (suc m) n e in omega (arith, le, apart))) (cases_Bool (suc m == n))

pub holds_at : (test : ℕ → Bool) (m n : ℕ) → holds_to test m ≡ true → 1 ≤ n → n ≤ m → test n ≡ true
holds_at test zero n h some le = absurd (omega (arith, some, le))
holds_at test (suc m) n h some le =
    let p = and_parts (test (suc m)) (holds_to test m) h in
    ⊎_elim (λ is. subst (λ (k : ℕ). test k ≡ true) is p.0) (λ lt. holds_at test m n p.1 some lt) (last_or_below m n le)
