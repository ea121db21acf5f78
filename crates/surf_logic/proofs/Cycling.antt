-- What depends on itself, among the equations that are left and among all.
use Rattle.std.proofs.Common.{ℕ, ◌≡◌, ◌+◌, ◌<◌, ◌⊎◌, inl, inr, Bool, true, false, List, [], ◌∷◌, ◌++◌, length, refl, sym, ◌∙◌, ap, subst, ⊎_elim, arith, zero, suc, get_or, nat_eq, take}
use Rattle.std.specs.List.{All, list_any}
use Rattle.std.proofs.lemmas.Bool.{false≢true}
use Rattle.std.proofs.Math.ListN.{set}
use Rattle.std.proofs.lemmas.List.Elements.{All-nil, All-cons}
use Rattle.surf_logic.specs.Equations.{EquationOf, at}
use Rattle.surf_logic.specs.Order.{outputs_of, is_from, GivenBy, DependsOn, FirstCyclic}
use Rattle.surf_logic.specs.Marks.{down_count}
use Rattle.surf_logic.proofs.Has.{In}

-- none of the outputs depends on itself
pub record NoneCyclic (all qs : List (EquationOf ℕ)) : Type 0 where
  pub none : (q : EquationOf ℕ) → In qs q → DependsOn nat_eq all q.output q.output → ⊥

pub given_push : (qs : List (EquationOf ℕ)) (n : ℕ) (ks : List ℕ) (m j : ℕ) → GivenBy nat_eq qs n ks m → list_any (is_from nat_eq m j) qs ≡ true → GivenBy nat_eq qs n (ks ++ m ∷ []) j
given_push qs n [] m j g t = (g, t)
given_push qs n (k ∷ ks) m j g t = (g.0, given_push qs k ks m j g.1 t)

pub in_get : {X : Type 0} (xs : List X) (i : ℕ) (d : X) → i < length xs → In xs (get_or xs i d)
in_get [] i d lt = absurd (omega arith)
in_get (x ∷ xs) zero d lt = inl refl
in_get (x ∷ xs) (suc i) d lt = inr (in_get xs i d (omega arith))

pub none_start : (all : List (EquationOf ℕ)) → NoneCyclic all []
none_start all = record { none = λ q i d. i }

pub none_more : (all qs : List (EquationOf ℕ)) (i : ℕ) (q : EquationOf ℕ) → i < length qs → q ≡ get_or qs i q → NoneCyclic all (take i qs) → (DependsOn nat_eq all q.output q.output → ⊥) → NoneCyclic all (take (i + 1) qs)
none_more all qs i q lt is n here = record { none = λ p j d. ⊎_elim (λ a. n.none p a d) (λ same. here (subst (λ v. DependsOn nat_eq all v.output v.output) (sym same ∙ sym is) d)) (in_take qs i q p lt j) }
  where
    in_take : (xs : List (EquationOf ℕ)) (i : ℕ) (d p : EquationOf ℕ) → i < length xs → In (take (i + 1) xs) p → In (take i xs) p ⊎ (get_or xs i d ≡ p)
    in_take xs i d p lt j = in_suc xs i d p lt (subst (λ k. In (take k xs) p) (let e : i + 1 ≡ suc i = omega arith in e) j)
      where
        in_suc : (xs : List (EquationOf ℕ)) (i : ℕ) (d p : EquationOf ℕ) → i < length xs → In (take (suc i) xs) p → In (take i xs) p ⊎ (get_or xs i d ≡ p)
        in_suc [] i d p lt j = absurd (omega arith)
        in_suc (x ∷ xs) zero d p lt j = ⊎_elim (λ s. inr s) (λ l. absurd l) j
        in_suc (x ∷ xs) (suc i) d p lt j = ⊎_elim (λ s. inl (inl s)) (λ l. ⊎_elim (λ a. inl (inr a)) (λ b. inr b) (in_suc xs i d p (omega arith) l)) j

pub first_is : (all qs : List (EquationOf ℕ)) (i : ℕ) (q : EquationOf ℕ) → i < length qs → q ≡ get_or qs i q → NoneCyclic all (take i qs) → DependsOn nat_eq all q.output q.output → FirstCyclic nat_eq all (outputs_of qs) q.output
first_is all [] i q lt is n d = absurd (omega arith)
first_is all (x ∷ xs) zero q lt is n d = inl (ap (λ (v : EquationOf ℕ). v.output) (sym is), subst (λ v. DependsOn nat_eq all v.output v.output) is d)
first_is all (x ∷ xs) (suc i) q lt is n d = inr (n.none x (inl refl), first_is all xs i q (omega arith) is (record { none = λ p j. n.none p (inr j) }) d)

-- putting flags up leaves fewer down
pub up_again : (flags : List Bool) (n : ℕ) → at flags n ≡ true → set flags n true ≡ flags
up_again [] n t = refl
up_again (b ∷ bs) zero t = ap (λ v. v ∷ bs) (sym t)
up_again (b ∷ bs) (suc n) t = ap (λ v. b ∷ v) (up_again bs n t)

pub one_fewer : (flags : List Bool) (n : ℕ) → n < length flags → at flags n ≡ false → down_count (set flags n true) + 1 ≡ down_count flags
one_fewer [] n lt f = absurd (omega arith)
one_fewer (true ∷ bs) zero lt f = absurd (false≢true (sym f))
one_fewer (false ∷ bs) zero lt f = omega arith
one_fewer (b ∷ bs) (suc n) lt f =
    let rest : down_count (set bs n true) + 1 ≡ down_count bs = one_fewer bs n (omega arith) f in
    omega (arith, rest)

pub none_all : (all qs : List (EquationOf ℕ)) → NoneCyclic all qs → All (λ q. DependsOn nat_eq all q.output q.output → ⊥) qs
none_all all [] n = All-nil (λ q. DependsOn nat_eq all q.output q.output → ⊥)
none_all all (q ∷ qs) n = All-cons (λ p. DependsOn nat_eq all p.output p.output → ⊥) q qs (n.none q (inl refl)) (none_all all qs (record { none = λ p j. n.none p (inr j) }))
