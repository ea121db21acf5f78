-- Where each element leads to one of the list, some element leads back to itself.
use Rattle.std.proofs.Common.{ℕ, ◌≡◌, ◌+◌, ◌≤◌, ◌⊎◌, inl, inr, List, [], ◌∷◌, length, sym, ◌∙◌, subst, ⊎_elim, arith, zero, suc}
use Rattle.surf_logic.proofs.Has.{In}

pub record Without {X : Type 0} (xs : List X) (x : X) : Type 0 where
  pub rest : List X
  pub shorter : length xs ≡ length rest + 1
  pub others : (y : X) → In xs y → (x ≡ y) ⊎ In rest y

pub without : {X : Type 0} (xs : List X) (x : X) → In xs x → Without xs x
without [] x i = absurd i
without {X} (z ∷ zs) x i = ⊎_elim
    (λ same. record { rest = zs; shorter = omega arith; others = λ y j. ⊎_elim (λ s. inl (sym same ∙ s)) (λ later. inr later) j })
    (λ later. let w = without zs x later in
    record {
      rest = z ∷ w.rest;
      shorter = omega (arith, w.shorter);
      others = λ y j. ⊎_elim (λ s. inr (inl s)) (λ l. ⊎_elim (λ s. inl s) (λ m. inr (inr m)) (w.others y l)) j;
    })
    i

module _ {X : Type 0} (R D : X → X → Type 0) (one : (a b : X) → R a b → D a b) (more : (a b c : X) → D a b → R b c → D a c) (all : List X) (next : (x : X) → In all x → (y : X) × In all y × R x y) where
  -- the way comes back to an element of the path
  back : (path : List X) (x y : X) → R x y → ((z : X) → In path z → (z ≡ x) ⊎ D z x) → In path y → D y y
  back path x y r leads i = ⊎_elim (λ same. one y y (subst (λ t. R t y) (sym same) r)) (λ d. more y x y d r) (leads y i)

  -- the way goes on
  on : (path : List X) (x y : X) → R x y → ((z : X) → In path z → (z ≡ x) ⊎ D z x) → (z : X) → In (y ∷ path) z → (z ≡ y) ⊎ D z y
  on path x y r leads z i = ⊎_elim
      (λ same. inl (sym same))
      (λ later. inr (⊎_elim (λ at. subst (λ t. D t y) (sym at) (one x y r)) (λ d. more z x y d r) (leads z later)))
      i

  pub walk : (n : ℕ) (path rest : List X) (x : X) → length rest ≤ n → In all x
      → ((y : X) → In all y → In path y ⊎ In rest y)
      → ((y : X) → In path y → (y ≡ x) ⊎ D y x)
      → (y : X) × In all y × D y y
  walk zero path rest x few i covers leads =
      let s = next x i in
      ⊎_elim
      (λ p. (s.0, s.1, back path x s.0 s.2 leads p))
      (λ r. let w = without rest s.0 r in absurd (omega (arith, w.shorter)))
      (covers s.0 s.1)
  walk (suc n) path rest x few i covers leads =
      let s = next x i in
      ⊎_elim
      (λ p. (s.0, s.1, back path x s.0 s.2 leads p))
      (λ r.
      let w = without rest s.0 r in
      walk n (s.0 ∷ path) w.rest s.0 (omega (arith, w.shorter)) s.1
      (λ y j. ⊎_elim (λ p. inl (inr p)) (λ q. ⊎_elim (λ same. inl (inl same)) (λ l. inr l) (w.others y q)) (covers y j))
      (on path x s.0 s.2 leads))
      (covers s.0 s.1)
