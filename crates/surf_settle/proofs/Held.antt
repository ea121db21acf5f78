-- What holds throughout a run: which reads were done, and what that says of each site.
use Rattle.std.proofs.Common.{◌≡◌, ℕ, zero, suc, ◌+◌, ◌≤◌, ◌<◌, Bool, true, false, cond, eqb, Some, List, length, get_or, refl, ◌⊎◌, inl, inr, arith}
use Rattle.std.proofs.lemmas.Bool.{cases_eq, eq-eqb, ne_eqb}
use Rattle.surf_tiles.specs.declared.kind.Kind.{Kind}
use Rattle.surf_settle.specs.Ways.{Way, wants}
use Rattle.surf_tiles.specs.declared.state.State.{State}
use Rattle.surf_tiles.specs.declared.state.State.TheVariants.{Dot}
use Rattle.surf_settle.proofs.Shown.{shown, filled}
use Rattle.surf_settle.proofs.Tables.{filled_more, tally, tally_more}
use Rattle.surf_settle.specs.Law.{kind_at}
use Rattle.surf_settle.proofs.Places.{Lists, fed_value}

abbrev pub name_at : List Kind → Lists → (ℕ → Bool) → (ℕ → Bool → Bool) → ℕ → State
name_at kinds l val read q = shown (kind_at kinds q) (read q false) (read q true) (val (l.net q false)) (val (l.net q true)) (fed_value val l q false) (fed_value val l q true)

abbrev pub is_full : List Kind → (ℕ → Bool → Bool) → ℕ → Bool → Bool
is_full kinds read p u = filled (kind_at kinds p) (read p false) (read p true) u

pub record Holds (kinds : List Kind) (l : Lists) (val : ℕ → Bool) (read : ℕ → Bool → Bool) (c : List State) : Type 0 where
  pub long : length c ≡ length kinds
  -- each name is that of its kind, its net's value and what it has read
  pub named : (q : ℕ) → get_or c q Dot ≡ name_at kinds l val read q
  -- what was read was filled
  pub closed : (q : ℕ) (i : Bool) (w : Way) → wants (kind_at kinds q) i ≡ Some w → read q i ≡ true → is_full kinds read (l.feeder q i).place (l.feeder q i).down ≡ true

-- the reads after one more
abbrev pub raise : (ℕ → Bool → Bool) → ℕ → Bool → (ℕ → Bool → Bool)
raise read q i p j = cond (eqb p q) (cond j (cond i true (read p j)) (cond i (read p j) true)) (read p j)

pub raise_here : (read : ℕ → Bool → Bool) (q : ℕ) (i j : Bool) → raise read q i q j ≡ cond j (cond i true (read q j)) (cond i (read q j) true)
raise_here read q i j = rw (eq-eqb q q refl) refl

pub raise_other : (read : ℕ → Bool → Bool) (q : ℕ) (i : Bool) (p : ℕ) (j : Bool) → (p ≡ q → ⊥) → raise read q i p j ≡ read p j
raise_other read q i p j n = rw (ne_eqb p q n) refl

lifted : (i j b : Bool) → b ≡ true → cond j (cond i true b) (cond i b true) ≡ true
lifted true true b h = refl
lifted true false b h = h
lifted false true b h = h
lifted false false b h = refl

new_or_old : (i j b : Bool) → cond j (cond i true b) (cond i b true) ≡ true → (j ≡ i) ⊎ (b ≡ true)
new_or_old true true b h = inl refl
new_or_old true false b h = inr h
new_or_old false true b h = inr h
new_or_old false false b h = inl refl

pub raise_more : (read : ℕ → Bool → Bool) (q : ℕ) (i : Bool) (p : ℕ) (j : Bool) → read p j ≡ true → raise read q i p j ≡ true
raise_more read q i p j h =
    elim (cases_eq p q) [
      | inl e ↦ rw (eq-eqb p q e) (lifted i j (read p j) h)
      | inr n ↦ rw (ne_eqb p q n) h
    ]

pub raise_new : (read : ℕ → Bool → Bool) (q : ℕ) (i : Bool) (p : ℕ) (j : Bool) → raise read q i p j ≡ true → (p ≡ q) × (j ≡ i) ⊎ (read p j ≡ true)
raise_new read q i p j h =
    elim (cases_eq p q) [
      | inl e ↦ elim (new_or_old i j (read p j) (rw (eq-eqb p q e) at h)) [ inl d ↦ inl (e, d) | inr o ↦ inr o ]
      | inr n ↦ inr (rw (ne_eqb p q n) at h)
    ]

pub full_more : (kinds : List Kind) (read : ℕ → Bool → Bool) (q : ℕ) (i : Bool) (p : ℕ) (u : Bool) → is_full kinds read p u ≡ true → is_full kinds (raise read q i) p u ≡ true
full_more kinds read q i p u h = filled_more (kind_at kinds p) _ _ _ _ u (raise_more read q i p false) (raise_more read q i p true) h

-- the number of events so far
abbrev pub sum_below : (ℕ → ℕ) → ℕ → ℕ
sum_below f zero = 0
sum_below f (suc n) = f n + sum_below f n

pub sum_same : (f g : ℕ → ℕ) (n : ℕ) → ((k : ℕ) → k < n → f k ≡ g k) → sum_below f n ≡ sum_below g n
sum_same f g zero h = refl
sum_same f g (suc n) h = let e = sum_same f g n (λ k l. h k (omega arith)) in omega (arith, e, h n (omega arith))

pub sum_one_more : (f g : ℕ → ℕ) (n q : ℕ) → q < n → g q ≡ f q + 1 → ((k : ℕ) → (k ≡ q → ⊥) → g k ≡ f k) → sum_below g n ≡ sum_below f n + 1
sum_one_more f g zero q l e h = absurd (omega arith)
sum_one_more f g (suc n) q l e h =
    elim (cases_eq n q) [
      | inl s ↦ (let o : sum_below g n ≡ sum_below f n = sum_same g f n (λ k b. h k (λ t. omega arith)) in let e' : g n ≡ f n + 1 = rw s e in omega arith)
      | inr d ↦ (let o = sum_one_more f g n q (omega arith) e h in omega (arith, o, h n d))
    ]

pub sum-le : (f g : ℕ → ℕ) (n : ℕ) → ((k : ℕ) → f k ≤ g k) → sum_below f n ≤ sum_below g n
sum-le f g zero h = omega arith
sum-le f g (suc n) h = omega (arith, sum-le f g n h, h n)

abbrev pub tally_at : List Kind → (ℕ → Bool → Bool) → ℕ → ℕ
tally_at kinds read q = tally (kind_at kinds q) (read q false) (read q true)

abbrev pub total : List Kind → (ℕ → Bool → Bool) → ℕ
total kinds read = sum_below (tally_at kinds read) (length kinds)

pub tally_raised : (kinds : List Kind) (read : ℕ → Bool → Bool) (q : ℕ) (i : Bool) (w : Way) → wants (kind_at kinds q) i ≡ Some w → cond i (read q true) (read q false) ≡ false → tally_at kinds (raise read q i) q ≡ tally_at kinds read q + 1
tally_raised kinds read q i w o u = rw (eq-eqb q q refl) (tally_more i (kind_at kinds q) (read q false) (read q true) w o u)

pub total_raised : (kinds : List Kind) (read : ℕ → Bool → Bool) (q : ℕ) (i : Bool) (w : Way) → q < length kinds → wants (kind_at kinds q) i ≡ Some w → cond i (read q true) (read q false) ≡ false → total kinds (raise read q i) ≡ total kinds read + 1
total_raised kinds read q i w b o u =
    sum_one_more (tally_at kinds read) (tally_at kinds (raise read q i)) (length kinds) q b (tally_raised kinds read q i w o u) (λ k n. rw (ne_eqb k q n) refl)
