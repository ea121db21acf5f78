-- The numbers of the names that sites begin with.
use Rattle.std.proofs.Common.{ℕ, zero, suc, ◌≡◌, ◌+◌, ◌≤◌, List, [], ◌∷◌, ◌++◌, length, take, slice_get, Some, refl, sym, ◌∙◌, ap, arith, subst}
use Rattle.std.specs.Prelude.{slice_index_or}
use Rattle.std.proofs.lemmas.List.{take_all}
use Rattle.std.proofs.lemmas.Option.{slice_get_past}
use Rattle.surf_tiles.specs.declared.kind.Kind.{Kind}
use Rattle.surf_tiles.specs.Kinds.{name_of}
use Rattle.surf_tiles.specs.Rules.{IsGrown}
use Rattle.surf_tiles.proofs.Growing.{at_kept, grown_then}
use Rattle.surf_settle.specs.Indices.{all_kinds, kind_index}
use Rattle.surf_settle.proofs.Listed.{at_index}
use Rattle.surf_circuit.specs.Numbering.{AreNumbers, NumbersAll}

number_at : (texts : List (List ℕ)) (numbers : List ℕ) (kinds : List Kind) (i : ℕ) (k : Kind) → AreNumbers texts numbers kinds → slice_get kinds i ≡ Some k → slice_get texts (slice_index_or numbers i 0) ≡ Some (name_of k)
number_at texts [] [] i k h at = absurd (cc (sym (slice_get_past [] i (omega arith)) ∙ at))
number_at texts [] (x ∷ xs) i k h at = absurd h
number_at texts (n ∷ ns) [] i k h at = absurd h
number_at texts (n ∷ ns) (x ∷ xs) zero k h at = let is : x ≡ k = cc in h.0 ∙ ap (λ v. Some (name_of v)) is
number_at texts (n ∷ ns) (x ∷ xs) (suc i) k h at = number_at texts ns xs i k h.1 at

numbers_count : (texts : List (List ℕ)) (numbers : List ℕ) (kinds : List Kind) → AreNumbers texts numbers kinds → length numbers ≡ length kinds
numbers_count texts [] [] h = refl
numbers_count texts [] (x ∷ xs) h = absurd h
numbers_count texts (n ∷ ns) [] h = absurd h
numbers_count texts (n ∷ ns) (x ∷ xs) h = ap suc (numbers_count texts ns xs h.1)

numbers_kept : (n : ℕ) (a b : List (List ℕ)) (numbers : List ℕ) (kinds : List Kind) → IsGrown n a b → AreNumbers a numbers kinds → AreNumbers b numbers kinds
numbers_kept n a b [] [] g h = tt
numbers_kept n a b [] (x ∷ xs) g h = absurd h
numbers_kept n a b (m ∷ ms) [] g h = absurd h
numbers_kept n a b (m ∷ ms) (x ∷ xs) g h = (at_kept n a b m (name_of x) g h.0, numbers_kept n a b ms xs g h.1)

numbers_pushed : (texts : List (List ℕ)) (numbers : List ℕ) (kinds : List Kind) (n : ℕ) (k : Kind) → AreNumbers texts numbers kinds → slice_get texts n ≡ Some (name_of k) → AreNumbers texts (numbers ++ n ∷ []) (kinds ++ k ∷ [])
numbers_pushed texts [] [] n k h at = (at, tt)
numbers_pushed texts [] (x ∷ xs) n k h at = absurd h
numbers_pushed texts (m ∷ ms) [] n k h at = absurd h
numbers_pushed texts (m ∷ ms) (x ∷ xs) n k h at = (h.0, numbers_pushed texts ms xs n k h.1 at)

-- so many kinds have their numbers
pub record Numbered (kinds : List Kind) (count : ℕ) (before texts : List (List ℕ)) (numbers : List ℕ) : Type 0 where
  pub all : kinds ≡ all_kinds
  pub said : AreNumbers texts numbers (take count kinds)
  pub grown : IsGrown count before texts

pub numbered_more : (kinds : List Kind) (count : ℕ) (before texts more : List (List ℕ)) (numbers numbers' : List ℕ) (n : ℕ) (k : Kind) → Numbered kinds count before texts numbers → IsGrown 1 texts more
    → slice_get more n ≡ Some (name_of k) → numbers' ≡ numbers ++ n ∷ [] → take (count + 1) kinds ≡ take count kinds ++ k ∷ [] → Numbered kinds (count + 1) before more numbers'
numbered_more kinds count before texts more numbers numbers' n k h g at put next = record {
  all = h.all;
  said = rw (put, next) (numbers_pushed more numbers (take count kinds) n k (numbers_kept 1 texts more numbers _ g h.said) at);
  grown = grown_then count 1 (count + 1) before texts more (omega arith) h.grown g;
}

-- at the end all have them
whole : (kinds : List Kind) (count : ℕ) (before texts : List (List ℕ)) (numbers : List ℕ) → Numbered kinds count before texts numbers → length kinds ≤ count → AreNumbers texts numbers all_kinds
whole kinds count before texts numbers h le = subst (AreNumbers texts numbers) (take_all count kinds le ∙ h.all) h.said

pub numbered_all : (kinds : List Kind) (count : ℕ) (before texts : List (List ℕ)) (numbers : List ℕ) → Numbered kinds count before texts numbers → length kinds ≤ count → NumbersAll texts numbers
numbered_all kinds count before texts numbers h le k = number_at texts numbers all_kinds (kind_index k) k (whole kinds count before texts numbers h le) (at_index k)

pub numbered_count : (kinds : List Kind) (count : ℕ) (before texts : List (List ℕ)) (numbers : List ℕ) → Numbered kinds count before texts numbers → length kinds ≤ count → length numbers ≡ 32
numbered_count kinds count before texts numbers h le = numbers_count texts numbers all_kinds (whole kinds count before texts numbers h le)
