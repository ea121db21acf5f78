-- What is gathered by adding is a sum, and the steps by it.
use Rattle.std.proofs.Common.{◌≡◌, ℕ, zero, suc, ◌+◌, ◌%◌, List, [], ◌∷◌, map, refl, sym, ◌∙◌, ap, add-one, Option, Some, None, arith}
use Rattle.std.specs.List.{range_with_len, sum_by}
use Rattle.std.proofs.lemmas.List.FromFn.{sum_by-map-range_with_len_more}
use Rattle.surf_lattice.specs.declared.site.Site.{Site}
use Rattle.surf_lattice.specs.Grids.{degree, directions, neighbour}
use Rattle.surf_auto.specs.Locals.{LocalRule, gathered}
use Rattle.surf_auto.specs.Sync.{Universe, seen_at, seen, around, phase_sync, sync_by}

none_first : (n : ℕ) → 0 + n ≡ n
none_first n = omega arith

-- a rule that starts with 0 and adds g of each state
pub gathers : (R : LocalRule) (f : ℕ) (g : ℕ → ℕ) → R.start f ≡ 0 → ((a i s : ℕ) → R.add f a i s ≡ a + g s) → (see : ℕ → ℕ) (n : ℕ) → gathered R f see n ≡ sum_by g (map see (range_with_len 0 n))
gathers R f g none adds see zero = none
gathers R f g none adds see (suc n) =
    adds (gathered R f see n) n (see n)
    ∙ ap (λ a. a + g (see n)) (gathers R f g none adds see n)
    ∙ sym (sum_by-map-range_with_len_more g see 0 n n (none_first n))
    ∙ ap (λ m. sum_by g (map see (range_with_len 0 m))) (add-one n)

seen_same : (edge : ℕ) (u v : Site → ℕ) → ((t : Site) → u t ≡ v t) → (o : Option Site) → seen_at edge u o ≡ seen_at edge v o
seen_same edge u v same None = refl
seen_same edge u v same (Some t) = same t

map_same : (u v : ℕ → ℕ) → ((i : ℕ) → u i ≡ v i) → (is : List ℕ) → map u is ≡ map v is
map_same u v same [] = refl
map_same u v same (i ∷ is) = ap (λ x. x ∷ map u is) (same i) ∙ ap (λ xs. v i ∷ xs) (map_same u v same is)

-- one phase, in which the next state is a function of the neighbours' states
pub steps : (U : Universe) (next : ℕ → List ℕ → ℕ) → U.rule.phases ≡ 1 →
    ((f own : ℕ) (see : ℕ → ℕ) → U.rule.finish f own (gathered U.rule f see (degree U.grid.kind)) ≡ next own (map see (directions U.grid))) →
    (k : ℕ) (s : Site) → phase_sync U k s ≡ sync_by next U k s
steps U next one finishes zero s = refl
steps U next one finishes (suc k) s =
    finishes (k % U.rule.phases) (phase_sync U k s) (seen U (phase_sync U k) s)
    ∙ ap (λ own. next own (around U (phase_sync U k) s)) (steps U next one finishes k s)
    ∙ ap (next (sync_by next U k s)) (map_same (seen U (phase_sync U k) s) (seen U (sync_by next U k) s) (λ i. seen_same U.edge (phase_sync U k) (sync_by next U k) (steps U next one finishes k) (neighbour U.grid s i)) (directions U.grid))
