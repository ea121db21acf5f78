-- The answers of the local rule of two phases are in range, and the universes that it makes.
use Rattle.std.proofs.Common.{◌≡◌, ℕ, zero, suc, ◌+◌, ◌*◌, ◌/◌, ◌%◌, ◌<◌, ◌≤◌, Bool, true, false, if◌then◌else◌, ◌==◌, List, length, slice_index, slice_index_or, refl, sym, ap, arith}
use Rattle.surf_lattice.specs.declared.site.GridKind.TheVariants.{Square}
use Rattle.surf_lattice.specs.Grids.{Grid, IsGrid, degree, is_coloured}
use Rattle.surf_auto.specs.Counts.{Counts, alive, looked_up}
use Rattle.surf_auto.specs.Locals.{IsLocal, following, rule_count_in}
use Rattle.surf_auto.specs.Sync.{IsUniverse, universe}
use Rattle.surf_life.specs.Halves.{moore_states, moore_accs, moore_add, moore_finish, moore_rule}
use Rattle.surf_life.specs.Laws.{halves}

one_or_none : (b : Bool) → (if◌then◌else◌ {A = ℕ} b 1 0) ≤ 1
one_or_none true = omega arith
one_or_none false = omega arith

pub alive_small : (s : ℕ) → alive s ≤ 1
alive_small s = one_or_none (s == 1)

pub alive_same : (s : ℕ) → s ≤ 1 → alive s ≡ s
alive_same zero h = refl
alive_same (suc zero) h = refl
alive_same (suc (suc s)) h = absurd (omega arith)

pub looked_up_small : (C : Counts) (own count : ℕ) → looked_up C own count ≤ 1
looked_up_small C own count = one_or_none (if own == 1 then slice_index_or C.survival count false else slice_index_or C.birth count false)

add_within : (f a i s : ℕ) → f < 2 → a < moore_accs f i → i < 4 → s < moore_states f → moore_add f a i s < moore_accs f (suc i)
add_within zero a zero s h k l m = let e = alive_small s in omega arith
add_within zero a (suc zero) s h k l m = let e = alive_small s in omega arith
add_within zero a (suc (suc zero)) s h k l m = omega arith
add_within zero a (suc (suc (suc zero))) s h k l m = omega arith
add_within (suc zero) a zero s h k l m = omega arith
add_within (suc zero) a (suc zero) s h k l m = omega arith
add_within (suc zero) a (suc (suc zero)) s h k l m = omega arith
add_within (suc zero) a (suc (suc (suc zero))) s h k l m = omega arith
add_within (suc (suc f)) a i s h k l m = absurd (omega arith)
add_within f a (suc (suc (suc (suc i)))) s h k l m = absurd (omega arith)

finish_within : (C : Counts) (f s a : ℕ) → f < 2 → s < moore_states f → a < moore_accs f 4 → moore_finish C f s a < moore_states (following 2 f)
finish_within C zero s a h k l = omega arith
finish_within C (suc zero) s a h k l = let e = looked_up_small C (s / 3) (s % 3 + a) in omega arith
finish_within C (suc (suc f)) s a h k l = absurd (omega arith)

some_states : (f : ℕ) → f < 2 → 2 ≤ moore_states f
some_states zero h = omega arith
some_states (suc zero) h = omega arith
some_states (suc (suc f)) h = absurd (omega arith)

few_states : (f : ℕ) → f < 2 → moore_states f ≤ 6
few_states zero h = omega arith
few_states (suc zero) h = omega arith
few_states (suc (suc f)) h = absurd (omega arith)

some_accs : (f r : ℕ) → f < 2 → 1 ≤ moore_accs f r
some_accs zero r h = omega arith
some_accs (suc zero) r h = omega arith
some_accs (suc (suc f)) r h = absurd (omega arith)

few_accs : (f r : ℕ) → f < 2 → r ≤ 4 → moore_accs f r ≤ 7
few_accs zero r h l = omega arith
few_accs (suc zero) r h l = omega arith
few_accs (suc (suc f)) r h l = absurd (omega arith)

pub is_moore_rule : (C : Counts) → IsLocal (moore_rule C)
is_moore_rule C = record {
  known = refl;
  some_phase = omega arith;
  few_phases = omega arith;
  some_states = λ f h. (let e = some_states f h in omega arith);
  few_states = λ f h. (let e = few_states f h in omega arith);
  some_accs = λ f r h l. some_accs f r h;
  few_accs = λ f r h l. (let e = few_accs f r h l in omega arith);
  start_within = λ f h. some_accs f 0 h;
  add_within = add_within;
  finish_within = finish_within C;
}

pub makes_universe : (C : Counts) (g : Grid) (cells : List ℕ) → IsGrid g → is_coloured g ≡ true → g.kind ≡ Square → length cells ≡ g.width * g.height → length cells ≤ 1000000 → ((i : ℕ) → i < length cells → slice_index cells i < 2) → IsUniverse (halves C g cells)
makes_universe C g cells grid coloured square size few two = record {
  is_grid = grid;
  coloured = coloured;
  is_local = is_moore_rule C;
  same_degree = ap degree (sym square);
  one_per_site = size;
  few_sites = few;
  cells_within = two;
  edge_within = λ f h. (let e = some_states f h in omega arith);
}

pub starts_in_both : (C : Counts) (g : Grid) (edge : ℕ) (cells : List ℕ) → IsUniverse (universe g (moore_rule C) edge cells) → (i f : ℕ) → i < length cells → f < 2 → slice_index cells i < moore_states f
starts_in_both C g edge cells is i f h k = let e = some_states f k in let w : slice_index cells i < 2 = is.cells_within i h in omega arith

pub rules_last : (C : Counts) (last : ℕ) → rule_count_in last (moore_rule C) ≡ 185280 * last
rules_last C last = omega arith
