-- The laws of local rules by counts and by sums.
use Rattle.std.proofs.Common.{◌≡◌, ℕ, ◌*◌, List, map, slice_index, refl, ◌∙◌, ap, arith}
use Rattle.std.specs.List.{range_with_len}
use Rattle.surf_lattice.specs.declared.site.Site.{Site}
use Rattle.surf_lattice.specs.Grids.{Grid, degree}
use Rattle.surf_auto.specs.Locals.{gathered}
use Rattle.surf_auto.specs.Counts.{Counts, alive, looked_up, count_rule, next_by_count}
use Rattle.surf_auto.specs.Tables.{Table, table_rule, next_at, next_by_sum}
use Rattle.surf_auto.specs.Sync.{universe, phase_sync, sync, sync_by}
use Rattle.surf_auto.proofs.Gathering.{gathers, steps}

pub counted : (C : Counts) (f own : ℕ) (see : ℕ → ℕ) (n : ℕ) → (count_rule C).finish f own (gathered (count_rule C) f see n) ≡ next_by_count C own (map see (range_with_len 0 n))
counted C f own see n = ap (looked_up C own) (gathers (count_rule C) f alive refl (λ a i s. refl) see n)

pub summed : (T : Table) (f own : ℕ) (see : ℕ → ℕ) (n : ℕ) → (table_rule T).finish f own (gathered (table_rule T) f see n) ≡ next_by_sum T own (map see (range_with_len 0 n))
summed T f own see n = ap (next_at T own) (gathers (table_rule T) f (slice_index T.weights) refl (λ a i s. refl) see n)

one_times : (k : ℕ) → k * 1 ≡ k
one_times k = omega arith

pub by_counts : (g : Grid) (C : Counts) (edge : ℕ) (cells : List ℕ) (k : ℕ) (s : Site) →
    sync (universe g (count_rule C) edge cells) k s ≡ sync_by (next_by_count C) (universe g (count_rule C) edge cells) k s
by_counts g C edge cells k s =
    ap (λ n. phase_sync (universe g (count_rule C) edge cells) n s) (one_times k)
    ∙ steps (universe g (count_rule C) edge cells) (next_by_count C) refl (λ f own see. counted C f own see (degree g.kind)) k s

pub by_sums : (g : Grid) (T : Table) (edge : ℕ) (cells : List ℕ) (k : ℕ) (s : Site) →
    sync (universe g (table_rule T) edge cells) k s ≡ sync_by (next_by_sum T) (universe g (table_rule T) edge cells) k s
by_sums g T edge cells k s =
    ap (λ n. phase_sync (universe g (table_rule T) edge cells) n s) (one_times k)
    ∙ steps (universe g (table_rule T) edge cells) (next_by_sum T) refl (λ f own see. summed T f own see (degree g.kind)) k s
