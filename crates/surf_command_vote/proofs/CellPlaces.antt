-- The places of a universe's cells in its colony.
use Rattle.std.specs.Prelude.{All}
use Rattle.std.proofs.Common.{ℕ, ◌≡◌, ◌+◌, ◌*◌, ◌/◌, ◌%◌, ◌<◌, length, map, Option, arith, sym, ◌∙◌, ap, subst, suc, zero}
use Rattle.std.proofs.lemmas.List.{length-map}
use Rattle.std.proofs.lemmas.List.Elements.{All-map, All-nil, All-cons}
use Rattle.std.specs.List.{range_with_len}
use Rattle.std.proofs.lemmas.Nat.{div_below, mod_below, mul-add-lt}
use Rattle.surf_lattice.specs.Grids.{IsGrid, site_at, sites}
use Rattle.surf_world.proofs.Places.{sites_length}
use Rattle.surf_auto.specs.Sync.{Universe}
use Rattle.surf_sync.specs.Rules.{below}
use Rattle.surf_sync.specs.Spelling.{spell}
use Rattle.surf_sync.proofs.Loops.{map_map}
use Rattle.surf_colony.specs.Colonies.{border, first_mark, framed, printed}
use Rattle.surf_colony.specs.InStep.{place_of}
use Rattle.surf_command_vote.specs.Shown.{cell_places}

-- the numbers of a range are below its end
all_from : (P : ℕ → Type 0) (a n : ℕ) → ((k : ℕ) → k < a + n → P k) → All P (range_with_len a n)
all_from P a zero h = All-nil P
all_from P a (suc n) h = All-cons P a (range_with_len (a + 1) n) (h a (omega arith)) (all_from P (a + 1) n (λ k lt. h k (omega (arith, lt))))

module _ (U : Universe) (is : IsGrid U.grid) where
  cell_within : (k : ℕ) → k < U.grid.width * U.grid.height → place_of U (site_at U.grid k) < (framed U.grid).width * (framed U.grid).height
  cell_within k lt =
      let x : k % U.grid.width < U.grid.width = mod_below k U.grid.width is.wide in
      let y : k / U.grid.width < U.grid.height = div_below k U.grid.width U.grid.height is.wide (let e : U.grid.width * U.grid.height ≡ U.grid.height * U.grid.width = omega arith in subst (λ n. k < n) e lt) in
      mul-add-lt (k / U.grid.width + border U.grid.wrap) (framed U.grid).width (k % U.grid.width + border U.grid.wrap) (framed U.grid).height (omega (arith, y)) (omega (arith, x))

  pub sites_count : (last : Option ℕ) → length (printed U last).start ≡ (framed U.grid).width * (framed U.grid).height
  sites_count last = length-map (map (first_mark U) (sites (framed U.grid))) spell ∙ length-map (sites (framed U.grid)) (first_mark U) ∙ sites_length (framed U.grid)

  pub cells_within : (last : Option ℕ) → All (λ p. p < length (printed U last).start) (cell_places U)
  cells_within last =
      subst (λ n. All (λ p. p < n) (cell_places U)) (sym (sites_count last))
      (All-map (λ p. p < (framed U.grid).width * (framed U.grid).height) (place_of U) (sites U.grid)
      (All-map (λ s. place_of U s < (framed U.grid).width * (framed U.grid).height) (site_at U.grid) (below (U.grid.width * U.grid.height))
      (all_from (λ k. place_of U (site_at U.grid k) < (framed U.grid).width * (framed U.grid).height) 0 (U.grid.width * U.grid.height) (λ k lt. cell_within k (omega (arith, lt))))))

-- the place of the k-th cell, by the width and the border
abbrev pub kth_place : ℕ → ℕ → ℕ → ℕ
kth_place width border k = (k / width + border) * (width + 2 * border) + (k % width + border)

pub places_listed : (U : Universe) (n : ℕ) → n ≡ U.grid.width * U.grid.height → map (kth_place U.grid.width (border U.grid.wrap)) (below n) ≡ cell_places U
places_listed U n all =
    ap (λ m. map (kth_place U.grid.width (border U.grid.wrap)) (below m)) all
    ∙ sym (map_map (place_of U) (site_at U.grid) (below (U.grid.width * U.grid.height)))
