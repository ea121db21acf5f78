use Rattle.std.specs.List.{flat_map, range_with_len, sum_by}
use Rattle.std.proofs.Common.{ℕ, ◌≡◌, ◌+◌, ◌-◌, ◌*◌, ◌∙◌, ap, sym, arith, length, nat_eq, slice_get, Some}
use Rattle.surf_lattice.specs.Grids.{Grid, degree, neighbour, place}
use Rattle.surf_world.specs.Choices.{enabled_test, events_toward}
use Rattle.surf_world.specs.Picks.{rate_of}
use Rattle.surf_world.proofs.Inner.{row_above, inner_within, inner_toward, degree_six, four_sum, six_sum}
use Rattle.surf_world.proofs.world.World.inner_weight.Goals as goal

pub name_at-requires-2 : goal.name_at-requires-2
name_at-requires-2 g c =
    let wide : c.width-width.result ≡ c.args.self.now.surface.grid.width = c.width-width.ensures.side ∙ ap (λ (h : Grid). h.width) c.grid.ensures in
    let long : length c.args.self.now.names ≡ c.args.self.now.surface.grid.width * c.args.self.now.surface.grid.height = sym c.site_count-site_count.ensures.names ∙ c.site_count-site_count.ensures.sides in
    inner_within c.args.self.now.surface.grid c.args.site 1 (c.place-place.result + 1) _ c.requires long (omega (arith, wide, c.place-place.ensures.place))

pub name_at-requires-4 : goal.name_at-requires-4
name_at-requires-4 g c =
    let wide : c.width-width.result ≡ c.args.self.now.surface.grid.width = c.width-width.ensures.side ∙ ap (λ (h : Grid). h.width) c.grid.ensures in
    let long : length c.args.self.now.names ≡ c.args.self.now.surface.grid.width * c.args.self.now.surface.grid.height = sym c.site_count-site_count.ensures.names ∙ c.site_count-site_count.ensures.sides in
    inner_within c.args.self.now.surface.grid c.args.site 3 (c.place-place.result + c.width-width.result) _ c.requires long (omega (arith, wide, c.place-place.ensures.place))

pub name_at-requires-6 : goal.name_at-requires-6
name_at-requires-6 g c =
    let wide : c.width-width.result ≡ c.args.self.now.surface.grid.width = c.width-width.ensures.side ∙ ap (λ (h : Grid). h.width) c.grid.ensures in
    let long : length c.args.self.now.names ≡ c.args.self.now.surface.grid.width * c.args.self.now.surface.grid.height = sym c.site_count-site_count.ensures.names ∙ c.site_count-site_count.ensures.sides in
    inner_within c.args.self.now.surface.grid c.args.site 5 (c.place-place.result + c.width-width.result + 1) _ c.requires long (omega (arith, wide, c.place-place.ensures.place))

pub returns-then-degree-eq4-clause-sum : goal.returns-then-degree-eq4-clause-sum
returns-then-degree-eq4-clause-sum g c =
    let S = c.args.self.now.surface in
    let wide : c.width-width.result ≡ c.args.self.now.surface.grid.width = c.width-width.ensures.side ∙ ap (λ (h : Grid). h.width) c.grid.ensures in
    let up = row_above c.args.self.now.surface.grid c.args.site c.requires in
    let own : Some c.name_at-name.result ≡ slice_get c.args.self.now.names (place c.args.self.now.surface.grid c.args.site) = sym c.name_at-name.ensures ∙ ap (slice_get c.args.self.now.names) c.place-place.ensures.place in
    let count : c.degree.result ≡ degree c.args.self.now.surface.grid.kind = c.degree.ensures ∙ ap (λ (h : Grid). degree h.kind) c.grid-2.ensures in
    let degrees : degree c.args.self.now.surface.grid.kind ≡ 4 = sym count ∙ c.if-degree-eq4.true in
    let west = inner_toward S c.args.self.now.names c.args.site 0 (c.place-place.result - 1) c.name_at-name.result c.name_at.result c.pair_weight-west.result c.requires (omega (arith, degrees)) (omega (arith, wide, up, c.place-place.ensures.place)) own c.name_at.ensures c.pair_weight-west.ensures.sum in
    let east = inner_toward S c.args.self.now.names c.args.site 1 (c.place-place.result + 1) c.name_at-name.result c.name_at-2.result c.pair_weight-east.result c.requires (omega (arith, degrees)) (omega (arith, wide, up, c.place-place.ensures.place)) own c.name_at-2.ensures c.pair_weight-east.ensures.sum in
    let north = inner_toward S c.args.self.now.names c.args.site 2 (c.place-place.result - c.width-width.result) c.name_at-name.result c.name_at-3.result c.pair_weight-north.result c.requires (omega (arith, degrees)) (omega (arith, wide, up, c.place-place.ensures.place)) own c.name_at-3.ensures c.pair_weight-north.ensures.sum in
    let south = inner_toward S c.args.self.now.names c.args.site 3 (c.place-place.result + c.width-width.result) c.name_at-name.result c.name_at-4.result c.pair_weight-south.result c.requires (omega (arith, degrees)) (omega (arith, wide, up, c.place-place.ensures.place)) own c.name_at-4.ensures c.pair_weight-south.ensures.sum in
    let whole = four_sum (rate_of S) (λ (i : ℕ). events_toward (enabled_test nat_eq S c.args.self.now.names) (length S.rules) c.args.site (neighbour S.grid c.args.site i)) in
    omega (arith, west, east, north, south, whole, ap (λ n. sum_by (rate_of S) (flat_map (λ (i : ℕ). events_toward (enabled_test nat_eq S c.args.self.now.names) (length S.rules) c.args.site (neighbour S.grid c.args.site i)) (range_with_len 0 n))) degrees)

pub returns-clause-sum : goal.returns-clause-sum
returns-clause-sum g c =
    let S = c.args.self.now.surface in
    let wide : c.width-width.result ≡ c.args.self.now.surface.grid.width = c.width-width.ensures.side ∙ ap (λ (h : Grid). h.width) c.grid.ensures in
    let up = row_above c.args.self.now.surface.grid c.args.site c.requires in
    let own : Some c.name_at-name.result ≡ slice_get c.args.self.now.names (place c.args.self.now.surface.grid c.args.site) = sym c.name_at-name.ensures ∙ ap (slice_get c.args.self.now.names) c.place-place.ensures.place in
    let count : c.degree.result ≡ degree c.args.self.now.surface.grid.kind = c.degree.ensures ∙ ap (λ (h : Grid). degree h.kind) c.grid-2.ensures in
    let degrees : degree c.args.self.now.surface.grid.kind ≡ 6 = degree_six c.args.self.now.surface.grid.kind (λ e. c.if-degree-eq4.false (count ∙ e)) in
    let west = inner_toward S c.args.self.now.names c.args.site 0 (c.place-place.result - 1) c.name_at-name.result c.name_at.result c.pair_weight-west.result c.requires (omega (arith, degrees)) (omega (arith, wide, up, c.place-place.ensures.place)) own c.name_at.ensures c.pair_weight-west.ensures.sum in
    let east = inner_toward S c.args.self.now.names c.args.site 1 (c.place-place.result + 1) c.name_at-name.result c.name_at-2.result c.pair_weight-east.result c.requires (omega (arith, degrees)) (omega (arith, wide, up, c.place-place.ensures.place)) own c.name_at-2.ensures c.pair_weight-east.ensures.sum in
    let north = inner_toward S c.args.self.now.names c.args.site 2 (c.place-place.result - c.width-width.result) c.name_at-name.result c.name_at-3.result c.pair_weight-north.result c.requires (omega (arith, degrees)) (omega (arith, wide, up, c.place-place.ensures.place)) own c.name_at-3.ensures c.pair_weight-north.ensures.sum in
    let south = inner_toward S c.args.self.now.names c.args.site 3 (c.place-place.result + c.width-width.result) c.name_at-name.result c.name_at-4.result c.pair_weight-south.result c.requires (omega (arith, degrees)) (omega (arith, wide, up, c.place-place.ensures.place)) own c.name_at-4.ensures c.pair_weight-south.ensures.sum in
    let north_west = inner_toward S c.args.self.now.names c.args.site 4 (c.place-place.result - c.width-width.result - 1) c.name_at-name.result c.name_at-5.result c.pair_weight-north_west.result c.requires (omega (arith, degrees)) (omega (arith, wide, up, c.place-place.ensures.place)) own c.name_at-5.ensures c.pair_weight-north_west.ensures.sum in
    let south_east = inner_toward S c.args.self.now.names c.args.site 5 (c.place-place.result + c.width-width.result + 1) c.name_at-name.result c.name_at-6.result c.pair_weight-south_east.result c.requires (omega (arith, degrees)) (omega (arith, wide, up, c.place-place.ensures.place)) own c.name_at-6.ensures c.pair_weight-south_east.ensures.sum in
    let whole = six_sum (rate_of S) (λ (i : ℕ). events_toward (enabled_test nat_eq S c.args.self.now.names) (length S.rules) c.args.site (neighbour S.grid c.args.site i)) in
    omega (arith, west, east, north, south, north_west, south_east, whole, ap (λ n. sum_by (rate_of S) (flat_map (λ (i : ℕ). events_toward (enabled_test nat_eq S c.args.self.now.names) (length S.rules) c.args.site (neighbour S.grid c.args.site i)) (range_with_len 0 n))) degrees)
