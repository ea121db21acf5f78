use Rattle.std.proofs.Common.{rules, arith, ℕ, ◌∙◌, ap, sym, ◌++◌, ◌≡◌, ◌+◌, suc, List}
use Rattle.std.specs.Option.{option_to_list}
use Rattle.std.specs.List.{filter_map, range_with_len}
use Rattle.surf_lattice.specs.declared.site.Site.{Site}
use Rattle.surf_lattice.specs.Grids.{neighbour, degree}
use Rattle.surf_lattice.proofs.Listing.{found_more, few_more}
use Rattle.surf_lattice.proofs.lattice.Lattice.neighbours.Goals as goal

pub loop-direction-preserved : goal.loop-direction-preserved
loop-direction-preserved g c =
    let grid = g.Self.Lattice.grid c.args.self.now in
    let f = neighbour grid c.args.site in
    let d : ℕ = c.loop-direction.direction in
    let next : d + 1 ≡ suc d = omega arith in
    record {
      so_far = c.push_some.ensures.items
          ∙ ap (λ (v : List Site). v ++ option_to_list c.neighbour.result) c.loop-direction.invariant.so_far
          ∙ ap (λ o. filter_map f (range_with_len 0 d) ++ option_to_list o) c.neighbour.ensures
          ∙ sym (found_more f 0 d d (omega arith))
          ∙ ap (λ n. filter_map f (range_with_len 0 n)) (sym next);
      room = search rules;
      few = few_more _ _ c.neighbour.result c.push_some.ensures.items d c.loop-direction.invariant.few;
    }

pub returns-clause-inside : goal.returns-clause-inside
returns-clause-inside g c inside =
    let grid = g.Self.Lattice.grid c.args.self.now in
    let ended : c.loop-direction.direction ≡ degree grid.kind = search rules in
    c.loop-direction.invariant.so_far ∙ ap (λ n. filter_map (neighbour grid c.args.site) (range_with_len 0 n)) ended
