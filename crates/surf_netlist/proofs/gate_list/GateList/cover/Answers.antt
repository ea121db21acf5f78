use Rattle.std.proofs.Common.{◌≡◌, ℕ, ◌+◌, ◌<◌, ◌≤◌, Option, None, List, ◌∷◌, slice_index_or, map, drop, length, sym, ap, ◌∙◌, arith}
use Rattle.std.proofs.lemmas.List.{drop_more}
use Rattle.std.proofs.lemmas.Grind.{common_steps}
use Rattle.surf_logic.specs.declared.equation.Literal.{Literal}
use Rattle.surf_tiles.specs.declared.netlist.Gate.{Gate}
use Rattle.surf_netlist.specs.declared.signed.Signed.{Signed}
use Rattle.surf_netlist.specs.Gates.{signed_row}
use Rattle.surf_netlist.specs.Making.{Making, and_all, or_all, net_at}
use Rattle.surf_netlist.proofs.Growing.{row_within}
use Rattle.surf_netlist.proofs.gate_list.GateList.cover.Goals as goal

-- the gates of the next row are among all
next_within : (f : List Literal → List Signed) (inputs : ℕ) (gates : List Gate) (so_far : Option Signed) (rows : List (List Literal)) (i : ℕ) (row : List Literal) (all : Making) →
    i < length rows → row ≡ slice_index_or rows i row → or_all inputs gates so_far (map f (drop i rows)) ≡ all → length (and_all inputs gates None (f row)).gates ≤ length all.gates
next_within f inputs gates so_far rows i row all within at is =
    let e : drop i rows ≡ row ∷ drop (i + 1) rows = drop_more rows i row within ∙ ap (λ (r : List Literal). r ∷ drop (i + 1) rows) (sym at) in
    let a = row_within inputs gates so_far (f row) (map f (drop (i + 1) rows)) in
    let b : length (or_all inputs gates so_far (f row ∷ map f (drop (i + 1) rows))).gates ≡ length all.gates =
    ap (λ (rs : List (List Literal)). length (or_all inputs gates so_far (map f rs)).gates) (sym e) ∙ ap (λ (m : Making). length m.gates) is in
    omega (arith, a, b)

pub row-requires-clause-room : goal.row-requires-clause-room
row-requires-clause-room c =
    let l = c.loop-row in
    let f = signed_row (net_at c.args.nets.now) c.args.inputs.now in
    let at : c.literals.result.now ≡ slice_index_or c.args.rows.now l.row-index c.literals.result.now = grind (arith, common_steps) in
    let a = next_within f l.self.inputs l.self.gates.items l.so_far c.args.rows.now l.row-index c.literals.result.now _ c.loop-row-test.true at l.invariant.is in
    omega (arith, a, c.requires.room, l.invariant.same)

pub or-requires : goal.or-requires
or-requires c =
    let l = c.loop-row in
    let f = signed_row (net_at c.args.nets.now) c.args.inputs.now in
    let at : c.literals.result.now ≡ slice_index_or c.args.rows.now l.row-index c.literals.result.now = grind (arith, common_steps) in
    let a = next_within f l.self.inputs l.self.gates.items l.so_far c.args.rows.now l.row-index c.literals.result.now _ c.loop-row-test.true at l.invariant.is in
    let b = ap (λ (m : Making). length m.gates) c.in_ok-next.ensures.is in
    omega (arith, a, b, c.requires.room, l.invariant.same, c.row.ensures.inputs)
