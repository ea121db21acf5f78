use Rattle.std.proofs.Common.{◌≡◌, ℕ, ◌+◌, List, [], ◌∷◌, false, length, drop, get_or, vec_len, sym, ap, ◌∙◌, arith}
use Rattle.std.proofs.lemmas.List.{drop_more}
use Rattle.surf_tiles.specs.declared.netlist.Gate.{Gate}
use Rattle.surf_tiles.specs.declared.netlist.Gate.TheVariants.{Constant}
use Rattle.surf_place.specs.Drawing.{gate_rows}
use Rattle.surf_place.specs.Filling.{Filled, filled, filled_of}
use Rattle.surf_place.proofs.Taking.{gate_more, gate_taken}
use Rattle.surf_place.proofs.filling.Filling.add_gates.Goals as goal

pub loop-gate-preserved : goal.loop-gate-preserved
loop-gate-preserved c =
    let l = c.loop-gate in
    let gs = c.args.gates.now in
    let i = l.gate-index in
    let g : Gate = get_or gs i (Constant false) in
    let rest = drop (i + 1) gs in
    let d : drop i gs ≡ g ∷ rest = drop_more gs i (Constant false) c.loop-gate-test.true in
    let old = filled_of l.self in
    let new = filled_of c.add_gate.new.self in
    let n = vec_len l.self.last in
    let h = c.in_ok-add_gate.ensures n in
    let t = gate_taken old n g in
    let a = ap (λ (f : Filled). length f.last) h in
    let b = ap (λ (f : Filled). f.row) h in
    let long : vec_len c.add_gate.new.self.last ≡ n + 1 = omega (arith, a, t.nets, l.self.last.ok.0, c.add_gate.new.self.last.ok.0) in
    record {
      is = ap (λ (k : ℕ). filled new (gate_rows k rest [])) long
          ∙ ap (λ (f : Filled). filled f (gate_rows (n + 1) rest [])) h
          ∙ sym (gate_more old n g rest)
          ∙ ap (λ (xs : List Gate). filled old (gate_rows n xs [])) (sym d)
          ∙ l.invariant.is;
      long = omega (arith, long, l.invariant.long);
      row = omega (arith, b, t.rows, l.invariant.row);
    }
