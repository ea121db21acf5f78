use Rattle.std.proofs.Common.{codes}
use Rattle.surf_demo.specs.Adders.{names_text}
use Rattle.surf_demo.proofs.Parts.{four, on_ok}
use Rattle.surf_demo.proofs.adder.put_inputs.Goals as goal

pub returns : goal.returns
returns c =
    on_ok c.put_pieces-2.result
    (λ e. four c.args.out.now.items (codes ".inputs") (names_text (codes " a") c.args.n) (names_text (codes " b") c.args.n) (codes " c0\n") _ _ _ _ c.in_ok-put_pieces.ensures c.in_ok-put_names.ensures c.in_ok-put_names-2.ensures e)
    c.put_pieces-2.ensures
