use Rattle.std.proofs.Common.{codes}
use Rattle.surf_demo.specs.Adders.{name_text, names_text}
use Rattle.surf_demo.proofs.Parts.{four, on_ok}
use Rattle.surf_demo.proofs.adder.put_outputs.Goals as goal

pub returns : goal.returns
returns c =
    on_ok c.put_pieces-2.result
    (λ e. four c.args.out.now.items (codes ".outputs") (names_text (codes " s") c.args.n) (name_text (codes " c") c.args.n) (codes "\n") _ _ _ _ c.in_ok-put_pieces.ensures c.in_ok-put_names.ensures c.in_ok-put_name.ensures e)
    c.put_pieces-2.ensures
