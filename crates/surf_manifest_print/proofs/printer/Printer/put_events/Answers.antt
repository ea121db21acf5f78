use Rattle.std.proofs.Common.{◌∷◌, [], codes}
use Rattle.std.specs.Fmt.{decimal}
use Rattle.surf_manifest_print.proofs.PrintLemmas.{three, on_ok}
use Rattle.surf_manifest_print.proofs.printer.Printer.put_events.Goals as goal

pub returns : goal.returns
returns c =
    on_ok c.put-2.result (λ e. three c.args.self.now (codes "# surf events ") (decimal c.args.events) (10 ∷ []) _ _ _ c.in_ok-put.ensures c.in_ok-put_number.ensures e) c.put-2.ensures
