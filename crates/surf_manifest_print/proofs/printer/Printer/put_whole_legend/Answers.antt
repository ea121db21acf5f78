use Rattle.std.proofs.Common.{rules, ◌≡◌, ◌∙◌, ◌++◌, ◌∷◌, [], ap, map, codes}
use Rattle.surf_text.specs.Bytes.{ended}
use Rattle.surf_manifest_print.specs.Prints.{place_text, events_text}
use Rattle.surf_manifest_print.proofs.PrintLemmas.{legend_put}
use Rattle.surf_manifest_print.proofs.printer.Printer.put_whole_legend.Goals as goal

pub returns : goal.returns
returns c =
    let l = c.args.legend.now in
    let ins : c.deref.result.now ≡ l.inputs = search rules in
    let outs : c.deref-2.result.now ≡ l.outputs = search rules in
    let count : c.legend.inside.events ≡ l.events = search rules in
    legend_put (map (place_text (codes "input")) l.inputs) (map (place_text (codes "output")) l.outputs) (events_text l.events) _ _ _ _
    (c.in_ok-put_places.ensures ∙ ap (λ v. c.args.self.now ++ ended (map (place_text (codes "input")) v)) ins)
    (c.in_ok-put_places-2.ensures ∙ ap (λ v. c.put_places.new.self ++ ended (map (place_text (codes "output")) v)) outs)
    (c.in_ok-put_events.ensures ∙ ap (λ n. c.put_places-2.new.self ++ (events_text n ++ 10 ∷ [])) count)
