use Rattle.std.proofs.Common.{rules, ◌≡◌, ◌<◌, ◌∙◌, sym, subst, length, get_or}
use Rattle.surf_flatten.specs.Tables.{place_in}
use Rattle.surf_flatten.specs.Checks.{Refuses, item_fault, lines_fault, placings_fault}
use Rattle.surf_flatten.proofs.Firsts.{models_stop}
use Rattle.surf_flatten.proofs.checks.check_placings.Goals as goal

pub returns-in_err-check_items : goal.returns-in_err-check_items
returns-in_err-check_items c =
    let find = place_in c.args.library.now in
    let ports = c.args.ports.now in
    let parts = c.args.parts.now in
    let models = c.args.models.now in
    let k = c.loop-place.place in
    let m = c.index-models-place.result in
    let e = c.in_err-check_items.field-0.0 in
    let lt : k < length models = search rules in
    let is : m ≡ get_or models k m = search rules in
    let some : 0 < get_or parts k 0 = search rules in
    let told : Refuses (lines_fault (item_fault find ports) c.items.result.now) e = c.in_err-check_items.ensures in
    let here : Refuses (lines_fault (item_fault find ports) m.items) e = subst (λ v. Refuses (lines_fault (item_fault find ports) v) e) c.items.ensures told in
    let stop : Refuses (placings_fault find ports parts models) e = models_stop (λ part i. item_fault find ports i) parts models k m e c.requires.parts lt is c.loop-place.invariant some here in
    search rules
