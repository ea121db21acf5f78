use Rattle.std.proofs.Common.{rules, ◌∙◌, ◌≡◌, slice_index, sum, ap}
use Rattle.surf_pick.proofs.Spans.{read_is}
use Rattle.surf_pick.proofs.Kepts.{top_is}
use Rattle.surf_pick.proofs.tree.TreePickerPicker.total.Goals as goal

pub returns : goal.returns
returns c =
    let i = c.self.invariant in
    let a : c.index.result.now ≡ slice_index c.self.inside.sums.items 1 = read_is c.self.inside.sums.items 1 _ (search rules) (search rules) in
    a ∙ top_is _ c.self.inside.sums.items c.self.inside.half i.0.0 i.0.1 i.1 ∙ ap (λ p. sum p.0) c.self.view_is
