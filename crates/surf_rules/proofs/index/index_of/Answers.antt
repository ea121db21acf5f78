use Rattle.std.proofs.Common.{◌∙◌, ap, subst, List, map}
use Rattle.surf_rules.specs.declared.index.Entry.{Entry}
use Rattle.surf_rules.specs.Sides.{AreStarts}
use Rattle.surf_rules.proofs.Sides.{index_is}
use Rattle.surf_rules.proofs.index.index_of.Goals as goal

pub returns : goal.returns
returns c =
    index_is c.args.rules.now c.in_ok-listed.listed.items c.in_ok-ranked.ranked.items c.in_ok-sorted.sorted.items c.in_ok-starts.starts.items c.in_ok-ranks.ranks.items c.in_ok-ranks.numbers.items
    c.in_ok-listed.ensures.same c.in_ok-ranked.ensures.rising c.in_ok-ranked.ensures.stable c.in_ok-sorted.ensures.stable
    (subst (λ (es : List Entry). AreStarts c.in_ok-starts.starts.items es) c.deref.ensures.value c.in_ok-starts.ensures)
    (c.in_ok-ranks.ensures.ranks ∙ ap (map (λ (e : Entry). e.rank)) c.deref-2.ensures.value)
    (c.in_ok-ranks.ensures.numbers ∙ ap (map (λ (e : Entry). e.number)) c.deref-2.ensures.value)
