use Rattle.std.proofs.Common.{◌≡◌, List, length, IfOk, sym, ap, ◌∙◌, subst, arith}
use Rattle.surf_lanes.specs.declared.lanes.Span.{Span}
use Rattle.surf_lanes.specs.Lanes.{IsInOrder, IsPacked}
use Rattle.surf_place.specs.Placed.{net_spans}
use Rattle.surf_place.proofs.Lanes.{net_spans_long, net_spans_ordered}
use Rattle.surf_place.proofs.Taking.{spans_are}
use Rattle.surf_place.proofs.placed.lanes_of.Goals as goal

pub pack-requires-clause-few : goal.pack-requires-clause-few
pack-requires-clause-few c =
    let N = c.args.netlist.now in
    let s = c.deref.ensures.value ∙ c.requires.sources in
    let l = c.deref-2.ensures.value ∙ c.requires.lasts in
    let e : c.deref-3.result.now ≡ net_spans N = c.deref-3.ensures.value ∙ c.in_ok-spans.ensures ∙ spans_are N c.deref.result.now c.deref-2.result.now s l in
    let k = ap length e in
    let n = net_spans_long N in omega (arith, k, n, c.requires.drawable.few)

pub pack-requires-clause-order : goal.pack-requires-clause-order
pack-requires-clause-order c =
    let N = c.args.netlist.now in
    let s = c.deref.ensures.value ∙ c.requires.sources in
    let l = c.deref-2.ensures.value ∙ c.requires.lasts in
    let e : c.deref-3.result.now ≡ net_spans N = c.deref-3.ensures.value ∙ c.in_ok-spans.ensures ∙ spans_are N c.deref.result.now c.deref-2.result.now s l in
    subst IsInOrder (sym e) (net_spans_ordered N c.requires.drawable.netlist)

pub returns : goal.returns
returns c =
    let N = c.args.netlist.now in
    let s = c.deref.ensures.value ∙ c.requires.sources in
    let l = c.deref-2.ensures.value ∙ c.requires.lasts in
    let e : c.deref-3.result.now ≡ net_spans N = c.deref-3.ensures.value ∙ c.in_ok-spans.ensures ∙ spans_are N c.deref.result.now c.deref-2.result.now s l in
    subst (λ (ss : List Span). IfOk c.pack.result (IsPacked ss)) e c.pack.ensures.packed
