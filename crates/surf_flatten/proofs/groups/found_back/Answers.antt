use Rattle.std.proofs.Common.{rules, arith, ◌≡◌, ◌+◌, ◌-◌, ◌<◌, ◌≤◌, ◌++◌, [], ◌∙◌, ℕ, List, refl, sym, ap, subst, length, get_or}
use Rattle.std.specs.List.{All}
use Rattle.std.proofs.lemmas.List.Elements.{All-get_or}
use Rattle.surf_logic.specs.Marks.{fresh, marked, down_count}
use Rattle.surf_logic.proofs.Gathering.{get_any}
use Rattle.surf_logic.proofs.Marking.{marked_length}
use Rattle.surf_flatten.proofs.Grouping.{Backward, back_step, back_end, back_less, found_within}
use Rattle.surf_flatten.proofs.groups.found_back.Goals as goal

pub loop-next-smaller : goal.loop-next-smaller
loop-next-smaller c =
    let sources = c.args.sources.now in
    let taken = c.loop-next.taken in
    let found = c.loop-next.found.items in
    let next = c.loop-next.next in
    let lt : next < length found = search rules in
    let j = get_or found next 0 in
    let is : c.index.result.now ≡ j = c.index.ensures ∙ get_any found next c.index.result.now 0 lt in
    let inside : j < length taken = All-get_or (λ k. k < length taken) found next 0 lt c.loop-next.invariant.inside in
    let source : j < length sources = omega (arith, inside, c.loop-next.invariant.same, c.requires.same) in
    let looked : c.places.result.now ≡ get_or sources j [] = c.places.ensures ∙ c.index-sources-index.is ∙ ap (λ k. get_or sources k c.index-sources-index.result) is ∙ get_any sources j c.index-sources-index.result [] source in
    let within : All (λ k. k < length taken) (get_or sources j []) = subst (λ n. All (λ k. k < n) (get_or sources j [])) (sym c.loop-next.invariant.same) (All-get_or (All (λ k. k < length c.args.taken.now)) sources j [] source c.requires.range) in
    let up : c.gather.new.flags ≡ marked taken (get_or sources j []) = c.in_ok-gather.ensures.flags ∙ ap (marked taken) looked in
    let list : c.gather.new.list.items ≡ found ++ fresh taken (get_or sources j []) = c.in_ok-gather.ensures.list ∙ ap (λ v. found ++ fresh taken v) looked in
    subst (λ v. down_count v + (length c.gather.new.list.items - (next + 1)) < down_count taken + (length found - next)) (sym up)
    (subst (λ v. down_count (marked taken (get_or sources j [])) + (length v - (next + 1)) < down_count taken + (length found - next)) (sym list)
    (back_less taken found (get_or sources j []) next within lt))

pub loop-next-preserved : goal.loop-next-preserved
loop-next-preserved c =
    let sources = c.args.sources.now in
    let taken = c.loop-next.taken in
    let found = c.loop-next.found.items in
    let next = c.loop-next.next in
    let root = c.args.root in
    let i = c.loop-next.invariant in
    let lt : next < length found = search rules in
    let j = get_or found next 0 in
    let is : c.index.result.now ≡ j = c.index.ensures ∙ get_any found next c.index.result.now 0 lt in
    let inside : j < length taken = All-get_or (λ k. k < length taken) found next 0 lt i.inside in
    let source : j < length sources = omega (arith, inside, i.same, c.requires.same) in
    let looked : c.places.result.now ≡ get_or sources j [] = c.places.ensures ∙ c.index-sources-index.is ∙ ap (λ k. get_or sources k c.index-sources-index.result) is ∙ get_any sources j c.index-sources-index.result [] source in
    let range : All (All (λ k. k < length taken)) sources = subst (λ n. All (All (λ k. k < n)) sources) (sym i.same) c.requires.range in
    let within : All (λ k. k < length taken) (get_or sources j []) = All-get_or (All (λ k. k < length taken)) sources j [] source range in
    let up : c.gather.new.flags ≡ marked taken (get_or sources j []) = c.in_ok-gather.ensures.flags ∙ ap (marked taken) looked in
    let list : c.gather.new.list.items ≡ found ++ fresh taken (get_or sources j []) = c.in_ok-gather.ensures.list ∙ ap (λ v. found ++ fresh taken v) looked in
    let long : length c.gather.new.flags ≡ length taken = c.gather.ensures.length in
    record {
      back = λ assigned marks.
          subst (λ v. Backward sources root (next + 1) assigned v c.gather.new.flags) (sym list)
          (subst (λ v. Backward sources root (next + 1) assigned (found ++ fresh taken (get_or sources j [])) v) (sym up)
          (back_step sources root next assigned found taken j (i.back assigned marks) lt refl range));
      inside = subst (λ n. All (λ k. k < n) c.gather.new.list.items) (sym long) (subst (λ v. All (λ k. k < length taken) v) (sym list) (found_within (length taken) taken found (get_or sources j []) i.inside within));
      same = long ∙ i.same;
    }

pub returns-clause-found : goal.returns-clause-found
returns-clause-found c =
    let end : length c.loop-next.found.items ≤ c.loop-next.next = search rules in
    λ assigned marks. back_end c.args.sources.now c.args.root c.loop-next.next assigned c.loop-next.found.items c.loop-next.taken (c.loop-next.invariant.back assigned marks) end
