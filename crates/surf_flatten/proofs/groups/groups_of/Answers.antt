use Rattle.std.proofs.Common.{rules, arith, ◌≡◌, ◌+◌, ◌<◌, ◌≤◌, ◌++◌, [], ◌∙◌, ℕ, List, true, false, refl, sym, ap, subst, length, get_or, take, drop}
use Rattle.std.specs.List.{All}
use Rattle.std.proofs.lemmas.List.Elements.{All-get_or}
use Rattle.surf_logic.specs.Equations.{at}
use Rattle.surf_logic.specs.Marks.{Marks}
use Rattle.surf_logic.proofs.Gathering.{get_any}
use Rattle.surf_flatten.specs.Groups.{IsFoundBack, numbered}
use Rattle.surf_flatten.proofs.Grouping.{Grouped, grouped_skip, grouped_more, grouped_end, found_inside, written_back}
use Rattle.surf_flatten.proofs.groups.groups_of.Goals as goal

pub loop-root-preserved-then-index : goal.loop-root-preserved-then-index
loop-root-preserved-then-index c =
    let models = c.args.models.now in
    let done = c.args.done.now in
    let k = c.loop-root.root-index in
    let taken = c.loop-root.taken.items in
    let i = c.loop-root.invariant in
    let lt : k < length done = search rules in
    let root = get_or done k 0 in
    let inside : root < length models = All-get_or (λ n. n < length models) done k 0 lt c.requires.range in
    let fits : root < length taken = omega (arith, inside, i.taken) in
    let up : at taken root ≡ true = sym (c.index.ensures ∙ get_any taken root c.index.result.now false fits) ∙ c.if-index.true in
    record {
      grouped = grouped_skip models done k taken c.loop-root.groups.items c.loop-root.count i.grouped lt fits up;
      taken = i.taken;
      groups = i.groups;
      few = omega (arith, i.few);
    }

pub found_back-requires-clause-range : goal.found_back-requires-clause-range
found_back-requires-clause-range c =
    let models = c.args.models.now in
    let sources : c.deref.result.now ≡ c.in_ok-sources.sources.items = c.deref.ensures.value in
    let long : length c.deref_mut.result.now ≡ length models = ap length c.deref_mut.ensures.value ∙ c.loop-root.invariant.taken in
    subst (λ v. All (All (λ k. k < length c.deref_mut.result.now)) v) (sym sources) (subst (λ n. All (All (λ k. k < n)) c.in_ok-sources.sources.items) (sym long) c.in_ok-sources.ensures.range)

pub number_all-requires : goal.number_all-requires
number_all-requires c =
    let models = c.args.models.now in
    let i = c.loop-root.invariant in
    let found : c.deref-in-loop-root.result.now ≡ c.in_ok-found.found.items = c.deref-in-loop-root.ensures.value in
    let marks = subst (λ v. Marks v i.grouped.assigned) (sym c.deref_mut.ensures.value) i.grouped.marks in
    let f = c.in_ok-found.ensures.found i.grouped.assigned marks in
    let long : length c.deref.result.now ≡ length c.deref_mut-in-loop-root.result.now = ap length c.deref.ensures.value ∙ c.in_ok-sources.ensures.length ∙ sym (ap length c.deref_mut-in-loop-root.ensures.value ∙ i.groups) in
    subst (λ v. All (λ k. k < length c.deref_mut-in-loop-root.result.now) v) (sym found)
    (found_inside c.deref.result.now _ i.grouped.assigned c.in_ok-found.found.items c.found_back.new.taken (length c.deref_mut-in-loop-root.result.now) f long)

pub loop-root-preserved : goal.loop-root-preserved
loop-root-preserved c =
    let models = c.args.models.now in
    let done = c.args.done.now in
    let k = c.loop-root.root-index in
    let taken = c.loop-root.taken.items in
    let groups = c.loop-root.groups.items in
    let sources = c.in_ok-sources.sources.items in
    let found = c.in_ok-found.found.items in
    let count = c.loop-root.count in
    let i = c.loop-root.invariant in
    let lt : k < length done = search rules in
    let root = get_or done k 0 in
    let marks = subst (λ v. Marks v i.grouped.assigned) (sym c.deref_mut.ensures.value) i.grouped.marks in
    let f : IsFoundBack c.deref.result.now root i.grouped.assigned found c.found_back.new.taken = c.in_ok-found.ensures.found i.grouped.assigned marks in
    let g : IsFoundBack sources root i.grouped.assigned found c.found_back.new.taken = subst (λ v. IsFoundBack v root i.grouped.assigned found c.found_back.new.taken) c.deref.ensures.value f in
    let long : length groups ≡ length sources = i.groups ∙ sym c.in_ok-sources.ensures.length in
    let more = grouped_more models done sources k taken c.found_back.new.taken groups found count root i.grouped lt refl c.requires.done c.in_ok-sources.ensures.sources g long in
    let taken_long : length c.found_back.new.taken ≡ length taken = c.found_back.ensures.length ∙ ap length c.deref_mut.ensures.value in
    let taken_len : c.loop-root.taken.len ≡ length taken = search rules in
    let taken_back = written_back c.found_back.new.taken taken c.loop-root.taken.len taken_long taken_len in
    let numbers : c.number_all.new.numbers ≡ numbered groups (count + 1) found = c.number_all.ensures.is ∙ ap (λ v. numbered v (count + 1) c.deref-in-loop-root.result.now) c.deref_mut-in-loop-root.ensures.value ∙ ap (numbered groups (count + 1)) c.deref-in-loop-root.ensures.value in
    let groups_long : length c.number_all.new.numbers ≡ length groups = c.number_all.ensures.length ∙ ap length c.deref_mut-in-loop-root.ensures.value in
    let groups_len : c.loop-root.groups.len ≡ length groups = search rules in
    let groups_back = written_back c.number_all.new.numbers groups c.loop-root.groups.len groups_long groups_len in
    record {
      grouped = subst (λ v. Grouped models done (k + 1) v (take c.loop-root.groups.len (c.number_all.new.numbers ++ drop (length c.number_all.new.numbers) groups)) (count + 1)) (sym taken_back)
          (subst (λ v. Grouped models done (k + 1) c.found_back.new.taken v (count + 1)) (sym (groups_back ∙ numbers)) more);
      taken = ap length taken_back ∙ taken_long ∙ i.taken;
      groups = ap length groups_back ∙ groups_long ∙ i.groups;
      few = omega (arith, i.few);
    }

pub returns-clause-groups : goal.returns-clause-groups
returns-clause-groups c =
    let end : length c.args.done.now ≤ c.loop-root.root-index = search rules in
    grouped_end c.args.models.now c.args.done.now c.loop-root.root-index c.loop-root.taken.items c.loop-root.groups.items c.loop-root.count c.loop-root.invariant.grouped end c.requires.done
