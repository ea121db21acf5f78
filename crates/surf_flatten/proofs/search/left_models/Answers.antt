use Rattle.std.proofs.Common.{rules, arith, ◌≡◌, ◌+◌, ◌-◌, ◌<◌, ◌≤◌, ◌∷◌, ◌++◌, [], ◌∙◌, ℕ, Some, inl, inr, refl, sym, ap, subst, length, get_or, reverse}
use Rattle.surf_logic.proofs.Gathering.{get_any}
use Rattle.surf_flatten.specs.Reaching.{place_of, items_at}
use Rattle.surf_flatten.specs.Searches.{HasLeft, target_by}
use Rattle.surf_flatten.proofs.Walking.{Walking, popped, step_leave, step_bump, step_enter, target_inside, target_same, all_within, items_is, remaining_less, start, finish}
use Rattle.surf_flatten.proofs.search.left_models.Goals as goal

pub index-seen-requires : goal.index-seen-requires
index-seen-requires c =
    let models = c.args.models.now in
    let progress = c.loop-place.progress.items in
    let u = c.in-Some.place in
    let w = popped models progress c.loop-place.path.items c.pop.new.self.items (reverse c.loop-place.left.items) u c.loop-place.invariant c.in-Some.ensures.items in
    let long : length progress ≡ c.loop-place.progress.len = search rules in
    omega (arith, w.inside u (inr (inl refl)), w.same, long)

pub overflow_add-seen : goal.overflow_add-seen
overflow_add-seen c =
    let models = c.args.models.now in
    let progress = c.loop-place.progress.items in
    let u = c.in-Some.place in
    let w = popped models progress c.loop-place.path.items c.pop.new.self.items (reverse c.loop-place.left.items) u c.loop-place.invariant c.in-Some.ensures.items in
    let inside : u < length models = w.inside u (inr (inl refl)) in
    let seen : c.index-seen.result.now ≡ get_or progress u 0 = c.index-seen.ensures ∙ get_any progress u c.index-seen.result.now 0 (omega (arith, inside, w.same)) in
    let items : c.items-items.result.now ≡ items_at models u = c.items-items.ensures ∙ items_is models u c.index-models-place.result inside c.index-models-place.is in
    let few : c.index-seen.result.now ≤ length c.items-items.result.now + 1 = omega (arith, seen, (w.on u (inl refl)).1, ap length items) in
    search rules

pub index_mut-requires-then-seen-items : goal.index_mut-requires-then-seen-items
index_mut-requires-then-seen-items c =
    let models = c.args.models.now in
    let progress = c.loop-place.progress.items in
    let u = c.in-Some.place in
    let w = popped models progress c.loop-place.path.items c.pop.new.self.items (reverse c.loop-place.left.items) u c.loop-place.invariant c.in-Some.ensures.items in
    let long : length progress ≡ c.loop-place.progress.len = search rules in
    omega (arith, w.inside u (inr (inl refl)), w.same, long)

pub loop-place-smaller-then-seen-items : goal.loop-place-smaller-then-seen-items
loop-place-smaller-then-seen-items c =
    let models = c.args.models.now in
    let progress = c.loop-place.progress.items in
    let u = c.in-Some.place in
    let w = popped models progress c.loop-place.path.items c.pop.new.self.items (reverse c.loop-place.left.items) u c.loop-place.invariant c.in-Some.ensures.items in
    let inside : u < length models = w.inside u (inr (inl refl)) in
    let seen : c.index-seen.result.now ≡ get_or progress u 0 = c.index-seen.ensures ∙ get_any progress u c.index-seen.result.now 0 (omega (arith, inside, w.same)) in
    remaining_less models progress u (c.index-seen.result.now + 1) w.same inside (omega (arith, seen)) (w.on u (inl refl)).1

pub loop-place-preserved-then-seen-items : goal.loop-place-preserved-then-seen-items
loop-place-preserved-then-seen-items c =
    let models = c.args.models.now in
    let progress = c.loop-place.progress.items in
    let u = c.in-Some.place in
    let w = popped models progress c.loop-place.path.items c.pop.new.self.items (reverse c.loop-place.left.items) u c.loop-place.invariant c.in-Some.ensures.items in
    let inside : u < length models = w.inside u (inr (inl refl)) in
    let seen : c.index-seen.result.now ≡ get_or progress u 0 = c.index-seen.ensures ∙ get_any progress u c.index-seen.result.now 0 (omega (arith, inside, w.same)) in
    let items : c.items-items.result.now ≡ items_at models u = c.items-items.ensures ∙ items_is models u c.index-models-place.result inside c.index-models-place.is in
    let pushed : c.push.new.self.items ≡ c.loop-place.left.items ++ u ∷ [] = search rules in
    let past : length c.items-items.result.now < c.index-seen.result.now = c.if-seen-items.true in
    step_leave models progress c.pop.new.self.items c.loop-place.left.items c.push.new.self.items u c.index-seen.result.now w seen (omega (arith, past, ap length items)) pushed

pub unseen_target-requires : goal.unseen_target-requires
unseen_target-requires c =
    let models = c.args.models.now in
    let progress = c.loop-place.progress.items in
    let same : length c.deref.result.now ≡ length progress = ap length c.deref.ensures.value in
    all_within models c.args.library.now (length c.deref.result.now) c.requires.library (same ∙ c.loop-place.invariant.same)

pub index_mut-requires-in-Some-unseen_target : goal.index_mut-requires-in-Some-unseen_target
index_mut-requires-in-Some-unseen_target c =
    let models = c.args.models.now in
    let it = c.index-items-seen.result in
    let j = c.in-Some-unseen_target.target in
    let long : length c.loop-place.progress.items ≡ c.loop-place.progress.len = search rules in
    let target : target_by (place_of models) it ≡ Some j = sym (target_same models c.args.library.now it c.requires.library) ∙ c.in-Some-unseen_target.ensures.some in
    omega (arith, target_inside models it j target, c.loop-place.invariant.same, long)

pub loop-place-smaller-in-Some-unseen_target : goal.loop-place-smaller-in-Some-unseen_target
loop-place-smaller-in-Some-unseen_target c =
    let models = c.args.models.now in
    let progress = c.loop-place.progress.items in
    let it = c.index-items-seen.result in
    let j = c.in-Some-unseen_target.target in
    let target : target_by (place_of models) it ≡ Some j = sym (target_same models c.args.library.now it c.requires.library) ∙ c.in-Some-unseen_target.ensures.some in
    let none : get_or progress j 0 ≡ 0 = ap (λ v. get_or v j 0) (sym c.deref.ensures.value) ∙ c.in-Some-unseen_target.ensures.unseen in
    remaining_less models progress j 1 c.loop-place.invariant.same (target_inside models it j target) (omega (arith, none)) (omega (arith, none))

pub loop-place-preserved-in-Some-unseen_target : goal.loop-place-preserved-in-Some-unseen_target
loop-place-preserved-in-Some-unseen_target c =
    let models = c.args.models.now in
    let progress = c.loop-place.progress.items in
    let u = c.in-Some.place in
    let w = popped models progress c.loop-place.path.items c.pop.new.self.items (reverse c.loop-place.left.items) u c.loop-place.invariant c.in-Some.ensures.items in
    let inside : u < length models = w.inside u (inr (inl refl)) in
    let seen : c.index-seen.result.now ≡ get_or progress u 0 = c.index-seen.ensures ∙ get_any progress u c.index-seen.result.now 0 (omega (arith, inside, w.same)) in
    let items : c.items-items.result.now ≡ items_at models u = c.items-items.ensures ∙ items_is models u c.index-models-place.result inside c.index-models-place.is in
    let it = c.index-items-seen.result in
    let j = c.in-Some-unseen_target.target in
    let fits : c.index-seen.result.now ≤ length c.items-items.result.now = c.if-seen-items.false in
    let at : it ≡ get_or (items_at models u) (c.index-seen.result.now - 1) it = subst (λ v. it ≡ get_or v (c.index-seen.result.now - 1) it) items c.index-items-seen.is in
    let target : target_by (place_of models) it ≡ Some j = sym (target_same models c.args.library.now it c.requires.library) ∙ c.in-Some-unseen_target.ensures.some in
    let none : get_or progress j 0 ≡ 0 = ap (λ v. get_or v j 0) (sym c.deref.ensures.value) ∙ c.in-Some-unseen_target.ensures.unseen in
    let back : c.push-in-Some.new.self.items ≡ c.pop.new.self.items ++ u ∷ [] = search rules in
    let pushed : c.push-in-Some-unseen_target.new.self.items ≡ c.push-in-Some.new.self.items ++ j ∷ [] = search rules in
    step_enter models progress c.pop.new.self.items c.push-in-Some.new.self.items c.push-in-Some-unseen_target.new.self.items (reverse c.loop-place.left.items) u c.index-seen.result.now j it w seen (omega (arith, fits, ap length items)) at target none back pushed

pub index_mut-requires-in-Some : goal.index_mut-requires-in-Some
index_mut-requires-in-Some c =
    let models = c.args.models.now in
    let progress = c.loop-place.progress.items in
    let u = c.in-Some.place in
    let w = popped models progress c.loop-place.path.items c.pop.new.self.items (reverse c.loop-place.left.items) u c.loop-place.invariant c.in-Some.ensures.items in
    let long : length progress ≡ c.loop-place.progress.len = search rules in
    omega (arith, w.inside u (inr (inl refl)), w.same, long)

pub loop-place-smaller : goal.loop-place-smaller
loop-place-smaller c =
    let models = c.args.models.now in
    let progress = c.loop-place.progress.items in
    let u = c.in-Some.place in
    let w = popped models progress c.loop-place.path.items c.pop.new.self.items (reverse c.loop-place.left.items) u c.loop-place.invariant c.in-Some.ensures.items in
    let inside : u < length models = w.inside u (inr (inl refl)) in
    let seen : c.index-seen.result.now ≡ get_or progress u 0 = c.index-seen.ensures ∙ get_any progress u c.index-seen.result.now 0 (omega (arith, inside, w.same)) in
    remaining_less models progress u (c.index-seen.result.now + 1) w.same inside (omega (arith, seen)) (w.on u (inl refl)).1

pub loop-place-preserved : goal.loop-place-preserved
loop-place-preserved c =
    let models = c.args.models.now in
    let progress = c.loop-place.progress.items in
    let u = c.in-Some.place in
    let w = popped models progress c.loop-place.path.items c.pop.new.self.items (reverse c.loop-place.left.items) u c.loop-place.invariant c.in-Some.ensures.items in
    let inside : u < length models = w.inside u (inr (inl refl)) in
    let seen : c.index-seen.result.now ≡ get_or progress u 0 = c.index-seen.ensures ∙ get_any progress u c.index-seen.result.now 0 (omega (arith, inside, w.same)) in
    let items : c.items-items.result.now ≡ items_at models u = c.items-items.ensures ∙ items_is models u c.index-models-place.result inside c.index-models-place.is in
    let it = c.index-items-seen.result in
    let fits : c.index-seen.result.now ≤ length c.items-items.result.now = c.if-seen-items.false in
    let at : it ≡ get_or (items_at models u) (c.index-seen.result.now - 1) it = subst (λ v. it ≡ get_or v (c.index-seen.result.now - 1) it) items c.index-items-seen.is in
    let back : c.push-in-Some.new.self.items ≡ c.pop.new.self.items ++ u ∷ [] = search rules in
    let known : (j : ℕ) → target_by (place_of models) it ≡ Some j → 0 < get_or progress j 0 =
    λ j e. subst (λ v. 0 < get_or v j 0) c.deref.ensures.value (search (rules, c.in_default-unseen_target.ensures.seen j (target_same models c.args.library.now it c.requires.library ∙ e))) in
    step_bump models progress c.pop.new.self.items c.push-in-Some.new.self.items (reverse c.loop-place.left.items) u c.index-seen.result.now it w seen (omega (arith, fits, ap length items)) at known back

pub returns : goal.returns
returns c =
    let empty : c.loop-place.path.items ≡ [] = search rules in
    let turned : c.reverse.new.self.items ≡ reverse c.loop-place.left.items = search rules in
    subst (HasLeft c.args.models.now) (sym turned) (finish c.args.models.now c.loop-place.progress.items (reverse c.loop-place.left.items) (subst (λ v. Walking c.args.models.now c.loop-place.progress.items (reverse v) (reverse c.loop-place.left.items)) empty c.loop-place.invariant))
