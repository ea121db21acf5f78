use Rattle.std.proofs.Common.{arith, rules, ◌≡◌, ◌<◌, ◌+◌, ◌^◌, ◌∙◌, slice_set, slice_index, take, drop, length, sum, ap, sym, subst}
use Rattle.surf_pick.specs.Wides.{Mending}
use Rattle.surf_pick.proofs.WideMends.{put_fits, read_is}
use Rattle.surf_pick.proofs.WideKepts.{put_rows, put_mending, put_total, set_is, set_keeps}
use Rattle.surf_pick.proofs.wide.WidePickerPicker.set.Goals as goal

pub overflow_cast-new : goal.overflow_cast-new
overflow_cast-new c =
    let k = c.self.inside in
    let ws = take k.count (drop k.leaf k.sums.items) in
    let lt : c.args.place < length ws = omega (arith, ap (λ p. length p.0) c.self.view_is, c.requires.place) in
    let small : sum (slice_set ws c.args.place c.args.weight) < 2 ^ 64 = omega (arith, ap (λ p. sum (slice_set p.0 c.args.place c.args.weight)) c.self.view_is, c.requires.fits) in
    omega (arith, put_fits ws c.args.place c.args.weight lt, small)

pub overflow_add-self : goal.overflow_add-self
overflow_add-self c =
    let k = c.self.inside in
    let ws = take k.count (drop k.leaf k.sums.items) in
    let lt : c.args.place < length ws = omega (arith, ap (λ p. length p.0) c.self.view_is, c.requires.place) in
    let small : sum (slice_set ws c.args.place c.args.weight) < 2 ^ 64 = omega (arith, ap (λ p. sum (slice_set p.0 c.args.place c.args.weight)) c.self.view_is, c.requires.fits) in
    let kept = c.self.invariant.0 in
    let x : c.index-old.result.now ≡ slice_index k.sums.items (k.leaf + c.args.place) = read_is k.sums.items (k.leaf + c.args.place) _ (search rules) (omega (arith, kept.room, lt)) in
    omega (arith, x, put_total ws k.sums.items k.sums.items k.leaf k.whole k.count c.args.place c.args.weight kept c.self.invariant.1 lt small, small)

pub mend-requires-clause-rows : goal.mend-requires-clause-rows
mend-requires-clause-rows c =
    let k = c.self.inside in
    let ws = take k.count (drop k.leaf k.sums.items) in
    let lt : c.args.place < length ws = omega (arith, ap (λ p. length p.0) c.self.view_is, c.requires.place) in
    let small : sum (slice_set ws c.args.place c.args.weight) < 2 ^ 64 = omega (arith, ap (λ p. sum (slice_set p.0 c.args.place c.args.weight)) c.self.view_is, c.requires.fits) in
    put_rows ws k.sums.items k.sums.items k.leaf k.whole k.count c.args.place c.args.weight c.self.invariant.0 c.self.invariant.1 lt small

pub mend-requires-clause-mending : goal.mend-requires-clause-mending
mend-requires-clause-mending c =
    let k = c.self.inside in
    let ws = take k.count (drop k.leaf k.sums.items) in
    let lt : c.args.place < length ws = omega (arith, ap (λ p. length p.0) c.self.view_is, c.requires.place) in
    let small : sum (slice_set ws c.args.place c.args.weight) < 2 ^ 64 = omega (arith, ap (λ p. sum (slice_set p.0 c.args.place c.args.weight)) c.self.view_is, c.requires.fits) in
    let kept = c.self.invariant.0 in
    let x : c.index-old.result.now ≡ slice_index k.sums.items (k.leaf + c.args.place) = read_is k.sums.items (k.leaf + c.args.place) _ (search rules) (omega (arith, kept.room, lt)) in
    subst (λ v. Mending (slice_set k.sums.items (k.leaf + c.args.place) c.args.weight) k.leaf (k.leaf + c.args.place) v c.args.weight) (sym x)
    (put_mending ws k.sums.items k.sums.items k.leaf k.whole k.count c.args.place c.args.weight kept c.self.invariant.1 lt small)

pub invariant_of-self : goal.invariant_of-self
invariant_of-self c =
    let k = c.self.inside in
    let ws = take k.count (drop k.leaf k.sums.items) in
    let lt : c.args.place < length ws = omega (arith, ap (λ p. length p.0) c.self.view_is, c.requires.place) in
    let small : sum (slice_set ws c.args.place c.args.weight) < 2 ^ 64 = omega (arith, ap (λ p. sum (slice_set p.0 c.args.place c.args.weight)) c.self.view_is, c.requires.fits) in
    let kept = c.self.invariant.0 in
    let x : c.index-old.result.now ≡ slice_index k.sums.items (k.leaf + c.args.place) = read_is k.sums.items (k.leaf + c.args.place) _ (search rules) (omega (arith, kept.room, lt)) in
    set_keeps ws k.sums.items c.mend.new.sums.items k.leaf k.whole k.count c.args.place c.args.weight _ kept c.self.invariant.1 lt small x c.mend.ensures.leaves c.mend.ensures.sums

pub returns-clause-list : goal.returns-clause-list
returns-clause-list c =
    let k = c.self.inside in
    let ws = take k.count (drop k.leaf k.sums.items) in
    let lt : c.args.place < length ws = omega (arith, ap (λ p. length p.0) c.self.view_is, c.requires.place) in
    let small : sum (slice_set ws c.args.place c.args.weight) < 2 ^ 64 = omega (arith, ap (λ p. sum (slice_set p.0 c.args.place c.args.weight)) c.self.view_is, c.requires.fits) in
    let kept = c.self.invariant.0 in
    let x : c.index-old.result.now ≡ slice_index k.sums.items (k.leaf + c.args.place) = read_is k.sums.items (k.leaf + c.args.place) _ (search rules) (omega (arith, kept.room, lt)) in
    set_is ws k.sums.items c.mend.new.sums.items k.leaf k.whole k.count c.args.place c.args.weight _ kept c.self.invariant.1 lt small x c.mend.ensures.leaves
    ∙ ap (λ p. slice_set p.0 c.args.place c.args.weight) c.self.view_is
