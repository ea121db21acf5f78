use Rattle.std.proofs.Common.{rules, ◌≡◌, ◌<◌, ℕ, List, [], length, IfOk, sym, ◌∙◌, subst}
use Rattle.std.specs.List.{All}
use Rattle.std.proofs.Math.ListN.{replicate}
use Rattle.std.proofs.lemmas.List.{length-replicate}
use Rattle.surf_logic.specs.Order.{EquationInRange}
use Rattle.surf_logic.specs.Marks.{AreSources, all_added}
use Rattle.surf_logic.proofs.Gathering.{all_length, sources_are, sources_in}
use Rattle.surf_logic.proofs.cycles.first_cyclic.Goals as goal

pub first_by-requires-clause-left : goal.first_by-requires-clause-left
first_by-requires-clause-left c =
    let none : List ℕ = [] in
    let made : c.deref.result.now ≡ all_added (replicate c.args.count none) c.args.left.now = search rules in
    let long : length (all_added (replicate c.args.count none) c.args.left.now) ≡ c.args.count = all_length (replicate c.args.count none) c.args.left.now ∙ length-replicate c.args.count none in
    subst (λ v. All (EquationInRange (length v)) c.args.left.now) (sym made) (subst (λ k. All (EquationInRange k) c.args.left.now) (sym long) c.requires.range)

pub first_by-requires-clause-sources : goal.first_by-requires-clause-sources
first_by-requires-clause-sources c =
    let none : List ℕ = [] in
    let made : c.deref.result.now ≡ all_added (replicate c.args.count none) c.args.left.now = search rules in
    subst (AreSources c.args.left.now) (sym made) (sources_are c.args.count c.args.left.now c.requires.range)

pub first_by-requires-clause-range : goal.first_by-requires-clause-range
first_by-requires-clause-range c =
    let none : List ℕ = [] in
    let made : c.deref.result.now ≡ all_added (replicate c.args.count none) c.args.left.now = search rules in
    let long : length (all_added (replicate c.args.count none) c.args.left.now) ≡ c.args.count = all_length (replicate c.args.count none) c.args.left.now ∙ length-replicate c.args.count none in
    subst (λ (v : List (List ℕ)). All (All (λ n. n < length v)) v) (sym made)
    (sources_in c.args.left.now (all_added (replicate c.args.count none) c.args.left.now) (subst (λ k. All (EquationInRange k) c.args.left.now) (sym long) c.requires.range) (sources_are c.args.count c.args.left.now c.requires.range))

pub returns-clause-within : goal.returns-clause-within
returns-clause-within c =
    let none : List ℕ = [] in
    let made : c.deref.result.now ≡ all_added (replicate c.args.count none) c.args.left.now = search rules in
    let long : length (all_added (replicate c.args.count none) c.args.left.now) ≡ c.args.count = all_length (replicate c.args.count none) c.args.left.now ∙ length-replicate c.args.count none in
    let here : IfOk c.first_by.result (λ n. n < length c.deref.result.now) = search rules in
    subst (λ k. IfOk c.first_by.result (λ n. n < k)) long (subst (λ (v : List (List ℕ)). IfOk c.first_by.result (λ n. n < length v)) made here)
