use Rattle.std.proofs.Common.{rules, ◌≡◌, ◌+◌, ◌<◌, [], ◌∷◌, ◌++◌, length, refl, sym, ◌∙◌, subst, get_or}
use Rattle.std.specs.List.{All}
use Rattle.std.proofs.lemmas.List.Elements.{All-get_or}
use Rattle.surf_logic.specs.Equations.{at}
use Rattle.surf_logic.specs.Marks.{marked, fresh, down_count}
use Rattle.surf_logic.proofs.Gathering.{get_any}
use Rattle.surf_logic.proofs.Searching.{Searched, searched_in, searched_next, searched_fewer, searched_tells}
use Rattle.surf_logic.proofs.cycles.depends_on_itself.Goals as goal

pub loop-next-smaller : goal.loop-next-smaller
loop-next-smaller c =
    let sources = c.args.sources.now in
    let flags = c.loop-next.reached in
    let next = c.in-Some.next in
    let rest = c.pop.new.self.items in
    let found = c.names.result.now in
    let s = c.loop-next.invariant.searched in
    let split : c.loop-next.waiting.items ≡ rest ++ next ∷ [] = c.in-Some.ensures.items in
    let lt : next < length sources = searched_in sources c.args.name flags c.loop-next.waiting.items rest next s split in
    let is : found ≡ get_or sources next [] = c.names.ensures ∙ c.index-sources-next.is ∙ get_any sources next c.index-sources-next.result [] lt in
    let wide : length flags ≡ length sources = s.same in
    let within : All (λ n. n < length flags) found = subst (All (λ n. n < length flags)) (sym is) (subst (λ k. All (λ n. n < k) (get_or sources next [])) (sym wide) (All-get_or (All (λ n. n < length sources)) sources next [] lt c.requires.range)) in
    let up : c.gather.new.flags ≡ marked flags found = c.in_ok-gather.ensures.flags in
    let list : c.gather.new.list.items ≡ rest ++ fresh flags found = c.in_ok-gather.ensures.list in
    let fewer = searched_fewer flags found c.loop-next.waiting.items rest next within split in
    subst (λ v. down_count v + length c.gather.new.list.items < down_count flags + length c.loop-next.waiting.items) (sym up)
    (subst (λ v. down_count (marked flags found) + length v < down_count flags + length c.loop-next.waiting.items) (sym list) fewer)

pub loop-next-preserved : goal.loop-next-preserved
loop-next-preserved c =
    let sources = c.args.sources.now in
    let flags = c.loop-next.reached in
    let next = c.in-Some.next in
    let rest = c.pop.new.self.items in
    let found = c.names.result.now in
    let s = c.loop-next.invariant.searched in
    let split : c.loop-next.waiting.items ≡ rest ++ next ∷ [] = c.in-Some.ensures.items in
    let lt : next < length sources = searched_in sources c.args.name flags c.loop-next.waiting.items rest next s split in
    let is : found ≡ get_or sources next [] = c.names.ensures ∙ c.index-sources-next.is ∙ get_any sources next c.index-sources-next.result [] lt in
    let up : c.gather.new.flags ≡ marked flags found = c.in_ok-gather.ensures.flags in
    let list : c.gather.new.list.items ≡ rest ++ fresh flags found = c.in_ok-gather.ensures.list in
    let wide : c.args.name < length flags = search rules in
    let after : Searched sources c.args.name (marked flags found) (rest ++ fresh flags found) = subst (λ v. Searched sources c.args.name (marked flags v) (rest ++ fresh flags v)) (sym is)
    (searched_next sources c.args.name flags c.loop-next.waiting.items rest next s wide c.requires.range split) in
    record {
      searched = subst (λ v. Searched sources c.args.name v c.gather.new.list.items) (sym up) (subst (Searched sources c.args.name (marked flags found)) (sym list) after);
      same = search rules;
    }

pub returns : goal.returns
returns c =
    let empty : c.loop-next.waiting.items ≡ [] = search rules in
    let wide : c.args.name < length c.loop-next.reached = search rules in
    searched_tells c.args.sources.now c.args.name c.loop-next.reached (at c.loop-next.reached c.args.name) (subst (Searched c.args.sources.now c.args.name c.loop-next.reached) empty c.loop-next.invariant.searched) wide refl
