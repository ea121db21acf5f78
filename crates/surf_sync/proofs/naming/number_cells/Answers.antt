use Rattle.std.proofs.Common.{◌≡◌, ◌<◌, ◌+◌, ◌∷◌, [], ◌++◌, ℕ, suc, None, length, map, rules, arith, ap, sym, ◌∙◌}
use Rattle.surf_sync.specs.Codes.{protocol}
use Rattle.surf_sync.specs.Moved.{all_texts, codes_at, generation_texts}
use Rattle.surf_sync.specs.Rules.{below, codes_of}
use Rattle.surf_sync.proofs.Growing.{numbers_few, numbers_more, keeps_then}
use Rattle.surf_sync.proofs.Loops.{map_one_more}
use Rattle.surf_sync.proofs.Moved.{cells_count, cells_more, cells_room}
use Rattle.surf_sync.proofs.naming.number_cells.Goals as goal

pub number_generation-requires-clause-room : goal.number_generation-requires-clause-room
number_generation-requires-clause-room g c =
    let R = g.L.Local.rule c.args.local.now in
    let n : ℕ = c.loop-generation.generation in
    let same : c.deref.result.now ≡ codes_at R n = c.deref.ensures.value ∙ c.in_ok-codes.ensures ∙ ap (λ f. codes_of (protocol R 0 None) f 0 0) c.phase_of.ensures.phase in
    let number = c.degree.ensures.number in
    let is : c.degree.result + 1 ≡ suc R.degree = omega arith in
    let t = c.loop-generation-test.true in
    let lt : n < c.args.generations = omega arith in
    let few = numbers_few c.args.names.now c.args.numbers.now.items (all_texts R n) c.loop-generation.names c.loop-generation.numbers.items c.loop-generation.invariant.numbers in
    let room = cells_room R n c.args.generations c.deref.result.now (c.degree.result + 1) same is lt in
    let r = c.requires.room in
    omega arith

pub loop-generation-preserved : goal.loop-generation-preserved
loop-generation-preserved g c =
    let R = g.L.Local.rule c.args.local.now in
    let n : ℕ = c.loop-generation.generation in
    let i = c.loop-generation.invariant in
    let p = c.in_ok-number_generation.ensures in
    let same : c.deref.result.now ≡ codes_at R n = c.deref.ensures.value ∙ c.in_ok-codes.ensures ∙ ap (λ f. codes_of (protocol R 0 None) f 0 0) c.phase_of.ensures.phase in
    let number = c.degree.ensures.number in
    let is : c.degree.result + 1 ≡ suc R.degree = omega arith in
    let count = cells_count R n c.deref.result.now (c.degree.result + 1) same is in
    let first : ℕ → ℕ = λ j. length c.args.numbers.now.items + length (all_texts R j) in
    let long : c.len.result ≡ length c.loop-generation.numbers.items = search rules in
    record {
      numbers = numbers_more c.args.names.now c.args.numbers.now.items (all_texts R n) (generation_texts c.deref.result.now n (c.degree.result + 1)) (all_texts R (n + 1)) c.loop-generation.names c.loop-generation.numbers.items c.number_generation.new.names c.number_generation.new.numbers.items
          i.numbers p.numbers (cells_more R n c.deref.result.now (c.degree.result + 1) same is);
      starts =
          c.in_ok-push.ensures
          ∙ ap (λ xs. xs ++ c.len.result ∷ []) i.starts
          ∙ ap (λ x. map first (below n) ++ x ∷ []) (long ∙ i.count)
          ∙ sym (map_one_more first n);
      count = omega (arith, i.count, p.count, count);
      keeps = keeps_then c.args.names.now c.loop-generation.names c.number_generation.new.names i.keeps p.keeps;
    }
