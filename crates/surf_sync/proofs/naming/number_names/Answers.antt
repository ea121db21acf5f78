use Rattle.std.proofs.Common.{◌≡◌, ◌+◌, [], ℕ, suc, length, map, refl, subst, rules, arith, ap, ◌∙◌}
use Rattle.surf_sync.specs.Codes.{fields_by}
use Rattle.surf_sync.specs.Listing.{Numbers}
use Rattle.surf_sync.specs.Rules.{below}
use Rattle.surf_sync.specs.Moved.{all_texts, frame_texts}
use Rattle.surf_sync.proofs.Few.{all_numbered, few_degree, is_table, named_from_none, texts_few}
use Rattle.surf_sync.proofs.Growing.{numbers_few}
use Rattle.surf_sync.proofs.Moved.{frame_length}
use Rattle.surf_sync.proofs.naming.number_names.Goals as goal

pub number_frame-requires-clause-degree : goal.number_frame-requires-clause-degree
number_frame-requires-clause-degree g c =
    let R = g.L.Local.rule c.args.local.now in
    let number = c.degree-degree.ensures.number in
    let d = few_degree R.degree c.degree-degree.ensures.law.known in
    omega arith

pub number_cells-requires : goal.number_cells-requires
number_cells-requires g c =
    let R = g.L.Local.rule c.args.local.now in
    let law = c.degree-degree.ensures.law in
    let number = c.degree-degree.ensures.number in
    let d = few_degree R.degree law.known in
    let n : ℕ = c.field_count-generations.result in
    let is : n ≡ fields_by c.args.last R.phases = search rules in
    let few = numbers_few _ _ (frame_texts (c.degree-degree.result + 1)) _ _ c.in_ok-number_frame.ensures.numbers in
    let f = frame_length (c.degree-degree.result + 1) in
    let t = texts_few R c.args.last d law.some_phase c.requires.whole c.requires.turns in
    let e = ap (λ k. length (all_texts R k)) is in
    let r = c.requires.room in
    let m = c.requires.few in
    omega arith

pub returns-clause-table : goal.returns-clause-table
returns-clause-table g c =
    let R = g.L.Local.rule c.args.local.now in
    let number = c.degree-degree.ensures.number in
    let same : c.degree-degree.result + 1 ≡ suc R.degree = omega arith in
    let n : ℕ = c.field_count-generations.result in
    let is : n ≡ fields_by c.args.last R.phases = search rules in
    let counted : length c.number_frame.new.numbers.items ≡ c.degree-degree.result + 1 = search rules in
    let t = is_table R c.args.last c.number_cells.new.numbers.items c.in_ok-starts.starts.items (c.degree-degree.result + 1) same
    (c.in_ok-starts.ensures.count
    ∙ ap (λ k. k + length (all_texts R n)) counted
    ∙ ap (λ m. c.degree-degree.result + 1 + length (all_texts R m)) is)
    (c.in_ok-starts.ensures.starts
    ∙ ap (λ k. map (λ j. k + length (all_texts R j)) (below n)) counted
    ∙ ap (λ m. map (λ j. c.degree-degree.result + 1 + length (all_texts R j)) (below m)) is) in
    record { whole = t.0; generations = t.1; starts = t.2 }

pub returns-clause-named : goal.returns-clause-named
returns-clause-named g c =
    let R = g.L.Local.rule c.args.local.now in
    let number = c.degree-degree.ensures.number in
    let same : c.degree-degree.result + 1 ≡ suc R.degree = omega arith in
    let is : c.field_count-generations.result ≡ fields_by c.args.last R.phases = search rules in
    named_from_none c.args.names.now [] _ c.number_cells.new.names c.number_cells.new.numbers.items refl
    (all_numbered R c.args.last (c.degree-degree.result + 1) c.field_count-generations.result same is c.args.names.now [] c.number_frame.new.names c.number_frame.new.numbers.items c.number_cells.new.names c.number_cells.new.numbers.items
    (subst (λ ns. Numbers c.args.names.now ns (frame_texts (c.degree-degree.result + 1)) c.number_frame.new.names c.number_frame.new.numbers.items) (search rules) c.in_ok-number_frame.ensures.numbers)
    c.in_ok-starts.ensures.numbers)

pub returns-clause-names : goal.returns-clause-names
returns-clause-names g c =
    let R = g.L.Local.rule c.args.local.now in
    let number = c.degree-degree.ensures.number in
    let same : c.degree-degree.result + 1 ≡ suc R.degree = omega arith in
    let is : c.field_count-generations.result ≡ fields_by c.args.last R.phases = search rules in
    (all_numbered R c.args.last (c.degree-degree.result + 1) c.field_count-generations.result same is c.args.names.now _ c.number_frame.new.names c.number_frame.new.numbers.items c.number_cells.new.names c.number_cells.new.numbers.items
    c.in_ok-number_frame.ensures.numbers c.in_ok-starts.ensures.numbers).names
