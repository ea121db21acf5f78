use Rattle.std.proofs.Common.{◌≡◌, ◌<◌, ◌≤◌, ◌+◌, ◌*◌, length, refl, arith, rules, sym, subst, ◌∙◌}
use Rattle.std.proofs.lemmas.Grind.{get_or_default_zero}
use Rattle.surf_sync.specs.declared.code.Code.{Code}
use Rattle.surf_sync.specs.Codes.{protocol}
use Rattle.surf_sync.specs.Listing.{start_of}
use Rattle.surf_sync.specs.Numbering.{code_number}
use Rattle.surf_sync.proofs.Placed.{code_named, code_within, place_is}
use Rattle.surf_sync.proofs.phase.number_at.Goals as goal

pub overflow_add-start : goal.overflow_add-start
overflow_add-start g c =
    let R = g.L.Local.rule c.args.local.now in
    let P = protocol R 0 c.args.last in
    let code : Code = c.args.code.now in
    let lt : code.generation < length c.args.table.now.starts.items = subst (λ n. code.generation < n) (sym c.requires.table.generations) c.requires.code.generation_within in
    let s : c.index-start.result.now ≡ start_of P code.generation = c.index-start.ensures ∙ get_or_default_zero c.args.table.now.starts.items _ _ lt ∙ c.requires.table.starts code.generation c.requires.code.generation_within in
    let e = place_is R c.args.last code c.phase_of-phase.result c.index-start.result.now c.code_count.result (code_number P c.phase_of-phase.result code) c.phase_of-phase.ensures.phase s c.code_count.ensures refl in
    let w = code_within P c.args.table.now code c.requires.table c.requires.code in
    let small = c.args.table.now.numbers.small in
    let ok = c.args.table.now.numbers.ok in
    let b : c.index-start.result.now + code.colour * c.code_count.result ≤ c.index-start.result.now + code.colour * c.code_count.result + code_number P c.phase_of-phase.result code = omega arith in
    omega arith

pub overflow_add-start-2 : goal.overflow_add-start-2
overflow_add-start-2 g c =
    let R = g.L.Local.rule c.args.local.now in
    let code : Code = c.args.code.now in
    let lt : code.generation < length c.args.table.now.starts.items = subst (λ n. code.generation < n) (sym c.requires.table.generations) c.requires.code.generation_within in
    let s : c.index-start.result.now ≡ start_of (protocol R 0 c.args.last) code.generation = c.index-start.ensures ∙ get_or_default_zero c.args.table.now.starts.items _ _ lt ∙ c.requires.table.starts code.generation c.requires.code.generation_within in
    let e = place_is R c.args.last code c.phase_of-phase.result c.index-start.result.now c.code_count.result c.code_number.result c.phase_of-phase.ensures.phase s c.code_count.ensures c.code_number.ensures in
    let w = code_within (protocol R 0 c.args.last) c.args.table.now code c.requires.table c.requires.code in
    let small = c.args.table.now.numbers.small in
    let ok = c.args.table.now.numbers.ok in
    omega arith

pub index-requires : goal.index-requires
index-requires g c =
    let R = g.L.Local.rule c.args.local.now in
    let code : Code = c.args.code.now in
    let lt : code.generation < length c.args.table.now.starts.items = subst (λ n. code.generation < n) (sym c.requires.table.generations) c.requires.code.generation_within in
    let s : c.index-start.result.now ≡ start_of (protocol R 0 c.args.last) code.generation = c.index-start.ensures ∙ get_or_default_zero c.args.table.now.starts.items _ _ lt ∙ c.requires.table.starts code.generation c.requires.code.generation_within in
    let e = place_is R c.args.last code c.phase_of-phase.result c.index-start.result.now c.code_count.result c.code_number.result c.phase_of-phase.ensures.phase s c.code_count.ensures c.code_number.ensures in
    let w : c.index-start.result.now + code.colour * c.code_count.result + c.code_number.result < length c.args.table.now.numbers.items = subst (λ p. p < length c.args.table.now.numbers.items) (sym e) (code_within (protocol R 0 c.args.last) c.args.table.now code c.requires.table c.requires.code) in
    let ok = c.args.table.now.numbers.ok in
    search rules

pub returns : goal.returns
returns g c = λ texts names.
    let R = g.L.Local.rule c.args.local.now in
    let code : Code = c.args.code.now in
    let lt : code.generation < length c.args.table.now.starts.items = subst (λ n. code.generation < n) (sym c.requires.table.generations) c.requires.code.generation_within in
    let s : c.index-start.result.now ≡ start_of (protocol R 0 c.args.last) code.generation = c.index-start.ensures ∙ get_or_default_zero c.args.table.now.starts.items _ _ lt ∙ c.requires.table.starts code.generation c.requires.code.generation_within in
    let e = place_is R c.args.last code c.phase_of-phase.result c.index-start.result.now c.code_count.result c.code_number.result c.phase_of-phase.ensures.phase s c.code_count.ensures c.code_number.ensures in
    let within : c.index-start.result.now + code.colour * c.code_count.result + c.code_number.result < length c.args.table.now.numbers.items = subst (λ p. p < length c.args.table.now.numbers.items) (sym e) (code_within (protocol R 0 c.args.last) c.args.table.now code c.requires.table c.requires.code) in
    code_named (protocol R 0 c.args.last) c.args.table.now texts code _ c.index.result.now names c.requires.code e
    (c.index.ensures ∙ get_or_default_zero c.args.table.now.numbers.items _ _ within)
