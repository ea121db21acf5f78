use Rattle.std.proofs.Common.{◌≡◌, ◌<◌, ◌+◌, ◌*◌, ◌∷◌, [], ◌++◌, ℕ, Option, Some, length, map, get_or, arith, ap, sym, subst, ◌∙◌, slice_get, slice_index}
use Rattle.std.proofs.lemmas.Grind.{get_or_default_zero}
use Rattle.std.proofs.lemmas.Option.{get_or_from_slice_get}
use Rattle.surf_auto.specs.Locals.{following}
use Rattle.surf_sync.specs.declared.code.Code.{Code}
use Rattle.surf_sync.specs.declared.phase.Shown.TheVariants.{Current, Previous}
use Rattle.surf_sync.specs.Codes.{beside, next_by, protocol, read_rule}
use Rattle.surf_sync.specs.Codes.Mark.{Frame}
use Rattle.surf_sync.specs.Listing.{Adds}
use Rattle.surf_sync.specs.Phases.{Knows, StandFrom, read_by, reads_of}
use Rattle.surf_sync.specs.Moved.{moved}
use Rattle.surf_sync.specs.Rules.{rules_of}
use Rattle.surf_sync.specs.Spelling.{spell}
use Rattle.surf_world.specs.Worlds.{rule_of}
use Rattle.surf_sync.proofs.Blocks.{block_listed, block_room, block_stands, colour_below, is_next, reader_rules}
use Rattle.surf_sync.proofs.Placed.{mark_frame, number_of, place_within}
use Rattle.surf_sync.proofs.Said.{adds_then, mark_read}
use Rattle.surf_sync.proofs.phase.push_reader.Goals as goal

pub bounds-numbers-colour : goal.bounds-numbers-colour
bounds-numbers-colour g c =
    let P = protocol (g.L.Local.rule c.args.stage.now.local.now) 0 c.args.stage.now.last in
    let k : ℕ = c.colour_beside-colour.result in
    let kw = colour_below P.rule.degree c.degree.result k c.degree.ensures.number c.colour_beside-colour.ensures.within in
    subst (λ ns. k < length ns) (sym c.as_slice-numbers.ensures.value) (place_within P c.args.stage.now.table.now k (Frame k) c.requires.stands.table (mark_frame P k kw))

pub block_start-start-requires-clause-room : goal.block_start-start-requires-clause-room
block_start-start-requires-clause-room g c =
    let R = g.L.Local.rule c.args.stage.now.local.now in
    let s = c.requires.stands in
    let k : ℕ = c.colour_beside-colour.result in
    let kw = colour_below R.degree c.degree.result k c.degree.ensures.number c.colour_beside-colour.ensures.within in
    let r = block_room R 0 c.args.stage.now.last c.args.stage.now.table.now s.table c.args.reader.now.generation k c.args.stage.now.number c.args.stage.now.codes.now c.requires.reader.generation_within kw (sym c.requires.number) s.listed in
    omega arith

pub push_reads-requires-clause-room : goal.push_reads-requires-clause-room
push_reads-requires-clause-room g c =
    let R = g.L.Local.rule c.args.stage.now.local.now in
    let s = c.requires.stands in
    let k : ℕ = c.colour_beside-colour.result in
    let kw = colour_below R.degree c.degree.result k c.degree.ensures.number c.colour_beside-colour.ensures.within in
    let r = block_room R 0 c.args.stage.now.last c.args.stage.now.table.now s.table c.args.reader.now.generation k c.args.stage.now.number c.args.stage.now.codes.now c.requires.reader.generation_within kw (sym c.requires.number) s.listed in
    let n = ap length c.as_slice-numbers.ensures.value in
    let b = c.block_start-start.ensures in
    omega arith

pub push_reads-requires-clause-states : goal.push_reads-requires-clause-states
push_reads-requires-clause-states g c = λ i code at.
    let R = g.L.Local.rule c.args.stage.now.local.now in
    let s = c.requires.stands in
    let k : ℕ = c.colour_beside-colour.result in
    let kw = colour_below R.degree c.degree.result k c.degree.ensures.number c.colour_beside-colour.ensures.within in
    let is = block_listed R 0 c.args.stage.now.last c.args.stage.now.table.now s.table c.args.reader.now.generation k c.args.stage.now.number c.args.stage.now.codes.now c.requires.reader.generation_within kw (sym c.requires.number) s.listed i code at in
    let few : length c.deref.result.now ≡ R.states c.args.stage.now.number = ap length c.deref.ensures.value ∙ c.in_ok-afters.ensures.count in
    subst (λ n. code.current < n) (sym few) (subst (λ f. code.current < R.states f) c.requires.number is.current_within)

-- the number of a cell's next generation
next_is : (last : Option ℕ) (n m g r : ℕ) → r ≡ next_by last n g → n ≡ m → r ≡ next_by last m g
next_is last n m g r a b = a ∙ ap (λ x. next_by last x g) b

pub block_start-start-requires-2-clause-room : goal.block_start-start-requires-2-clause-room
block_start-start-requires-2-clause-room g c =
    let R = g.L.Local.rule c.args.stage.now.local.now in
    let s = c.requires.stands in
    let last = c.args.stage.now.last in
    let k : ℕ = c.colour_beside-colour.result in
    let kw = colour_below R.degree c.degree.result k c.degree.ensures.number c.colour_beside-colour.ensures.within in
    let n = next_is last c.phases.result R.phases c.args.reader.now.generation c.next_generation-generation.result c.next_generation-generation.ensures c.phases.ensures in
    let next = is_next R last c.args.reader.now.generation c.args.stage.now.number c.degree.ensures.law.some_phase c.requires.reader.generation_within c.requires.opened c.requires.number s.in_phase in
    let r = block_room R 0 last c.args.stage.now.table.now s.table (next_by last R.phases c.args.reader.now.generation) k (following R.phases c.args.stage.now.number) c.args.stage.now.next.now next.within kw next.in_phase s.following_listed in
    let e = ap (slice_index c.args.stage.now.table.now.starts.items) n in
    omega arith

pub push_reads-requires-2-clause-room : goal.push_reads-requires-2-clause-room
push_reads-requires-2-clause-room g c =
    let R = g.L.Local.rule c.args.stage.now.local.now in
    let s = c.requires.stands in
    let last = c.args.stage.now.last in
    let k : ℕ = c.colour_beside-colour.result in
    let kw = colour_below R.degree c.degree.result k c.degree.ensures.number c.colour_beside-colour.ensures.within in
    let n = next_is last c.phases.result R.phases c.args.reader.now.generation c.next_generation-generation.result c.next_generation-generation.ensures c.phases.ensures in
    let next = is_next R last c.args.reader.now.generation c.args.stage.now.number c.degree.ensures.law.some_phase c.requires.reader.generation_within c.requires.opened c.requires.number s.in_phase in
    let r = block_room R 0 last c.args.stage.now.table.now s.table (next_by last R.phases c.args.reader.now.generation) k (following R.phases c.args.stage.now.number) c.args.stage.now.next.now next.within kw next.in_phase s.following_listed in
    let e = ap (slice_index c.args.stage.now.table.now.starts.items) n in
    let m = ap length c.as_slice-numbers.ensures.value in
    let b = c.block_start-start-2.ensures in
    omega arith

pub push_reads-requires-2-clause-states : goal.push_reads-requires-2-clause-states
push_reads-requires-2-clause-states g c = λ i code at.
    let R = g.L.Local.rule c.args.stage.now.local.now in
    let s = c.requires.stands in
    let last = c.args.stage.now.last in
    let k : ℕ = c.colour_beside-colour.result in
    let kw = colour_below R.degree c.degree.result k c.degree.ensures.number c.colour_beside-colour.ensures.within in
    let next = is_next R last c.args.reader.now.generation c.args.stage.now.number c.degree.ensures.law.some_phase c.requires.reader.generation_within c.requires.opened c.requires.number s.in_phase in
    let is = block_listed R 0 last c.args.stage.now.table.now s.table (next_by last R.phases c.args.reader.now.generation) k (following R.phases c.args.stage.now.number) c.args.stage.now.next.now next.within kw next.in_phase s.following_listed i code at in
    let few : length c.deref-2.result.now ≡ R.states c.args.stage.now.number = ap length c.deref-2.ensures.value ∙ c.in_ok-afters.ensures.count in
    subst (λ n. code.previous < n) (sym few) (subst (λ p. code.previous < R.states p) next.before is.previous_within)

pub returns : goal.returns
returns g c = λ texts names.
    let R = g.L.Local.rule c.args.stage.now.local.now in
    let last = c.args.stage.now.last in
    let P = protocol R c.args.stage.now.edge last in
    let r : Code = c.args.reader.now in
    let T = c.args.stage.now.table.now in
    let s = c.requires.stands in
    let k : ℕ = c.colour_beside-colour.result in
    let d : c.degree.result ≡ R.degree = c.degree.ensures.number in
    let kw = colour_below R.degree c.degree.result k d c.colour_beside-colour.ensures.within in
    let ahead : k ≡ beside R.degree r.colour r.reads = c.colour_beside-colour.ensures.colour ∙ ap (λ n. beside n r.colour r.reads) d in
    let n = next_is last c.phases.result R.phases r.generation c.next_generation-generation.result c.next_generation-generation.ensures c.phases.ensures in
    let next = is_next R last r.generation c.args.stage.now.number c.degree.ensures.law.some_phase c.requires.reader.generation_within c.requires.opened c.requires.number s.in_phase in
    let afters = c.in_ok-afters.afters.items in
    let knows : Knows texts P r c.number_at-left.result afters = record { own = c.number_at-left.ensures texts names; turned = c.in_ok-afters.ensures.named texts names } in
    let small : c.args.stage.now.edge < length afters = subst (λ m. c.args.stage.now.edge < m) (sym c.in_ok-afters.ensures.count) s.edge in
    let frame = number_of P T texts k (Frame k) names (mark_frame (protocol R 0 last) k kw) in
    let frame_named : slice_get texts (get_or T.numbers.items k 0) ≡ Some (spell (Frame k)) = ap (slice_get texts) (get_or_from_slice_get T.numbers.items k frame.0 0 frame.1) ∙ frame.2 in
    let is : rule_of c.read_rule.result ≡ read_by c.number_at-left.result (get_or T.numbers.items k 0) (get_or afters c.args.stage.now.edge 0) =
    c.read_rule.ensures
    ∙ ap (λ ns. read_by c.number_at-left.result (get_or ns k 0) c.index.result.now) c.as_slice-numbers.ensures.value
    ∙ ap (read_by c.number_at-left.result (get_or T.numbers.items k 0)) (c.index.ensures ∙ get_or_default_zero afters c.args.stage.now.edge c.index.result.now small) in
    let first : Adds texts c.args.out.now.items (read_rule P r (Frame k) c.args.stage.now.edge ∷ []) c.push.new.out.items =
    mark_read texts P r c.number_at-left.result afters (Frame k) c.args.stage.now.edge (get_or T.numbers.items k 0) c.args.out.now.items c.read_rule.result c.push.new.out.items knows small frame_named is c.in_ok-push.ensures in
    let stand_same : StandFrom texts c.as_slice-numbers.result.now c.block_start-start.result (map (moved r.generation k) c.args.stage.now.codes.now) =
    subst (λ ns. StandFrom texts ns c.block_start-start.result (map (moved r.generation k) c.args.stage.now.codes.now)) (sym c.as_slice-numbers.ensures.value)
    (subst (λ p. StandFrom texts T.numbers.items p (map (moved r.generation k) c.args.stage.now.codes.now)) (sym c.block_start-start.ensures)
    (block_stands R c.args.stage.now.edge last T s.table r.generation k c.args.stage.now.number c.args.stage.now.codes.now c.requires.reader.generation_within kw (sym c.requires.number) s.listed texts names)) in
    let same : Adds texts c.push.new.out.items (reads_of P r Current r.generation k c.args.stage.now.codes.now) c.push_reads.new.out.items =
    c.in_ok-push_reads.ensures texts P r r.generation k (subst (Knows texts P r c.number_at-left.result) (sym c.deref.ensures.value) knows) stand_same in
    let g' : ℕ = next_by last R.phases r.generation in
    let start : c.block_start-start-2.result ≡ slice_index T.starts.items g' + k * length c.args.stage.now.next.now = c.block_start-start-2.ensures ∙ ap (λ m. slice_index T.starts.items m + k * length c.args.stage.now.next.now) n in
    let stand_later : StandFrom texts c.as_slice-numbers.result.now c.block_start-start-2.result (map (moved g' k) c.args.stage.now.next.now) =
    subst (λ ns. StandFrom texts ns c.block_start-start-2.result (map (moved g' k) c.args.stage.now.next.now)) (sym c.as_slice-numbers.ensures.value)
    (subst (λ p. StandFrom texts T.numbers.items p (map (moved g' k) c.args.stage.now.next.now)) (sym start)
    (block_stands R c.args.stage.now.edge last T s.table g' k (following R.phases c.args.stage.now.number) c.args.stage.now.next.now next.within kw next.in_phase s.following_listed texts names)) in
    let later : Adds texts c.push_reads.new.out.items (reads_of P r Previous g' k c.args.stage.now.next.now) c.push_reads-2.new.out.items =
    c.in_ok-push_reads-2.ensures texts P r g' k (subst (Knows texts P r c.number_at-left.result) (sym c.deref-2.ensures.value) knows) stand_later in
    let all = adds_then texts c.args.out.now.items (read_rule P r (Frame k) c.args.stage.now.edge ∷ []) c.push.new.out.items (reads_of P r Current r.generation k c.args.stage.now.codes.now ++ reads_of P r Previous g' k c.args.stage.now.next.now) c.push_reads-2.new.out.items first
    (adds_then texts c.push.new.out.items (reads_of P r Current r.generation k c.args.stage.now.codes.now) c.push_reads.new.out.items (reads_of P r Previous g' k c.args.stage.now.next.now) c.push_reads-2.new.out.items same later) in
    let e : (read_rule P r (Frame k) c.args.stage.now.edge ∷ []) ++ (reads_of P r Current r.generation k c.args.stage.now.codes.now ++ reads_of P r Previous g' k c.args.stage.now.next.now) ≡ rules_of P c.args.stage.now.number r =
    ap (λ j. (read_rule P r (Frame j) c.args.stage.now.edge ∷ []) ++ (reads_of P r Current r.generation j c.args.stage.now.codes.now ++ reads_of P r Previous g' j c.args.stage.now.next.now)) ahead
    ∙ sym (reader_rules P r c.args.stage.now.number c.args.stage.now.codes.now c.args.stage.now.next.now s.listed s.following_listed) in
    subst (λ ws. Adds texts c.args.out.now.items ws c.push_reads-2.new.out.items) e all
