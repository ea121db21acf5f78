use Rattle.std.proofs.Common.{rules, ℕ, ◌≡◌, ◌++◌, List, length, map, take, drop, Err, sym, ap, subst, ◌∙◌, arith}
use Rattle.std.proofs.Math.Seq.{take-append_seam}
use Rattle.std.proofs.lemmas.Bool.{false≢true}
use Rattle.std.proofs.lemmas.List.{take_all}
use Rattle.surf_world.specs.declared.event.Event.{Event}
use Rattle.surf_world.specs.Systems.{Surface}
use Rattle.surf_trace.specs.declared.error.ObserveError.TheVariants.{NoMemory}
use Rattle.surf_trace.specs.declared.sight.Sight.{Sight}
use Rattle.surf_trace.specs.declared.watch.Kept.{Kept}
use Rattle.surf_trace.specs.Observations.{AllNamed, AreCells, Leaves}
use Rattle.surf_trace.specs.Replays.{left_world}
use Rattle.surf_trace.specs.Sights.{sight_of, showing_in, IsTold}
use Rattle.surf_trace.specs.Watching.{first_kept}
use Rattle.surf_trace.proofs.Sighted.{cells_told, told_cells, states_are}
use Rattle.surf_trace.proofs.Watched.{all_open}
use Rattle.surf_trace.proofs.observing.observe.Goals as goal

-- what was written over as a slice
written : (new old : List Kept) (n : ℕ) → n ≡ length new → take n (new ++ drop (length new) old) ≡ new
written new old n e = ap (λ (k : ℕ). take k (new ++ drop (length new) old)) e ∙ take-append_seam new (drop (length new) old)

-- the test of the table is that of the texts
cells : (texts : List (List ℕ)) (S : Surface ℕ) (c : List ℕ) (sights : List Sight) → sights ≡ map sight_of texts → AllNamed (IsTold sights) S c → AreCells texts S c
cells texts S c sights is all = cells_told texts S c (subst (λ (s : List Sight). AllNamed (IsTold s) S c) is all)

pub returns-then-not-are_all_told-clause-refused : goal.returns-then-not-are_all_told-clause-refused
returns-then-not-are_all_told-clause-refused g c = λ all.
    let S = c.args.world.now.surface in
    let n = c.args.world.now.names in
    let table : c.in_ok-sights.sights.items ≡ map sight_of c.args.names.now = search rules in
    absurd (false≢true (sym c.if-not-are_all_told.true ∙ c.are_all_told.ensures.1 (subst (λ (s : List Sight). AllNamed (IsTold s) S n) (sym (c.deref.ensures.value ∙ table)) (told_cells c.args.names.now S n all))))

pub follow_all-requires-clause-unfinished : goal.follow_all-requires-clause-unfinished
follow_all-requires-clause-unfinished g c =
    let w = c.args.world.now in
    let first : c.in_ok-kept.kept.items ≡ map (λ m. first_kept (showing_in c.deref-2.result.now m) c.args.k) w.names = search rules in
    all_open (showing_in c.deref-2.result.now) w.surface w.names c.args.events.now c.args.k c.deref_mut.result.now (c.deref_mut.ensures.value ∙ first)

pub returns-in-NotEnabled-clause-refused : goal.returns-in-NotEnabled-clause-refused
returns-in-NotEnabled-clause-refused g c =
    let w = c.args.world.now in
    let table : c.in_ok-sights.sights.items ≡ map sight_of c.args.names.now = search rules in
    (cells c.args.names.now w.surface w.names c.deref.result.now (c.deref.ensures.value ∙ table) (c.are_all_told.ensures.0 c.if-not-are_all_told.false), c.in-NotEnabled.ensures.verdict)

pub returns-in_err-states-clause-left : goal.returns-in_err-states-clause-left
returns-in_err-states-clause-left g c =
    let w = c.args.world.now in
    let es = c.args.events.now in
    let fault : c.from_residual-in_err-states.result ≡ Err NoMemory = search rules in
    subst (λ r. Leaves w es r c.follow_all.new.world) (sym fault)
    (length es, c.in-Valid.ensures.left ∙ ap (λ (fs : List Event). left_world w fs) (sym (take_all (length es) es (omega arith))))

pub returns-clause-states : goal.returns-clause-states
returns-clause-states g c =
    let w = c.args.world.now in
    let es = c.args.events.now in
    let k = c.args.k in
    let table : c.in_ok-sights.sights.items ≡ map sight_of c.args.names.now = search rules in
    let first : c.in_ok-kept.kept.items ≡ map (λ m. first_kept (showing_in c.deref-2.result.now m) k) w.names = search rules in
    let long : c.in_ok-kept.kept.len ≡ length c.follow_all.new.kept = omega (arith, c.follow_all.auto.kept, c.deref_mut.ensures.len, c.in_ok-kept.kept.ok.0, ap length c.deref_mut.ensures.value) in
    let last : c.deref-4.result.now ≡ c.follow_all.new.kept = c.deref-4.ensures.value ∙ written c.follow_all.new.kept c.in_ok-kept.kept.items c.in_ok-kept.kept.len long in
    let states : c.in_ok-states.states.items ≡ map (λ x. x.state) c.deref-4.result.now = search rules in
    states
    ∙ ap (map (λ x. x.state)) last
    ∙ states_are c.args.names.now w.surface w.names es k c.deref-2.result.now c.deref-3.result.now (c.deref-2.ensures.value ∙ table) (c.deref-3.ensures.value ∙ table)
    c.deref_mut.result.now c.follow_all.new.kept (c.deref_mut.ensures.value ∙ first) (c.follow_all.ensures.told c.in-Valid.is)

pub returns-clause-cells : goal.returns-clause-cells
returns-clause-cells g c =
    let w = c.args.world.now in
    let table : c.in_ok-sights.sights.items ≡ map sight_of c.args.names.now = search rules in
    cells c.args.names.now w.surface w.names c.deref.result.now (c.deref.ensures.value ∙ table) (c.are_all_told.ensures.0 c.if-not-are_all_told.false)
