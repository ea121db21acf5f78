use Rattle.std.proofs.Common.{◌≡◌, ◌<◌, ℕ, Some, true, length, slice_set, ap, sym, subst, ◌∙◌}
use Rattle.std.specs.List.{list_all}
use Rattle.surf_auto.specs.Sync.{Universe, box_of, universe}
use Rattle.surf_manifest_lines.specs.Item.{is_name}
use Rattle.surf_manifest.proofs.Growth.{texts_with}
use Rattle.surf_sync.specs.Listing.{Keeps}
use Rattle.surf_sync.proofs.Growing.{keeps_with}
use Rattle.surf_colony.specs.Numbers.{SlotsName, name_slot}
use Rattle.surf_colony.proofs.Slots.{slots_set}
use Rattle.surf_colony.proofs.Starts.{first_name}
use Rattle.surf_colony.proofs.start.first_number.Goals as goal

pub returns-clause-keeps : goal.returns-clause-keeps
returns-clause-keeps g c =
    let old = c.args.names.now in
    subst (Keeps old) (sym c.in_ok-number.ensures.grown) (keeps_with old c.deref.result.now)

pub returns-clause-texts : goal.returns-clause-texts
returns-clause-texts g c =
    let a = c.args.automaton.now in
    let U : Universe = universe (box_of a.kind a.wrap a.width a.height) (g.L.Local.rule a.local) a.edge a.cells.items in
    let text = c.deref.ensures.value ∙ c.in_ok-name.ensures in
    subst (λ ns. list_all is_name ns ≡ true) (sym c.in_ok-number.ensures.grown)
    (texts_with c.args.names.now c.deref.result.now c.requires.texts (subst (λ t. is_name t ≡ true) (sym text) (first_name U a.stands c.args.site)))

pub returns-clause-named : goal.returns-clause-named
returns-clause-named g c =
    let a = c.args.automaton.now in
    let U : Universe = universe (box_of a.kind a.wrap a.width a.height) (g.L.Local.rule a.local) a.edge a.cells.items in
    let s = c.args.site in
    let old = c.args.names.now in
    let new = c.intern.new.self in
    let slots = c.args.slots.now in
    let n : ℕ = c.in_ok-number.number in
    let slot = c.name_slot-slot.ensures.slot in
    let text = c.deref.ensures.value ∙ c.in_ok-name.ensures in
    let keeps : Keeps old new = subst (Keeps old) (sym c.in_ok-number.ensures.grown) (keeps_with old c.deref.result.now) in
    let within : name_slot U s < length slots = subst (λ i. i < length slots) slot (subst (λ m. c.name_slot-slot.result < m) (sym c.requires.slots) c.name_slot-slot.ensures.within) in
    subst (λ i. SlotsName U new (slice_set slots i (Some n))) (sym slot)
    (slots_set U a.stands old new slots s n keeps c.requires.named within (c.in_ok-number.ensures.found ∙ ap Some text))
