-- A run over texts is a run over states, event by event.
use Rattle.std.proofs.Common.{◌≡◌, ℕ, zero, suc, Option, Some, None, List, [], ◌∷◌, length, map, set, refl, sym, ap, ◌∙◌, subst, lit<}
use Rattle.std.specs.Prelude.{slice_get}
use Rattle.std.specs.Option.{option_map}
use Rattle.std.proofs.lemmas.Option.{same_Some, slice_get-map}
use Rattle.surf_tiles.specs.declared.state.State.{State}
use Rattle.surf_tiles.specs.declared.reaction.Reaction.{Reaction}
use Rattle.surf_tiles.specs.Reactions.{giver, reader, outcome}
use Rattle.surf_settle.proofs.Runs as runs
use Rattle.surf_settle.proofs.Runs.{Run, IsStuck}
use Rattle.surf_world.specs.Systems.{Surface, Fits, Enabled, after, IsRun, left_by, Stuck}
use Rattle.surf_world.specs.declared.event.Event.{Event}
use Rattle.surf_settle.specs.Law.{square_grid}
use Rattle.surf_settle.proofs.Squares.{place_of, Near}
use Rattle.surf_lattice.specs.declared.site.Site.{Site}
use Rattle.surf_tiles.specs.States.{spell}
use Rattle.surf_settle.specs.Settling.{rule_of}
use Rattle.surf_settle.proofs.Spelling.{spell_apart, In}

pub record Came {A B : Type 0} (f : A → B) (o : Option A) (y : B) : Type 0 where
  pub from : A
  pub is : o ≡ Some from
  pub gives : f from ≡ y

came : {A B : Type 0} (f : A → B) (o : Option A) (y : B) → option_map f o ≡ Some y → Came f o y
came f None y e = absurd cc
came f (Some x) y e = record { from = x; is = refl; gives = same_Some _ _ e }

pub spelled_get : (c : List State) (p : ℕ) (s : State) → slice_get (map spell c) p ≡ Some (spell s) → slice_get c p ≡ Some s
spelled_get c p s e =
    let h = came spell (slice_get c p) (spell s) (sym (slice_get-map spell c p) ∙ e) in
    h.is ∙ ap (λ (x : State). Some x) (spell_apart h.from s h.gives)

pub get_spelled : (c : List State) (p : ℕ) (s : State) → slice_get c p ≡ Some s → slice_get (map spell c) p ≡ Some (spell s)
get_spelled c p s e = slice_get-map spell c p ∙ ap (option_map spell) e

pub map-set_lem : (c : List State) (p : ℕ) (s : State) → map spell (set c p s) ≡ set (map spell c) p (spell s)
map-set_lem [] p s = refl
map-set_lem (x ∷ c) zero s = refl
map-set_lem (x ∷ c) (suc p) s = ap (λ (t : List (List ℕ)). spell x ∷ t) (map-set_lem c p s)

set_held : {A : Type 0} (c : List A) (p : ℕ) (a : A) → slice_get c p ≡ Some a → set c p a ≡ c
set_held [] p a e = refl
set_held (x ∷ c) zero a e = cc
set_held (x ∷ c) (suc p) a e = ap (λ (t : List _). x ∷ t) (set_held c p a e)

-- a surface with these reactions for rules
abbrev pub surface : (width height : ℕ) → List Reaction → Surface (List ℕ)
surface width height rs = record { grid = square_grid width height; rules = map rule_of rs }

pub record Lowered (width height : ℕ) (c : List State) (next : List (List ℕ)) : Type 0 where
  pub event : runs.Event
  pub enabled : runs.Enabled (Near width height) c event
  pub leaves : next ≡ map spell (runs.after c event)

lowered_at : (width height : ℕ) (rs : List Reaction) (c : List State) (n : ℕ) (p : Site) (q : Option Site) (r : Reaction) → slice_get (map rule_of rs) n ≡ Some (rule_of r) → Fits (square_grid width height) (map spell c) (record { rule = n; first = p; second = q }) (Some (rule_of r)) →
    Lowered width height c (after (surface width height rs) (map spell c) (record { rule = n; first = p; second = q }))
lowered_at width height rs c n p None r e fits = absurd fits.2
lowered_at width height rs c n p (Some q) r e fits = record {
  event = record { reaction = r; first = place_of width p; second = place_of width q };
  enabled = record {
    beside = record { first = p; second = q; adjacent = fits.2.0; at_first = refl; at_second = refl };
    gives = spelled_get c (place_of width p) (giver r) fits.1.1;
    reads = spelled_get c (place_of width q) (reader r) fits.2.1.1;
  };
  leaves = rw e (rw (set_held (map spell c) (place_of width p) (spell (giver r)) fits.1.1) (sym (map-set_lem c (place_of width q) (outcome r))));
}

-- an enabled event has a rule, and that is a reaction
record Reacts (width height : ℕ) (rs : List Reaction) (c : List State) (e : Event) : Type 0 where
  reaction : Reaction
  numbered : slice_get (map rule_of rs) e.rule ≡ Some (rule_of reaction)
  fits : Fits (square_grid width height) (map spell c) e (Some (rule_of reaction))

reacts_at : (width height : ℕ) (rs : List Reaction) (c : List State) (e : Event) (o : Option Reaction) → slice_get rs e.rule ≡ o → Fits (square_grid width height) (map spell c) e (option_map rule_of o) → Reacts width height rs c e
reacts_at width height rs c e None is fits = absurd fits
reacts_at width height rs c e (Some r) is fits = record { reaction = r; numbered = slice_get-map rule_of rs e.rule ∙ ap (option_map rule_of) is; fits = fits }

pub lowered : (width height : ℕ) (rs : List Reaction) (c : List State) (e : Event) → Enabled (surface width height rs) (map spell c) e → Lowered width height c (after (surface width height rs) (map spell c) e)
lowered width height rs c e h =
    let k = reacts_at width height rs c e (slice_get rs e.rule) refl (subst (Fits (square_grid width height) (map spell c) e) (slice_get-map rule_of rs e.rule) h) in
    lowered_at width height rs c e.rule e.first e.second k.reaction k.numbered k.fits

-- the run over states that a run over texts is
pub record LoweredRun (width height : ℕ) (c : List State) (es : List Event) (end : List (List ℕ)) : Type 0 where
  pub events : List runs.Event
  pub final : List State
  pub run : Run (Near width height) c events final
  pub long : length events ≡ length es
  pub spelled : end ≡ map spell final

pub lowered_run : (width height : ℕ) (rs : List Reaction) (c : List State) (es : List Event) → IsRun (surface width height rs) (map spell c) es → LoweredRun width height c es (left_by (surface width height rs) (map spell c) es)
lowered_run width height rs c [] r = record { events = []; final = c; run = refl; long = refl; spelled = refl }
lowered_run width height rs c (e ∷ es) r =
    let one = lowered width height rs c e r.0 in
    let rest = lowered_run width height rs (runs.after c one.event) es (subst (λ (x : List (List ℕ)). IsRun (surface width height rs) x es) one.leaves r.1) in
    record {
      events = one.event ∷ rest.events;
      final = rest.final;
      run = (one.enabled, rest.run);
      long = ap suc rest.long;
      spelled = ap (λ (x : List (List ℕ)). left_by (surface width height rs) x es) one.leaves ∙ rest.spelled;
    }

-- a configuration over texts that is stuck is stuck over states, where each reaction has a number
pub lowered_stuck : (width height : ℕ) (rs : List Reaction) (c : List State) → ((r : Reaction) → In r rs) → Stuck (surface width height rs) (map spell c) → IsStuck (Near width height) c
lowered_stuck width height rs c all stuck e h =
    let m = all e.reaction in
    let event : Event = record { rule = m.at; first = h.beside.first; second = Some h.beside.second } in
    stuck event (subst (Fits (square_grid width height) (map spell c) event) (sym (slice_get-map rule_of rs m.at ∙ ap (option_map rule_of) m.is))
    (lit< tt, (h.beside.adjacent.first, rw h.beside.at_first (get_spelled c e.first (giver e.reaction) h.gives)), (h.beside.adjacent, (h.beside.adjacent.second, rw h.beside.at_second (get_spelled c e.second (reader e.reaction) h.reads)))))
