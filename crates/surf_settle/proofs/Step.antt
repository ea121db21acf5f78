-- Each event keeps what holds.
use Rattle.std.proofs.Common.{◌≡◌, ◌≢◌, ℕ, ◌+◌, ◌<◌, Bool, true, false, cond, Some, List, length, get_or, set, refl, sym, ap, ◌∙◌, subst, inl, inr, get_or-set_other, get_or-set_same}
use Rattle.std.proofs.lemmas.List.{length-set}
use Rattle.std.proofs.lemmas.Option.{slice_get_within, get_or_from_slice_get}
use Rattle.std.proofs.lemmas.Bool.{cases_eq, eq-eqb, ne_eqb}
use Rattle.surf_tiles.specs.declared.kind.Kind.{Kind}
use Rattle.surf_settle.specs.Ways.{Way, offers, wants}
use Rattle.surf_tiles.specs.declared.state.State.{State}
use Rattle.surf_tiles.specs.declared.state.State.TheVariants.{Dot}
use Rattle.surf_tiles.specs.Reactions.{giver, reader, outcome}
use Rattle.surf_settle.proofs.Shown.{moved, way, shown}
use Rattle.surf_settle.proofs.Runs.{Event, Enabled, after}
use Rattle.surf_settle.proofs.Local.{gives, takes}
use Rattle.surf_settle.proofs.Tables.{full_reads, centre_apart}
use Rattle.surf_settle.proofs.Held.{Holds, name_at, is_full, raise, raise_new, full_more, total, total_raised}
use Rattle.surf_settle.specs.Law.{kind_at}
use Rattle.surf_settle.proofs.Places.{Slot, Lists, fed_value, IsWired, IsValued, Feeds}

chosen : (read : ℕ → Bool → Bool) (p : ℕ) (j : Bool) → cond j (read p true) (read p false) ≡ read p j
chosen read p true = refl
chosen read p false = refl

fed_from : (kinds : List Kind) (l : Lists) (p : ℕ) (j : Bool) (q : ℕ) (u : Bool) (w : Way) → l.feeder p j ≡ record { place = q; down = u } → offers (kind_at kinds (l.feeder p j).place) (l.feeder p j).down ≡ Some w → offers (kind_at kinds q) u ≡ Some w
fed_from kinds l p j q u w e h = subst (λ (s : Slot). offers (kind_at kinds s.place) s.down ≡ Some w) e h

full_from : (kinds : List Kind) (read : ℕ → Bool → Bool) (l : Lists) (p : ℕ) (j : Bool) (q : ℕ) (u : Bool) → l.feeder p j ≡ record { place = q; down = u } → is_full kinds read (l.feeder p j).place (l.feeder p j).down ≡ true → is_full kinds read q u ≡ true
full_from kinds read l p j q u e h = subst (λ (s : Slot). is_full kinds read s.place s.down ≡ true) e h

full_to : (kinds : List Kind) (read : ℕ → Bool → Bool) (l : Lists) (p : ℕ) (j : Bool) (q : ℕ) (u : Bool) → l.feeder p j ≡ record { place = q; down = u } → is_full kinds read q u ≡ true → is_full kinds read (l.feeder p j).place (l.feeder p j).down ≡ true
full_to kinds read l p j q u e h = subst (λ (s : Slot). is_full kinds read s.place s.down ≡ true) (sym e) h

both : true ≡ false → ⊥
both e = absurd cc

-- a reader that isn't filled does not feed its giver, which is
not_back : (kinds : List Kind) (near : ℕ → ℕ → Type 0) (l : Lists) (val : ℕ → Bool) (read : ℕ → Bool → Bool) (c : List State) → IsWired kinds near l → Holds kinds l val read c →
    (p q : ℕ) (u i : Bool) (w : Way) → offers (kind_at kinds p) u ≡ Some w → wants (kind_at kinds q) i ≡ Some w → is_full kinds read p u ≡ true → cond i (read q true) (read q false) ≡ false → Feeds kinds l q p → ⊥
not_back kinds near l val read c wired holds p q u i w o n full unread (j, w', u', wanted, feeds) =
    let offered : offers (kind_at kinds q) u' ≡ Some w' = fed_from kinds l p j q u' w' feeds (wired.fed p j w' wanted).offered in
    elim (full_reads j (kind_at kinds p) (read p false) (read p true) u w' wanted full) [
      | inl d ↦ (
          let r : read p j ≡ true = sym (chosen read p j) ∙ d in
          let f' : is_full kinds read q u' ≡ true = full_from kinds read l p j q u' feeds (holds.closed p j w' wanted r) in
          elim (full_reads i (kind_at kinds q) (read q false) (read q true) u' w n f') [
            | inl d' ↦ both (sym d' ∙ unread)
            | inr e ↦ centre_apart i u' j u (kind_at kinds p) w w' o (subst (λ (k : Kind). wants k i ≡ Some w) e n) wanted (subst (λ (k : Kind). offers k u' ≡ Some w') e offered)
          ])
      | inr e ↦ centre_apart j u i u' (kind_at kinds q) w' w offered (subst (λ (k : Kind). wants k j ≡ Some w') e wanted) n (subst (λ (k : Kind). offers k u ≡ Some w) e o)
    ]

pub record Stepped (kinds : List Kind) (l : Lists) (val : ℕ → Bool) (read : ℕ → Bool → Bool) (c' : List State) : Type 0 where
  pub more : ℕ → Bool → Bool
  pub holds : Holds kinds l val more c'
  pub counted : total kinds more ≡ total kinds read + 1

named_here : (kinds : List Kind) (l : Lists) (val : ℕ → Bool) (read : ℕ → Bool → Bool) (c : List State) (q : ℕ) (i : Bool) (s : State) → q < length c →
    s ≡ shown (kind_at kinds q) (cond i (read q false) true) (cond i true (read q true)) (val (l.net q false)) (val (l.net q true)) (fed_value val l q false) (fed_value val l q true) →
    get_or (set c q s) q Dot ≡ name_at kinds l val (raise read q i) q
named_here kinds l val read c q i s b h = rw (eq-eqb q q refl) (get_or-set_same c q s Dot b ∙ h)

named_after : (kinds : List Kind) (l : Lists) (val : ℕ → Bool) (read : ℕ → Bool → Bool) (c : List State) (q : ℕ) (i : Bool) (s : State) → Holds kinds l val read c →
    get_or (set c q s) q Dot ≡ name_at kinds l val (raise read q i) q → (x : ℕ) → get_or (set c q s) x Dot ≡ name_at kinds l val (raise read q i) x
named_after kinds l val read c q i s holds h x =
    elim (cases_eq x q) [
      | inl e ↦ subst (λ (y : ℕ). get_or (set c q s) y Dot ≡ name_at kinds l val (raise read q i) y) (sym e) h
      | inr n ↦ (let m : x ≢ q = n in rw (ne_eqb x q n) (get_or-set_other c q x s Dot m ∙ holds.named x))
    ]

closed_after : (kinds : List Kind) (l : Lists) (val : ℕ → Bool) (read : ℕ → Bool → Bool) (c : List State) (q : ℕ) (i : Bool) → Holds kinds l val read c →
    is_full kinds read (l.feeder q i).place (l.feeder q i).down ≡ true → (x : ℕ) (j : Bool) (w : Way) → wants (kind_at kinds x) j ≡ Some w → raise read q i x j ≡ true → is_full kinds (raise read q i) (l.feeder x j).place (l.feeder x j).down ≡ true
closed_after kinds l val read c q i holds f x j w o r =
    elim (raise_new read q i x j r) [
      | inl e ↦ full_more kinds read q i _ _ (subst (λ (y : ℕ). is_full kinds read (l.feeder y j).place (l.feeder y j).down ≡ true) (sym e.0) (subst (λ (k : Bool). is_full kinds read (l.feeder q k).place (l.feeder q k).down ≡ true) (sym e.1) f))
      | inr h ↦ full_more kinds read q i _ _ (holds.closed x j w o h)
    ]

-- the value that a filled slot gives is that of its net, and so the one that the reader needs
value_given : (val : ℕ → Bool) (l : Lists) (p : ℕ) (u : Bool) → cond u (val (l.net p true)) (val (l.net p false)) ≡ val (l.net p u)
value_given val l p true = refl
value_given val l p false = refl

value_needed : (val : ℕ → Bool) (l : Lists) (q : ℕ) (i : Bool) → cond i (fed_value val l q true) (fed_value val l q false) ≡ fed_value val l q i
value_needed val l q true = refl
value_needed val l q false = refl

pub step : (kinds : List Kind) (near : ℕ → ℕ → Type 0) (l : Lists) (val : ℕ → Bool) (read : ℕ → Bool → Bool) (c : List State) (e : Event) → IsWired kinds near l → IsValued kinds l val → Holds kinds l val read c → Enabled near c e → Stepped kinds l val read (after c e)
step kinds near l val read c e wired valued holds enabled =
    let sp : name_at kinds l val read e.first ≡ giver e.reaction = sym (holds.named e.first) ∙ get_or_from_slice_get c e.first (giver e.reaction) Dot enabled.gives in
    let sq : name_at kinds l val read e.second ≡ reader e.reaction = sym (holds.named e.second) ∙ get_or_from_slice_get c e.second (reader e.reaction) Dot enabled.reads in
    let g = gives (kind_at kinds e.first) _ _ _ _ _ _ e.reaction (valued e.first) sp in
    let t = takes (kind_at kinds e.second) _ _ _ _ _ _ e.reaction (valued e.second) sq in
    let b : e.second < length c = slice_get_within c e.second (reader e.reaction) enabled.reads in
    elim (wired.linked e.first e.second enabled.beside g.slot t.which (way e.reaction) g.offered t.wanted) [
      | inl feeds ↦ (
          let v : fed_value val l e.second t.which ≡ val (l.net e.first g.slot) = ap (λ (s : Slot). val (l.net s.place s.down)) feeds in
          let m : moved e.reaction ≡ cond t.which (fed_value val l e.second true) (fed_value val l e.second false) =
          g.value ∙ value_given val l e.first g.slot ∙ sym v ∙ sym (value_needed val l e.second t.which) in
          let f : is_full kinds read (l.feeder e.second t.which).place (l.feeder e.second t.which).down ≡ true = full_to kinds read l e.second t.which e.first g.slot feeds g.full in
          record {
            more = raise read e.second t.which;
            holds = record {
              long = length-set c e.second (outcome e.reaction) ∙ holds.long;
              named = named_after kinds l val read c e.second t.which (outcome e.reaction) holds (named_here kinds l val read c e.second t.which (outcome e.reaction) b (t.after m));
              closed = closed_after kinds l val read c e.second t.which holds f;
            };
            counted = total_raised kinds read e.second t.which (way e.reaction) (rw (← holds.long) b) t.wanted t.unread;
          })
      | inr back ↦ absurd (not_back kinds near l val read c wired holds e.first e.second g.slot t.which (way e.reaction) g.offered t.wanted g.full t.unread back)
    ]
