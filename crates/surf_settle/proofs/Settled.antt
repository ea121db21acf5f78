-- A run keeps what holds, and a stuck configuration has read all.
use Rattle.std.proofs.Common.{◌≡◌, ℕ, zero, suc, ◌+◌, ◌<◌, ◌≤◌, Bool, true, false, cond, Some, List, [], ◌∷◌, length, get_or, refl, sym, ap, ◌∙◌, subst, ◌⊎◌, inl, inr, arith}
use Rattle.std.specs.Prelude.{slice_get}
use Rattle.std.proofs.lemmas.List.{same_lists, get_or_default, get_or_past}
use Rattle.std.proofs.lemmas.Option.{slice_get-get_or}
use Rattle.std.proofs.lemmas.Bool.{cases_lt}
use Rattle.surf_tiles.specs.declared.kind.Kind.{Kind}
use Rattle.surf_settle.specs.Ways.{Way, offers, wants}
use Rattle.surf_tiles.specs.declared.state.State.{State}
use Rattle.surf_tiles.specs.declared.state.State.TheVariants.{Dot}
use Rattle.surf_tiles.specs.declared.reaction.Reaction.{Reaction}
use Rattle.surf_tiles.specs.declared.reaction.Reaction.TheVariants.{WireReads}
use Rattle.surf_tiles.specs.Reactions.{giver, reader}
use Rattle.surf_tiles.specs.Kinds.{changes_of}
use Rattle.surf_settle.proofs.Runs.{Event, after, Run, IsStuck}
use Rattle.surf_settle.proofs.Local.{offered_reacts}
use Rattle.surf_settle.proofs.Tables.{filled_from, shown_settled, tally_settled, tally-le}
use Rattle.surf_settle.proofs.Held.{Holds, is_full, total, tally_at, sum_below, sum-le, sum_same}
use Rattle.surf_settle.proofs.Step.{step}
use Rattle.surf_settle.specs.Law.{kind_at}
use Rattle.surf_settle.proofs.Places.{Lists, fed_value, IsWired, IsValued}

pub record Ran (kinds : List Kind) (l : Lists) (val : ℕ → Bool) (read : ℕ → Bool → Bool) (n : ℕ) (c' : List State) : Type 0 where
  pub more : ℕ → Bool → Bool
  pub holds : Holds kinds l val more c'
  pub counted : total kinds more ≡ total kinds read + n

pub ran : (kinds : List Kind) (near : ℕ → ℕ → Type 0) (l : Lists) (val : ℕ → Bool) (read : ℕ → Bool → Bool) (c : List State) (es : List Event) (c' : List State) → IsWired kinds near l → IsValued kinds l val → Holds kinds l val read c → Run near c es c' → Ran kinds l val read (length es) c'
ran kinds near l val read c [] c' wired valued holds r = record { more = read; holds = subst (Holds kinds l val read) (sym r) holds; counted = omega arith }
ran kinds near l val read c (e ∷ es) c' wired valued holds r =
    let s = step kinds near l val read c e wired valued holds r.0 in
    let t = ran kinds near l val s.more (after c e) es c' wired valued s.holds r.1 in
    record { more = t.more; holds = t.holds; counted = omega (arith, s.counted, t.counted) }

giver_not_dot : (r : Reaction) → giver r ≡ Dot → ⊥
giver_not_dot (WireReads v) e = absurd cc
giver_not_dot _ e = absurd cc

reader_not_dot : (r : Reaction) → reader r ≡ Dot → ⊥
reader_not_dot (WireReads v) e = absurd cc
reader_not_dot _ e = absurd cc

pub stands : (c : List State) (p : ℕ) (s : State) → get_or c p Dot ≡ s → (s ≡ Dot → ⊥) → slice_get c p ≡ Some s
stands c p s e n =
    elim (cases_lt p (length c)) [
      | inl b ↦ slice_get-get_or c p Dot b ∙ ap (λ (x : State). Some x) e
      | inr b ↦ absurd (n (sym e ∙ get_or_past c p Dot b))
    ]

done_or_not : (b : Bool) → (b ≡ true) ⊎ (b ≡ false)
done_or_not true = inl refl
done_or_not false = inr refl

-- a wanted read whose feeder is filled is done where nothing is enabled
read_done : (kinds : List Kind) (near : ℕ → ℕ → Type 0) (l : Lists) (val : ℕ → Bool) (read : ℕ → Bool → Bool) (c : List State) → IsWired kinds near l → Holds kinds l val read c → IsStuck near c →
    (q : ℕ) (j : Bool) (w : Way) → wants (kind_at kinds q) j ≡ Some w → is_full kinds read (l.feeder q j).place (l.feeder q j).down ≡ true → cond j (read q true) (read q false) ≡ true
read_done kinds near l val read c wired holds stuck q j w n f =
    elim (done_or_not (cond j (read q true) (read q false))) [
      | inl d ↦ d
      | inr d ↦ (
          let fed = wired.fed q j w n in
          let p : ℕ = (l.feeder q j).place in
          let h = offered_reacts (kind_at kinds p) (read p false) (read p true) (val (l.net p false)) (val (l.net p true)) (fed_value val l p false) (fed_value val l p true) (l.feeder q j).down
          (kind_at kinds q) (read q false) (read q true) (val (l.net q false)) (val (l.net q true)) (fed_value val l q false) (fed_value val l q true) j w fed.offered f n d in
          absurd (stuck (record { reaction = h.reaction; first = p; second = q }) (record {
            beside = fed.beside;
            gives = stands c p (giver h.reaction) (holds.named p ∙ h.gives) (giver_not_dot h.reaction);
            reads = stands c q (reader h.reaction) (holds.named q ∙ h.reads) (reader_not_dot h.reaction);
          })))
    ]

-- all slots are filled, by induction on the rank
all_full : (kinds : List Kind) (near : ℕ → ℕ → Type 0) (l : Lists) (val : ℕ → Bool) (read : ℕ → Bool → Bool) (c : List State) → IsWired kinds near l → Holds kinds l val read c → IsStuck near c →
    (m p : ℕ) (u : Bool) (w : Way) → l.rank p u < m → offers (kind_at kinds p) u ≡ Some w → is_full kinds read p u ≡ true
all_full kinds near l val read c wired holds stuck zero p u w b o = absurd (omega arith)
all_full kinds near l val read c wired holds stuck (suc m) p u w b o =
    filled_from u (kind_at kinds p) (read p false) (read p true) w o (λ j v n s.
    let fed = wired.fed p j v n in
    let lower : l.rank (l.feeder p j).place (l.feeder p j).down < l.rank p u = rw (← s) fed.lower in
    read_done kinds near l val read c wired holds stuck p j v n (all_full kinds near l val read c wired holds stuck m (l.feeder p j).place (l.feeder p j).down v (omega arith) fed.offered))

pub all_read : (kinds : List Kind) (near : ℕ → ℕ → Type 0) (l : Lists) (val : ℕ → Bool) (read : ℕ → Bool → Bool) (c : List State) → IsWired kinds near l → Holds kinds l val read c → IsStuck near c →
    (q : ℕ) (j : Bool) (w : Way) → wants (kind_at kinds q) j ≡ Some w → cond j (read q true) (read q false) ≡ true
all_read kinds near l val read c wired holds stuck q j w n =
    let fed = wired.fed q j w n in
    read_done kinds near l val read c wired holds stuck q j w n (all_full kinds near l val read c wired holds stuck (suc (l.rank (l.feeder q j).place (l.feeder q j).down)) (l.feeder q j).place (l.feeder q j).down w (omega arith) fed.offered)

-- the sum of the changes of all sites
abbrev pub all_changes : List Kind → ℕ
all_changes kinds = sum_below (λ q. changes_of (kind_at kinds q)) (length kinds)

pub total-le : (kinds : List Kind) (read : ℕ → Bool → Bool) → total kinds read ≤ all_changes kinds
total-le kinds read = sum-le (tally_at kinds read) (λ q. changes_of (kind_at kinds q)) (length kinds) (λ q. tally-le (kind_at kinds q) (read q false) (read q true))

pub total_settled : (kinds : List Kind) (read : ℕ → Bool → Bool) → ((q : ℕ) (j : Bool) (w : Way) → wants (kind_at kinds q) j ≡ Some w → cond j (read q true) (read q false) ≡ true) → total kinds read ≡ all_changes kinds
total_settled kinds read h = sum_same (tally_at kinds read) (λ q. changes_of (kind_at kinds q)) (length kinds) (λ q b. tally_settled (kind_at kinds q) (read q false) (read q true) (h q))

pub same_settled : (kinds : List Kind) (l : Lists) (val : ℕ → Bool) (read read' : ℕ → Bool → Bool) (c c' : List State) → Holds kinds l val read c → Holds kinds l val read' c' →
    ((q : ℕ) (j : Bool) (w : Way) → wants (kind_at kinds q) j ≡ Some w → cond j (read q true) (read q false) ≡ true) →
    ((q : ℕ) (j : Bool) (w : Way) → wants (kind_at kinds q) j ≡ Some w → cond j (read' q true) (read' q false) ≡ true) → c ≡ c'
same_settled kinds l val read read' c c' holds holds' h h' =
    same_lists c c' (holds.long ∙ sym holds'.long) (λ k d b.
    let e : get_or c k Dot ≡ get_or c' k Dot = holds.named k ∙ shown_settled (kind_at kinds k) _ _ _ _ _ _ _ _ (h k) (h' k) ∙ sym (holds'.named k) in
    get_or_default c k d Dot b ∙ e ∙ get_or_default c' k Dot d (rw holds'.long (rw holds.long at b)))
