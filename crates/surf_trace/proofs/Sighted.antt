-- A table tells of each number what its text does.
use Rattle.std.specs.Prelude.{is_some, ◌||◌, unwrap_or}
use Rattle.std.specs.Option.{option_map}
use Rattle.std.proofs.Common.{ℕ, ◌≡◌, ◌<◌, Bool, true, List, [], length, map, Option, Some, None, slice_get, get_or, refl, sym, ◌∙◌, ap, subst}
use Rattle.std.proofs.Math.Path.{fun_ext}
use Rattle.std.proofs.lemmas.Option.{slice_get-map, slice_get_read}
use Rattle.surf_rules.specs.Names.{text_of}
use Rattle.surf_world.specs.Systems.{Surface}
use Rattle.surf_sync.specs.declared.code.Code.{Code}
use Rattle.surf_sync.specs.Spelling.{Showing, code_in, frame_in}
use Rattle.surf_trace.specs.declared.sight.Sight.{Sight}
use Rattle.surf_trace.specs.declared.sight.Sight.TheVariants.{Other}
use Rattle.surf_world.specs.declared.event.Event.{Event}
use Rattle.surf_trace.specs.declared.watch.Kept.{Kept}
use Rattle.surf_trace.specs.Observations.{shown_in, is_cell, readings, AllNamed, AreCells}
use Rattle.surf_trace.specs.Watching.{first_kept, told}
use Rattle.surf_trace.proofs.Watched.{all_read}
use Rattle.surf_trace.specs.Sights.{sight_from, sight_of, showing, is_told, sight_in, showing_in, IsTold}

showing_from : (o : Option Code) (f : Option ℕ) → showing (sight_from o f) ≡ option_map (λ c. record { state = c.current; generation = c.generation }) o
showing_from None None = refl
showing_from None (Some k) = refl
showing_from (Some c) f = refl

told_from : (o : Option Code) (f : Option ℕ) → is_told (sight_from o f) ≡ (is_some o || is_some f)
told_from None None = refl
told_from None (Some k) = refl
told_from (Some c) f = refl

-- a read of the table
pub sight_read : (sights : List Sight) (m : ℕ) (x : Sight) → m < length sights → x ≡ get_or sights m x → x ≡ sight_in sights m
sight_read sights m x lt is = sym (ap (λ o. unwrap_or o Other) (slice_get_read sights (length sights) m x refl lt is))

named : (o : Option (List ℕ)) → unwrap_or (option_map sight_of o) Other ≡ sight_of (unwrap_or o [])
named None = refl
named (Some t) = refl

sight_named : (texts : List (List ℕ)) (m : ℕ) → sight_in (map sight_of texts) m ≡ sight_of (text_of texts m)
sight_named texts m = ap (λ o. unwrap_or o Other) (slice_get-map sight_of texts m) ∙ named (slice_get texts m)

pub showing_named : (texts : List (List ℕ)) → showing_in (map sight_of texts) ≡ shown_in texts
showing_named texts = fun_ext (λ m. ap showing (sight_named texts m) ∙ showing_from (code_in (text_of texts m)) (frame_in (text_of texts m)))

abbrev told_by : List (List ℕ) → ℕ → Bool
told_by texts m = is_told (sight_in (map sight_of texts) m)

abbrev cell_by : List (List ℕ) → ℕ → Bool
cell_by texts m = is_cell (text_of texts m)

told_named : (texts : List (List ℕ)) → told_by texts ≡ cell_by texts
told_named texts = fun_ext (λ m. ap is_told (sight_named texts m) ∙ told_from (code_in (text_of texts m)) (frame_in (text_of texts m)))

module _ (texts : List (List ℕ)) (S : Surface ℕ) (c : List ℕ) where
  abbrev AllPassing : (ℕ → Bool) → Type 0
  AllPassing test = AllNamed (λ m. test m ≡ true) S c

  pub cells_told : AllNamed (IsTold (map sight_of texts)) S c → AreCells texts S c
  cells_told all = subst AllPassing (told_named texts) all

  pub told_cells : AreCells texts S c → AllNamed (IsTold (map sight_of texts)) S c
  told_cells all = subst AllPassing (sym (told_named texts)) all

-- what is kept under a table's words is what is read off under the texts
pub states_are : (texts : List (List ℕ)) (S : Surface ℕ) (c : List ℕ) (es : List Event) (k : ℕ) (a b : List Sight) → a ≡ map sight_of texts → b ≡ map sight_of texts → (first last : List Kept) → first ≡ map (λ m. first_kept (showing_in a m) k) c
    → ((p : ℕ) → option_map (λ x. x.state) (slice_get last p) ≡ option_map (told (showing_in b) S c es p) (slice_get first p)) → map (λ x. x.state) last ≡ readings (shown_in texts) S c es k
states_are texts S c es k a b one two first last is tells =
    let begun : showing_in a ≡ shown_in texts = ap showing_in one ∙ showing_named texts in
    let went : showing_in b ≡ shown_in texts = ap showing_in two ∙ showing_named texts in
    all_read (shown_in texts) S c es k first last
    (is ∙ ap (λ (s : ℕ → Option Showing). map (λ m. first_kept (s m) k) c) begun)
    (λ p. tells p ∙ ap (λ (s : ℕ → Option Showing). option_map (told s S c es p) (slice_get first p)) went)
