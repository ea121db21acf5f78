-- What is read off the events of cells, and when nothing is.
use Rattle.std.specs.Prelude.{◌≡◌, ℕ, ◌-◌, Bool, true, is_some, ◌||◌, List, length, map, take, All, IfSome, Option, Result, Ok, Err}
use Rattle.std.specs.List.{range_with_len}
use Rattle.surf_rules.specs.Names.{text_of}
use Rattle.surf_world.specs.declared.event.Event.{Event}
use Rattle.surf_world.specs.Systems.{Rule, Surface}
use Rattle.surf_sync.specs.Spelling.{Showing, code_in, frame_in, shown_by}
use Rattle.surf_trace.specs.Generations.{read_off}
use Rattle.surf_world.specs.Worlds.{Placed}
use Rattle.surf_trace.specs.Replays.{FirstBad, left_world}
use Rattle.surf_trace.specs.declared.error.ObserveError.{ObserveError}
use Rattle.surf_trace.specs.declared.error.ObserveError.TheVariants.{NotCells, NotEnabled, NoMemory}

-- what the text of a number shows
abbrev pub shown_in : List (List ℕ) → ℕ → Option Showing
shown_in texts m = shown_by (text_of texts m)

-- what is read off each place as generation k
abbrev pub readings : {N : Type 0} → (N → Option Showing) → Surface N → List N → List Event → ℕ →
    List (Option ℕ)
readings show S c es k = map (λ p. read_off show S c es p k) (range_with_len 0 (length c))

-- the name is a cell's or the frame's
abbrev pub is_cell : List ℕ → Bool
is_cell name = is_some (code_in name) || is_some (frame_in name)

-- P holds of each name of a rule
pub record RuleNamed {N : Type 0} (P : N → Type 0) (r : Rule N) : Type 0 where
  pub left : P r.left
  pub right : IfSome r.right P
  pub left_after : P r.left_after
  pub right_after : IfSome r.right_after P

-- P holds of each name in the rules, those of rate 0 among them, and at the sites
pub record AllNamed {N : Type 0} (P : N → Type 0) (S : Surface N) (c : List N) : Type 0 where
  pub in_rules : All (RuleNamed P) S.rules
  pub in_names : All P c

-- every name is a cell's or the frame's
abbrev pub AreCells : List (List ℕ) → Surface ℕ → List ℕ → Type 0
AreCells texts S c = AllNamed (λ m. is_cell (text_of texts m) ≡ true) S c

-- why nothing is read off: some name is of another kind, or else an event is not enabled at its
-- turn; memory may fail
abbrev pub Hinders : List (List ℕ) → Surface ℕ → List ℕ → List Event → ObserveError → Type 0
Hinders texts S c es NotCells = AreCells texts S c → ⊥
Hinders texts S c es (NotEnabled k) = AreCells texts S c × FirstBad S c es k
Hinders texts S c es NoMemory = Unit {0}

-- v is the world w after the events that were taken
abbrev pub Leaves : {X : Type 0} → Placed → List Event → Result X ObserveError → Placed → Type 0
Leaves w es (Ok states) v = v ≡ left_world w es
Leaves w es (Err NotCells) v = v ≡ w
Leaves w es (Err (NotEnabled k)) v = v ≡ left_world w (take (k - 1) es)
Leaves w es (Err NoMemory) v = (n : ℕ) × (v ≡ left_world w (take n es))
