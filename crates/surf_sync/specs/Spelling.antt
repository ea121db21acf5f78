-- The names of a colony as texts.
use Rattle.std.specs.Prelude.{ℕ, ◌^◌, ◌<◌, Bool, false, if◌then◌else◌, ◌==◌, List, [], ◌∷◌, ◌++◌, codes, Option, Some, None}
use Rattle.std.specs.Fmt.{decimal}
use Rattle.std.specs.Option.{option_map}
use Rattle.std.specs.Str.{bytes_eq}
use Rattle.surf_base.specs.Decimal.{decimal_below}
use Rattle.surf_text.specs.Bytes.{before, after}
use Rattle.surf_sync.specs.declared.code.Code.{Code}
use Rattle.surf_sync.specs.Codes.{Mark}
use Rattle.surf_sync.specs.Codes.Mark.{Frame, Cell}

-- six decimals joined by '_', or "E_" and a decimal
abbrev pub spell : Mark → List ℕ
spell (Cell c) =
    decimal c.current
    ++ 95 ∷ (decimal c.generation
    ++ 95 ∷ (decimal c.colour
    ++ 95 ∷ (decimal c.previous
    ++ 95 ∷ (decimal c.reads
    ++ 95 ∷ decimal c.acc))))
spell (Frame k) = 69 ∷ 95 ∷ decimal k

-- ---- names are read back

abbrev pub is_padded : List ℕ → Bool
is_padded [] = false
is_padded (b ∷ []) = false
is_padded (b ∷ c ∷ bs) = b == 48

-- the number below 2^32 that a decimal without leading zeros spells
abbrev pub number_of : List ℕ → Option ℕ
number_of t = if is_padded t then None else decimal_below (2 ^ 32) t

-- a number, and the text behind the '_' that follows it, if one does
pub record Part : Type 0 where
  pub number : ℕ
  pub rest : Option (List ℕ)

abbrev pub part_from : Option ℕ → Option (List ℕ) → Option Part
part_from None rest = None
part_from (Some n) rest = Some (record { number = n; rest = rest })

abbrev pub part_of : List ℕ → Option Part
part_of t = part_from (number_of (before 95 t)) (after 95 t)

abbrev pub and_then : {X Y : Type 0} → Option X → (X → Option Y) → Option Y
and_then None f = None
and_then (Some x) f = f x

abbrev pub part_behind : Part → Option Part
part_behind p = and_then p.rest part_of

abbrev pub if_last : Part → Code → Option Code
if_last p c = if_end p.rest
  where
    if_end : Option (List ℕ) → Option Code
    if_end None = Some c
    if_end (Some t) = None

-- the code that a name spells
abbrev pub code_in : List ℕ → Option Code
code_in name =
    and_then (part_of name) (λ a.
    and_then (part_behind a) (λ b.
    and_then (part_behind b) (λ c.
    and_then (part_behind c) (λ d.
    and_then (part_behind d) (λ e.
    and_then (part_behind e) (λ f.
    if_last f (record {
      current = a.number;
      generation = b.number;
      colour = c.number;
      previous = d.number;
      reads = e.number;
      acc = f.number;
    })))))))

-- the colour of the frame that a name spells
abbrev pub frame_in : List ℕ → Option ℕ
frame_in name =
    if bytes_eq (before 95 name) (codes "E") then and_then (after 95 name) number_of else None

-- numbers that fit
pub record IsSmall (c : Code) : Type 0 where
  pub current : c.current < 2 ^ 32
  pub generation : c.generation < 2 ^ 32
  pub colour : c.colour < 2 ^ 32
  pub previous : c.previous < 2 ^ 32
  pub reads : c.reads < 2 ^ 32
  pub acc : c.acc < 2 ^ 32

-- ---- what a name shows, and nothing else: the state and the generation of a code

pub record Showing : Type 0 where
  pub state : ℕ
  pub generation : ℕ

abbrev pub shown_by : List ℕ → Option Showing
shown_by name =
    option_map (λ c. record { state = c.current; generation = c.generation }) (code_in name)

-- at a place of a configuration
abbrev pub shown_at : {N : Type 0} → (N → Option Showing) → Option N → Option Showing
shown_at show None = None
shown_at show (Some m) = show m
