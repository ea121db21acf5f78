-- The faults that a pattern may have.
use Rattle.std.proofs.Common.{ℕ, ◌≡◌, Bool, true, false, nat_lt, nat_le, ◌+◌, ◌&&◌, if◌then◌else◌, List, [], ◌∷◌, Option, Some, None, Result, Ok, Err, refl}
use Rattle.surf_auto.specs.declared.error.SourceError.{SourceError}
use Rattle.surf_auto.specs.declared.error.SourceError.TheVariants.{BadHeader, RuleForm, TorusSize, EmptyGrid, GridTooLarge, BadItem, OutOfBox, BadTable, Unclosed, TooManyRules, NoMemory}
use Rattle.surf_rle.specs.Patterns.{Mark, Placed, before_end, has_end, placed, sign_fault, fault_or, first_fault, unless}
use Rattle.surf_rle.specs.Rle.{Refuses}
use Rattle.surf_rle.specs.Drawings.{rest_of, over}
use Rattle.surf_rle.specs.declared.item.Sign.{Sign}
use Rattle.surf_rle.specs.declared.item.Sign.TheVariants.{Free, Dead, Live, Down, End, Bad}
use Rattle.surf_rle.specs.declared.sheet.Sheet.{Sheet}
use Rattle.surf_rle.specs.declared.sheet.Pen.{Pen}

-- no fault of tables
abbrev pub is_told : SourceError → Bool
is_told (BadTable n) = false
is_told (TooManyRules n) = false
is_told (BadHeader n) = true
is_told (RuleForm n) = true
is_told (TorusSize n) = true
is_told EmptyGrid = true
is_told (GridTooLarge n) = true
is_told (BadItem n) = true
is_told (OutOfBox n) = true
is_told Unclosed = true
is_told NoMemory = true

pub refuses : {X : Type 0} (r : Result X SourceError) (f : SourceError) → is_told f ≡ true → r ≡ Err f → Refuses r f
refuses r (BadTable n) told is = cc
refuses r (TooManyRules n) told is = cc
refuses r (BadHeader n) told is = is
refuses r (RuleForm n) told is = is
refuses r (TorusSize n) told is = is
refuses r EmptyGrid told is = is
refuses r (GridTooLarge n) told is = is
refuses r (BadItem n) told is = is
refuses r (OutOfBox n) told is = is
refuses r Unclosed told is = is
refuses r NoMemory told is = tt

abbrev AllTold : Option SourceError → Type 0
AllTold None = Unit {0}
AllTold (Some f) = is_told f ≡ true

either : (b : Bool) (n : ℕ) → AllTold (if b then None else Some (OutOfBox n))
either true n = tt
either false n = refl

sign_told : (w h : ℕ) (p : Placed) (s : Sign) → AllTold (sign_fault w h p s)
sign_told w h p (Live n) = either (nat_lt p.row h && nat_le (p.column + n) w) p.mark.line
sign_told w h p Bad = refl
sign_told w h p Free = tt
sign_told w h p (Dead n) = tt
sign_told w h p (Down n) = tt
sign_told w h p End = tt

or_told : (a b : Option SourceError) → AllTold a → AllTold b → AllTold (fault_or a b)
or_told None b t u = u
or_told (Some f) b t u = t

first_told : (w h : ℕ) (ps : List Placed) → AllTold (first_fault w h ps)
first_told w h [] = tt
first_told w h (p ∷ ps) = or_told (sign_fault w h p p.mark.sign) (first_fault w h ps) (sign_told w h p p.mark.sign) (first_told w h ps)

read_told : {X : Type 0} (o : Option SourceError) (b : Bool) (x : X) (f : SourceError) → AllTold o → unless o (if b then Ok x else Err Unclosed) ≡ Err f → is_told f ≡ true
read_told None true x f told is = cc
read_told None false x f told is = cc
read_told (Some g) b x f told is = cc

-- the refusal of a pattern's items
pub rest_refuses : (s : Sheet) (pen : Pen) (cells : List ℕ) (ms : List Mark) (f : SourceError) → rest_of s pen cells ms ≡ Err f → is_told f ≡ true
rest_refuses s pen cells ms f is =
    read_told (first_fault s.width s.height (placed pen.row pen.column (before_end ms))) (has_end ms) (over s cells (placed pen.row pen.column (before_end ms))) f
    (first_told s.width s.height (placed pen.row pen.column (before_end ms))) is
