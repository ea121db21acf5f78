-- Refusals that are passed on.
use Rattle.std.proofs.Common.{ℕ, ◌≡◌, List, Option, Result, Ok, Err, IfErr, sym, ◌∙◌, ap, subst}
use Rattle.surf_auto.specs.declared.error.SourceError.{SourceError}
use Rattle.surf_auto.specs.declared.error.SourceError.TheVariants.{BadHeader, RuleForm, TorusSize, EmptyGrid, GridTooLarge, BadItem, OutOfBox, BadTable, Unclosed, TooManyRules, NoMemory}
use Rattle.surf_table.specs.TableLines.{Line}
use Rattle.surf_table.specs.TableTexts.{Refuses, and_then, read_line}

pub refuses_same : {A : Type 0} (a b : Result A SourceError) (f : SourceError) → a ≡ b → Refuses b f → Refuses a f
refuses_same {A} a b f e h = let P : Result A SourceError → Type 0 = λ r. Refuses r f in subst P (sym e) h

-- what is refused of a line's rest is refused of the lines
pub rest_refused : {A : Type 0} (r : Result (Unit {0}) SourceError) (read : Result (A × List Line) SourceError) (n : ℕ) (ls : List Line) (o : Option A) →
    read ≡ read_line n ls o → IfErr r (λ f. (ls : List Line) → Refuses (read_line n ls o) f) → IfErr r (λ f. Refuses read f)
rest_refused (Ok u) read n ls o e h = tt
rest_refused (Err f) read n ls o e h = refuses_same read (read_line n ls o) f e (h ls)

-- nothing is read behind a refusal
pub refused_first : {A B : Type 0} (r : Result (A × List Line) SourceError) (more : A → List Line → Result B SourceError) (f : SourceError) → Refuses r f → Refuses (and_then r more) f
refused_first r more (BadTable n) h = ap (λ r. and_then r more) h
refused_first r more Unclosed h = ap (λ r. and_then r more) h
refused_first r more EmptyGrid h = ap (λ r. and_then r more) h
refused_first r more (GridTooLarge n) h = ap (λ r. and_then r more) h
refused_first r more (TooManyRules n) h = ap (λ r. and_then r more) h
refused_first r more NoMemory h = tt
refused_first r more (BadHeader n) h = h
refused_first r more (RuleForm n) h = h
refused_first r more (TorusSize n) h = h
refused_first r more (BadItem n) h = h
refused_first r more (OutOfBox n) h = h

-- what was read goes on
pub read_first : {A B : Type 0} (r : Result (A × List Line) SourceError) (more : A → List Line → Result B SourceError) (a : A) (ls : List Line) → r ≡ Ok (a, ls) → and_then r more ≡ more a ls
read_first r more a ls h = ap (λ r. and_then r more) h

pub refused_then : {A B : Type 0} (r : Result (A × List Line) SourceError) (more : A → List Line → Result B SourceError) (a : A) (ls : List Line) (f : SourceError) → r ≡ Ok (a, ls) → Refuses (more a ls) f → Refuses (and_then r more) f
refused_then r more a ls f h g = refuses_same (and_then r more) (more a ls) f (read_first r more a ls h) g

-- a function that passes refusals on gives them back
module _ {A B : Type 0} (g : Result A SourceError → Result B SourceError) (back : (r : Result A SourceError) (f : SourceError) → g r ≡ Err f → r ≡ Err f) where
  pub refused_under : (r : Result A SourceError) (s : Result B SourceError) (f : SourceError) → g r ≡ s → Refuses s f → Refuses r f
  refused_under r s (BadTable n) e h = back r (BadTable n) (e ∙ h)
  refused_under r s Unclosed e h = back r Unclosed (e ∙ h)
  refused_under r s EmptyGrid e h = back r EmptyGrid (e ∙ h)
  refused_under r s (GridTooLarge n) e h = back r (GridTooLarge n) (e ∙ h)
  refused_under r s (TooManyRules n) e h = back r (TooManyRules n) (e ∙ h)
  refused_under r s NoMemory e h = tt
  refused_under r s (BadHeader n) e h = h
  refused_under r s (RuleForm n) e h = h
  refused_under r s (TorusSize n) e h = h
  refused_under r s (BadItem n) e h = h
  refused_under r s (OutOfBox n) e h = h

module _ {A B : Type 0} (g : Result A SourceError → Result B SourceError) (on : (f : SourceError) → g (Err f) ≡ Err f) where
  -- and one that passes them on
  pub refused_over : (r : Result A SourceError) (f : SourceError) → Refuses r f → Refuses (g r) f
  refused_over r (BadTable n) h = ap g h ∙ on (BadTable n)
  refused_over r Unclosed h = ap g h ∙ on Unclosed
  refused_over r EmptyGrid h = ap g h ∙ on EmptyGrid
  refused_over r (GridTooLarge n) h = ap g h ∙ on (GridTooLarge n)
  refused_over r (TooManyRules n) h = ap g h ∙ on (TooManyRules n)
  refused_over r NoMemory h = tt
  refused_over r (BadHeader n) h = h
  refused_over r (RuleForm n) h = h
  refused_over r (TorusSize n) h = h
  refused_over r (BadItem n) h = h
  refused_over r (OutOfBox n) h = h
