-- The steps of a reader give what the lines of a model declare, or their first fault.
use Rattle.std.proofs.Common.{ℕ, ◌≡◌, ◌+◌, Bool, true, false, nat_le, List, [], ◌∷◌, ◌++◌, length, map, refl, sym, subst, ◌∙◌, ap, arith, Option, Some, None, Result, Ok, if◌then◌else◌, append-nil, le-leb}
use Rattle.std.proofs.lemmas.Bool.{leb-true}
use Rattle.surf_logic.specs.Equations.{PartsOf, cost_of, row_cost}
use Rattle.surf_blif.specs.declared.reading.Extent.{Extent}
use Rattle.surf_blif.specs.declared.reading.Extent.TheVariants.{GoesOn, Stops, Ends}
use Rattle.surf_blif.specs.declared.reading.Cover.{Cover}
use Rattle.surf_text.specs.Bytes.{lines_of}
use Rattle.surf_blif.specs.Logical.{front_of, joined_from, logical_lines}
use Rattle.surf_blif.specs.Lines.{Line, Skipped, Model, End, Bad, Inputs, Outputs, Names, Other, Row}
use Rattle.surf_blif.specs.Covers.{RowOf, row_of, equation_of}
use Rattle.surf_blif.specs.Grammar.{Placed, TextFault, begins, cover_above, cover_after, after_row, with_output, onto_rows, extent, model_lines, placed, fault_below, line_fault, model_from, or_fault, parts_in, within}
use Rattle.surf_blif.specs.Steps.{Held, Reached, keeping, with_inputs, with_outputs, with_equation, with_row_of, parts_with_row, held_row, after_line, unless_fault, step, read_on, nothing_held, at_start}
use Rattle.surf_blif.specs.Blifs.{parts_of, text_fault}
use Rattle.surf_blif.specs.Answers.{IsReadAs, fault_in}
use Rattle.surf_blif.proofs.Building.{Open, Built, opened, parts_built, with_row_read, build, builds, nothing_built, built_is, row_built, inputs_cost, outputs_cost, equation_more, row_more}

-- the first fault, by the cover that rows may follow
abbrev fault_from : Option Cover → List Placed → Option TextFault
fault_from c [] = None
fault_from c (l ∷ ls) = or_fault (line_fault c l.number l.line) (fault_from (cover_after c l.line) ls)

fault_is : (above ls : List Placed) → fault_below above ls ≡ fault_from (cover_above above) ls
fault_is above [] = refl
fault_is above (l ∷ ls) = ap (or_fault (line_fault (cover_above above) l.number l.line)) (fault_is (l ∷ above) ls)

abbrev pub after_lines : Reached → List Placed → Reached
after_lines s [] = s
after_lines s (l ∷ ls) = after_lines (after_line s l.line) ls

unless_more : {X : Type 0} (o p : Option TextFault) (r : Result X TextFault) → unless_fault o (unless_fault p r) ≡ unless_fault (or_fault o p) r
unless_more None p r = refl
unless_more (Some f) p r = refl

step_is : (s : Reached) (l : Placed) (e : Extent) (ms : List Placed) (r : Result Reached TextFault)
    → r ≡ unless_fault (fault_from (cover_after s.cover l.line) ms) (Ok (after_lines (after_line s l.line) ms))
    → step s l e r ≡ unless_fault (fault_from s.cover (within e l ms)) (Ok (after_lines s (within e l ms)))
step_is s l GoesOn ms r is = ap (unless_fault (line_fault s.cover l.number l.line)) is ∙ unless_more (line_fault s.cover l.number l.line) (fault_from (cover_after s.cover l.line) ms) (Ok (after_lines (after_line s l.line) ms))
step_is s l Stops ms r is = refl
step_is s l Ends ms r is = unless_more (line_fault s.cover l.number l.line) None (Ok (after_line s l.line))

read_is : (s : Reached) (ls : List Placed) → read_on s ls ≡ unless_fault (fault_from s.cover (model_from s.begun ls)) (Ok (after_lines s (model_from s.begun ls)))
read_is s [] = refl
read_is s (l ∷ ls) =
    step_is s l (extent s.begun l.line) (model_from (begins s.begun l.line) ls) (read_on (after_line s l.line) ls) (read_is (after_line s l.line) ls)

-- the cost is that of the parts, which are held where it is within the limit
pub record Keeps (h : Held) (p : PartsOf (List ℕ)) : Type 0 where
  pub cost : h.cost ≡ cost_of p
  pub parts : nat_le h.cost 1000 ≡ true → h.parts ≡ p

kept_if : (b : Bool) (p q r : PartsOf (List ℕ)) → (b ≡ true → p ≡ r) → b ≡ true → (if b then p else q) ≡ r
kept_if true p q r h t = h refl
kept_if false p q r h t = cc

less : (m n : ℕ) → nat_le (m + n) 1000 ≡ true → nat_le m 1000 ≡ true
less m n t = le-leb m 1000 (omega (arith, leb-true (m + n) 1000 t))

keeps_on : (h : Held) (more : ℕ) (f : PartsOf (List ℕ) → PartsOf (List ℕ)) (p q : PartsOf (List ℕ)) → Keeps h p → f p ≡ q → cost_of (f p) ≡ cost_of p + more → Keeps (keeping h more (f h.parts)) q
keeps_on h more f p q k is cost = record {
  cost = ap (λ n. n + more) k.cost ∙ (sym cost ∙ ap cost_of is);
  parts = λ t. kept_if (nat_le (h.cost + more) 1000) (f h.parts) h.parts q (λ t. ap f (k.parts (less h.cost more t)) ∙ is) t;
}

-- the cover is that of the open equation
abbrev CoverIs : Option Cover → Option Open → Type 0
CoverIs None None = Unit {0}
CoverIs None (Some o) = ⊥
CoverIs (Some c) None = ⊥
CoverIs (Some c) (Some o) = c.inputs ≡ length (front_of o.signals)

record Agrees (s : Reached) (b : Built) : Type 0 where
  pub cover : CoverIs s.cover b.last
  pub held : Keeps s.held (parts_built b)

-- the steps of lines that declare nothing, and of those that do
closes_on : (h : Held) (b : Built) → Keeps h (parts_built b) → Keeps h (record { inputs = b.inputs; outputs = b.outputs; equations = (b.closed ++ opened b.last) ++ [] })
closes_on h b k = rw (append-nil (b.closed ++ opened b.last)) k

inputs_on : (h : Held) (b : Built) (ts : List (List ℕ)) → Keeps h (parts_built b) → Keeps (keeping h (length ts) (with_inputs h.parts ts)) (parts_built (build b (Inputs ts)))
inputs_on h b ts k =
    keeps_on h (length ts) (λ p. with_inputs p ts) (parts_built b) (parts_built (build b (Inputs ts))) k
    (rw (append-nil (b.closed ++ opened b.last)) refl) (inputs_cost (parts_built b) ts)

outputs_on : (h : Held) (b : Built) (ts : List (List ℕ)) → Keeps h (parts_built b) → Keeps (keeping h (length ts) (with_outputs h.parts ts)) (parts_built (build b (Outputs ts)))
outputs_on h b ts k =
    keeps_on h (length ts) (λ p. with_outputs p ts) (parts_built b) (parts_built (build b (Outputs ts))) k
    (rw (append-nil (b.closed ++ opened b.last)) refl) (outputs_cost (parts_built b) ts)

names_on : (h : Held) (b : Built) (ts : List (List ℕ)) → Keeps h (parts_built b) → Keeps (keeping h 1 (with_equation h.parts ts)) (parts_built (build b (Names ts)))
names_on h b ts k =
    keeps_on h 1 (λ p. with_equation p ts) (parts_built b) (parts_built (build b (Names ts))) k refl (equation_more (parts_built b) ts)

-- a row of the open equation
abbrev with_open : Built → Open → List RowOf → Built
with_open b o rows = record { inputs = b.inputs; outputs = b.outputs; closed = b.closed; last = Some (record { signals = o.signals; rows = rows }) }

row_on : (h : Held) (b : Built) (o : Open) (r : Option RowOf) → Keeps h (parts_built (with_open b o o.rows)) → Keeps (with_row_of h r) (parts_built (with_open b o (o.rows ++ onto_rows r [])))
row_on h b o None k = rw (append-nil o.rows) k
row_on h b o (Some r) k =
    keeps_on h (row_cost r.literals) (λ p. parts_with_row p r) (parts_built (with_open b o o.rows)) (parts_built (with_open b o (o.rows ++ r ∷ []))) k
    (row_built b o r) (row_more b.inputs b.outputs b.closed (equation_of o.signals o.rows) r)

rows_on : (c : Option Cover) (h : Held) (b : Built) (last : Option Open) (ts : List (List ℕ)) → CoverIs c last
    → Keeps h (parts_built (record { inputs = b.inputs; outputs = b.outputs; closed = b.closed; last = last }))
    → Keeps (held_row c h ts) (parts_built (record { inputs = b.inputs; outputs = b.outputs; closed = b.closed; last = with_row_read last ts }))
rows_on None h b None ts is k = k
rows_on None h b (Some o) ts is k = absurd is
rows_on (Some c) h b None ts is k = absurd is
rows_on (Some c) h b (Some o) ts is k = rw is (row_on h b o (row_of (length (front_of o.signals)) ts) k)

row_cover : (c : Option Cover) (last : Option Open) (ts : List (List ℕ)) → CoverIs c last → CoverIs (after_row c ts) (with_row_read last ts)
row_cover None None ts is = tt
row_cover None (Some o) ts is = absurd is
row_cover (Some c) None ts is = absurd is
row_cover (Some c) (Some o) ts is = same_inputs c (row_of c.inputs ts) ∙ is
  where
    same_inputs : (c : Cover) (r : Option RowOf) → (with_output c r).inputs ≡ c.inputs
    same_inputs c None = refl
    same_inputs c (Some r) = refl

agrees_on : (s : Reached) (b : Built) (l : Line) → Agrees s b → Agrees (after_line s l) (build b l)
agrees_on s b Skipped a = record { cover = a.cover; held = a.held }
agrees_on s b (Row ts) a = record { cover = row_cover s.cover b.last ts a.cover; held = rows_on s.cover s.held b b.last ts a.cover a.held }
agrees_on s b (Names ts) a = record { cover = refl; held = names_on s.held b ts a.held }
agrees_on s b (Inputs ts) a = record { cover = tt; held = inputs_on s.held b ts a.held }
agrees_on s b (Outputs ts) a = record { cover = tt; held = outputs_on s.held b ts a.held }
agrees_on s b (Model stand) a = record { cover = tt; held = closes_on s.held b a.held }
agrees_on s b (End stand) a = record { cover = tt; held = closes_on s.held b a.held }
agrees_on s b Bad a = record { cover = tt; held = closes_on s.held b a.held }
agrees_on s b (Other t) a = record { cover = tt; held = closes_on s.held b a.held }

agrees_all : (s : Reached) (b : Built) (ls : List Placed) → Agrees s b → Agrees (after_lines s ls) (builds b ls)
agrees_all s b [] a = a
agrees_all s b (l ∷ ls) a = agrees_all (after_line s l.line) (build b l.line) ls (agrees_on s b l.line a)

nothing_kept : Keeps nothing_held (parts_built nothing_built)
nothing_kept = record { cost = refl; parts = λ t. refl }

pub lines_kept : (ls : List Placed) → Keeps (after_lines at_start ls).held (parts_in ls)
lines_kept ls = subst (Keeps (after_lines at_start ls).held) (built_is ls) (agrees_all at_start nothing_built ls (record { cover = tt; held = nothing_kept })).held

-- what the steps of a text give
pub steps_are : (bytes : List ℕ) → read_on at_start (map placed (logical_lines bytes)) ≡ unless_fault (text_fault bytes) (Ok (after_lines at_start (model_lines bytes)))
steps_are bytes =
    read_is at_start (map placed (logical_lines bytes))
    ∙ ap (λ o. unless_fault o (Ok (after_lines at_start (model_lines bytes)))) (sym (fault_is [] (model_lines bytes)))

read_none : (o : Option TextFault) (s r : Reached) → unless_fault o (Ok s) ≡ Ok r → (o ≡ None) × (s ≡ r)
read_none None s r is = (refl, cc)
read_none (Some f) s r is = cc

pub read_as : (bytes : List ℕ) (s : Reached) → read_on at_start (map placed (logical_lines bytes)) ≡ Ok s → IsReadAs bytes s.held
read_as bytes s is =
    let h = read_none (text_fault bytes) (after_lines at_start (model_lines bytes)) s (sym (steps_are bytes) ∙ is) in
    let k : Keeps s.held (parts_of bytes) = subst (λ (v : Reached). Keeps v.held (parts_of bytes)) h.1 (lines_kept (model_lines bytes)) in
    record { no_fault = h.0; cost = k.cost; parts = λ le. k.parts (le-leb s.held.cost 1000 le) }

fault_of_unless : {X : Type 0} (o : Option TextFault) (x : X) → fault_in (unless_fault o (Ok x)) ≡ o
fault_of_unless None x = refl
fault_of_unless (Some f) x = refl

pub fault_read : (bytes : List ℕ) → fault_in (read_on at_start (map placed (logical_lines bytes))) ≡ text_fault bytes
fault_read bytes = ap fault_in (steps_are bytes) ∙ fault_of_unless (text_fault bytes) (after_lines at_start (model_lines bytes))

-- nothing is left to read
pub reads_end : (s : Reached) (n : ℕ) (rest : List ℕ) → length rest ≡ 0 → read_on s (map placed (joined_from n None (lines_of rest))) ≡ Ok s
reads_end s n [] none = refl
reads_end s n (b ∷ bs) none = absurd (omega (arith, none))
