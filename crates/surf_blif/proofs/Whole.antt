-- What the reader answers is what the text is.
use Rattle.std.proofs.Common.{ℕ, ◌≡◌, ◌≤◌, List, [], refl, sym, ◌∙◌, ap, subst, arith, Option, Some, None, Result, Ok, Err, IfSome, IfOk, IfErr, is_some, true, nat_eq, Bool}
use Rattle.std.specs.Str.{bytes_eq}
use Rattle.surf_rules.specs.Names.{text_of}
use Rattle.surf_logic.specs.declared.turns.CircuitError.{CircuitError}
use Rattle.surf_logic.specs.Equations.{PartsOf, Numbered, cost_of}
use Rattle.surf_logic.specs.Order.{Fault, HasFault, Turns, IsOrderOf}
use Rattle.surf_logic.specs.Answers.{EvalOf, HasCircuitFault, IsEval, map_fault, told_fault}
use Rattle.surf_logic.specs.Renamed.{AreNamed, by_text, FaultsAreNamed, OrdersAreSound, OrdersAreNamed, OrdersCostTheSame, NamesCostNothing, ValuesAreNamed}
use Rattle.surf_blif.specs.declared.error.BlifError.{BlifError}
use Rattle.surf_blif.specs.declared.error.BlifError.TheVariants as errors
use Rattle.surf_blif.specs.declared.draft.Draft.{Draft}
use Rattle.surf_blif.specs.Blifs.{BlifFault, InText, TooLarge, InCircuit, HasBlifFault, IsRead, Refuses, parts_of, text_fault}
use Rattle.surf_blif.specs.Answers.{HoldsError, IsReadAs, Tells}
use Rattle.surf_blif.specs.Drafts.{held_by, numbered_by}
use Rattle.surf_blif.proofs.Words.{input_words, output_words}

no_fault : (bytes : List ℕ) (p c : Numbered) → OrdersAreSound → text_fault bytes ≡ None → cost_of (parts_of bytes) ≤ 1000 → by_text p ≡ parts_of bytes → AreNamed p → IsOrderOf p c
    → (f : BlifFault) → HasBlifFault bytes f → ⊥
no_fault bytes p c sound none few is named order (InText f) h = cc
no_fault bytes p c sound none few is named order (TooLarge n) h = omega (arith, few, h.1, h.2)
no_fault bytes p c sound none few is named order (InCircuit f) h = sound p c f named order (subst (λ v. HasFault bytes_eq v f) (sym is) h.2)

pub read_is : (bytes : List ℕ) (d : Draft) (c : Numbered) → OrdersAreSound → OrdersAreNamed → OrdersCostTheSame → NamesCostNothing
    → IsReadAs bytes (held_by d) → d.cost ≤ 1000 → AreNamed (numbered_by d) → IsOrderOf (numbered_by d) c → IsRead bytes c
read_is bytes d c sound orders order_cost name_cost read few named order =
    let p = numbered_by d in
    let is : by_text p ≡ parts_of bytes = read.parts few in
    let cost : cost_of (parts_of bytes) ≤ 1000 = omega (arith, read.cost, few) in
    let turns : Turns bytes_eq (by_text p).inputs (by_text p).equations (by_text c).equations [] = orders p c named order in
    record {
      blif = record { parts = refl; no_fault = no_fault bytes p c sound read.no_fault cost is named order };
      inputs = rw (order.names, order.inputs) (ap (λ (v : PartsOf (List ℕ)). v.inputs) is);
      outputs = rw (order.names, order.outputs) (ap (λ (v : PartsOf (List ℕ)). v.outputs) is);
      turns = subst (λ (v : PartsOf (List ℕ)). Turns bytes_eq v.inputs v.equations (by_text c).equations []) is turns;
      cost = omega (arith, order_cost p c order, name_cost p, ap cost_of is, cost);
      input_words = input_words bytes;
      output_words = output_words bytes;
      unordered = p;
      named = named;
      names = is;
      order = order;
    }

told_some : (bytes : List ℕ) (p : Numbered) (o : Option (Fault (List ℕ))) → FaultsAreNamed → text_fault bytes ≡ None → cost_of (parts_of bytes) ≤ 1000 → by_text p ≡ parts_of bytes → AreNamed p
    → IfSome o (λ g. (f : Fault ℕ) × HasFault nat_eq p.parts f × (g ≡ map_fault (text_of p.names) f)) → is_some o ≡ true
    → (f : Fault (List ℕ)) × (o ≡ Some f) × HasBlifFault bytes (InCircuit f)
told_some bytes p None faults none few is named h s = cc
told_some bytes p (Some g) faults none few is named h s =
    let f = h.0 in
    let at : HasFault bytes_eq (by_text p) (map_fault (text_of p.names) f) = faults p f named h.1 in
    let told : HasFault bytes_eq (parts_of bytes) g = subst (λ v. HasFault bytes_eq v g) is (subst (λ v. HasFault bytes_eq (by_text p) v) (sym h.2) at) in
    (g, refl, (none, few, told))

pub refused_by : (bytes : List ℕ) (d : Draft) (error : CircuitError) (e : BlifError) → FaultsAreNamed
    → IsReadAs bytes (held_by d) → d.cost ≤ 1000 → AreNamed (numbered_by d) → HasCircuitFault (numbered_by d) error → HoldsError error e → Refuses bytes e
refused_by bytes d error (errors.Circuit g) faults read few named h held =
    let cost : cost_of (parts_of bytes) ≤ 1000 = omega (arith, read.cost, few) in
    let t = told_some bytes (numbered_by d) (told_fault error) faults read.no_fault cost (read.parts few) named h held.1 in
    (t.0, ap told_fault held.0 ∙ t.1, t.2)
refused_by bytes d error errors.NoMemory faults read few named h held = tt
refused_by bytes d error (errors.Unsupported n t) faults read few named h held = absurd held
refused_by bytes d error (errors.BadLine n) faults read few named h held = absurd held
refused_by bytes d error (errors.BadCover n) faults read few named h held = absurd held
refused_by bytes d error (errors.MixedCover n) faults read few named h held = absurd held
refused_by bytes d error (errors.TooLarge n) faults read few named h held = absurd held

pub refused_text : (bytes : List ℕ) (e : BlifError) → Tells (text_fault bytes) e → Refuses bytes e
refused_text bytes (errors.Unsupported n t) h = h
refused_text bytes (errors.BadLine n) h = h
refused_text bytes (errors.BadCover n) h = h
refused_text bytes (errors.MixedCover n) h = h
refused_text bytes (errors.Circuit g) h = absurd h
refused_text bytes (errors.TooLarge n) h = absurd h
refused_text bytes errors.NoMemory h = tt

pub ok_more : {X E : Type 0} (P Q : X → Type 0) (r : Result X E) → ((x : X) → P x → Q x) → IfOk r P → IfOk r Q
ok_more P Q (Ok x) f h = f x h
ok_more P Q (Err e) f h = tt

pub err_more : {X E : Type 0} (P Q : E → Type 0) (r : Result X E) → ((e : E) → P e → Q e) → IfErr r P → IfErr r Q
err_more P Q (Ok x) f h = tt
err_more P Q (Err e) f h = f e h

pub evaluates : ValuesAreNamed → (bytes : List ℕ) (c : Numbered) (bits answer : List Bool) → IsRead bytes c → IsEval c bits answer → EvalOf bytes_eq (parts_of bytes) bits answer
evaluates values bytes c bits answer read eval =
    subst (λ v. EvalOf bytes_eq v bits answer) read.names (values read.unordered c bits answer read.named read.order eval)
