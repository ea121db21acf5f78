-- Placing by frames: each step keeps what the frames stand for.
use Rattle.std.proofs.Common.{ℕ, ◌≡◌, ◌+◌, ◌*◌, ◌≤◌, Bool, true, false, List, [], ◌∷◌, ◌++◌, map, refl, sym, ◌∙◌, ap, subst, ⊎_elim, arith, suc, Option, Some, None, if◌then◌else◌, append_assoc}
use Rattle.std.specs.Prelude.{decimal}
use Rattle.std.specs.Str.{bytes_eq}
use Rattle.std.proofs.lemmas.Bool.{cases_Bool}
use Rattle.std.proofs.lemmas.List.{map-append}
use Rattle.surf_logic.specs.Equations.{EquationOf}
use Rattle.surf_logic.specs.Renamed.{equation_by}
use Rattle.surf_logic.proofs.Naming.{map_map}
use Rattle.surf_logic.proofs.Solving.{map_same}
use Rattle.surf_flatten.specs.declared.models.Bind.{Bind}
use Rattle.surf_flatten.specs.declared.models.Item.{Item}
use Rattle.surf_flatten.specs.declared.models.Item.TheVariants.{Cover, Place}
use Rattle.surf_flatten.specs.Placements.{Placement}
use Rattle.surf_flatten.specs.Designs.{Design, Tree, Done, Gives, Holds, Unfolds, items_named}
use Rattle.surf_flatten.specs.Substituted.{Signal, own, actual_of, seen_or, seen_inside, equations_in, way_text, below_way, spelled, meant, work}
use Rattle.surf_flatten.specs.Frames.{Frame, longer, own_name, or_own, bind_by, name_inside, named_in, steps, Stands}

-- ---- ways as texts

abbrev pub way_of : List ℕ → Option (List ℕ)
way_of [] = None
way_of (k ∷ ks) = Some (way_text (k ∷ ks))

way_longer : (ks : List ℕ) (k : ℕ) → way_text (ks ++ k ∷ []) ≡ longer (way_of ks) k
way_longer [] k = refl
way_longer (j ∷ []) k = refl
way_longer (j ∷ l ∷ ls) k =
    ap (λ v. decimal j ++ 46 ∷ v) (by (way_longer (l ∷ ls) k))
    ∙ sym (append_assoc (decimal j) (46 ∷ way_text (l ∷ ls)) (46 ∷ decimal k))
  where
    by : way_text ((l ∷ ls) ++ k ∷ []) ≡ longer (way_of (l ∷ ls)) k → way_text (l ∷ (ls ++ k ∷ [])) ≡ way_text (l ∷ ls) ++ 46 ∷ decimal k
    by e = e

way_more : (ks : List ℕ) (k : ℕ) → way_of (ks ++ k ∷ []) ≡ Some (longer (way_of ks) k)
way_more [] k = refl
way_more (j ∷ ks) k = ap (λ (v : List ℕ). Some v) (way_longer (j ∷ ks) k)

way_below : (ks : List ℕ) (s : List ℕ) → below_way ks s ≡ own_name (way_of ks) s
way_below [] s = refl
way_below (k ∷ ks) s = refl

-- ---- names by way of signals, and at once

equation_same : (f g : List ℕ → List ℕ) → ((s : List ℕ) → f s ≡ g s) → (q : EquationOf (List ℕ)) → equation_by f q ≡ equation_by g q
equation_same f g same q =
    ap (λ (v : List ℕ). record { output = v; inputs = map f q.inputs; rows = q.rows; polarity = q.polarity }) (same q.output)
    ∙ ap (λ (v : List (List ℕ)). record { output = g q.output; inputs = v; rows = q.rows; polarity = q.polarity }) (map_same f g q.inputs (λ s i. same s))

-- the actual of a bind as the placing model names it
pub actual_by : (name : List ℕ → List ℕ) (b : Bind) (bs : List Bind) (s mine : List ℕ)
    → or_own (actual_of (map (bind_by name) (b ∷ bs)) s) mine ≡ (if bytes_eq b.formal s then name b.actual else or_own (actual_of (map (bind_by name) bs) s) mine)
actual_by name b bs s mine = ⊎_elim
    (λ t. ap (λ c. or_own (if c then Some (name b.actual) else actual_of (map (bind_by name) bs) s) mine) t
    ∙ sym (ap (λ c. if c then name b.actual else or_own (actual_of (map (bind_by name) bs) s) mine) t))
    (λ e. ap (λ c. or_own (if c then Some (name b.actual) else actual_of (map (bind_by name) bs) s) mine) e
    ∙ sym (ap (λ c. if c then name b.actual else or_own (actual_of (map (bind_by name) bs) s) mine) e))
    (cases_Bool (bytes_eq b.formal s))

inside_by : (f g : List ℕ → List ℕ) → ((s : List ℕ) → f s ≡ g s) → (binds : List Bind) (s mine : List ℕ) → or_own (actual_of (map (bind_by f) binds) s) mine ≡ or_own (actual_of (map (bind_by g) binds) s) mine
inside_by f g same [] s mine = refl
inside_by f g same (b ∷ bs) s mine =
    actual_by f b bs s mine
    ∙ ap (λ v. if bytes_eq b.formal s then v else or_own (actual_of (map (bind_by f) bs) s) mine) (same b.actual)
    ∙ ap (λ v. if bytes_eq b.formal s then g b.actual else v) (inside_by f g same bs s mine)
    ∙ sym (actual_by g b bs s mine)

pub inside_same : (f g : List ℕ → List ℕ) → ((s : List ℕ) → f s ≡ g s) → (way : List ℕ) (binds : List Bind) (s : List ℕ) → name_inside f way binds s ≡ name_inside g way binds s
inside_same f g same way binds s = inside_by f g same binds s (own_name (Some way) s)

pub named_same : (f g : List ℕ → List ℕ) → ((s : List ℕ) → f s ≡ g s) → (way : Option (List ℕ)) (k : ℕ) (t : Tree) → named_in f way k t ≡ named_in g way k t
named_same f g same way k Done = refl
named_same f g same way k (Gives q rest) =
    let here = equation_same f g same q in
    let there = named_same f g same way k rest in
    cc
named_same f g same way k (Holds p inner rest) =
    let more = longer way k in
    let here = named_same (name_inside f more p.binds) (name_inside g more p.binds) (inside_same f g same more p.binds) (Some more) 1 inner in
    let there = named_same f g same way (suc k) rest in
    cc

spelled_inside : (see : List ℕ → Signal) (way : List ℕ) (binds : List Bind) (s : List ℕ)
    → spelled (seen_inside see way binds s) ≡ or_own (actual_of (map (bind_by (λ x. spelled (see x))) binds) s) (below_way way s)
spelled_inside see way [] s = refl
spelled_inside see way (b ∷ bs) s = ⊎_elim
    (λ t. ap (λ c. spelled (seen_or see (if c then Some b.actual else actual_of bs s) (own way s))) t
    ∙ sym (ap (λ c. or_own (if c then Some (spelled (see b.actual)) else actual_of (map (bind_by (λ x. spelled (see x))) bs) s) (below_way way s)) t))
    (λ e. ap (λ c. spelled (seen_or see (if c then Some b.actual else actual_of bs s) (own way s))) e ∙ spelled_inside see way bs s
    ∙ sym (ap (λ c. or_own (if c then Some (spelled (see b.actual)) else actual_of (map (bind_by (λ x. spelled (see x))) bs) s) (below_way way s)) e))
    (cases_Bool (bytes_eq b.formal s))

-- the same below a way's text
inside_named : (see : List ℕ → Signal) (ks : List ℕ) (k : ℕ) (binds : List Bind) (s : List ℕ)
    → spelled (seen_inside see (ks ++ k ∷ []) binds s) ≡ name_inside (λ x. spelled (see x)) (longer (way_of ks) k) binds s
inside_named see ks k binds s =
    spelled_inside see (ks ++ k ∷ []) binds s
    ∙ ap (or_own (actual_of (map (bind_by (λ x. spelled (see x))) binds) s)) (way_below (ks ++ k ∷ []) s ∙ ap (λ v. own_name v s) (way_more ks k))

spelled_equation : (see : List ℕ → Signal) (q : EquationOf (List ℕ)) → equation_by spelled (equation_by see q) ≡ equation_by (λ x. spelled (see x)) q
spelled_equation see q = ap (λ (v : List (List ℕ)). record { output = spelled (see q.output); inputs = v; rows = q.rows; polarity = q.polarity }) (map_map spelled see q.inputs)

pub named_is : (see : List ℕ → Signal) (ks : List ℕ) (k : ℕ) (t : Tree) → map (equation_by spelled) (equations_in see ks k t) ≡ named_in (λ x. spelled (see x)) (way_of ks) k t
named_is see ks k Done = refl
named_is see ks k (Gives q rest) =
    let here = spelled_equation see q in
    let there = named_is see ks k rest in
    cc
named_is see ks k (Holds p inner rest) =
    let more = ks ++ k ∷ [] in
    let way = longer (way_of ks) k in
    let a = named_is (seen_inside see more p.binds) more 1 inner in
    let b = named_same (λ x. spelled (seen_inside see more p.binds x)) (name_inside (λ x. spelled (see x)) way p.binds) (inside_named see ks k p.binds) (way_of more) 1 inner in
    let w = ap (λ v. named_in (name_inside (λ x. spelled (see x)) way p.binds) v 1 inner) (way_more ks k) in
    let c = named_is see ks (suc k) rest in
    let d = map-append (equation_by spelled) (equations_in (seen_inside see more p.binds) more 1 inner) (equations_in see ks (suc k) rest) in
    cc

-- ---- steps

append_none : {X : Type 0} (xs : List X) → xs ++ [] ≡ xs
append_none [] = refl
append_none (x ∷ xs) = ap (λ v. x ∷ v) (append_none xs)

few_steps : (inside : Bool) (t : Tree) → steps t ≤ 2 * work inside t
few_steps inside Done = omega arith
few_steps inside (Gives q rest) = omega (arith, few_steps inside rest)
few_steps inside (Holds p inner rest) = omega (arith, few_steps true inner, few_steps inside rest)

-- main's frame stands for what the models mean, in at most 1 step more than twice its work
pub main_stands : (limit : ℕ) (models : List Design) (main : Design) (t : Tree) (f : Frame) → Unfolds models main.items t → f.items ≡ main.items → f.way ≡ None → f.next ≡ 1 → ((s : List ℕ) → f.name s ≡ s)
    → 2 * work false t + 1 ≤ limit → (n : ℕ) × Stands limit models (f ∷ []) (meant main t).equations n × (n ≤ 2 * work false t + 1)
main_stands limit models main t f u items way next name room =
    let a : map (equation_by spelled) (equations_in (own []) [] 1 t) ≡ named_in (λ s. s) None 1 t = plain t in
    let b : named_in f.name f.way f.next t ≡ named_in (λ s. s) None 1 t = ap (λ v. named_in f.name v f.next t) way ∙ ap (λ v. named_in f.name None v t) next ∙ named_same f.name (λ s. s) name None 1 t in (
      steps t + 1,
      (t, [], 0, subst (λ v. Unfolds models v t) (sym items) u, (refl, refl), a ∙ sym b ∙ sym (append_none (named_in f.name f.way f.next t)), omega arith, omega (arith, few_steps false t)),
      omega (arith, few_steps false t),
    )
  where
    plain : (t : Tree) → map (equation_by spelled) (equations_in (own []) [] 1 t) ≡ named_in (λ s. s) None 1 t
    plain t = named_is (own []) [] 1 t

-- a frame without items is left
pub leaving_stands : (limit : ℕ) (models : List Design) (f : Frame) (fs : List Frame) (qs : List (EquationOf (List ℕ))) (n : ℕ) → f.items ≡ [] → Stands limit models (f ∷ fs) qs n
    → (m : ℕ) × Stands limit models fs qs m × (n ≡ m + 1)
leaving_stands limit models f fs qs n none s = by s.0 (subst (λ v. Unfolds models v s.0) none s.3) s.5 s.6
  where
    by : (t : Tree) → Unfolds models [] t → qs ≡ named_in f.name f.way f.next t ++ s.1 → n ≡ steps t + 1 + s.2 → (m : ℕ) × Stands limit models fs qs m × (n ≡ m + 1)
    by Done u e k = (s.2, subst (λ v. Stands limit models fs v s.2) (sym e) s.4, omega arith)
    by (Gives q r) u e k = absurd u
    by (Holds p i r) u e k = absurd u

-- a cover gives its equation
pub covers_stand : (limit : ℕ) (models : List Design) (f g : Frame) (fs : List Frame) (qs : List (EquationOf (List ℕ))) (n : ℕ) (q : EquationOf (List ℕ)) → f.items ≡ Cover q ∷ g.items → g.way ≡ f.way
    → ((s : List ℕ) → g.name s ≡ f.name s) → g.next ≡ f.next → Stands limit models (f ∷ fs) qs n
    → (more : List (EquationOf (List ℕ))) × (m : ℕ) × Stands limit models (g ∷ fs) more m × (qs ≡ equation_by f.name q ∷ more) × (n ≡ m + 1)
covers_stand limit models f g fs qs n q items way name next s = by s.0 (subst (λ v. Unfolds models v s.0) items s.3) s.5 s.6 s.7
  where
    by : (t : Tree) → Unfolds models (Cover q ∷ g.items) t → qs ≡ named_in f.name f.way f.next t ++ s.1 → n ≡ steps t + 1 + s.2 → f.next + steps t ≤ limit
        → (more : List (EquationOf (List ℕ))) × (m : ℕ) × Stands limit models (g ∷ fs) more m × (qs ≡ equation_by f.name q ∷ more) × (n ≡ m + 1)
    by Done u e k room = absurd u
    by (Gives r rest) u e k room =
        let same : named_in g.name g.way g.next rest ≡ named_in f.name f.way f.next rest = ap (λ v. named_in g.name v g.next rest) way ∙ ap (λ v. named_in g.name f.way v rest) next ∙ named_same g.name f.name name f.way f.next rest in (
          named_in g.name g.way g.next rest ++ s.1,
          steps rest + 1 + s.2,
          (rest, s.1, s.2, u.1, s.4, refl, refl, omega (arith, next)),
          e ∙ ap (λ v. equation_by f.name v ∷ (named_in f.name f.way f.next rest ++ s.1)) (sym u.0) ∙ ap (λ v. equation_by f.name q ∷ (v ++ s.1)) (sym same),
          omega arith,
        )
    by (Holds p i r) u e k room = absurd u

-- a placing gives a frame
pub placings_stand : (limit : ℕ) (models : List Design) (f inner_frame g : Frame) (fs : List Frame) (qs : List (EquationOf (List ℕ))) (n : ℕ) (p : Placement) → f.items ≡ Place p ∷ g.items → g.way ≡ f.way
    → ((s : List ℕ) → g.name s ≡ f.name s) → g.next ≡ suc f.next → inner_frame.items ≡ items_named models p.model → inner_frame.way ≡ Some (longer f.way f.next) → inner_frame.next ≡ 1
    → ((s : List ℕ) → inner_frame.name s ≡ name_inside f.name (longer f.way f.next) p.binds s) → Stands limit models (f ∷ fs) qs n
    → (m : ℕ) × Stands limit models (inner_frame ∷ g ∷ fs) qs m × (n ≡ m + 1)
placings_stand limit models f h g fs qs n p items way name next inner_items inner_way inner_next inner_name s = by s.0 (subst (λ v. Unfolds models v s.0) items s.3) s.5 s.6 s.7
  where
    by : (t : Tree) → Unfolds models (Place p ∷ g.items) t → qs ≡ named_in f.name f.way f.next t ++ s.1 → n ≡ steps t + 1 + s.2 → f.next + steps t ≤ limit
        → (m : ℕ) × Stands limit models (h ∷ g ∷ fs) qs m × (n ≡ m + 1)
    by Done u e k room = absurd u
    by (Gives q r) u e k room = absurd u
    by (Holds r inner rest) u e k room =
        let w = longer f.way f.next in
        let front = named_in (name_inside f.name w p.binds) (Some w) 1 inner in
        let back = named_in f.name f.way (suc f.next) rest in
        let split : qs ≡ (front ++ back) ++ s.1 = e ∙ ap (λ (v : Placement). (named_in (name_inside f.name w v.binds) (Some w) 1 inner ++ back) ++ s.1) (sym u.0) in
        let same : named_in g.name g.way g.next rest ≡ back = ap (λ v. named_in g.name v g.next rest) way ∙ ap (λ v. named_in g.name f.way v rest) next ∙ named_same g.name f.name name f.way (suc f.next) rest in
        let there : named_in h.name h.way h.next inner ≡ front = ap (λ v. named_in h.name v h.next inner) inner_way ∙ ap (λ v. named_in h.name (Some w) v inner) inner_next ∙ named_same h.name (name_inside f.name w p.binds) inner_name (Some w) 1 inner in (
          steps inner + 1 + (steps rest + 1 + s.2),
          (
            inner,
            back ++ s.1,
            steps rest + 1 + s.2,
            subst (λ v. Unfolds models v inner) (sym inner_items) u.1,
            (rest, s.1, s.2, u.2, s.4, ap (λ v. v ++ s.1) (sym same), refl, omega (arith, next)),
            split ∙ append_assoc front back s.1 ∙ ap (λ v. v ++ (back ++ s.1)) (sym there),
            refl,
            omega (arith, inner_next),
          ),
          omega arith,
        )

-- frames that stand for no step are none
pub none_left : (limit : ℕ) (models : List Design) (fs : List Frame) (qs : List (EquationOf (List ℕ))) (n : ℕ) → Stands limit models fs qs n → n ≡ 0 → fs ≡ []
none_left limit models [] qs n s none = refl
none_left limit models (f ∷ fs) qs n s none = absurd (omega (arith, s.6))
