-- Lists of texts that grow keep what their numbers name.
use Rattle.std.proofs.Common.{ℕ, zero, suc, ◌≡◌, ◌+◌, ◌*◌, ◌^◌, ◌<◌, ◌≤◌, List, [], ◌∷◌, ◌++◌, length, take, refl, sym, ap, subst, ◌∙◌, arith, Bool, true, false, Option, Some, None, slice_get, if◌then◌else◌, length-append, Result, Ok, Err, OnOk, OnErr, All, inl, inr}
use Rattle.std.proofs.lemmas.Bool.{cases_lt}
use Rattle.std.proofs.lemmas.List.{take_all}
use Rattle.surf_tiles.specs.declared.state.State.{State}
use Rattle.surf_tiles.specs.States.{spell}
use Rattle.surf_tiles.specs.Reactions.{reactions}
use Rattle.std.specs.List.{list_any}
use Rattle.std.specs.Option.{option_and_then}
use Rattle.std.specs.Str.{bytes_eq}
use Rattle.std.proofs.lemmas.Option.{slice_get_within}
use Rattle.surf_base.specs.declared.outside.NoMemory.{NoMemory}
use Rattle.surf_rules.specs.Names.{with_text}
use Rattle.surf_rules.specs.declared.rule.Rule.{Rule}
use Rattle.surf_tiles.specs.declared.reaction.Reaction.{Reaction}
use Rattle.surf_tiles.specs.Rules.{IsGrown, Says, SayAll}

front_kept : (ts us : List (List ℕ)) (k : ℕ) → k < length ts → slice_get (ts ++ us) k ≡ slice_get ts k
front_kept [] us k lt = absurd (omega (arith, lt))
front_kept (t ∷ ts) us zero lt = refl
front_kept (t ∷ ts) us (suc k) lt = front_kept ts us k (omega (arith, lt))

back_is : (ts : List (List ℕ)) (t u : List ℕ) (k : ℕ) → length ts ≤ k → slice_get (ts ++ t ∷ []) k ≡ Some u → u ≡ t
back_is [] t u zero le e = cc
back_is [] t u (suc k) le e = absurd cc
back_is (x ∷ ts) t u zero le e = absurd (omega (arith, le))
back_is (x ∷ ts) t u (suc k) le e = back_is ts t u k (omega (arith, le)) e

past : (ts : List (List ℕ)) (k : ℕ) (t : List ℕ) → length ts ≤ k → slice_get ts k ≡ Some t → ⊥
past ts k t le is = let b = slice_get_within ts k t is in absurd (omega (arith, le, b))

grown_if : (b : Bool) (ts : List (List ℕ)) (name : State) → IsGrown 1 ts (if b then ts else ts ++ spell name ∷ [])
grown_if true ts name = record { longer = omega arith; most = omega arith; kept = λ k lt. refl; new = λ k t le is. absurd (past ts k t le is) }
grown_if false ts name = record {
  longer = omega (arith, length-append ts (spell name ∷ []));
  most = omega (arith, length-append ts (spell name ∷ []));
  kept = λ k lt. front_kept ts (spell name ∷ []) k lt;
  new = λ k t le is. (name, back_is ts (spell name) t k le is);
}

pub not_grown : (n : ℕ) (a : List (List ℕ)) → IsGrown n a a
not_grown n a = record { longer = omega arith; most = omega arith; kept = λ k lt. refl; new = λ k t le is. absurd (past a k t le is) }

-- an interned name
pub interned : (r : Result ℕ NoMemory) (a b : List (List ℕ)) (t : List ℕ) (name : State) → t ≡ spell name → OnOk r (b ≡ with_text a t) → OnErr r (b ≡ a) → IsGrown 1 a b
interned (Ok k) a b t name is ok err = subst (λ v. IsGrown 1 a v) (sym (ok ∙ ap (with_text a) is)) (grown_if (list_any (bytes_eq (spell name)) a) a name)
interned (Err e) a b t name is ok err = subst (λ v. IsGrown 1 a v) (sym err) (not_grown 1 a)

pub grown_then : (m n k : ℕ) (a b c : List (List ℕ)) → m + n ≤ k → IsGrown m a b → IsGrown n b c → IsGrown k a c
grown_then m n k a b c le g h = record {
  longer = omega (arith, g.longer, h.longer);
  most = omega (arith, le, g.most, h.most);
  kept = λ i lt. h.kept i (omega (arith, lt, g.longer)) ∙ g.kept i lt;
  new = λ i t low is. elim (cases_lt i (length b)) [
    | inl lt ↦ g.new i t low (sym (h.kept i lt) ∙ is)
    | inr past ↦ h.new i t past is
  ];
}

pub at_kept : (n : ℕ) (a b : List (List ℕ)) (k : ℕ) (t : List ℕ) → IsGrown n a b → slice_get a k ≡ Some t → slice_get b k ≡ Some t
at_kept n a b k t g is = g.kept k (slice_get_within a k t is) ∙ is

option_kept : (n : ℕ) (a b : List (List ℕ)) (o : Option ℕ) (t : List ℕ) → IsGrown n a b → option_and_then (slice_get a) o ≡ Some t → option_and_then (slice_get b) o ≡ Some t
option_kept n a b None t g is = absurd cc
option_kept n a b (Some k) t g is = at_kept n a b k t g is

-- what rules say stays said
says_kept : (n : ℕ) (a b : List (List ℕ)) (rule : Rule) (r : Reaction) → IsGrown n a b → Says a rule r → Says b rule r
says_kept n a b rule r g h = record {
  rate = h.rate;
  left = at_kept n a b _ _ g h.left;
  right = option_kept n a b _ _ g h.right;
  left_after = at_kept n a b _ _ g h.left_after;
  right_after = option_kept n a b _ _ g h.right_after;
}

pub all_kept : (n : ℕ) (a b : List (List ℕ)) (rules : List Rule) (rs : List Reaction) → IsGrown n a b → SayAll a rules rs → SayAll b rules rs
all_kept n a b [] [] g h = tt
all_kept n a b [] (r ∷ rs) g h = absurd h
all_kept n a b (rule ∷ rules) [] g h = absurd h
all_kept n a b (rule ∷ rules) (r ∷ rs) g h = (says_kept n a b rule r g h.0, all_kept n a b rules rs g h.1)

-- one more rule
pub all_pushed : (texts : List (List ℕ)) (rules : List Rule) (rs : List Reaction) (rule : Rule) (r : Reaction) → SayAll texts rules rs → Says texts rule r → SayAll texts (rules ++ rule ∷ []) (rs ++ r ∷ [])
all_pushed texts [] [] rule r h k = (k, tt)
all_pushed texts [] (x ∷ xs) rule r h k = absurd h
all_pushed texts (y ∷ ys) [] rule r h k = absurd h
all_pushed texts (y ∷ ys) (x ∷ xs) rule r h k = (h.0, all_pushed texts ys xs rule r h.1 k)

-- so many reactions have their rules
pub record Listed (list : List Reaction) (count : ℕ) (before texts : List (List ℕ)) (rules : List Rule) : Type 0 where
  pub all : list ≡ reactions
  pub said : SayAll texts rules (take count list)
  pub grown : IsGrown (3 * count) before texts

pub listed_none : (list : List Reaction) (texts : List (List ℕ)) (rules : List Rule) → list ≡ reactions → rules ≡ [] → Listed list 0 texts texts rules
listed_none list texts rules all none = record {
  all = all;
  said = subst (λ rs. SayAll texts rs (take 0 list)) (sym none) tt;
  grown = not_grown 0 texts;
}

pub count_of : length reactions ≡ 122
unfolding reactions
count_of = refl

pub listed_room : (list : List Reaction) (count : ℕ) (before texts : List (List ℕ)) (rules : List Rule) → Listed list count before texts rules → length before ≤ 2 ^ 31 → count < length list → length texts + 3 < 2 ^ 32
listed_room list count before texts rules h few lt =
    let n : length list ≡ 122 = ap length h.all ∙ count_of in
    omega (arith, n, h.grown.most, few, lt)

pub listed_end : (list : List Reaction) (count : ℕ) (before texts : List (List ℕ)) (rules : List Rule) → Listed list count before texts rules → count ≤ length list → IsGrown 366 before texts
listed_end list count before texts rules h le =
    let n : length list ≡ 122 = ap length h.all ∙ count_of in
    record { longer = h.grown.longer; most = omega (arith, n, le, h.grown.most); kept = h.grown.kept; new = h.grown.new }

-- also where the next rule adds names and is not put
pub listed_more : (list : List Reaction) (count : ℕ) (before texts more : List (List ℕ)) (rules : List Rule) → Listed list count before texts rules → count < length list → IsGrown 3 texts more → IsGrown 366 before more
listed_more list count before texts more rules h lt g =
    let n : length list ≡ 122 = ap length h.all ∙ count_of in
    grown_then (3 * count) 3 366 before texts more (omega (arith, n, lt)) h.grown g

pub listed_put : (list : List Reaction) (count : ℕ) (before texts more : List (List ℕ)) (rules rules' : List Rule) (rule : Rule) (r : Reaction) → Listed list count before texts rules → IsGrown 3 texts more → Says more rule r → rules' ≡ rules ++ rule ∷ [] → take (count + 1) list ≡ take count list ++ r ∷ [] → Listed list (count + 1) before more rules'
listed_put list count before texts more rules rules' rule r h g says put next = record {
  all = h.all;
  said = rw (put, next) (all_pushed more rules (take count list) rule r (all_kept 3 texts more rules _ g h.said) says);
  grown = grown_then (3 * count) 3 (3 * (count + 1)) before texts more (omega arith) h.grown g;
}

-- as many rules as reactions, of rate 1
pub all_count : (texts : List (List ℕ)) (rules : List Rule) (rs : List Reaction) → SayAll texts rules rs → length rules ≡ length rs
all_count texts [] [] h = refl
all_count texts [] (r ∷ rs) h = absurd h
all_count texts (rule ∷ rules) [] h = absurd h
all_count texts (rule ∷ rules) (r ∷ rs) h = ap suc (all_count texts rules rs h.1)

pub all_rates : (texts : List (List ℕ)) (rules : List Rule) (rs : List Reaction) → SayAll texts rules rs → All (λ r. r.rate ≤ 1000000000000) rules
all_rates texts [] rs h k d lt = absurd (omega (arith, lt))
all_rates texts (rule ∷ rules) [] h k d lt = absurd h
all_rates texts (rule ∷ rules) (r ∷ rs) h zero d lt = omega (arith, h.0.rate)
all_rates texts (rule ∷ rules) (r ∷ rs) h (suc k) d lt = all_rates texts rules rs h.1 k d (omega (arith, lt))

-- at the end all are said
pub listed_all : (list : List Reaction) (count : ℕ) (before texts : List (List ℕ)) (rules : List Rule) → Listed list count before texts rules → length list ≤ count → SayAll texts rules reactions
listed_all list count before texts rules h le = subst (SayAll texts rules) (take_all count list le ∙ h.all) h.said
