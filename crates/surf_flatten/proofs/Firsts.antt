-- First faults, as loops look for them.
use Rattle.std.proofs.Common.{ℕ, ◌≡◌, ◌+◌, ◌<◌, ◌==◌, Bool, true, false, List, [], ◌∷◌, ◌++◌, length, map, refl, sym, ◌∙◌, ap, arith, Option, Some, None, IfSome, if◌then◌else◌, get_or, slice_get, drop}
use Rattle.std.proofs.lemmas.Option.{get_or_from_slice_get, slice_get_within}
use Rattle.std.specs.Str.{bytes_eq}
use Rattle.surf_rules.specs.Names.{with_text}
use Rattle.surf_logic.specs.Order.{has, or_else, first_missing}
use Rattle.surf_logic.proofs.Gathering.{get_any}
use Rattle.surf_flatten.specs.declared.error.FlattenError.{FlattenError}
use Rattle.surf_flatten.specs.declared.models.Bind.{Bind}
use Rattle.surf_flatten.specs.declared.models.Item.{Item}
use Rattle.surf_flatten.specs.Designs.{Design}
use Rattle.surf_flatten.specs.Faults.{ModelFault}
use Rattle.surf_flatten.specs.Refusals.{told}
use Rattle.surf_flatten.specs.Checks.{Refuses, is_free, formal_by, lines_fault, models_fault}
use Rattle.surf_flatten.proofs.Finding.{rest_at, unequal}

pub refuse_map : (o p : Option ModelFault) (e : FlattenError) → ((f : ModelFault) → o ≡ Some f → p ≡ Some f) → Refuses o e → Refuses p e
refuse_map o p e h r = by (told e) r
  where
    by : (t : Option ModelFault) → IfSome t (λ f. o ≡ Some f) → IfSome t (λ f. p ≡ Some f)
    by None r = r
    by (Some f) r = h f r

-- ---- items

lines_at : (test : Item → Option ModelFault) (is : List Item) (k : ℕ) (i : Item) → k < length is → i ≡ get_or is k i
    → lines_fault test (drop k is) ≡ or_else (test i) (lines_fault test (drop (k + 1) is))
lines_at test is k i lt e = ap (lines_fault test) (rest_at is k i lt e)

pub lines_pass : (test : Item → Option ModelFault) (is : List Item) (k : ℕ) (i : Item) → k < length is → i ≡ get_or is k i → lines_fault test (drop k is) ≡ lines_fault test is → test i ≡ None
    → lines_fault test (drop (k + 1) is) ≡ lines_fault test is
lines_pass test is k i lt e so none = sym (lines_at test is k i lt e ∙ ap (λ o. or_else o (lines_fault test (drop (k + 1) is))) none) ∙ so

pub lines_stop : (test : Item → Option ModelFault) (is : List Item) (k : ℕ) (i : Item) (error : FlattenError) → k < length is → i ≡ get_or is k i → lines_fault test (drop k is) ≡ lines_fault test is
    → Refuses (test i) error → Refuses (lines_fault test is) error
lines_stop test is k i error lt e so r = refuse_map (test i) (lines_fault test is) error
    (λ f at. sym so ∙ lines_at test is k i lt e ∙ ap (λ o. or_else o (lines_fault test (drop (k + 1) is))) at)
    r

-- ---- models

module _ (test : ℕ → Item → Option ModelFault) (parts : List ℕ) (models : List Design) where
  models_at : (k : ℕ) (m : Design) → length parts ≡ length models → k < length models → m ≡ get_or models k m
      → models_fault test (drop k parts) (drop k models) ≡ or_else (if get_or parts k 0 == 0 then None else lines_fault (test (get_or parts k 0)) m.items) (models_fault test (drop (k + 1) parts) (drop (k + 1) models))
  models_at k m same lt e =
      let wide : k < length parts = omega (arith, same) in
      let part = get_or parts k 0 in
      ap (λ v. models_fault test v (drop k models)) (rest_at parts k part wide (get_any parts k 0 part wide))
      ∙ ap (models_fault test (part ∷ drop (k + 1) parts)) (rest_at models k m lt e)

  none_at : (k : ℕ) → get_or parts k 0 ≡ 0 → (get_or parts k 0 == 0) ≡ true
  none_at k e = ap (λ v. v == 0) e

  some_at : (k : ℕ) → 0 < get_or parts k 0 → (get_or parts k 0 == 0) ≡ false
  some_at k lt = unequal (get_or parts k 0) 0 (λ (e : get_or parts k 0 ≡ 0). omega (arith, e, lt))

  abbrev Here : ℕ → Type 0
  Here k = models_fault test (drop k parts) (drop k models) ≡ models_fault test parts models

  pub models_skip : (k : ℕ) (m : Design) → length parts ≡ length models → k < length models → m ≡ get_or models k m → Here k → get_or parts k 0 ≡ 0 → Here (k + 1)
  models_skip k m same lt e so none =
      sym (models_at k m same lt e ∙ ap (λ b. or_else (if b then None else lines_fault (test (get_or parts k 0)) m.items) (models_fault test (drop (k + 1) parts) (drop (k + 1) models))) (none_at k none)) ∙ so

  pub models_pass : (k : ℕ) (m : Design) → length parts ≡ length models → k < length models → m ≡ get_or models k m → Here k → 0 < get_or parts k 0
      → lines_fault (test (get_or parts k 0)) m.items ≡ None → Here (k + 1)
  models_pass k m same lt e so some none =
      let rest = models_fault test (drop (k + 1) parts) (drop (k + 1) models) in
      sym (models_at k m same lt e ∙ ap (λ b. or_else (if b then None else lines_fault (test (get_or parts k 0)) m.items) rest) (some_at k some) ∙ ap (λ o. or_else o rest) none) ∙ so

  pub models_stop : (k : ℕ) (m : Design) (error : FlattenError) → length parts ≡ length models → k < length models → m ≡ get_or models k m → Here k → 0 < get_or parts k 0
      → Refuses (lines_fault (test (get_or parts k 0)) m.items) error → Refuses (models_fault test parts models) error
  models_stop k m error same lt e so some r =
      let rest = models_fault test (drop (k + 1) parts) (drop (k + 1) models) in
      refuse_map (lines_fault (test (get_or parts k 0)) m.items) (models_fault test parts models) error
      (λ f at. sym so ∙ models_at k m same lt e ∙ ap (λ b. or_else (if b then None else lines_fault (test (get_or parts k 0)) m.items) rest) (some_at k some) ∙ ap (λ o. or_else o rest) at)
      r

-- ---- binds

pub formals_at : (known bound : List (List ℕ)) (bs : List Bind) (k : ℕ) (b : Bind) → k < length bs → b ≡ get_or bs k b
    → formal_by known bound (drop k bs) ≡ (if is_free known bound b.formal then formal_by known (with_text bound b.formal) (drop (k + 1) bs) else Some b.formal)
formals_at known bound bs k b lt e = ap (formal_by known bound) (rest_at bs k b lt e)

-- ---- inputs

pub rest_get : {X : Type 0} (xs : List X) (i : ℕ) (x : X) → slice_get xs i ≡ Some x → drop i xs ≡ x ∷ drop (i + 1) xs
rest_get xs i x e = rest_at xs i x (slice_get_within xs i x e) (sym (get_or_from_slice_get xs i x x e))

pub missing_at : (bound inputs : List (List ℕ)) (k : ℕ) (t : List ℕ) → slice_get inputs k ≡ Some t
    → first_missing bytes_eq bound (drop k inputs) ≡ (if has bytes_eq bound t then first_missing bytes_eq bound (drop (k + 1) inputs) else Some t)
missing_at bound inputs k t e = ap (first_missing bytes_eq bound) (rest_get inputs k t e)

pub refuse_by : (o : Option ModelFault) (g : ModelFault) (e : FlattenError) → o ≡ Some g → IfSome (told e) (λ f. f ≡ g) → Refuses o e
refuse_by o g e is r = by (told e) r
  where
    by : (t : Option ModelFault) → IfSome t (λ f. f ≡ g) → IfSome t (λ f. o ≡ Some f)
    by None r = r
    by (Some f) r = is ∙ ap (λ (v : ModelFault). Some v) (sym r)
