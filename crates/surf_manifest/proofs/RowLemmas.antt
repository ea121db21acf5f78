-- Rows of names, token by token.
use Rattle.std.proofs.Common.{ℕ, ◌≡◌, ◌+◌, ◌-◌, ◌≤◌, List, [], ◌∷◌, length, map, refl, sym, ◌∙◌, arith, true, false, ◌&&◌, Some, None, Result, Ok, Err, append-nil}
use Rattle.std.specs.List.{list_all}
use Rattle.std.proofs.lemmas.List.{length-map, take_all}
use Rattle.surf_rules.specs.Names.{text_of}
use Rattle.surf_manifest.specs.declared.draft.Draft.{Draft}
use Rattle.surf_manifest_lines.specs.declared.error.ManifestError.{ManifestError}
use Rattle.surf_manifest_lines.specs.declared.error.ManifestError.TheVariants.{BadLine, BadRule, BadRate, Ragged, Include, BlockTwice, BadOption, Unclosed, MissingBlock, NoSites, TooManyRules, TooManySites, WrapSize, NoMemory}
use Rattle.surf_manifest_lines.specs.Answers.{Refuses}
use Rattle.surf_manifest.specs.Drafts.{held_by, IsDraft}
use Rattle.surf_manifest.specs.Grammar.{row_fault}
use Rattle.surf_manifest_lines.specs.Item.{Item, is_name, row_of}
use Rattle.surf_manifest.proofs.LimitLemmas.{take_nil}
use Rattle.surf_manifest.specs.Limits.{Held, with_names, with_row, parts_held, item_step}

-- a refusal that goes on
pub refuses_by : {M N : Type 0} (r : Result M ManifestError) (q : Result N ManifestError) (f : ManifestError)
    → ((g : ManifestError) → r ≡ Err g → q ≡ Err g) → Refuses r f → Refuses q f
refuses_by r q (BadLine n) go h = go (BadLine n) h
refuses_by r q (BadRule n) go h = go (BadRule n) h
refuses_by r q (BadRate n) go h = go (BadRate n) h
refuses_by r q (Ragged n) go h = go (Ragged n) h
refuses_by r q (Include n) go h = go (Include n) h
refuses_by r q (BlockTwice n) go h = go (BlockTwice n) h
refuses_by r q (BadOption n) go h = go (BadOption n) h
refuses_by r q (Unclosed n) go h = go (Unclosed n) h
refuses_by r q (MissingBlock b) go h = go (MissingBlock b) h
refuses_by r q NoSites go h = go NoSites h
refuses_by r q (TooManyRules n) go h = go (TooManyRules n) h
refuses_by r q (TooManySites n) go h = go (TooManySites n) h
refuses_by r q WrapSize go h = go WrapSize h
refuses_by r q NoMemory go h = tt

pub no_names : (d : Draft) → IsDraft d → with_names (held_by d) [] ≡ held_by d
no_names d h =
    let t = map (text_of d.names) d.start.items in
    let few : length t ≤ 33554432 = omega (arith, length-map d.start.items (text_of d.names), h.few_sites) in
    let zero_more : d.site_count + 0 ≡ d.site_count = omega arith in
    rw (append-nil (map (text_of d.names) d.start.items), take_all 33554432 (map (text_of d.names) d.start.items) few, zero_more, take_nil {X = List ℕ} (33554432 - length t) [] refl) refl

pub bad_row : (n : ℕ) (all : List (List ℕ)) (t : List ℕ) (ts : List (List ℕ)) → (is_name t && list_all is_name ts) ≡ list_all is_name all → is_name t ≡ false → row_of n all ≡ Err (BadLine n)
bad_row n all t ts same bad =
    let e : list_all is_name all ≡ false = sym same ∙ (rw bad refl) in
    rw e refl

pub row_step : (n : ℕ) (old mid new : Held) (ts : List (List ℕ)) → list_all is_name ts ≡ true → mid ≡ with_names old ts → new ≡ with_row mid (length ts)
    → row_fault n (parts_held old) ts ≡ None → item_step n old (row_of n ts) ≡ Ok new
row_step n old mid new ts names is ends none = rw (names, none, ends, is) refl

pub row_ragged : (n : ℕ) (old : Held) (ts : List (List ℕ)) (f : ManifestError) → list_all is_name ts ≡ true → row_fault n (parts_held old) ts ≡ Some f → item_step n old (row_of n ts) ≡ Err f
row_ragged n old ts f names some = rw (names, some) refl

row_err : (n : ℕ) (old : Held) (r : Result Item ManifestError) (g : ManifestError) → r ≡ Err g → item_step n old r ≡ Err g
row_err n old r g e = rw e refl

pub row_refused : (n : ℕ) (old : Held) (ts : List (List ℕ)) (f : ManifestError) → Refuses (row_of n ts) f → Refuses (item_step n old (row_of n ts)) f
row_refused n old ts f h = refuses_by (row_of n ts) (item_step n old (row_of n ts)) f (row_err n old (row_of n ts)) h

pub row_goes_on : (t : List ℕ) (ts : List (List ℕ)) → is_name t ≡ true → list_all is_name (t ∷ ts) ≡ list_all is_name ts
row_goes_on t ts e = rw e refl
