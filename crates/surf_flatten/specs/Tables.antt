-- Tables of texts: sets, and places by text.
use Rattle.std.specs.Prelude.{ℕ, ◌≡◌, ◌<◌, List, [], ◌∷◌, ◌++◌, Option, Some, None, if◌then◌else◌}
use Rattle.std.specs.Str.{bytes_eq}
use Rattle.surf_rules.specs.Names.{with_text}
use Rattle.surf_flatten.specs.declared.places.Places.{Places}
use Rattle.surf_flatten.specs.Designs.{Design}
use Rattle.surf_flatten.specs.Reaching.{place_of}

abbrev pub with_texts : List (List ℕ) → List (List ℕ) → List (List ℕ)
with_texts names [] = names
with_texts names (t ∷ ts) = with_texts (with_text names t) ts

-- the place beside the first of the texts that is t
abbrev pub found_in : List (List ℕ) → List ℕ → List ℕ → Option ℕ
found_in [] ps t = None
found_in (n ∷ ns) [] t = None
found_in (n ∷ ns) (p ∷ ps) t = if bytes_eq n t then Some p else found_in ns ps t

abbrev pub place_in : Places → List ℕ → Option ℕ
place_in l t = found_in l.names l.places.items t

-- the texts and the places after one of a name, if there is one
abbrev pub names_after : List (List ℕ) → Option (List ℕ) → List (List ℕ)
names_after ns None = ns
names_after ns (Some n) = ns ++ n ∷ []

abbrev pub places_after : List ℕ → ℕ → Option (List ℕ) → List ℕ
places_after ps p None = ps
places_after ps p (Some n) = ps ++ p ∷ []

-- the table has the place of each model
pub record Finds (models : List Design) (library : Places) : Type 0 where
  pub is : (t : List ℕ) → place_in library t ≡ place_of models t

-- its places are among so many
pub record AreWithin (count : ℕ) (library : Places) : Type 0 where
  pub each : (t : List ℕ) (k : ℕ) → place_in library t ≡ Some k → k < count
