-- Names under a renaming.
use Rattle.std.specs.Prelude.{All, IfSome}
use Rattle.std.specs.Option.{option_map}
use Rattle.std.proofs.Common.{List, [], ◌∷◌, map, Option, Some, None}
use Rattle.std.proofs.lemmas.List.Elements.{All-map, All-weaker, All-nil, All-cons, All-head, All-tail}
use Rattle.surf_world.specs.Systems.{Rule, Surface}
use Rattle.surf_world.specs.Renamings.{renamed, renamed_rule}
use Rattle.surf_trace.specs.Observations.{RuleNamed, AllNamed}

all_unmap : {X Y : Type 0} (P : Y → Type 0) (f : X → Y) (xs : List X) → All P (map f xs) → All (λ x. P (f x)) xs
all_unmap P f [] all = All-nil (λ x. P (f x))
all_unmap P f (x ∷ xs) all = All-cons (λ y. P (f y)) x xs (All-head P (f x) (map f xs) all) (all_unmap P f xs (All-tail P (f x) (map f xs) all))

some_to : {M N : Type 0} (f : M → N) (P : N → Type 0) (o : Option M) → IfSome o (λ m. P (f m)) → IfSome (option_map f o) P
some_to f P None h = tt
some_to f P (Some m) h = h

some_from : {M N : Type 0} (f : M → N) (P : N → Type 0) (o : Option M) → IfSome (option_map f o) P → IfSome o (λ m. P (f m))
some_from f P None h = tt
some_from f P (Some m) h = h

module _ {M N : Type 0} (f : M → N) (P : N → Type 0) (S : Surface M) (c : List M) where
  rule_to : (r : Rule M) → RuleNamed (λ m. P (f m)) r → RuleNamed P (renamed_rule f r)
  rule_to r h = record { left = h.left; right = some_to f P r.right h.right; left_after = h.left_after; right_after = some_to f P r.right_after h.right_after }

  rule_from : (r : Rule M) → RuleNamed P (renamed_rule f r) → RuleNamed (λ m. P (f m)) r
  rule_from r h = record { left = h.left; right = some_from f P r.right h.right; left_after = h.left_after; right_after = some_from f P r.right_after h.right_after }

  pub named_to : AllNamed (λ m. P (f m)) S c → AllNamed P (renamed f S) (map f c)
  named_to h = record {
    in_rules = All-map (RuleNamed P) (renamed_rule f) S.rules (All-weaker (RuleNamed (λ m. P (f m))) (λ r. RuleNamed P (renamed_rule f r)) rule_to S.rules h.in_rules);
    in_names = All-map P f c h.in_names;
  }

  pub named_from : AllNamed P (renamed f S) (map f c) → AllNamed (λ m. P (f m)) S c
  named_from h = record {
    in_rules = All-weaker (λ r. RuleNamed P (renamed_rule f r)) (RuleNamed (λ m. P (f m))) rule_from S.rules (all_unmap (RuleNamed P) (renamed_rule f) S.rules h.in_rules);
    in_names = all_unmap P f c h.in_names;
  }
