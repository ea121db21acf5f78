use Rattle.std.proofs.Common.{◌∙◌, ap, subst, Bool, true, false, slice_index_or, ◌≡◌, ◌≢◌, ◌↔◌, ℕ, [], List}
use Rattle.surf_rules.specs.declared.rule.Rule.{Rule}
use Rattle.surf_rules.specs.Books.{pair_of}
use Rattle.surf_rules.proofs.Totals.{paired_is}
use Rattle.surf_rules.proofs.book.RuleBook.is_paired.Goals as goal

pub returns : goal.returns
returns c =
    subst (λ (rs : List Rule). (c.flag_at.result ≡ true) ↔ ((b : ℕ) × (pair_of rs c.args.a b ≢ []))) c.self.view_is
    (paired_is c.self.inside.listed c.args.a c.flag_at.result
    (c.flag_at.ensures ∙ ap (λ (v : List Bool). slice_index_or v c.args.a false) c.deref.ensures.value ∙ c.self.invariant.firsts c.args.a))
