use Rattle.std.proofs.Common.{sym, subst, ap, ◌≡◌, true}
use Rattle.std.proofs.lemmas.Option.{slice_get_within}
use Rattle.surf_manifest_lines.specs.Said.{rule_of_sides}
use Rattle.surf_manifest_lines.specs.WellFormed.{is_rule}
use Rattle.surf_manifest.proofs.Growth.{at_kept, text_at}
use Rattle.surf_manifest_lines.proofs.WellFormed.{one_names, first_names, second_names}
use Rattle.surf_manifest.proofs.numbering.numbered_rule.Goals as goal

pub intern_two-requires-clause-names : goal.intern_two-requires-clause-names
intern_two-requires-clause-names c =
    let rate = c.args.line.now.rate in
    one_names rate c.in-One.a.now c.in-One.c.now (subst (λ s. is_rule (rule_of_sides rate s) ≡ true) c.in-One.is c.requires.names)

pub intern_two-requires-in-Two-clause-names : goal.intern_two-requires-in-Two-clause-names
intern_two-requires-in-Two-clause-names c =
    let rate = c.args.line.now.rate in
    first_names rate c.in-Two.a.now c.in-Two.b.now c.in-Two.c.now c.in-Two.d.now (subst (λ s. is_rule (rule_of_sides rate s) ≡ true) c.in-Two.is c.requires.names)

pub intern_two-requires-in-Two-2-clause-names : goal.intern_two-requires-in-Two-2-clause-names
intern_two-requires-in-Two-2-clause-names c =
    let rate = c.args.line.now.rate in
    second_names rate c.in-Two.a.now c.in-Two.b.now c.in-Two.c.now c.in-Two.d.now (subst (λ s. is_rule (rule_of_sides rate s) ≡ true) c.in-Two.is c.requires.names)

pub returns-in_ok-left-in-One-clause-below : goal.returns-in_ok-left-in-One-clause-below
returns-in_ok-left-in-One-clause-below c =
    let new = c.intern_two.new.names in
    let p = c.in_ok-left-in-One in
    record {
      left = slice_get_within new p.left c.in-One.a.now p.ensures.first;
      right = tt;
      left_after = slice_get_within new p.left_after c.in-One.c.now p.ensures.second;
      right_after = tt;
    }

pub returns-in_ok-left_after-in-Two-clause-rule : goal.returns-in_ok-left_after-in-Two-clause-rule
returns-in_ok-left_after-in-Two-clause-rule c =
    let mid = c.intern_two-in-Two.new.names in
    let new = c.intern_two-in-Two-2.new.names in
    let p = c.in_ok-left-in-Two in
    let q = c.in_ok-left_after-in-Two in
    rw (
      text_at new p.left c.in-Two.a.now (at_kept 2 mid new p.left c.in-Two.a.now q.ensures.grown p.ensures.first),
      text_at new p.right c.in-Two.b.now (at_kept 2 mid new p.right c.in-Two.b.now q.ensures.grown p.ensures.second),
      text_at new q.left_after c.in-Two.c.now q.ensures.first,
      text_at new q.right_after c.in-Two.d.now q.ensures.second,
    )
    (sym (ap (λ s. rule_of_sides c.args.line.now.rate s) c.in-Two.is))

pub returns-in_ok-left_after-in-Two-clause-below : goal.returns-in_ok-left_after-in-Two-clause-below
returns-in_ok-left_after-in-Two-clause-below c =
    let mid = c.intern_two-in-Two.new.names in
    let new = c.intern_two-in-Two-2.new.names in
    let p = c.in_ok-left-in-Two in
    let q = c.in_ok-left_after-in-Two in
    record {
      left = slice_get_within new p.left c.in-Two.a.now (at_kept 2 mid new p.left c.in-Two.a.now q.ensures.grown p.ensures.first);
      right = slice_get_within new p.right c.in-Two.b.now (at_kept 2 mid new p.right c.in-Two.b.now q.ensures.grown p.ensures.second);
      left_after = slice_get_within new q.left_after c.in-Two.c.now q.ensures.first;
      right_after = slice_get_within new q.right_after c.in-Two.d.now q.ensures.second;
    }
