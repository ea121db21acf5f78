use Rattle.std.proofs.Common.{rules, arith, ap, sym, ◌∙◌, slice_get, ◌≡◌, length, ◌++◌, [], ◌∷◌, false, ap}
use Rattle.std.specs.List.{list_any}
use Rattle.std.specs.Str.{bytes_eq}
use Rattle.surf_rules.specs.Names.{with_text}
use Rattle.surf_rules.proofs.TextLemmas.{found_text, known_with, pushed_text, pushed_with, pushed_distinct, pushed_length}
use Rattle.surf_rules.proofs.names.Names.intern.Goals as goal

pub returns-in-Some-clause-found : goal.returns-in-Some-clause-found
returns-in-Some-clause-found c =
    ap (λ v. slice_get v c.in-Some.place) (sym c.self.view_is) ∙ found_text c.self.inside.set.keys c.args.bytes.now c.in-Some.place (sym c.in-Some.ensures.index)

pub returns-in-Some-clause-grown : goal.returns-in-Some-clause-grown
returns-in-Some-clause-grown c =
    sym c.self.view_is ∙ known_with c.self.inside.set.keys c.args.bytes.now c.in-Some.place (sym c.in-Some.ensures.index) ∙ ap (λ v. with_text v c.args.bytes.now) c.self.view_is

pub invariant_of-self-2 : goal.invariant_of-self-2
invariant_of-self-2 c =
    let name = c.in_ok-name.name in
    let items : name.items ≡ c.args.bytes.now = search rules in
    let none : list_any (λ k. bytes_eq c.args.bytes.now k.items) c.self.inside.set.keys ≡ false = sym c.in_default.ensures.found in
    let is : c.add.new.set.keys ≡ c.self.inside.set.keys ++ name ∷ [] = search rules in (
      pushed_distinct c.self.inside.set.keys c.add.new.set.keys name c.args.bytes.now is items none c.self.invariant.0,
      omega (arith, pushed_length c.self.inside.set.keys c.add.new.set.keys name is, ap length c.self.view_is, c.requires.room),
    )

pub returns-clause-found : goal.returns-clause-found
returns-clause-found c =
    let name = c.in_ok-name.name in
    let items : name.items ≡ c.args.bytes.now = search rules in
    let len : c.len.result ≡ length c.add.new.set.keys = search rules in
    let is : c.add.new.set.keys ≡ c.self.inside.set.keys ++ name ∷ [] = search rules in
    pushed_text c.self.inside.set.keys c.add.new.set.keys name c.args.bytes.now c.len.result is items len

pub returns-clause-grown : goal.returns-clause-grown
returns-clause-grown c =
    let name = c.in_ok-name.name in
    let items : name.items ≡ c.args.bytes.now = search rules in
    let none : list_any (λ k. bytes_eq c.args.bytes.now k.items) c.self.inside.set.keys ≡ false = sym c.in_default.ensures.found in
    let is : c.add.new.set.keys ≡ c.self.inside.set.keys ++ name ∷ [] = search rules in
    pushed_with c.self.inside.set.keys c.add.new.set.keys name c.args.bytes.now is items none ∙ ap (λ v. with_text v c.args.bytes.now) c.self.view_is
