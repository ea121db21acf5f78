use Rattle.std.proofs.Common.{◌≡◌, ◌-◌, [], ◌∷◌, ◌++◌, length, map, arith, rules, sym, ◌∙◌, ap, append_assoc}
use Rattle.surf_text.specs.Bytes.{tokens_of}
use Rattle.surf_rules.specs.Names.{text_of}
use Rattle.surf_blif.specs.Drafts.{IsGrown}
use Rattle.surf_blif.proofs.Growth.{grown_by, grown_then, names_kept, text_at, names_below, put_below}
use Rattle.surf_blif.proofs.Lists.{map_put}
use Rattle.surf_blif.proofs.numbering.numbers_of.Goals as goal

pub loop-token-preserved : goal.loop-token-preserved
loop-token-preserved c =
    let i = c.loop-token.invariant in
    let a = c.loop-token.names in
    let b = c.intern.new.self in
    let ks = c.loop-token.numbers.items in
    let k = c.in_ok-number.number in
    let t = c.in-Some.token.now in
    let ts = tokens_of c.in-Some.after.now in
    let more : tokens_of c.loop-token.rest.now ≡ t ∷ ts = c.in-Some.ensures.some in
    let pushed : c.push.new.self.items ≡ ks ++ k ∷ [] = search rules in
    let one : IsGrown 1 a b = grown_by a b t c.in_ok-number.ensures.grown in
    let kept : map (text_of b) ks ≡ map (text_of a) ks = names_kept 1 a b ks one i.below in
    let at : text_of b k ≡ t = text_at b k t c.in_ok-number.ensures.found in
    record {
      tokens = rw (pushed, map_put (text_of b) ks k, kept, at) (append_assoc (map (text_of a) ks) (t ∷ []) ts ∙ (ap (λ v. map (text_of a) ks ++ v) (sym more) ∙ i.tokens));
      below = rw pushed (put_below (length b) ks k (names_below (length a) (length b) ks one.longer i.below) c.in_ok-number.ensures.within);
      within = omega (arith, i.within, c.in-Some.ensures.shorter);
      grown = grown_then (length c.args.line.now - length c.loop-token.rest.now) 1 (length c.args.line.now - length c.in-Some.after.now) c.args.names.now a b (omega (arith, i.within, c.in-Some.ensures.shorter)) i.grown one;
    }
