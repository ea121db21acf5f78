-- The text of a trace is read as its events.
use Rattle.std.proofs.Common.{ℕ, suc, ◌≡◌, ◌+◌, ◌^◌, ◌<◌, List, [], ◌∷◌, ◌++◌, length, refl, sym, ◌∙◌, ap, arith, true, false, Option, Some, None, Ok, append_assoc, append-nil, All, IfSome, length-append}
use Rattle.std.specs.Prelude.{codes, if◌then◌else◌}
use Rattle.std.specs.List.{list_all}
use Rattle.std.specs.Fmt.{decimal}
use Rattle.std.specs.Str.{bytes_eq}
use Rattle.std.proofs.lemmas.Bool.{eq-eqb}
use Rattle.surf_base.specs.Decimal.{decimal_of, decimal_below}
use Rattle.surf_lattice.specs.declared.site.Site.{Site}
use Rattle.surf_lattice.specs.Grids.{site_from}
use Rattle.surf_world.specs.declared.event.Event.{Event}
use Rattle.surf_text.specs.Bytes.{lines_of, tokens_of, trimmed, spaced, is_word}
use Rattle.surf_trace.specs.Traces.{event_text, events_text, trace_text}
use Rattle.surf_trace.specs.TraceTexts.{site_of, second_of, is_number, event_from, event_of, is_skipped, block_of, trace_of, IsShortSite, IsShort}
use Rattle.surf_trace.proofs.Words.{both, line_first, spaced_trimmed, spaced_line, spaced_tokens}
use Rattle.surf_trace.proofs.Decimals.{decimal_word, decimal_read, short_read, decimal_kept, decimal_no_mark}

abbrev second_words : Option Site → List (List ℕ)
second_words None = []
second_words (Some q) = decimal q.x ∷ decimal q.y ∷ []

-- the words of the n-th event
abbrev words_of : ℕ → Event → List (List ℕ)
words_of n e = decimal n ∷ decimal e.rule ∷ decimal e.first.x ∷ decimal e.first.y ∷ second_words e.second

four : (a b c d rest : List ℕ) → ((a ++ 32 ∷ b ++ (32 ∷ c ++ 32 ∷ d) ++ [] ++ 10 ∷ []) ++ rest) ≡ (a ++ 32 ∷ (b ++ 32 ∷ (c ++ 32 ∷ d))) ++ 10 ∷ rest
four a b c d rest = simp (append_assoc, append-nil) (ap (λ t. a ++ 32 ∷ t) (append_assoc b (32 ∷ (c ++ 32 ∷ d)) (10 ∷ rest) ∙ ap (λ t. b ++ 32 ∷ t) (append_assoc c (32 ∷ d) (10 ∷ rest))))

six : (a b c d f g rest : List ℕ) → ((a ++ 32 ∷ b ++ (32 ∷ c ++ 32 ∷ d) ++ (32 ∷ f ++ 32 ∷ g) ++ 10 ∷ []) ++ rest) ≡ (a ++ 32 ∷ (b ++ 32 ∷ (c ++ 32 ∷ (d ++ 32 ∷ (f ++ 32 ∷ g))))) ++ 10 ∷ rest
six a b c d f g rest = simp append_assoc (ap (λ t. a ++ 32 ∷ t) (
    append_assoc b (32 ∷ (c ++ 32 ∷ (d ++ 32 ∷ (f ++ 32 ∷ g)))) (10 ∷ rest)
    ∙ ap (λ t. b ++ 32 ∷ t) (append_assoc c (32 ∷ (d ++ 32 ∷ (f ++ 32 ∷ g))) (10 ∷ rest)
    ∙ ap (λ t. c ++ 32 ∷ t) (append_assoc d (32 ∷ (f ++ 32 ∷ g)) (10 ∷ rest) ∙ ap (λ t. d ++ 32 ∷ t) (append_assoc f (32 ∷ g) (10 ∷ rest))))))

abbrev event : ℕ → Site → Option Site → Event
event r p q = record { rule = r; first = p; second = q }

text_words : (n r : ℕ) (p : Site) (q : Option Site) (rest : List ℕ) → event_text n (event r p q) ++ rest ≡ spaced (words_of n (event r p q)) ++ 10 ∷ rest
text_words n r p None rest = four (decimal n) (decimal r) (decimal p.x) (decimal p.y) rest
text_words n r p (Some q) rest = six (decimal n) (decimal r) (decimal p.x) (decimal p.y) (decimal q.x) (decimal q.y) rest

short_word : (n : ℕ) → n < 2 ^ 32 → is_word (decimal n) ≡ true
short_word n lt = decimal_word n (omega (arith, lt))

second_are_words : (q : Option Site) → IfSome q IsShortSite → list_all is_word (second_words q) ≡ true
second_are_words None s = refl
second_are_words (Some q) s = both _ _ (short_word q.x s.0) (both _ _ (short_word q.y s.1) refl)

are_words : (n : ℕ) (e : Event) → n < 2 ^ 64 → IsShort e → list_all is_word (words_of n e) ≡ true
are_words n e lt s =
    both _ _ (decimal_word n lt) (both _ _ (short_word e.rule s.0) (both _ _ (short_word e.first.x s.1.0) (both _ _ (short_word e.first.y s.1.1) (second_are_words e.second s.2))))

site_back : (p : Site) → IsShortSite p → site_of (decimal p.x) (decimal p.y) ≡ Some p
site_back p s = ap (λ o. site_from o (decimal_below (2 ^ 32) (decimal p.y))) (short_read p.x s.0) ∙ ap (λ o. site_from (Some p.x) o) (short_read p.y s.1)

second_back : (q : Option Site) → IfSome q IsShortSite → second_of (second_words q) ≡ Some q
second_back None s = refl
second_back (Some q) s = rw (site_back q s) refl

from_parts : (n : ℕ) (e : Event) (k r : Option ℕ) (p : Option Site) (q : Option (Option Site)) → k ≡ Some n → r ≡ Some e.rule → p ≡ Some e.first → q ≡ Some e.second → (if is_number n k then event_from r p q else None) ≡ Some e
from_parts n e k r p q hk hr hp hq = rw (hk, hr, hp, hq, eq-eqb n n refl) refl

event_back : (n : ℕ) (e : Event) → n < 2 ^ 64 → IsShort e → event_of n (words_of n e) ≡ Some e
event_back n e lt s =
    from_parts n e (decimal_of (decimal n)) (decimal_below (2 ^ 32) (decimal e.rule)) (site_of (decimal e.first.x) (decimal e.first.y)) (second_of (second_words e.second))
    (decimal_read n lt) (short_read e.rule s.0) (site_back e.first s.1) (second_back e.second s.2)

one_line : (line : ℕ) (es : List Event) (l : List ℕ) (ls : List (List ℕ)) (e : Event) → trimmed l ≡ l → bytes_eq l (codes "!END_TRACE") ≡ false → is_skipped l ≡ false → event_of (length es + 1) (tokens_of l) ≡ Some e → block_of 1 line es (l ∷ ls) ≡ block_of 1 (line + 1) (es ++ e ∷ []) ls
one_line line es l ls e t m k is = rw (t, m, k, is) refl

block_back : (line : ℕ) (done es : List Event) (rest : List ℕ) → length done + length es < 2 ^ 64 → All IsShort es → block_of 1 line done (lines_of (events_text (length done) es ++ codes "!END_TRACE\n" ++ rest)) ≡ Ok (done ++ es)
block_back line done [] rest few all = ap Ok (sym (append-nil done))
block_back line done (e ∷ es) rest few all =
    let n = length done + 1 in
    let lt : n < 2 ^ 64 = omega (arith, few) in
    let short : IsShort e = all 0 e (omega arith) in
    let words : list_all is_word (words_of n e) ≡ true = are_words n e lt short in
    let more = events_text n es ++ codes "!END_TRACE\n" ++ rest in
    let regroup : event_text n e ++ events_text n es ++ codes "!END_TRACE\n" ++ rest ≡ event_text n e ++ more = ap (λ t. t ++ rest) (append_assoc (event_text n e) (events_text n es) (codes "!END_TRACE\n")) ∙ append_assoc (event_text n e) (events_text n es ++ codes "!END_TRACE\n") rest in
    let text : lines_of (event_text n e ++ more) ≡ spaced (words_of n e) ∷ lines_of more = ap lines_of (text_words n e.rule e.first e.second more) ∙ line_first (spaced (words_of n e)) more (spaced_line (words_of n e) words) in
    let next : length (done ++ e ∷ []) ≡ n = length-append done (e ∷ []) in
    ap (λ t. block_of 1 line done (lines_of t)) regroup
    ∙ ap (λ ls. block_of 1 line done ls) text
    ∙ one_line line done (spaced (words_of n e)) (lines_of more) e
    (spaced_trimmed (decimal n) (decimal e.rule ∷ decimal e.first.x ∷ decimal e.first.y ∷ second_words e.second) words)
    (decimal_no_mark n _ _ lt)
    (decimal_kept n _ lt)
    (ap (event_of n) (spaced_tokens (words_of n e) words) ∙ event_back n e lt short)
    ∙ ap (λ k. block_of 1 (line + 1) (done ++ e ∷ []) (lines_of (events_text k es ++ codes "!END_TRACE\n" ++ rest))) (sym next)
    ∙ block_back (line + 1) (done ++ e ∷ []) es rest (omega (arith, few, next)) (λ k d less. all (suc k) d (omega (arith, less)))
    ∙ ap Ok (append_assoc done (e ∷ []) es)

pub trace_back : (es : List Event) (rest : List ℕ) → length es < 2 ^ 64 → All IsShort es → trace_of (trace_text es ++ rest) ≡ Ok es
trace_back es rest few all = block_back 1 [] es rest (omega (arith, few)) all
