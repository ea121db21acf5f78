-- One line of the reader, and the bounds of its counts.
use Rattle.std.proofs.Common.{ℕ, ◌≡◌, ◌+◌, ◌≤◌, List, [], ◌∷◌, length, codes, refl, ◌∙◌, ap, arith, Bool, true, false, ◌==◌, Option, Some, None, Result, Ok, Err, MatchResult, if◌then◌else◌, ⊎_elim}
use Rattle.std.specs.Str.{bytes_eq}
use Rattle.std.proofs.lemmas.Bool.{cases_Bool}
use Rattle.std.proofs.lemmas.Result.{MatchResult-weaker}
use Rattle.surf_manifest_lines.specs.declared.error.ManifestError.{ManifestError}
use Rattle.surf_manifest_lines.specs.declared.line.BlockKind.TheVariants.{Rules, State, Colormap}
use Rattle.surf_manifest_lines.specs.Answers.{Refuses}
use Rattle.surf_text.specs.Bytes.{is_blank, tokens_of, trimmed, without_front, without_end, unless_last}
use Rattle.surf_manifest.specs.Drafts.{HasRoom, HasRoomFor}
use Rattle.surf_manifest.specs.Grammar.{item_fault, line_fault, unless_fault}
use Rattle.surf_manifest_lines.specs.Item.{item_of}
use Rattle.surf_manifest.specs.Limits.{Held, Reached, parts_held, known_by, holding_result, item_step, counted, after_line, line_step}
use Rattle.surf_manifest_lines.specs.Line.{Line, Skipped, Opens, Closes, Includes, Unknown, Content, is_comment_sign, is_include, mark_of, line_of_text, line_of}
use Rattle.surf_manifest.proofs.RowLemmas.{refuses_by}
use Rattle.surf_manifest_lines.proofs.WellFormed.{front_shorter}

unless_ok : {A B : Type 0} (f : A → B) (o : Option ManifestError) (a b : A) → unless_fault o (Ok a) ≡ Ok b → unless_fault o (Ok (f a)) ≡ Ok (f b)
unless_ok f None a b h = let e : a ≡ b = cc in ap (λ v. Ok (f v)) e
unless_ok f (Some g) a b h = cc

unless_err : {A B : Type 0} (o : Option ManifestError) (a : A) (b : B) (g : ManifestError) → unless_fault o (Ok a) ≡ Err g → unless_fault o (Ok b) ≡ Err g
unless_err None a b g h = cc
unless_err (Some f) a b g h = cc

-- a content line
pub content_step : {A : Type 0} (s : Reached) (h : Held) (t : List ℕ) (r : Result A ManifestError)
    → MatchResult r (λ _. item_step s.number s.held (item_of s.number s.block t) ≡ Ok h) (λ f. Refuses (item_step s.number s.held (item_of s.number s.block t)) f)
    → MatchResult r (λ _. line_step s (Content t) ≡ Ok (counted (record s { held = h }))) (λ f. Refuses (line_step s (Content t)) f)
content_step s h t r is =
    let i = item_of s.number s.block t in
    let o = item_fault s.number (parts_held s.held) i in
    MatchResult-weaker r is
    (λ _ e. unless_ok (λ v. counted (record s { held = v })) o (holding_result s.held i) h e)
    (λ f e. refuses_by (item_step s.number s.held i) (line_step s (Content t)) f (λ g. unless_err o (holding_result s.held i) (counted (record s { held = holding_result s.held i })) g) e)

-- the number of the next line
line_more : (s : Reached) (l : Line) → (after_line s l).number ≡ s.number + 1
line_more s Skipped = refl
line_more s (Opens p) = refl
line_more s (Closes p) = refl
line_more s Includes = refl
line_more s Unknown = refl
line_more s (Content t) = refl

step_number : (o : Option ManifestError) (a b : Reached) → unless_fault o (Ok a) ≡ Ok b → b.number ≡ a.number
step_number None a b h = let e : b ≡ a = cc in ap (λ (v : Reached). v.number) e
step_number (Some f) a b h = cc

pub number_more : (s d : Reached) (l : Line) → line_step s l ≡ Ok d → d.number ≡ s.number + 1
number_more s d l h = step_number (line_fault (known_by s) l) (after_line s l) d h ∙ line_more s l

-- lengths
shorter_last : (p : ℕ → Bool) (d : ℕ) (ds : List ℕ) → length (unless_last p d ds) ≤ length ds + 1
shorter_last p d (e ∷ ds) = omega arith
shorter_last p d [] = ⊎_elim (λ z. rw z (omega arith)) (λ z. rw z (omega arith)) (cases_Bool (p d))

end_shorter : (p : ℕ → Bool) (ds : List ℕ) → length (without_end p ds) ≤ length ds
end_shorter p [] = omega arith
end_shorter p (d ∷ ds) = omega (arith, shorter_last p d (without_end p ds), end_shorter p ds)

pub trim_shorter : (t : List ℕ) → length (trimmed t) ≤ length t
trim_shorter t = omega (arith, end_shorter is_blank (without_front is_blank t), front_shorter is_blank t)

-- room for a line
marks_room : (h : Held) (a b c d e f g : Bool) → HasRoomFor h (if a then Opens Rules else (if b then Closes Rules else (if c then Opens State else (if d then Closes State else (if e then Opens Colormap else (if f then Closes Colormap else (if g then Includes else Unknown)))))))
marks_room h true b c d e f g = tt
marks_room h false true c d e f g = tt
marks_room h false false true d e f g = tt
marks_room h false false false true e f g = tt
marks_room h false false false false true f g = tt
marks_room h false false false false false true g = tt
marks_room h false false false false false false true = tt
marks_room h false false false false false false false = tt

mark_room : (h : Held) (t : List ℕ) → HasRoomFor h (mark_of t)
mark_room h t = marks_room h (bytes_eq t (codes "!START_TRANSITION_RULES")) (bytes_eq t (codes "!END_TRANSITION_RULES")) (bytes_eq t (codes "!START_INIT_STATE")) (bytes_eq t (codes "!END_INIT_STATE")) (bytes_eq t (codes "!START_COLORMAP")) (bytes_eq t (codes "!END_COLORMAP")) (is_include (tokens_of t))

content_room : (h : Held) (u v : Bool) (t : List ℕ) → HasRoom h (length t) → HasRoomFor h (if u then Skipped else (if v then mark_of t else Content t))
content_room h true v t r = tt
content_room h false true t r = mark_room h t
content_room h false false t r = r

text_room : (h : Held) (t : List ℕ) → HasRoom h (length t) → HasRoomFor h (line_of_text t)
text_room h [] r = tt
text_room h (b ∷ bs) r = content_room h (is_comment_sign b) (b == 33) (b ∷ bs) r

pub line_room : (h : Held) (line : List ℕ) → HasRoom h (length line) → HasRoomFor h (line_of line)
line_room h line r = text_room h (trimmed line) (record { rules = r.rules; rows = r.rows; sites = omega (arith, r.sites, trim_shorter line) })
