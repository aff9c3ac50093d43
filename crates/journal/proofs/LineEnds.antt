-- A call's line has one LF, and that is its last byte.
use Rattle.std.proofs.Common.{◌≡◌, ℕ, ◌+◌, ◌%◌, ◌^◌, ◌<◌, ◌≤◌, Bool, true, false, eqb, List, [], ◌∷◌, ◌++◌, length, take, drop, refl, sym, ap, ◌∙◌, append_assoc, length-append, arith}
use Rattle.std.specs.Prelude.{codes, ◌||◌}
use Rattle.std.specs.Fmt.{decimal}
use Rattle.std.proofs.lemmas.Fmt.{decimal_by_steps}
use Rattle.std.proofs.lemmas.List.{take-append-le, take-append-drop}
use Rattle.std.proofs.lemmas.List.Folds.{list_any-append}
use Rattle.std.proofs.Math.Seq.{take-append_seam}
use Rattle.text_lines.specs.Spelling.{spaced, ended}
use Rattle.saved_history.specs.declared.saved.SavedEvent.{SavedEvent}
use Rattle.saved_history.specs.declared.saved.SavedEvent.TheVariants.{Granted, Refused, Member, Corrupted}
use Rattle.saved_history.specs.declared.saved.SavedSurvey.{SavedSurvey}
use Rattle.saved_history.specs.Spelling.{event_line, survey_line, EventFits, SurveyFits}
use Rattle.journal.specs.declared.calls.Call.{Call}
use Rattle.journal.specs.declared.calls.Call.TheVariants.{Event, Survey}
use Rattle.journal.specs.declared.calls.JournalLine.{JournalLine}
use Rattle.journal.specs.Spelling.{call_line, journal_line, CallFits, JournalLineFits}
use Rattle.journal.specs.Recovery.{has_line_end}
use Rattle.journal.proofs.Orders.{other}

abbrev NoEnd : List ℕ → Type 0
NoEnd xs = has_line_end xs ≡ false

neither : (a b : Bool) → a ≡ false → b ≡ false → (a || b) ≡ false
neither a b e f = rw (e, f) refl

first_of : (a b : Bool) → (a || b) ≡ false → a ≡ false
first_of true b e = e
first_of false b e = refl

no_end_append : (xs ys : List ℕ) → NoEnd xs → NoEnd ys → NoEnd (xs ++ ys)
no_end_append xs ys e f = list_any-append (λ b. eqb b 10) xs ys ∙ neither (has_line_end xs) (has_line_end ys) e f

no_end_front : (xs ys : List ℕ) → NoEnd (xs ++ ys) → NoEnd xs
no_end_front xs ys e = first_of (has_line_end xs) (has_line_end ys) (sym (list_any-append (λ b. eqb b 10) xs ys) ∙ e)

no_end_digit : (n : ℕ) → NoEnd ((48 + n) ∷ [])
no_end_digit n = neither (eqb (48 + n) 10) false (other (48 + n) 10 (omega arith)) refl

no_end_decimal : (n : ℕ) → n < 2 ^ 64 → NoEnd (decimal n)
no_end_decimal n small = decimal_by_steps (λ m ds. NoEnd ds) (λ m lt. no_end_digit m) (λ m ds ge k. no_end_append ds ((48 + m % 10) ∷ []) k (no_end_digit (m % 10))) n small

no_end_spaced : (n : ℕ) → n < 2 ^ 64 → NoEnd (spaced n)
no_end_spaced n small = no_end_append (decimal n) (32 ∷ []) (no_end_decimal n small) refl

-- an LF is after bytes that have none
pub record EndsOnce (line : List ℕ) : Type 0 where
  pub body : List ℕ
  pub whole : line ≡ body ++ 10 ∷ []
  pub none : has_line_end body ≡ false

behind : (front line : List ℕ) → NoEnd front → EndsOnce line → EndsOnce (front ++ line)
behind front line e l = record {
  body = front ++ l.body;
  whole = ap (λ (u : List ℕ). front ++ u) l.whole ∙ sym (append_assoc front l.body (10 ∷ []));
  none = no_end_append front l.body e l.none;
}

number_then : (n : ℕ) (line : List ℕ) → n < 2 ^ 64 → EndsOnce line → EndsOnce (spaced n ++ line)
number_then n line small l = behind (spaced n) line (no_end_spaced n small) l

last : (n : ℕ) → n < 2 ^ 64 → EndsOnce (ended n)
last n small = record { body = decimal n; whole = refl; none = no_end_decimal n small }

wide : (n : ℕ) → n < 2 ^ 32 → n < 2 ^ 64
wide n lt = omega (arith, lt)

event_ends : (version : ℕ) (e : SavedEvent) → EventFits version e → EndsOnce (event_line e)
event_ends version (Granted s m o n r) f = behind (codes "p ") _ refl (number_then s _ (wide s f.0) (number_then m _ (wide m f.1) (number_then o _ f.2 (behind (codes "g ") _ refl (number_then n _ f.3 (last r f.4))))))
event_ends version (Refused s m o) f = behind (codes "p ") _ refl (number_then s _ (wide s f.0) (number_then m _ (wide m f.1) (number_then o (codes "n\n") f.2 (record { body = 110 ∷ []; whole = refl; none = refl }))))
event_ends version (Member s m o l n r) f = behind (codes "m ") _ refl (number_then s _ (wide s f.1) (number_then m _ (wide m f.2) (number_then o _ f.3 (number_then l _ (wide l f.4) (number_then n _ f.5 (last r f.6))))))
event_ends version (Corrupted s m v o) f = behind (codes "c ") _ refl (number_then s _ (wide s f.0) (number_then m _ (wide m f.1) (number_then v _ (wide v f.2) (last o (wide o f.3)))))

survey_ends : (v : SavedSurvey) → SurveyFits v → EndsOnce (survey_line v)
survey_ends v f = behind (codes "s ") _ refl (number_then v.seat _ (wide v.seat f.seat) (number_then v.position _ f.position (number_then v.privileged _ (wide v.privileged f.privileged) (number_then v.first _ (wide v.first f.first) (number_then v.calm _ f.calm (last v.rest f.rest))))))

call_ends : (version : ℕ) (call : Call) → CallFits version call → EndsOnce (call_line call)
call_ends version (Event e) f = event_ends version e f
call_ends version (Survey v) f = survey_ends v f

line_ends : (version rings : ℕ) (r : JournalLine) → JournalLineFits version rings r → EndsOnce (journal_line r)
line_ends version rings r f = number_then r.ring (call_line r.call) (wide r.ring f.small) (call_ends version r.call f.call)

-- a prefix of such a line that lacks a byte has no LF
pub cut_line : (version rings : ℕ) (r : JournalLine) (tail : List ℕ) (more others : List ℕ) → JournalLineFits version rings r → tail ++ more ≡ journal_line r ++ others → length tail < length (journal_line r) → has_line_end tail ≡ false
cut_line version rings r tail more others f e short =
    let l = line_ends version rings r f in
    let long : length (journal_line r) ≡ length l.body + 1 = ap length l.whole ∙ length-append l.body (10 ∷ []) in
    let n = length tail in
    let within : length tail ≤ length l.body = omega (arith, short, long) in
    let inside : length tail ≤ length (journal_line r) = omega (arith, short) in
    let front : tail ≡ take (length tail) l.body =
    sym (take-append_seam tail more)
    ∙ ap (take (length tail)) e
    ∙ take-append-le (length tail) (journal_line r) others inside
    ∙ ap (take (length tail)) l.whole
    ∙ take-append-le (length tail) l.body (10 ∷ []) within in
    let none : has_line_end (take (length tail) l.body) ≡ false = no_end_front (take (length tail) l.body) (drop (length tail) l.body) (ap has_line_end (take-append-drop (length tail) l.body) ∙ l.none) in
    ap has_line_end front ∙ none
