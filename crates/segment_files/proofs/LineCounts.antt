-- How many lines end in a text, and that the last of them ends it.
use Rattle.std.proofs.Common.{◌≡◌, ℕ, ◌+◌, ◌-◌, ◌%◌, ◌^◌, ◌<◌, ◌≤◌, Bool, true, false, cond, eqb, List, [], ◌∷◌, ◌++◌, length, take, drop, get_or, refl, sym, ap, subst, ◌∙◌, append_assoc, length-append, arith}
use Rattle.std.specs.Prelude.{codes, ◌||◌}
use Rattle.std.specs.List.{flat_map, AllByRecursion, count_by}
use Rattle.std.specs.Fmt.{decimal}
use Rattle.std.proofs.lemmas.Bool.{ne_eqb}
use Rattle.std.proofs.lemmas.Fmt.{decimal_by_steps}
use Rattle.std.proofs.lemmas.List.{append-nil, take_more, take_all, drop-append-le, drop_at}
use Rattle.std.proofs.lemmas.List.Folds.{list_any-append}
use Rattle.std.proofs.lemmas.List.Recursion.{is_count_by}
use Rattle.text_lines.specs.Spelling.{spaced, ended, row}
use Rattle.saved_history.specs.declared.saved.SavedEvent.{SavedEvent}
use Rattle.saved_history.specs.declared.saved.SavedEvent.TheVariants.{Granted, Refused, Member, Corrupted}
use Rattle.saved_history.specs.declared.saved.SavedSurvey.{SavedSurvey}
use Rattle.saved_history.specs.Content.{Block, Content}
use Rattle.saved_history.specs.Spelling.{first_line, head_line, head_of, start_line, event_line, end_line, survey_line, done_line, below_head, block_text, text, EventFits, SurveyFits, BlockFits, Fits}
use Rattle.ring_check.specs.Lines.{block_lines, lines}
use Rattle.ring_check.proofs.Blocks.{block_long}
use Rattle.ring_check.proofs.BlockLines.{lines_long}
use Rattle.journal.specs.declared.calls.Call.{Call}
use Rattle.journal.specs.declared.calls.Call.TheVariants.{Event, Survey}
use Rattle.journal.specs.declared.calls.JournalLine.{JournalLine}
use Rattle.journal.specs.Spelling.{Journal, JournalFits, CallFits, JournalLineFits, call_line, journal_line, journal_head, journal_text}
use Rattle.journal.specs.Recovery.{has_line_end}
use Rattle.segment_files.specs.Remarks.{IsEnded}

-- how many lines end in the bytes
abbrev pub ends : List ℕ → ℕ
ends [] = 0
ends (b ∷ bs) = cond {A = ℕ} (eqb b 10) (1 + ends bs) (ends bs)

pub ends_are : (bs : List ℕ) → ends bs ≡ count_by (λ b. eqb b 10) bs
ends_are bs = is_count_by ends (λ b. eqb b 10) refl (λ x xs. refl) bs

one_more : (v : Bool) (m n k : ℕ) → m ≡ n + k → cond {A = ℕ} v (1 + m) m ≡ cond {A = ℕ} v (1 + n) n + k
one_more true m n k e = omega (arith, e)
one_more false m n k e = e

pub ends-append : (xs ys : List ℕ) → ends (xs ++ ys) ≡ ends xs + ends ys
ends-append [] ys = omega arith
ends-append (x ∷ xs) ys = one_more (eqb x 10) (ends (xs ++ ys)) (ends xs) (ends ys) (ends-append xs ys)

none_more : (v : Bool) (b : Bool) (n : ℕ) → (v || b) ≡ false → (b ≡ false → n ≡ 0) → cond {A = ℕ} v (1 + n) n ≡ 0
none_more true b n e f = absurd cc
none_more false b n e f = f e

-- bytes in which no line ends
pub ends_none : (xs : List ℕ) → has_line_end xs ≡ false → ends xs ≡ 0
ends_none [] e = refl
ends_none (x ∷ xs) e = none_more (eqb x 10) (has_line_end xs) (ends xs) e (ends_none xs)

digit_none : (n : ℕ) → ends ((48 + n) ∷ []) ≡ 0
digit_none n = ap (λ (v : Bool). cond {A = ℕ} v 1 0) (ne_eqb (48 + n) 10 (λ e. omega (arith, e)))

decimal_none : (n : ℕ) → n < 2 ^ 64 → ends (decimal n) ≡ 0
decimal_none n small = decimal_by_steps (λ m ds. ends ds ≡ 0) (λ m lt. digit_none m) (λ m ds ge k. ends-append ds ((48 + m % 10) ∷ []) ∙ (let d = digit_none (m % 10) in omega (arith, k, d))) n small

spaced_none : (n : ℕ) → n < 2 ^ 64 → ends (spaced n) ≡ 0
spaced_none n small = ends-append (decimal n) (32 ∷ []) ∙ (let d = decimal_none n small in omega (arith, d))

-- ---- lines

-- a line ends after bytes in which none does
record IsLine (xs : List ℕ) : Type 0 where
  body : List ℕ
  whole : xs ≡ body ++ 10 ∷ []
  none : ends body ≡ 0

line_ends : (xs : List ℕ) → IsLine xs → ends xs ≡ 1
line_ends xs l = ap ends l.whole ∙ ends-append l.body (10 ∷ []) ∙ (let n = l.none in omega (arith, n))

after : (front xs : List ℕ) → ends front ≡ 0 → IsLine xs → IsLine (front ++ xs)
after front xs e l = record {
  body = front ++ l.body;
  whole = ap (λ (u : List ℕ). front ++ u) l.whole ∙ sym (append_assoc front l.body (10 ∷ []));
  none = ends-append front l.body ∙ (let n = l.none in omega (arith, n, e));
}

number_then : (n : ℕ) (xs : List ℕ) → n < 2 ^ 64 → IsLine xs → IsLine (spaced n ++ xs)
number_then n xs small l = after (spaced n) xs (spaced_none n small) l

last : (n : ℕ) → n < 2 ^ 64 → IsLine (ended n)
last n small = record { body = decimal n; whole = refl; none = decimal_none n small }

wide : (n : ℕ) → n < 2 ^ 32 → n < 2 ^ 64
wide n lt = omega (arith, lt)

event_is : (version : ℕ) (e : SavedEvent) → EventFits version e → IsLine (event_line e)
event_is version (Granted s m o n r) f = after (codes "p ") _ refl (number_then s _ (wide s f.0) (number_then m _ (wide m f.1) (number_then o _ f.2 (after (codes "g ") _ refl (number_then n _ f.3 (last r f.4))))))
event_is version (Refused s m o) f = after (codes "p ") _ refl (number_then s _ (wide s f.0) (number_then m _ (wide m f.1) (number_then o (codes "n\n") f.2 (record { body = 110 ∷ []; whole = refl; none = refl }))))
event_is version (Member s m o l n r) f = after (codes "m ") _ refl (number_then s _ (wide s f.1) (number_then m _ (wide m f.2) (number_then o _ f.3 (number_then l _ (wide l f.4) (number_then n _ f.5 (last r f.6))))))
event_is version (Corrupted s m v o) f = after (codes "c ") _ refl (number_then s _ (wide s f.0) (number_then m _ (wide m f.1) (number_then v _ (wide v f.2) (last o (wide o f.3)))))

survey_is : (v : SavedSurvey) → SurveyFits v → IsLine (survey_line v)
survey_is v f = after (codes "s ") _ refl (number_then v.seat _ (wide v.seat f.seat) (number_then v.position _ f.position (number_then v.privileged _ (wide v.privileged f.privileged) (number_then v.first _ (wide v.first f.first) (number_then v.calm _ f.calm (last v.rest f.rest))))))

call_is : (version rings : ℕ) (r : JournalLine) → JournalLineFits version rings r → IsLine (journal_line r)
call_is version rings r f = number_then r.ring (call_line r.call) (wide r.ring f.small) (go r.call f.call)
  where
    go : (call : Call) → CallFits version call → IsLine (call_line call)
    go (Event e) g = event_is version e g
    go (Survey v) g = survey_is v g

row_is : (xs : List ℕ) → 0 < length xs → AllByRecursion (λ x. x < 2 ^ 32) xs → IsLine (row xs)
row_is [] some f = absurd (omega (arith, some))
row_is (x ∷ []) some f = last x (wide x f.0)
row_is (x ∷ y ∷ xs) some f = number_then x (row (y ∷ xs)) (wide x f.0) (row_is (y ∷ xs) (omega arith) f.1)

-- as many lines as items
many_end : {A : Type 0} (F : A → Type 0) (line : A → List ℕ) → ((a : A) → F a → IsLine (line a)) → (xs : List A) → AllByRecursion F xs → ends (flat_map line xs) ≡ length xs
many_end F line is [] f = refl
many_end F line is (x ∷ xs) f =
    let one = line_ends (line x) (is x f.0) in
    let more = many_end F line is xs f.1 in
    ends-append (line x) (flat_map line xs) ∙ omega (arith, one, more)

-- ---- blocks and texts

block_ends : (version : ℕ) (b : Block) → BlockFits version b → ends (block_text b) ≡ length (block_lines b)
block_ends version b f =
    let h = f.head in
    let head : IsLine (head_line (head_of b)) = after (codes "ring ") _ refl (number_then b.index _ (wide b.index h.index) (number_then b.n _ (wide b.n h.n) (last b.k (wide b.k h.k)))) in
    let start : IsLine (start_line b.start) = after (codes "start ") _ refl (row_is b.start (let n = f.start in let some = h.some in omega (arith, n, some)) f.values) in
    let end : IsLine (end_line b.events_said) = after (codes "end ") _ refl (last b.events_said f.events_said) in
    let one = line_ends _ head in
    let two = line_ends _ start in
    let three = line_ends _ end in
    let events = many_end (EventFits version) event_line (event_is version) b.events f.events in
    let surveys = many_end SurveyFits survey_line survey_is b.surveys f.surveys in
    let a = ends-append (head_line (head_of b)) (below_head b) in
    let c = ends-append (start_line b.start) ((flat_map event_line b.events ++ end_line b.events_said) ++ flat_map survey_line b.surveys) in
    let d = ends-append (flat_map event_line b.events ++ end_line b.events_said) (flat_map survey_line b.surveys) in
    let e = ends-append (flat_map event_line b.events) (end_line b.events_said) in
    let long = block_long b in
    omega (arith, one, two, three, events, surveys, a, c, d, e, long)

blocks_end : (version : ℕ) (bs : List Block) → AllByRecursion (BlockFits version) bs → ends (flat_map block_text bs) ≡ length (flat_map block_lines bs)
blocks_end version [] f = refl
blocks_end version (b ∷ bs) f =
    let one = block_ends version b f.0 in
    let more = blocks_end version bs f.1 in
    let long = length-append (block_lines b) (flat_map block_lines bs) in
    ends-append (block_text b) (flat_map block_text bs) ∙ omega (arith, one, more, long)

done_is : (n : ℕ) → n < 2 ^ 32 → IsLine (done_line n)
done_is n small = after (codes "done ") _ refl (last n (wide n small))

text_ends : (c : Content) → Fits c → ends (text c) ≡ 1 + length (lines c)
text_ends c f =
    let v = f.version in
    let first : IsLine (first_line c.version) = after (codes "ringfarm ") _ refl (last c.version (omega (arith, v.1))) in
    let one = line_ends _ first in
    let two = line_ends _ (done_is c.rings_said f.rings_said) in
    let blocks = blocks_end c.version c.rings f.rings in
    let a = ends-append (first_line c.version) (flat_map block_text c.rings ++ done_line c.rings_said) in
    let b = ends-append (flat_map block_text c.rings) (done_line c.rings_said) in
    let long = lines_long c in
    omega (arith, one, two, blocks, a, b, long)

pub journal_ends : (j : Journal) → JournalFits j → ends (journal_text j) ≡ 2 + length (lines j.began) + length j.calls
journal_ends j f =
    let one = text_ends j.began f.began in
    let calls = many_end (JournalLineFits j.began.version (length j.began.rings)) journal_line (call_is j.began.version (length j.began.rings)) j.calls f.calls in
    let a = ends-append (journal_head j.began) (flat_map journal_line j.calls) in
    let b = ends-append (codes "ringjournal 1\n") (text j.began) in
    omega (arith, one, calls, a, b)

-- ---- the end

ended_after : (front xs : List ℕ) → IsEnded xs → IsEnded (front ++ xs)
ended_after front xs e = (front ++ e.0, ap (λ (u : List ℕ). front ++ u) e.1 ∙ sym (append_assoc front e.0 (10 ∷ [])))

-- the line of a call ends
pub call_ended : (version rings : ℕ) (r : JournalLine) → JournalLineFits version rings r → IsEnded (journal_line r)
call_ended version rings r f = let l = call_is version rings r f in (l.body, l.whole)

calls_end : (version rings : ℕ) (xs : List ℕ) (rs : List JournalLine) → IsEnded xs → AllByRecursion (JournalLineFits version rings) rs → IsEnded (xs ++ flat_map journal_line rs)
calls_end version rings xs [] e f = subst IsEnded (sym (append-nil xs)) e
calls_end version rings xs (r ∷ rs) e f =
    let l = call_is version rings r f.0 in
    let one : IsEnded (xs ++ journal_line r) = ended_after xs (journal_line r) (l.body, l.whole) in
    subst IsEnded (append_assoc xs (journal_line r) (flat_map journal_line rs)) (calls_end version rings (xs ++ journal_line r) rs one f.1)

pub journal_ended : (j : Journal) → JournalFits j → IsEnded (journal_text j)
journal_ended j f =
    let c = j.began in
    let d = done_is c.rings_said f.began.rings_said in
    let done : IsEnded (done_line c.rings_said) = (d.body, d.whole) in
    let below : IsEnded (flat_map block_text c.rings ++ done_line c.rings_said) = ended_after (flat_map block_text c.rings) (done_line c.rings_said) done in
    let all : IsEnded (text c) = ended_after (first_line c.version) (flat_map block_text c.rings ++ done_line c.rings_said) below in
    calls_end c.version (length c.rings) (journal_head c) j.calls (ended_after (codes "ringjournal 1\n") (text c) all) f.calls

-- an ended text has a last byte, which is an LF
pub ended_last : (xs : List ℕ) → IsEnded xs → (0 < length xs) × (get_or xs (length xs - 1) 0 ≡ 10)
ended_last xs e =
    let long : length xs ≡ length e.0 + 1 = ap length e.1 ∙ length-append e.0 (10 ∷ []) in
    let place : length xs - 1 ≡ length e.0 = omega (arith, long) in
    (omega (arith, long), ap (λ (n : ℕ). get_or xs n 0) place ∙ ap (λ (u : List ℕ). get_or u (length e.0) 0) e.1 ∙ get_or-append-end e.0)
  where
    get_or-append-end : (front : List ℕ) → get_or (front ++ 10 ∷ []) (length front) 0 ≡ 10
    get_or-append-end [] = refl
    get_or-append-end (x ∷ front) = get_or-append-end front

pub last_ended : (xs : List ℕ) → 0 < length xs → get_or xs (length xs - 1) 0 ≡ 10 → IsEnded xs
last_ended xs some last =
    let n : ℕ = length xs - 1 in
    let lt : n < length xs = omega (arith, some) in
    let all : n + 1 ≡ length xs = omega (arith, some) in
    (take n xs, sym (take_all (n + 1) xs (omega (arith, all))) ∙ take_more xs n 0 lt ∙ ap (λ (b : ℕ). take n xs ++ b ∷ []) last)

or_true : (v : Bool) → (v || true) ≡ true
or_true true = refl
or_true false = refl

-- nothing follows a text if the whole is ended, and no line ends in what follows
pub none_follows : (xs tail : List ℕ) → IsEnded (xs ++ tail) → has_line_end tail ≡ false → tail ≡ []
none_follows xs [] e none = refl
none_follows xs (b ∷ bs) e none =
    let long : length (xs ++ b ∷ bs) ≡ length e.0 + 1 = ap length e.1 ∙ length-append e.0 (10 ∷ []) in
    let parts = length-append xs (b ∷ bs) in
    let within : length xs ≤ length e.0 = omega (arith, long, parts) in
    let same : b ∷ bs ≡ drop (length xs) e.0 ++ 10 ∷ [] = sym (drop_at xs (b ∷ bs) (length xs) refl) ∙ ap (drop (length xs)) e.1 ∙ drop-append-le (length xs) e.0 (10 ∷ []) within in
    let has : has_line_end (b ∷ bs) ≡ true = ap has_line_end same ∙ list_any-append (λ b. eqb b 10) (drop (length xs) e.0) (10 ∷ []) ∙ or_true (has_line_end (drop (length xs) e.0)) in
    absurd (differ (sym has ∙ none))
  where
    differ : true ≡ false → ⊥
    differ e = cc
