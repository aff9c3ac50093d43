-- A prefix of a right journal gives the journal's own history.
use Rattle.std.proofs.Common.{◌≡◌, ℕ, zero, suc, ◌+◌, ◌<◌, ◌≤◌, Bool, true, false, cond, eqb, List, [], ◌∷◌, ◌++◌, length, take, drop, Result, Ok, Err, refl, sym, ap, ◌∙◌, subst, append_assoc, length-append, inl, inr, ◌⊎◌, arith}
use Rattle.std.specs.List.{flat_map, AllByRecursion}
use Rattle.std.proofs.lemmas.List.{take-append-le, take-append-drop}
use Rattle.std.proofs.lemmas.Bool.{false≢true, cases_lt}
use Rattle.std.proofs.Math.Seq.{take-append_seam}
use Rattle.text_lines.specs.declared.fault.Fault.{Fault}
use Rattle.text_lines.specs.Reading.{Either, this, that, number_at}
use Rattle.text_lines.specs.Texts.{Spells, IsCutShort, first_lines}
use Rattle.text_lines.proofs.Answering.{spellings_are_apart}
use Rattle.text_lines.proofs.Choices.{starts_otherwise}
use Rattle.ring_check.specs.declared.answers.Kind.{Kind}
use Rattle.ring_check.specs.declared.answers.CheckError.TheVariants as check
use Rattle.ring_check.specs.Legal.{IsRightCheck}
use Rattle.saved_history.specs.declared.saved.Saved.{Saved}
use Rattle.saved_history.specs.declared.saved.SavedEvent.{SavedEvent}
use Rattle.saved_history.specs.declared.saved.SavedEvent.TheVariants.{Granted, Refused, Member, Corrupted}
use Rattle.saved_history.specs.declared.saved.SavedSurvey.{SavedSurvey}
use Rattle.saved_history.specs.Content.{Content, content}
use Rattle.saved_history.specs.Spelling.{Fits, event_line, survey_line}
use Rattle.saved_history.specs.Lines.{event_or_end_at, survey_or_next_at}
use Rattle.saved_history.proofs.LineLaws.{item_reads, survey_or_next_reads}
use Rattle.journal.specs.declared.calls.Call.{Call}
use Rattle.journal.specs.declared.calls.Call.TheVariants.{Event, Survey}
use Rattle.journal.specs.declared.calls.JournalLine.{JournalLine}
use Rattle.journal.specs.declared.errors.RecoverError.{RecoverError}
use Rattle.journal.specs.declared.errors.RecoverError.TheVariants.{Truncated, Syntax, Bad, OutOfMemory}
use Rattle.journal.specs.Spelling.{Journal, journal_head, journal_text, call_line, journal_line, CallFits, JournalLineFits}
use Rattle.journal.specs.Reading.{BeginsNone, head_at}
use Rattle.journal.specs.ContentAfter.{content_after}
use Rattle.journal.specs.Recovery.{has_line_end, IsJournalThen, IsRecovered, IsNoBeginning, IsNoCall, IsBadBeginning, IsBadCall, IsRightRecovery}
use Rattle.journal.specs.Prefixes.{IsRightJournal, up_to, IsOwnHistory, IsAnswerOfBeginning}
use Rattle.journal.proofs.Fronts.{ring_read}
use Rattle.journal.proofs.Heads.{head_reads, calls_some}
use Rattle.journal.proofs.LineEnds.{cut_line}
use Rattle.journal.proofs.Orders.{not_both}

-- ---- one line at the front of some bytes

abbrev lines_of : List JournalLine → List ℕ
lines_of rs = flat_map journal_line rs

abbrev ok_of : {A : Type 0} → A → List ℕ → Result (A × List ℕ) Fault
ok_of a x = Ok (a, x)

first_is : {A : Type 0} (a b : A) (x y : List ℕ) → ok_of a x ≡ ok_of b y → (a ≡ b) × (x ≡ y)
first_is {A} a b x y e = (ap (value a) e, ap (rest x) e)
  where
    value : A → Result (A × List ℕ) Fault → A
    value d (Ok z) = z.0
    value d (Err f) = d

    rest : List ℕ → Result (A × List ℕ) Fault → List ℕ
    rest d (Ok z) = z.1
    rest d (Err f) = d

abbrev this_of : (A B : Type 0) → A → Either A B
this_of A B a = this a

this_is : {A B : Type 0} (a b : A) → this_of A B a ≡ this_of A B b → a ≡ b
this_is {A} {B} a b e = ap (back a) e
  where
    back : A → Either A B → A
    back d (this z) = z
    back d (that w) = d

-- the first byte of an event's line is not that of a survey's
event_not_survey : (e : SavedEvent) (v : SavedSurvey) (x y : List ℕ) → event_line e ++ x ≡ survey_line v ++ y → ⊥
event_not_survey (Granted s m o n r) v x y e = starts_otherwise 112 115 _ (λ k. omega arith) (_, e)
event_not_survey (Refused s m o) v x y e = starts_otherwise 112 115 _ (λ k. omega arith) (_, e)
event_not_survey (Member s m o l n r) v x y e = starts_otherwise 109 115 _ (λ k. omega arith) (_, e)
event_not_survey (Corrupted s m w o) v x y e = starts_otherwise 99 115 _ (λ k. omega arith) (_, e)

call_same : (version : ℕ) (a b : Call) (x y : List ℕ) → CallFits version a → CallFits version b → call_line a ++ x ≡ call_line b ++ y → (a ≡ b) × (x ≡ y)
call_same version (Event e) (Event f) x y g h k =
    let p = first_is (this e) (this f) x y (sym ((item_reads version).again (this e) x g) ∙ ap (event_or_end_at version) k ∙ (item_reads version).again (this f) y h) in
    (ap Event (this_is e f p.0), p.1)
call_same version (Event e) (Survey v) x y g h k = absurd (event_not_survey e v x y k)
call_same version (Survey v) (Event e) x y g h k = absurd (event_not_survey e v y x (sym k))
call_same version (Survey v) (Survey w) x y g h k =
    let p = first_is (this v) (this w) x y (sym (survey_or_next_reads.again (this v) x g) ∙ ap survey_or_next_at k ∙ survey_or_next_reads.again (this w) y h) in
    (ap Survey (this_is v w p.0), p.1)

recorded_same : (a b : JournalLine) → a.ring ≡ b.ring → a.call ≡ b.call → a ≡ b
recorded_same a b e f = ap (λ (n : ℕ). record { ring = n; call = a.call }) e ∙ ap (λ (c : Call). record { ring = b.ring; call = c }) f

line_same : (version rings : ℕ) (a b : JournalLine) (x y : List ℕ) → JournalLineFits version rings a → JournalLineFits version rings b → journal_line a ++ x ≡ journal_line b ++ y → (a ≡ b) × (x ≡ y)
line_same version rings a b x y f g e =
    let p = first_is a.ring b.ring (call_line a.call ++ x) (call_line b.call ++ y) (sym (ring_read version rings (journal_line a ++ x) a x f refl) ∙ ap (number_at 4294967296 32) e ∙ ring_read version rings (journal_line b ++ y) b y g refl) in
    let q = call_same version a.call b.call x y f.call g.call p.1 in
    (recorded_same a b p.0 q.0, q.1)

-- ---- the lines of some calls

lines_front : (version rings : ℕ) (xs ys : List JournalLine) (t : List ℕ) → AllByRecursion (JournalLineFits version rings) xs → AllByRecursion (JournalLineFits version rings) ys → lines_of xs ++ t ≡ lines_of ys
    → (back : List JournalLine) × (ys ≡ xs ++ back) × (t ≡ lines_of back)
lines_front version rings [] ys t f g e = (ys, refl, e)
lines_front version rings (x ∷ xs) [] t f g e =
    let some = calls_some (x ∷ xs) in
    let cut = length-append (lines_of (x ∷ xs)) t in
    let long : length (lines_of (x ∷ xs) ++ t) ≡ 0 = ap length e in
    absurd (omega (arith, some, cut, long))
lines_front version rings (x ∷ xs) (y ∷ ys) t f g e =
    let p = line_same version rings x y (lines_of xs ++ t) (lines_of ys) f.0 g.0 (sym (append_assoc (journal_line x) (lines_of xs) t) ∙ e) in
    let q = lines_front version rings xs ys t f.1 g.1 p.1 in
    (q.0, ap (λ (z : JournalLine). z ∷ ys) (sym p.0) ∙ ap (λ (zs : List JournalLine). x ∷ zs) q.1, q.2)

-- no more calls are at the front than are found there
longest : (version rings : ℕ) (xs ys : List JournalLine) (t u : List ℕ) → AllByRecursion (JournalLineFits version rings) xs → AllByRecursion (JournalLineFits version rings) ys → BeginsNone (JournalLineFits version rings) journal_line u → lines_of xs ++ t ≡ lines_of ys ++ u
    → length xs ≤ length ys
longest version rings [] ys t u f g none e = omega arith
longest version rings (x ∷ xs) [] t u f g none e = absurd (none x (lines_of xs ++ t) f.0 (sym e ∙ append_assoc (journal_line x) (lines_of xs) t))
longest version rings (x ∷ xs) (y ∷ ys) t u f g none e =
    let p = line_same version rings x y (lines_of xs ++ t) (lines_of ys ++ u) f.0 g.0 (sym (append_assoc (journal_line x) (lines_of xs) t) ∙ e ∙ append_assoc (journal_line y) (lines_of ys) u) in
    let more = longest version rings xs ys t u f.1 g.1 none p.1 in
    omega (arith, more)

all_front : {A : Type 0} (P : A → Type 0) (xs ys : List A) → AllByRecursion P (xs ++ ys) → AllByRecursion P xs
all_front P [] ys f = tt
all_front P (x ∷ xs) ys f = (f.0, all_front P xs ys f.1)

-- ---- prefixes of some bytes

same_heads : (a b : Content) (x y : List ℕ) → Fits a → Fits b → journal_head a ++ x ≡ journal_head b ++ y → (a ≡ b) × (x ≡ y)
same_heads a b x y f g e = first_is a b x y (sym (head_reads.again a x f) ∙ ap head_at e ∙ head_reads.again b y g)

split : (bytes more head lines : List ℕ) → bytes ++ more ≡ head ++ lines → length head ≤ length bytes → bytes ≡ head ++ drop (length head) bytes
split bytes more head lines e le =
    sym (take-append-drop (length head) bytes)
    ∙ ap (λ (u : List ℕ). u ++ drop (length head) bytes) (sym (take-append-le (length head) bytes more le) ∙ ap (take (length head)) e ∙ take-append_seam head lines)

abbrev FrontOf : ℕ → List ℕ → Type 0
FrontOf n xs = (rest : List ℕ) × (first_lines n xs ++ rest ≡ xs)

front_step : (t : Bool) (n b : ℕ) (bs : List ℕ) → FrontOf n bs → FrontOf (suc n) bs → (rest : List ℕ) × ((b ∷ cond t (first_lines n bs) (first_lines (suc n) bs)) ++ rest ≡ b ∷ bs)
front_step true n b bs p q = (p.0, ap (λ (u : List ℕ). b ∷ u) p.1)
front_step false n b bs p q = (q.0, ap (λ (u : List ℕ). b ∷ u) q.1)

front_of : (n : ℕ) (xs : List ℕ) → FrontOf n xs
front_of zero xs = (xs, refl)
front_of (suc n) [] = ([], refl)
front_of (suc n) (b ∷ bs) = front_step (eqb b 10) n b bs (front_of n bs) (front_of (suc n) bs)

none_left : (xs ys : List ℕ) → xs ++ ys ≡ [] → xs ≡ []
none_left [] ys e = refl
none_left (x ∷ xs) ys e = let long : suc (length (xs ++ ys)) ≡ 0 = ap length e in absurd (omega (arith, long))

-- ---- a prefix of a right journal

abbrev FitIn : Content → List JournalLine → Type 0
FitIn c rs = AllByRecursion (JournalLineFits c.version (length c.rings)) rs

abbrev NoneIn : Content → List ℕ → Type 0
NoneIn c bytes = BeginsNone (JournalLineFits c.version (length c.rings)) journal_line bytes

regroup : (h l t m : List ℕ) → h ++ (l ++ (t ++ m)) ≡ ((h ++ l) ++ t) ++ m
regroup h l t m = sym (append_assoc (h ++ l) t m ∙ append_assoc h l (t ++ m))

module _ (j : Journal) (bytes more : List ℕ) (right : IsRightJournal j) (cut : bytes ++ more ≡ journal_text j) where
  record Matches (k : Journal) (tail : List ℕ) : Type 0 where
    pub same : k.began ≡ j.began
    pub back : List JournalLine
    pub parts : j.calls ≡ k.calls ++ back
    pub left : tail ++ more ≡ lines_of back
    pub fit : FitIn j.began k.calls
    pub none : NoneIn j.began tail

  matched : (k : Journal) (tail : List ℕ) → IsJournalThen bytes k tail → Matches k tail
  matched k tail lines =
      let p = same_heads k.began j.began (lines_of k.calls ++ (tail ++ more)) (lines_of j.calls) lines.fits.began right.fits.began
      (regroup (journal_head k.began) (lines_of k.calls) tail more ∙ ap (λ (u : List ℕ). u ++ more) (sym lines.spelled) ∙ cut) in
      let fit : FitIn j.began k.calls = subst (λ (c : Content). FitIn c k.calls) p.0 lines.fits.calls in
      let q = lines_front j.began.version (length j.began.rings) k.calls j.calls (tail ++ more) fit right.fits.calls p.1 in
      record { same = p.0; back = q.0; parts = q.1; left = q.2; fit = fit; none = subst (λ (c : Content). NoneIn c tail) p.0 lines.behind }

  holds_all : (k : Journal) (tail : List ℕ) → IsJournalThen bytes k tail → (calls others : List JournalLine) (rest : List ℕ) → j.calls ≡ calls ++ others → bytes ≡ journal_text (up_to j calls) ++ rest → length calls ≤ length k.calls
  holds_all k tail lines calls others rest parts spelled =
      let m = matched k tail lines in
      let p = same_heads j.began k.began (lines_of calls ++ rest) (lines_of k.calls ++ tail) right.fits.began lines.fits.began
      (sym (append_assoc (journal_head j.began) (lines_of calls) rest) ∙ sym spelled ∙ lines.spelled ∙ append_assoc (journal_head k.began) (lines_of k.calls) tail) in
      let fit : FitIn j.began calls = all_front (JournalLineFits j.began.version (length j.began.rings)) calls others (subst (λ (rs : List JournalLine). FitIn j.began rs) parts right.fits.calls) in
      longest j.began.version (length j.began.rings) calls k.calls rest tail fit m.fit m.none p.1

  own_history : (c : Content) → IsRecovered bytes c → IsOwnHistory j bytes c
  own_history c r =
      let m = matched r.journal r.tail r.lines in
      record { front = r.journal.calls; back = m.back; parts = m.parts; is = r.is ∙ ap (λ (b : Content). content_after b r.journal.calls) m.same; holds = holds_all r.journal r.tail r.lines }

  head_within : length (journal_head j.began) ≤ length bytes → bytes ≡ journal_head j.began ++ drop (length (journal_head j.began)) bytes
  head_within le = split bytes more (journal_head j.began) (lines_of j.calls) cut le

  not_short : IsCutShort (Spells Fits journal_head) bytes → length (journal_head j.began) ≤ length bytes → ⊥
  not_short h le =
      let rest = drop (length (journal_head j.began)) bytes in
      let e : journal_head j.began ++ (rest ++ h.0 ∷ h.1) ≡ journal_head h.2.0 = sym (append_assoc (journal_head j.began) rest (h.0 ∷ h.1)) ∙ ap (λ (u : List ℕ). u ++ h.0 ∷ h.1) (sym (head_within le)) ∙ h.2.2 in
      let none = (spellings_are_apart head_reads j.began h.2.0 (rest ++ h.0 ∷ h.1) right.fits.began h.2.1 e).1 in
      let cut = length-append rest (h.0 ∷ h.1) in
      let long : length (rest ++ h.0 ∷ h.1) ≡ 0 = ap length none in
      omega (arith, cut, long)

  short : IsCutShort (Spells Fits journal_head) bytes → length bytes < length (journal_head j.began)
  short h = elim (cases_lt (length bytes) (length (journal_head j.began))) [ inl lt ↦ lt | inr le ↦ absurd (not_short h le) ]

  no_beginning_by : (line : ℕ) → IsNoBeginning bytes line → (length bytes < length (journal_head j.began)) ⊎ (length (journal_head j.began) ≤ length bytes) → ⊥
  no_beginning_by line n (inl lt) =
      let le : length bytes ≤ length (journal_head j.began) = omega (arith, lt) in
      let whole = split (journal_head j.began) (lines_of j.calls) bytes more (sym cut) le in
      let f = front_of line bytes in
      let rest = drop (length bytes) (journal_head j.began) in
      n.first.bad (f.0 ++ rest, (j.began, right.fits.began, sym (append_assoc (first_lines line bytes) f.0 rest) ∙ ap (λ (u : List ℕ). u ++ rest) f.1 ∙ sym whole))
  no_beginning_by line n (inr le) = n.none j.began (drop (length (journal_head j.began)) bytes) right.fits.began (head_within le)

  no_beginning : (line : ℕ) → IsNoBeginning bytes line → ⊥
  no_beginning line n = no_beginning_by line n (cases_lt (length bytes) (length (journal_head j.began)))

  no_line_by : (tail : List ℕ) (r : JournalLine) (rs : List JournalLine) → JournalLineFits j.began.version (length j.began.rings) r → NoneIn j.began tail → tail ++ more ≡ journal_line r ++ lines_of rs → has_line_end tail ≡ true
      → (length tail < length (journal_line r)) ⊎ (length (journal_line r) ≤ length tail) → ⊥
  no_line_by tail r rs f none e ended (inl lt) = false≢true (sym (cut_line j.began.version (length j.began.rings) r tail more (lines_of rs) f e lt) ∙ ended)
  no_line_by tail r rs f none e ended (inr le) = none r (drop (length (journal_line r)) tail) f (split tail more (journal_line r) (lines_of rs) e le)

  no_line : (tail : List ℕ) (back : List JournalLine) → FitIn j.began back → NoneIn j.began tail → tail ++ more ≡ lines_of back → has_line_end tail ≡ true → ⊥
  no_line tail [] f none e ended = false≢true (ap has_line_end (sym (none_left tail more e)) ∙ ended)
  no_line tail (r ∷ rs) f none e ended = no_line_by tail r rs f.0 none e ended (cases_lt (length tail) (length (journal_line r)))

  all_back : {A : Type 0} (P : A → Type 0) (xs ys : List A) → AllByRecursion P (xs ++ ys) → AllByRecursion P ys
  all_back P [] ys f = f
  all_back P (x ∷ xs) ys f = all_back P xs ys f.1

  no_call : (line : ℕ) → IsNoCall bytes line → ⊥
  no_call line n =
      let m = matched n.journal n.tail n.lines in
      let fit : FitIn j.began m.back = all_back (JournalLineFits j.began.version (length j.began.rings)) n.journal.calls m.back (subst (λ (rs : List JournalLine). FitIn j.began rs) m.parts right.fits.calls) in
      no_line n.tail m.back fit m.none m.left n.ended

  no_bad_beginning : (line : ℕ) (kind : Kind) → IsBadBeginning bytes line kind → ⊥
  no_bad_beginning line kind b =
      let p = same_heads b.began j.began (b.rest ++ more) (lines_of j.calls) b.fits right.fits.began (sym (append_assoc (journal_head b.began) b.rest more) ∙ ap (λ (u : List ℕ). u ++ more) (sym b.spelled) ∙ cut) in
      not_both j.began b.said kind right.began (subst (λ (c : Content). IsRightCheck c (Err (check.Bad b.said kind))) p.0 b.bad)

  no_bad_call : (line : ℕ) (kind : Kind) → IsBadCall bytes line kind → ⊥
  no_bad_call line kind b =
      let m = matched b.journal b.tail b.lines in
      let n = b.call + 1 in
      let front = take n b.journal.calls in
      let parts : j.calls ≡ front ++ (drop n b.journal.calls ++ m.back) = m.parts ∙ ap (λ (rs : List JournalLine). rs ++ m.back) (sym (take-append-drop n b.journal.calls)) ∙ append_assoc front (drop n b.journal.calls) m.back in
      not_both (content_after j.began front) b.wrong.said kind (right.legal front (drop n b.journal.calls ++ m.back) parts) (subst (λ (c : Content). IsRightCheck (content_after c front) (Err (check.Bad b.wrong.said kind))) m.same b.wrong.bad)

pub prefixes_recovered : (j : Journal) (bytes more : List ℕ) (answer : Result Saved RecoverError) → IsRightJournal j → bytes ++ more ≡ journal_text j → IsRightRecovery bytes answer → IsAnswerOfBeginning j bytes answer
prefixes_recovered j bytes more (Ok saved) right cut a = own_history j bytes more right cut (content saved) a
prefixes_recovered j bytes more (Err Truncated) right cut a = short j bytes more right cut a
prefixes_recovered j bytes more (Err (Syntax line)) right cut (inl a) = no_beginning j bytes more right cut line a
prefixes_recovered j bytes more (Err (Syntax line)) right cut (inr a) = no_call j bytes more right cut line a
prefixes_recovered j bytes more (Err (Bad line kind)) right cut (inl a) = no_bad_beginning j bytes more right cut line kind a
prefixes_recovered j bytes more (Err (Bad line kind)) right cut (inr a) = no_bad_call j bytes more right cut line kind a
prefixes_recovered j bytes more (Err OutOfMemory) right cut a = tt

-- ---- one history

same_calls : (version rings : ℕ) (xs ys : List JournalLine) (t u : List ℕ) → AllByRecursion (JournalLineFits version rings) xs → AllByRecursion (JournalLineFits version rings) ys → BeginsNone (JournalLineFits version rings) journal_line t → BeginsNone (JournalLineFits version rings) journal_line u
    → lines_of xs ++ t ≡ lines_of ys ++ u → xs ≡ ys
same_calls version rings [] [] t u f g n m e = refl
same_calls version rings [] (y ∷ ys) t u f g n m e = absurd (n y (lines_of ys ++ u) g.0 (e ∙ append_assoc (journal_line y) (lines_of ys) u))
same_calls version rings (x ∷ xs) [] t u f g n m e = absurd (m x (lines_of xs ++ t) f.0 (sym e ∙ append_assoc (journal_line x) (lines_of xs) t))
same_calls version rings (x ∷ xs) (y ∷ ys) t u f g n m e =
    let p = line_same version rings x y (lines_of xs ++ t) (lines_of ys ++ u) f.0 g.0 (sym (append_assoc (journal_line x) (lines_of xs) t) ∙ e ∙ append_assoc (journal_line y) (lines_of ys) u) in
    ap (λ (z : JournalLine). z ∷ xs) p.0 ∙ ap (λ (zs : List JournalLine). y ∷ zs) (same_calls version rings xs ys t u f.1 g.1 n m p.1)

same_after : (a b : Content) (xs ys : List JournalLine) → a ≡ b → xs ≡ ys → content_after a xs ≡ content_after b ys
same_after a b xs ys e f = ap (λ (c : Content). content_after c xs) e ∙ ap (content_after b) f

pub one_recovered : (bytes : List ℕ) (c d : Content) → IsRecovered bytes c → IsRecovered bytes d → c ≡ d
one_recovered bytes c d r s =
    let j = r.journal in
    let k = s.journal in
    let p = same_heads j.began k.began (lines_of j.calls ++ r.tail) (lines_of k.calls ++ s.tail) r.lines.fits.began s.lines.fits.began
    (sym (append_assoc (journal_head j.began) (lines_of j.calls) r.tail) ∙ sym r.lines.spelled ∙ s.lines.spelled ∙ append_assoc (journal_head k.began) (lines_of k.calls) s.tail) in
    let fit : FitIn k.began j.calls = subst (λ (x : Content). FitIn x j.calls) p.0 r.lines.fits.calls in
    let none : NoneIn k.began r.tail = subst (λ (x : Content). NoneIn x r.tail) p.0 r.lines.behind in
    let q = same_calls k.began.version (length k.began.rings) j.calls k.calls r.tail s.tail fit s.lines.fits.calls none s.lines.behind p.1 in
    r.is ∙ same_after j.began k.began j.calls k.calls p.0 q ∙ sym s.is
