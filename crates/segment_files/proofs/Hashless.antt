-- The text of a journal has no byte that is a #, and is of whole lines.
use Rattle.std.proofs.Common.{◌≡◌, ℕ, ◌+◌, ◌%◌, ◌^◌, ◌<◌, Bool, true, false, eqb, List, [], ◌∷◌, ◌++◌, length, refl, sym, ap, subst, ◌∙◌, append_assoc, append-nil, inr, arith}
use Rattle.std.specs.Prelude.{codes, ◌||◌}
use Rattle.std.specs.List.{flat_map, list_any, AllByRecursion}
use Rattle.std.specs.Fmt.{decimal}
use Rattle.std.proofs.lemmas.Bool.{ne_eqb}
use Rattle.std.proofs.lemmas.Fmt.{decimal_by_steps}
use Rattle.std.proofs.lemmas.List.Folds.{list_any-append}
use Rattle.text_lines.specs.Spelling.{spaced, ended, row}
use Rattle.saved_history.specs.declared.saved.SavedEvent.{SavedEvent}
use Rattle.saved_history.specs.declared.saved.SavedEvent.TheVariants.{Granted, Refused, Member, Corrupted}
use Rattle.saved_history.specs.declared.saved.SavedSurvey.{SavedSurvey}
use Rattle.saved_history.specs.Content.{Block, Content}
use Rattle.saved_history.specs.Spelling.{first_line, head_line, head_of, start_line, event_line, end_line, survey_line, done_line, below_head, block_text, text, EventFits, SurveyFits, BlockFits, Fits}
use Rattle.journal.specs.declared.calls.Call.{Call}
use Rattle.journal.specs.declared.calls.Call.TheVariants.{Event, Survey}
use Rattle.journal.specs.declared.calls.JournalLine.{JournalLine}
use Rattle.journal.specs.Spelling.{Journal, JournalFits, CallFits, JournalLineFits, call_line, journal_line, journal_head, journal_text}
use Rattle.segment_files.specs.Remarks.{without_remarks}
use Rattle.segment_files.specs.RemarkLaws.{AreLines}
use Rattle.segment_files.proofs.LineCounts.{call_ended, journal_ended}
use Rattle.segment_files.proofs.Remarked.{HasNoHash, no_hash_without, plain_then}

neither : (a b : Bool) → a ≡ false → b ≡ false → (a || b) ≡ false
neither true b e f = absurd cc
neither false b e f = f

pub no_hash_append : (xs ys : List ℕ) → HasNoHash xs → HasNoHash ys → HasNoHash (xs ++ ys)
no_hash_append xs ys e f = record { none = list_any-append (λ b. eqb b 35) xs ys ∙ neither (list_any (λ b. eqb b 35) xs) (list_any (λ b. eqb b 35) ys) e.none f.none }

word : (w xs : List ℕ) → list_any (λ b. eqb b 35) w ≡ false → HasNoHash xs → HasNoHash (w ++ xs)
word w xs e f = no_hash_append w xs (record { none = e }) f

digit : (n : ℕ) → HasNoHash ((48 + n) ∷ [])
digit n = record { none = neither (eqb (48 + n) 35) false (ne_eqb (48 + n) 35 (λ e. omega (arith, e))) refl }

number : (n : ℕ) → n < 2 ^ 64 → HasNoHash (decimal n)
number n small = decimal_by_steps (λ m ds. HasNoHash ds) (λ m lt. digit m) (λ m ds ge k. no_hash_append ds ((48 + m % 10) ∷ []) k (digit (m % 10))) n small

pub no_hash_spaced : (n : ℕ) → n < 2 ^ 64 → HasNoHash (spaced n)
no_hash_spaced n small = no_hash_append (decimal n) (32 ∷ []) (number n small) (record { none = refl })

pub no_hash_ended : (n : ℕ) → n < 2 ^ 64 → HasNoHash (ended n)
no_hash_ended n small = no_hash_append (decimal n) (10 ∷ []) (number n small) (record { none = refl })

then : (n : ℕ) (xs : List ℕ) → n < 2 ^ 64 → HasNoHash xs → HasNoHash (spaced n ++ xs)
then n xs small e = no_hash_append (spaced n) xs (no_hash_spaced n small) e

wide : (n : ℕ) → n < 2 ^ 32 → n < 2 ^ 64
wide n lt = omega (arith, lt)

event : (version : ℕ) (e : SavedEvent) → EventFits version e → HasNoHash (event_line e)
event version (Granted s m o n r) f = word (codes "p ") _ refl (then s _ (wide s f.0) (then m _ (wide m f.1) (then o _ f.2 (word (codes "g ") _ refl (then n _ f.3 (no_hash_ended r f.4))))))
event version (Refused s m o) f = word (codes "p ") _ refl (then s _ (wide s f.0) (then m _ (wide m f.1) (then o (codes "n\n") f.2 (record { none = refl }))))
event version (Member s m o l n r) f = word (codes "m ") _ refl (then s _ (wide s f.1) (then m _ (wide m f.2) (then o _ f.3 (then l _ (wide l f.4) (then n _ f.5 (no_hash_ended r f.6))))))
event version (Corrupted s m v o) f = word (codes "c ") _ refl (then s _ (wide s f.0) (then m _ (wide m f.1) (then v _ (wide v f.2) (no_hash_ended o (wide o f.3)))))

survey : (v : SavedSurvey) → SurveyFits v → HasNoHash (survey_line v)
survey v f = word (codes "s ") _ refl (then v.seat _ (wide v.seat f.seat) (then v.position _ f.position (then v.privileged _ (wide v.privileged f.privileged) (then v.first _ (wide v.first f.first) (then v.calm _ f.calm (no_hash_ended v.rest f.rest))))))

-- the line of a call
pub no_hash_call : (version rings : ℕ) (r : JournalLine) → JournalLineFits version rings r → HasNoHash (journal_line r)
no_hash_call version rings r f = then r.ring (call_line r.call) (wide r.ring f.small) (go r.call f.call)
  where
    go : (call : Call) → CallFits version call → HasNoHash (call_line call)
    go (Event e) g = event version e g
    go (Survey v) g = survey v g

no_hash_row : (xs : List ℕ) → AllByRecursion (λ x. x < 2 ^ 32) xs → HasNoHash (row xs)
no_hash_row [] f = record { none = refl }
no_hash_row (x ∷ []) f = no_hash_ended x (wide x f.0)
no_hash_row (x ∷ y ∷ xs) f = then x (row (y ∷ xs)) (wide x f.0) (no_hash_row (y ∷ xs) f.1)

each : {A : Type 0} (F : A → Type 0) (line : A → List ℕ) → ((a : A) → F a → HasNoHash (line a)) → (xs : List A) → AllByRecursion F xs → HasNoHash (flat_map line xs)
each F line is [] f = record { none = refl }
each F line is (x ∷ xs) f = no_hash_append (line x) (flat_map line xs) (is x f.0) (each F line is xs f.1)

block : (version : ℕ) (b : Block) → BlockFits version b → HasNoHash (block_text b)
block version b f =
    let h = f.head in
    let head : HasNoHash (head_line (head_of b)) = word (codes "ring ") _ refl (then b.index _ (wide b.index h.index) (then b.n _ (wide b.n h.n) (no_hash_ended b.k (wide b.k h.k)))) in
    let start : HasNoHash (start_line b.start) = word (codes "start ") _ refl (no_hash_row b.start f.values) in
    let end : HasNoHash (end_line b.events_said) = word (codes "end ") _ refl (no_hash_ended b.events_said f.events_said) in
    let events = each (EventFits version) event_line (event version) b.events f.events in
    let surveys = each SurveyFits survey_line survey b.surveys f.surveys in
    no_hash_append (head_line (head_of b)) (below_head b) head
    (no_hash_append (start_line b.start) ((flat_map event_line b.events ++ end_line b.events_said) ++ flat_map survey_line b.surveys) start
    (no_hash_append (flat_map event_line b.events ++ end_line b.events_said) (flat_map survey_line b.surveys)
    (no_hash_append (flat_map event_line b.events) (end_line b.events_said) events end) surveys))

pub no_hash_text : (c : Content) → Fits c → HasNoHash (text c)
no_hash_text c f =
    let v = f.version in
    let first : HasNoHash (first_line c.version) = word (codes "ringfarm ") _ refl (no_hash_ended c.version (omega (arith, v.1))) in
    let done : HasNoHash (done_line c.rings_said) = word (codes "done ") _ refl (no_hash_ended c.rings_said (wide c.rings_said f.rings_said)) in
    no_hash_append (first_line c.version) (flat_map block_text c.rings ++ done_line c.rings_said) first
    (no_hash_append (flat_map block_text c.rings) (done_line c.rings_said) (each (BlockFits c.version) block_text (block c.version) c.rings f.rings) done)

-- the start of a journal
pub no_hash_head : (c : Content) → Fits c → HasNoHash (journal_head c)
no_hash_head c f = word (codes "ringjournal 1\n") (text c) refl (no_hash_text c f)

-- a whole journal
pub no_hash_journal : (j : Journal) → JournalFits j → HasNoHash (journal_text j)
no_hash_journal j f = no_hash_append (journal_head j.began) (flat_map journal_line j.calls) (no_hash_head j.began f.began) (each (JournalLineFits j.began.version (length j.began.rings)) journal_line (no_hash_call j.began.version (length j.began.rings)) j.calls f.calls)

-- it is all kept, and what follows it is as if it were by itself
pub journal_without : (j : Journal) → JournalFits j → without_remarks (journal_text j) ≡ journal_text j
journal_without j f = no_hash_without (journal_text j) (no_hash_journal j f)

pub journal_then : (j : Journal) (rest : List ℕ) → JournalFits j → without_remarks (journal_text j ++ rest) ≡ journal_text j ++ without_remarks rest
journal_then j rest f = plain_then (journal_text j) rest (inr (journal_ended j f)) (no_hash_journal j f)

-- only the lines of calls
pub no_hash_calls : (version rings : ℕ) (rs : List JournalLine) → AllByRecursion (JournalLineFits version rings) rs → HasNoHash (flat_map journal_line rs)
no_hash_calls version rings rs f = each (JournalLineFits version rings) journal_line (no_hash_call version rings) rs f

-- ---- what follows a part of a journal

pub head_then : (c : Content) (rest : List ℕ) → Fits c → without_remarks (journal_head c ++ rest) ≡ journal_head c ++ without_remarks rest
head_then c rest f =
    let e = journal_ended (record { began = c; calls = [] }) (record { began = f; calls = tt }) in
    plain_then (journal_head c) rest (subst AreLines (append-nil (journal_head c)) (inr e)) (no_hash_head c f)

pub call_then : (version rings : ℕ) (r : JournalLine) (rest : List ℕ) → JournalLineFits version rings r → without_remarks (journal_line r ++ rest) ≡ journal_line r ++ without_remarks rest
call_then version rings r rest f = plain_then (journal_line r) rest (inr (call_ended version rings r f)) (no_hash_call version rings r f)

pub calls_then : (version rings : ℕ) (rs : List JournalLine) (rest : List ℕ) → AllByRecursion (JournalLineFits version rings) rs → without_remarks (flat_map journal_line rs ++ rest) ≡ flat_map journal_line rs ++ without_remarks rest
calls_then version rings [] rest f = refl
calls_then version rings (r ∷ rs) rest f =
    ap without_remarks (append_assoc (journal_line r) (flat_map journal_line rs) rest)
    ∙ call_then version rings r (flat_map journal_line rs ++ rest) f.0
    ∙ ap (λ (u : List ℕ). journal_line r ++ u) (calls_then version rings rs rest f.1)
    ∙ sym (append_assoc (journal_line r) (flat_map journal_line rs) (without_remarks rest))
