-- What the journal gets of names, without the remarks.
use Rattle.std.proofs.Common.{◌≡◌, ℕ, zero, suc, ◌<◌, Bool, true, false, cond, eqb, List, [], ◌∷◌, ◌++◌, length, map, Option, Some, None, inl, inr, refl, sym, ap, subst, ◌∙◌, append_assoc, append-nil, arith}
use Rattle.std.specs.Prelude.{codes, slice_get, slice_index, ◌||◌, ◌==◌}
use Rattle.std.specs.Fmt.{decimal}
use Rattle.std.specs.List.{flat_map, list_any}
use Rattle.std.proofs.lemmas.Bool.{ne_eqb, false≢true}
use Rattle.std.proofs.lemmas.List.Folds.{list_any-append}
use Rattle.text_lines.specs.Spelling.{spaced, ended}
use Rattle.saved_history.specs.declared.saved.SavedEvent.{SavedEvent}
use Rattle.saved_history.specs.declared.saved.SavedEvent.TheVariants.{Granted, Refused, Member, Corrupted}
use Rattle.saved_history.specs.declared.saved.SavedSurvey.{SavedSurvey}
use Rattle.saved_history.specs.Spelling.{event_line, survey_line}
use Rattle.journal.specs.declared.calls.Call.{Call}
use Rattle.journal.specs.declared.calls.Call.TheVariants as call
use Rattle.journal.specs.declared.calls.JournalLine.{JournalLine}
use Rattle.journal.specs.Spelling.{call_line, journal_line}
use Rattle.journal.specs.Recovery.{has_line_end}
use Rattle.segment_files.specs.Remarks.{remark_of, without_remarks}
use Rattle.segment_files.specs.RemarkLaws.{IsOneLine, AreLines}
use Rattle.segment_files.proofs.Remarked.{HasNoHash, remark_then, nothing_kept, remark_ended, without_append, no_hash_without}
use Rattle.segment_files.proofs.Hashless.{no_hash_append}
use Rattle.ring_model.specs.declared.events.Event.{Event}
use Rattle.one_thread_ring.specs.Journals.{line_of_event, line_of_survey}
use Rattle.held_locks.specs.declared.answers.HoldEnd.{HoldEnd}
use Rattle.held_locks.specs.declared.answers.Left.{Left}
use Rattle.held_locks.specs.Kept.{LockView}
use Rattle.held_locks.specs.Asked.{events_at}
use Rattle.lock_journal.specs.Noting.{events_from, end_line, note_about, note_of_left, notes_of_left}
use Rattle.lock_journal.proofs.WholeTexts.{of_both, journal_line_ends}
use Rattle.lock_protocol.specs.Names.{IsName, is_name_byte, name_ended}
use Rattle.name_remarks.specs.Remarks.{Binding, bind, free, top, remark_text}
use Rattle.lock_names.specs.declared.replies.NameAnswers.{NameAnswers}
use Rattle.lock_names.specs.Names.{Bound, Named, fresh}
use Rattle.lock_names.specs.Kept.{NamedView, named_of}
use Rattle.lock_names.specs.Leaves.{told_left}
use Rattle.name_service.specs.Noting.{binding_of, note_of_new, note_of_free, note_at, is_freed, notes_of_names_left}
use Rattle.name_service.proofs.Digits.{decimal_digits, no_hash_digits, no_end_digits}

-- ---- no # in the lines of events and surveys

plain_number : (n stop : ℕ) → eqb stop 35 ≡ false → HasNoHash (decimal n ++ stop ∷ [])
plain_number n stop e = no_hash_append (decimal n) (stop ∷ []) (no_hash_digits (decimal n) (decimal_digits n)) (record { none = either (eqb stop 35) e })
  where
    either : (q : Bool) → q ≡ false → (q || false) ≡ false
    either true f = absurd cc
    either false f = refl

then : (n : ℕ) (xs : List ℕ) → HasNoHash xs → HasNoHash (spaced n ++ xs)
then n xs h = no_hash_append (spaced n) xs (plain_number n 32 refl) h

last : (n : ℕ) → HasNoHash (ended n)
last n = plain_number n 10 refl

word : (w xs : List ℕ) → list_any (λ b. eqb b 35) w ≡ false → HasNoHash xs → HasNoHash (w ++ xs)
word w xs e h = no_hash_append w xs (record { none = e }) h

plain_event : (e : SavedEvent) → HasNoHash (event_line e)
plain_event (Granted s m o n r) = word (codes "p ") _ refl (then s _ (then m _ (then o _ (word (codes "g ") _ refl (then n _ (last r))))))
plain_event (Refused s m o) = word (codes "p ") _ refl (then s _ (then m _ (then o (codes "n\n") (record { none = refl }))))
plain_event (Member s m o l n r) = word (codes "m ") _ refl (then s _ (then m _ (then o _ (then l _ (then n _ (last r))))))
plain_event (Corrupted s m v o) = word (codes "c ") _ refl (then s _ (then m _ (then v _ (last o))))

plain_survey : (v : SavedSurvey) → HasNoHash (survey_line v)
plain_survey v = word (codes "s ") _ refl (then v.seat _ (then v.position _ (then v.privileged _ (then v.first _ (then v.calm _ (last v.rest))))))

plain_line : (r : JournalLine) → HasNoHash (journal_line r)
plain_line r = then r.ring (call_line r.call) (go r.call)
  where
    go : (c : Call) → HasNoHash (call_line c)
    go (call.Event e) = plain_event e
    go (call.Survey v) = plain_survey v

-- whole lines with no #
pub record ArePlain (text : List ℕ) : Type 0 where
  pub lines : AreLines text
  pub hashless : HasNoHash text

plain_none : ArePlain []
plain_none = record { lines = inl refl; hashless = record { none = refl } }

plain_both : (a b : List ℕ) → ArePlain a → ArePlain b → ArePlain (a ++ b)
plain_both a b p q = record { lines = of_both a b p.lines q.lines; hashless = no_hash_append a b p.hashless q.hashless }

plain_one : (r : JournalLine) → ArePlain (journal_line r)
plain_one r = record { lines = inr (journal_line_ends r); hashless = plain_line r }

plain_each : {A : Type 0} (line : A → List ℕ) → ((a : A) → ArePlain (line a)) → (all : List A) → ArePlain (flat_map line all)
plain_each line each [] = plain_none
plain_each line each (a ∷ all) = plain_both (line a) (flat_map line all) (each a) (plain_each line each all)

plain_end : (lock : ℕ) (e : Option HoldEnd) → ArePlain (end_line lock e)
plain_end lock None = plain_none
plain_end lock (Some e) = plain_one (line_of_survey lock e.seat e.survey)

plain_events : (lock place : ℕ) (v : Option LockView) → ArePlain (events_from lock place v)
plain_events lock place None = plain_none
plain_events lock place (Some v) = plain_each (λ (e : Event). journal_line (line_of_event lock e)) (λ e. plain_one (line_of_event lock e)) _

pub plain_note : (lock : ℕ) (old new : List LockView) (e : Option HoldEnd) → ArePlain (note_about lock old new e)
plain_note lock old new e = plain_both (end_line lock e) (events_from lock (events_at (slice_get old lock)) (slice_get new lock)) (plain_end lock e) (plain_events lock (events_at (slice_get old lock)) (slice_get new lock))

pub plain_left : (new : List LockView) (l : Left) → ArePlain (note_of_left new l)
plain_left new l = plain_both (end_line l.lock (Some l.ended)) (events_from l.lock l.ended.survey.position (slice_get new l.lock)) (plain_end l.lock (Some l.ended)) (plain_events l.lock l.ended.survey.position (slice_get new l.lock))

-- ---- the remarks

neither : (x y : Bool) → x ≡ false → y ≡ false → (x || y) ≡ false
neither true y e f = absurd cc
neither false y e f = f

no_end_append : (xs ys : List ℕ) → has_line_end xs ≡ false → has_line_end ys ≡ false → has_line_end (xs ++ ys) ≡ false
no_end_append xs ys e f = list_any-append (λ b. b == 10) xs ys ∙ neither (has_line_end xs) (has_line_end ys) e f

no_end_number : (n : ℕ) → has_line_end (decimal n) ≡ false
no_end_number n = no_end_digits (decimal n) (decimal_digits n)

no_end_spaced : (n : ℕ) (xs : List ℕ) → has_line_end xs ≡ false → has_line_end (spaced n ++ xs) ≡ false
no_end_spaced n xs e = no_end_append (spaced n) xs (no_end_append (decimal n) (32 ∷ []) (no_end_number n) refl) e

-- a name is on one line
no_end_bytes : (name : List ℕ) → ((i : ℕ) → i < length name → is_name_byte (slice_index name i) ≡ true) → has_line_end name ≡ false
no_end_bytes [] each = refl
no_end_bytes (b ∷ bs) each =
    neither (b == 10) (has_line_end bs) (ne_eqb b 10 (λ e. false≢true (subst (λ (x : ℕ). is_name_byte x ≡ true) e (each zero (omega arith)))))
    (no_end_bytes bs (λ i lt. each (suc i) (omega (arith, lt))))

abbrev pub bind_line : ℕ → Binding → List ℕ
bind_line ring b = codes "name " ++ (spaced ring ++ (spaced b.before ++ (spaced b.floor ++ name_ended b.name)))

abbrev bind_body : ℕ → Binding → List ℕ
bind_body ring b = codes "name " ++ (spaced ring ++ (spaced b.before ++ (spaced b.floor ++ b.name)))

pub bind_is_line : (ring : ℕ) (b : Binding) → IsName b.name → IsOneLine (bind_line ring b)
bind_is_line ring b is = (
  bind_body ring b,
  sym (append_assoc (codes "name ") (spaced ring ++ (spaced b.before ++ (spaced b.floor ++ b.name))) (10 ∷ [])
      ∙ ap (λ (u : List ℕ). codes "name " ++ u) (append_assoc (spaced ring) (spaced b.before ++ (spaced b.floor ++ b.name)) (10 ∷ [])
      ∙ ap (λ (u : List ℕ). spaced ring ++ u) (append_assoc (spaced b.before) (spaced b.floor ++ b.name) (10 ∷ [])
      ∙ ap (λ (u : List ℕ). spaced b.before ++ u) (append_assoc (spaced b.floor) b.name (10 ∷ []))))),
  no_end_append (codes "name ") (spaced ring ++ (spaced b.before ++ (spaced b.floor ++ b.name))) refl
      (no_end_spaced ring _ (no_end_spaced b.before _ (no_end_spaced b.floor b.name (no_end_bytes b.name is.each)))),
)

pub free_is_line : (ring : ℕ) → IsOneLine (codes "free " ++ ended ring)
free_is_line ring = (codes "free " ++ decimal ring, sym (append_assoc (codes "free ") (decimal ring) (10 ∷ [])), no_end_append (codes "free ") (decimal ring) refl (no_end_number ring))

pub top_is_line : (grants : ℕ) → IsOneLine (codes "floor " ++ ended grants)
top_is_line grants = (codes "floor " ++ decimal grants, sym (append_assoc (codes "floor ") (decimal grants) (10 ∷ [])), no_end_append (codes "floor ") (decimal grants) refl (no_end_number grants))

-- lines of which nothing is left without the remarks
pub record AreRemarks (text : List ℕ) : Type 0 where
  pub lines : AreLines text
  pub gone : (rest : List ℕ) → without_remarks (text ++ rest) ≡ without_remarks rest

pub remarks_none : AreRemarks []
remarks_none = record { lines = inl refl; gone = λ rest. refl }

remark_one : (line : List ℕ) → IsOneLine line → AreRemarks (remark_of line)
remark_one line is = record { lines = remark_ended line is; gone = λ rest. remark_then line rest is }

pub remarks_both : (a b : List ℕ) → AreRemarks a → AreRemarks b → AreRemarks (a ++ b)
remarks_both a b p q = record {
  lines = of_both a b p.lines q.lines;
  gone = λ rest. ap without_remarks (append_assoc a b rest) ∙ (p.gone (b ++ rest) ∙ q.gone rest);
}

pub remark_bind : (ring : ℕ) (b : Binding) → IsName b.name → AreRemarks (remark_text (bind ring b))
remark_bind ring b is = remark_one (bind_line ring b) (bind_is_line ring b is)

pub remark_free : (ring : ℕ) → AreRemarks (remark_text (free ring))
remark_free ring = remark_one (codes "free " ++ ended ring) (free_is_line ring)

pub remark_top : (grants : ℕ) → AreRemarks (remark_text (top grants))
remark_top grants = remark_one (codes "floor " ++ ended grants) (top_is_line grants)

new_remark : (s : Named) (x : List ℕ) (ring : ℕ) (new : Bool) → IsName x → AreRemarks (note_of_new s x ring new)
new_remark s x ring true is = remark_bind ring (binding_of (fresh s x ring)) is
new_remark s x ring false is = remarks_none

free_remark : (ring : ℕ) (freed : Bool) → AreRemarks (note_of_free ring freed)
free_remark ring true = remark_free ring
free_remark ring false = remarks_none

-- ---- notes with remarks

-- lines of which this is left without the remarks
pub record IsLeft (text plain : List ℕ) : Type 0 where
  pub lines : AreLines text
  pub left : without_remarks text ≡ plain

pub left_none : IsLeft [] []
left_none = record { lines = inl refl; left = nothing_kept }

pub left_both : (a b p q : List ℕ) → IsLeft a p → IsLeft b q → IsLeft (a ++ b) (p ++ q)
left_both a b p q x y = record {
  lines = of_both a b x.lines y.lines;
  left = without_append a b x.lines ∙ (ap (λ (u : List ℕ). u ++ without_remarks b) x.left ∙ ap (λ (u : List ℕ). p ++ u) y.left);
}

left_plain : (text : List ℕ) → ArePlain text → IsLeft text text
left_plain text p = record { lines = p.lines; left = no_hash_without text p.hashless }

left_remarks : (text : List ℕ) → AreRemarks text → IsLeft text []
left_remarks text r = record {
  lines = r.lines;
  left = ap without_remarks (sym (append-nil text)) ∙ (r.gone [] ∙ nothing_kept);
}

with_free : (note : List ℕ) (ring : ℕ) (freed : Bool) → ArePlain note → IsLeft (note ++ note_of_free ring freed) note
with_free note ring freed p =
    subst (λ (u : List ℕ). IsLeft (note ++ note_of_free ring freed) u) (append-nil note)
    (left_both note (note_of_free ring freed) note [] (left_plain note p) (left_remarks (note_of_free ring freed) (free_remark ring freed)))

-- of an ask the ring's own notes are left
pub asked_left : (ring : ℕ) (old new : NamedView) (x : List ℕ) (r : NameAnswers) → IsName x → IsLeft (note_at (Some ring) old new x r) (note_about ring old.locks new.locks r.ended)
asked_left ring old new x r is =
    let note : List ℕ = note_about ring old.locks new.locks r.ended in
    left_both (note_of_new (named_of old) x ring r.fresh) (note ++ note_of_free ring r.freed) [] note
    (left_remarks (note_of_new (named_of old) x ring r.fresh) (new_remark (named_of old) x ring r.fresh is))
    (with_free note ring r.freed (plain_note ring old.locks new.locks r.ended))

-- and so of a leave
pub leave_left : (fixed : ℕ) (new : List LockView) (os : List (Option Bound)) (raw : List Left) → IsLeft (notes_of_names_left fixed new (map (told_left os) raw)) (notes_of_left new raw)
leave_left fixed new os [] = left_none
leave_left fixed new os (l ∷ raw) =
    left_both (note_of_left new l ++ note_of_free l.lock (is_freed fixed (told_left os l))) (notes_of_names_left fixed new (map (told_left os) raw)) (note_of_left new l) (notes_of_left new raw)
    (with_free (note_of_left new l) l.lock (is_freed fixed (told_left os l)) (plain_left new l)) (leave_left fixed new os raw)

-- nothing is noted, if no journal is kept
pub left_if : (noting : Bool) (text plain : List ℕ) → IsLeft text plain → IsLeft (cond noting text []) (cond noting plain [])
left_if true text plain l = l
left_if false text plain l = left_none
