-- What is answered to a line, and what is noted of it, are whole lines.
use Rattle.std.proofs.Common.{◌≡◌, ℕ, Bool, true, false, List, [], ◌∷◌, ◌++◌, Option, Some, None, refl, sym, ◌∙◌, ap, subst, inl, inr, slice_get, append_assoc, cond, eqb, append-nil, ◌⊎◌}
use Rattle.std.specs.Prelude.{codes}
use Rattle.std.specs.Fmt.{decimal}
use Rattle.std.specs.List.{flat_map}
use Rattle.std.proofs.lemmas.Bool.{eqb-true, eqb-false}
use Rattle.text_lines.specs.Spelling.{spaced, ended}
use Rattle.line_service.specs.Answering.{IsLine}
use Rattle.segment_files.specs.Remarks.{IsEnded}
use Rattle.segment_files.specs.RemarkLaws.{AreLines}
use Rattle.saved_history.specs.declared.saved.SavedEvent.{SavedEvent}
use Rattle.saved_history.specs.declared.saved.SavedEvent.TheVariants.{Granted, Refused, Member, Corrupted}
use Rattle.saved_history.specs.declared.saved.SavedSurvey.{SavedSurvey}
use Rattle.saved_history.specs.Spelling.{event_line, survey_line}
use Rattle.journal.specs.declared.calls.Call.{Call}
use Rattle.journal.specs.declared.calls.JournalLine.{JournalLine}
use Rattle.journal.specs.Spelling.{journal_line, call_line}
use Rattle.ring_model.specs.declared.events.Event.{Event}
use Rattle.one_thread_ring.specs.Journals.{line_of_survey, line_of_event}
use Rattle.held_locks.specs.declared.answers.Answer.{Answer}
use Rattle.held_locks.specs.declared.answers.Refusal.{Refusal}
use Rattle.held_locks.specs.declared.answers.Holder.{Holder}
use Rattle.held_locks.specs.declared.answers.HoldEnd.{HoldEnd}
use Rattle.held_locks.specs.Kept.{LockView}
use Rattle.held_locks.specs.Locks.{Ask}
use Rattle.lock_protocol.specs.declared.answers.Denial.{Denial}
use Rattle.lock_protocol.specs.Views.{Input}
use Rattle.lock_protocol.specs.Names.{Names, name_of, lock_named, name_spaced, name_ended}
use Rattle.lock_protocol.specs.Answers.{answer_line, denial_line, refusal_text, holder_text, answer_text}
use Rattle.lock_journal.specs.declared.terms.Terms.{Terms}
use Rattle.held_locks.specs.Asked.{events_at}
use Rattle.line_replica.specs.Keys.{first_line}
use Rattle.lock_journal.proofs.LineParts.{line_more}
use Rattle.lock_journal.specs.Answering.{IsToldOfNamed, IsTold, IsAnsweredIf, IsInputAnswered}
use Rattle.lock_journal.specs.Asking.{one_ask, is_off}
use Rattle.lock_journal.specs.Counting.{SegmentView}
use Rattle.lock_journal.specs.Noting.{lines_about, note_about, notes_of_left, events_from, end_line, note_of_left, line_of_left}
use Rattle.held_locks.specs.declared.answers.Refusal.TheVariants as refusal
use Rattle.held_locks.specs.declared.answers.Answer.TheVariants as answer
use Rattle.lock_protocol.specs.declared.answers.Denial.TheVariants as denial
use Rattle.journal.specs.declared.calls.Call.TheVariants as call
use Rattle.lock_protocol.specs.Views as input
use Rattle.lock_protocol.specs.Asks as lines

pub ends_after : (front xs : List ℕ) → IsEnded xs → IsEnded (front ++ xs)
ends_after front xs e = (front ++ e.0, ap (λ (u : List ℕ). front ++ u) e.1 ∙ sym (append_assoc front e.0 (10 ∷ [])))

pub number_ends : (n : ℕ) → IsEnded (ended n)
number_ends n = (decimal n, refl)

pub of_both : (a b : List ℕ) → AreLines a → AreLines b → AreLines (a ++ b)
of_both a b p (inl e) = subst (λ (u : List ℕ). AreLines u) (sym (ap (λ (u : List ℕ). a ++ u) e ∙ append-nil a)) p
of_both a b p (inr e) = inr (ends_after a b e)

pub of_each : {A : Type 0} (line : A → List ℕ) → ((a : A) → AreLines (line a)) → (all : List A) → AreLines (flat_map line all)
of_each line each [] = inl refl
of_each line each (a ∷ all) = of_both (line a) (flat_map line all) (each a) (of_each line each all)

-- ---- what is answered

name_ends : (name : List ℕ) → IsEnded (name_ended name)
name_ends name = (name, refl)

refusal_ends : (name : List ℕ) (r : Refusal) → IsEnded (refusal_text name r)
refusal_ends name refusal.Lock = ends_after (codes "refused lock ") (name_ended name) (name_ends name)
refusal_ends name refusal.Holds = ends_after (codes "refused holds ") (name_ended name) (name_ends name)
refusal_ends name refusal.Waits = ends_after (codes "refused waits ") (name_ended name) (name_ends name)
refusal_ends name refusal.Circle = ends_after (codes "refused circle ") (name_ended name) (name_ends name)
refusal_ends name refusal.Holder = ends_after (codes "refused holder ") (name_ended name) (name_ends name)
refusal_ends name refusal.Waiter = ends_after (codes "refused waiter ") (name_ended name) (name_ends name)
refusal_ends name refusal.Machine = ends_after (codes "refused machine ") (name_ended name) (name_ends name)
refusal_ends name refusal.Value = ends_after (codes "refused value ") (name_ended name) (name_ends name)
refusal_ends name refusal.Full = ends_after (codes "refused full ") (name_ended name) (name_ends name)
refusal_ends name refusal.Memory = ends_after (codes "refused memory ") (name_ended name) (name_ends name)

holder_ends : (h : Option Holder) → IsEnded (holder_text h)
holder_ends None = (codes "0 0", refl)
holder_ends (Some h) = ends_after (spaced h.client) (ended h.token) (number_ends h.token)

answer_ends : (name : List ℕ) (a : Answer) → IsEnded (answer_text name a)
answer_ends name (answer.Granted token) = ends_after (codes "granted ") _ (ends_after (name_spaced name) (ended token) (number_ends token))
answer_ends name (answer.Waiting before) = ends_after (codes "waiting ") _ (ends_after (name_spaced name) (ended before) (number_ends before))
answer_ends name answer.Busy = ends_after (codes "busy ") (name_ended name) (name_ends name)
answer_ends name answer.Released = ends_after (codes "released ") (name_ended name) (name_ends name)
answer_ends name answer.Cancelled = ends_after (codes "cancelled ") (name_ended name) (name_ends name)
answer_ends name (answer.Corrupted old) = ends_after (codes "corrupted ") _ (ends_after (name_spaced name) (ended old) (number_ends old))
answer_ends name (answer.Stats s) =
    ends_after (codes "stats ") _ (ends_after (name_spaced name) _ (ends_after (spaced s.machines) _ (ends_after (spaced s.waiters) _ (ends_after (spaced s.passes) (holder_text s.holder) (holder_ends s.holder)))))
answer_ends name (answer.Refused why) = refusal_ends name why

line_ends : (c : ℕ) (name : List ℕ) (a : Answer) → IsEnded (answer_line c name a)
line_ends c name a = ends_after (spaced c) (answer_text name a) (answer_ends name a)

about_lines : (names : Names) (lock : ℕ) (all : List (ℕ × Answer)) → AreLines (lines_about names lock all)
about_lines names lock [] = inl refl
about_lines names lock ((c, a) ∷ all) = of_both (answer_line c (name_of names lock) a) (lines_about names lock all) (inr (line_ends c (name_of names lock) a)) (about_lines names lock all)

denial_ends : (client : ℕ) (why : Denial) → IsEnded (denial_line client why)
denial_ends client denial.Syntax = ends_after (spaced client) (codes "refused syntax\n") (codes "refused syntax", refl)
denial_ends client denial.Number = ends_after (spaced client) (codes "refused number\n") (codes "refused number", refl)
denial_ends client denial.Off = ends_after (spaced client) (codes "refused off\n") (codes "refused off", refl)

-- ---- what is noted

event_ends : (e : SavedEvent) → IsEnded (event_line e)
event_ends (Granted s m o n r) = ends_after (codes "p ") _ (ends_after (spaced s) _ (ends_after (spaced m) _ (ends_after (spaced o) _ (ends_after (codes "g ") _ (ends_after (spaced n) (ended r) (number_ends r))))))
event_ends (Refused s m o) = ends_after (codes "p ") _ (ends_after (spaced s) _ (ends_after (spaced m) _ (ends_after (spaced o) (codes "n\n") (codes "n", refl))))
event_ends (Member s m o l n r) = ends_after (codes "m ") _ (ends_after (spaced s) _ (ends_after (spaced m) _ (ends_after (spaced o) _ (ends_after (spaced l) _ (ends_after (spaced n) (ended r) (number_ends r))))))
event_ends (Corrupted s m v o) = ends_after (codes "c ") _ (ends_after (spaced s) _ (ends_after (spaced m) _ (ends_after (spaced v) (ended o) (number_ends o))))

survey_ends : (v : SavedSurvey) → IsEnded (survey_line v)
survey_ends v = ends_after (codes "s ") _ (ends_after (spaced v.seat) _ (ends_after (spaced v.position) _ (ends_after (spaced v.privileged) _ (ends_after (spaced v.first) _ (ends_after (spaced v.calm) (ended v.rest) (number_ends v.rest))))))

pub journal_line_ends : (r : JournalLine) → IsEnded (journal_line r)
journal_line_ends r = ends_after (spaced r.ring) (call_line r.call) (go r.call)
  where
    go : (c : Call) → IsEnded (call_line c)
    go (call.Event e) = event_ends e
    go (call.Survey v) = survey_ends v

hold_end_lines : (lock : ℕ) (e : Option HoldEnd) → AreLines (end_line lock e)
hold_end_lines lock None = inl refl
hold_end_lines lock (Some e) = inr (journal_line_ends (line_of_survey lock e.seat e.survey))

events_lines : (lock place : ℕ) (v : Option LockView) → AreLines (events_from lock place v)
events_lines lock place None = inl refl
events_lines lock place (Some v) = of_each (λ (e : Event). journal_line (line_of_event lock e)) (λ e. inr (journal_line_ends (line_of_event lock e))) _

note_lines : (lock place : ℕ) (e : Option HoldEnd) (v : Option LockView) → AreLines (end_line lock e ++ events_from lock place v)
note_lines lock place e v = of_both (end_line lock e) (events_from lock place v) (hold_end_lines lock e) (events_lines lock place v)

noted_if : (b : Bool) (note : List ℕ) → AreLines note → AreLines (cond b note [])
noted_if true note is = is
noted_if false note is = inl refl

-- ---- each line

pub record AreOfLines (said noted : List ℕ) : Type 0 where
  pub told : AreLines said
  pub notes : AreLines noted

module _ (old new : SegmentView) (said noted : List ℕ) where
  are : (text note : List ℕ) → said ≡ text → noted ≡ note → AreLines text → AreLines note → AreOfLines said noted
  are text note e f p q = record { told = subst (λ (u : List ℕ). AreLines u) (sym e) p; notes = subst (λ (u : List ℕ). AreLines u) (sym f) q }

  of_named : (o : Option ℕ) (strict noting : Bool) (client : ℕ) (name : List ℕ) (ask : Ask) → IsToldOfNamed o strict noting client name ask old said noted new → AreOfLines said noted
  of_named None strict noting client name ask t = are _ _ t.says t.notes (inr (line_ends client name (answer.Refused refusal.Lock))) (inl refl)
  of_named (Some lock) strict noting client name ask t = are _ _ t.says t.notes (about_lines old.names lock _) (noted_if noting (note_about lock old.locks new.locks t.answers.ended) (note_lines lock (events_at (slice_get old.locks lock)) t.answers.ended (slice_get new.locks lock)))

  of_told : (strict noting : Bool) (client : ℕ) (x : Option (List ℕ × Ask)) → IsTold strict noting client x old said noted new → AreOfLines said noted
  of_told strict noting client None t = are _ _ t.says t.notes (of_each (line_of_left old.names) (λ l. about_lines old.names l.lock _) t.left) (noted_if noting (notes_of_left new.locks t.left) (of_each (note_of_left new.locks) (λ l. note_lines l.lock l.ended.survey.position (Some l.ended) (slice_get new.locks l.lock)) t.left))
  of_told strict noting client (Some (name, ask)) t = of_named (lock_named old.names name) strict noting client name ask t

  of_if : (off : Bool) (terms : Terms) (client : ℕ) (ask : lines.Ask) → IsAnsweredIf off terms client ask old said noted new → AreOfLines said noted
  of_if true terms client ask s = are _ _ s.says s.notes (inr (denial_ends client denial.Off)) (inl refl)
  of_if false terms client ask t = of_told terms.strict terms.noting client (one_ask ask) t

  pub of_input : (terms : Terms) (i : Input) → IsInputAnswered terms i old said noted new → AreOfLines said noted
  of_input terms (input.Asked client ask) a = of_if (is_off terms.faults ask) terms client ask a
  of_input terms (input.Refused client why) s = are _ _ s.says s.notes (inr (denial_ends client _)) (inl refl)
  of_input terms input.Nobody s = are _ _ s.says s.notes (inl refl) (inl refl)

-- ---- the first line

first_by : (b : ℕ) (rest : List ℕ) (t : Bool) → eqb b 10 ≡ t → IsLine (first_line rest) → IsLine (cond t (b ∷ []) (b ∷ first_line rest))
first_by b rest true e more = eqb-true b 10 e
first_by b rest false e more = line_more b (first_line rest) (eqb-false b 10 e) more

first_ends : (front : List ℕ) → IsLine (first_line (front ++ 10 ∷ []))
first_ends [] = refl
first_ends (b ∷ front) = first_by b (front ++ 10 ∷ []) (eqb b 10) refl (first_ends front)

pub first_of_lines : (said : List ℕ) → AreLines said → (first_line said ≡ []) ⊎ IsLine (first_line said)
first_of_lines said (inl e) = inl (ap first_line e)
first_of_lines said (inr e) = inr (subst (λ (u : List ℕ). IsLine (first_line u)) (sym e.1) (first_ends e.0))
