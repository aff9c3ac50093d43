-- Locks by any name, and their names, come back of a replica's file.
use Rattle.std.proofs.Common.{◌≡◌, ℕ, ◌^◌, ◌<◌, Bool, true, false, cond, List, [], ◌∷◌, ◌++◌, length, take, Option, Some, None, ◌⊎◌, inl, inr, refl, sym, ap, subst, ◌∙◌, append_assoc, append-nil, arith}
use Rattle.std.specs.Prelude.{codes, slice_index}
use Rattle.std.specs.Fmt.{decimal}
use Rattle.std.specs.List.{AllByRecursion}
use Rattle.std.proofs.lemmas.Fmt.{decimal_nonempty}
use Rattle.disks.specs.Held.{Held}
use Rattle.text_lines.specs.Spelling.{spaced, ended}
use Rattle.text_lines.specs.LongNumbers.{order_at, in_32_bits}
use Rattle.line_service.specs.Answering.{IsLine, Answers}
use Rattle.line_service.specs.Stands.{Stand, by_stand, stand}
use Rattle.segment_files.specs.Remarks.{IsEnded, lines_in, remark_of, without_remarks}
use Rattle.segment_files.specs.Spelling.{digest_digits}
use Rattle.segment_files.specs.RemarkLaws.{AreLines}
use Rattle.segment_files.proofs.Remarked.{remarks_then, remarks_alone, remark_ended, without_append, lines_append}
use Rattle.line_replica.specs.declared.replica.Replica.{Replica}
use Rattle.line_replica.specs.Keys.{Table, first_line, line_to_asker}
use Rattle.line_replica.specs.Log.{Numbers, numbers_of, given, given_of, numbers_after}
use Rattle.line_replica.specs.Noted.{AreGiven}
use Rattle.line_replica.specs.Reading.{Heard, Tagged, Place, Digest, heard, is_to_asker, kept_text}
use Rattle.line_replica.specs.Running.{next_of, place_line}
use Rattle.line_replica.specs.State.{did_text, key_line, key_lines, lines_at, own_lines, remarks_of}
use Rattle.line_replica.proofs.Given.{BringAll, taken, given_inside}
use Rattle.held_locks.specs.declared.answers.Answer.{Answer}
use Rattle.held_locks.specs.declared.answers.Answer.TheVariants as answer
use Rattle.held_locks.specs.declared.answers.Holder.{Holder}
use Rattle.held_locks.specs.declared.answers.Left.{Left}
use Rattle.held_locks.specs.Kept.{LockView}
use Rattle.held_locks.specs.Locks.{Ask, Acquire, Try, Release, Cancel, Corrupt, Stats}
use Rattle.held_locks.specs.declared.answers.Refusal.{Refusal}
use Rattle.held_locks.specs.declared.answers.Refusal.TheVariants as refusal
use Rattle.lock_protocol.specs.declared.answers.Denial.{Denial}
use Rattle.lock_protocol.specs.declared.answers.Denial.TheVariants as denial
use Rattle.lock_protocol.specs.Asks as lines
use Rattle.lock_protocol.specs.Answers.{refusal_text, holder_text, answer_text, denial_line}
use Rattle.lock_protocol.specs.Names.{name_spaced, name_ended}
use Rattle.lock_protocol.specs.Views.{Input}
use Rattle.lock_protocol.specs.Views as input
use Rattle.lock_journal.specs.Asking.{one_ask, is_off}
use Rattle.lock_journal.specs.KeysBack.{IsKept, IsSound}
use Rattle.lock_journal.specs.Noting.{note_about, note_of_left}
use Rattle.lock_journal.specs.Recovered.{ComeBack}
use Rattle.lock_journal.specs.Segments.{content_of}
use Rattle.lock_journal.specs.Begun.{begun_text, HaveBegun}
use Rattle.lock_journal.proofs.Heard.{IsOfKey, IsReadSo, read_so}
use Rattle.lock_journal.proofs.LineParts.{line_after, spaced_ends}
use Rattle.lock_journal.proofs.SoundKeys.{text_kept, did_is, next_fits, key_is_line, word_ends, digest_is_line, place_is_line, none_or_after}
use Rattle.lock_journal.proofs.WholeTexts.{ends_after, number_ends, of_both, of_each, first_of_lines}
use Rattle.lock_journal.proofs.WithoutRemarks.{ends_once, all_end_once, remark_lines, head_ends}
use Rattle.lock_names.specs.declared.replies.Reply.{Reply}
use Rattle.lock_names.specs.declared.replies.Reply.TheVariants as reply
use Rattle.lock_names.specs.declared.replies.NameAnswers.{NameAnswers}
use Rattle.lock_names.specs.Names.{Named, Said, fresh}
use Rattle.lock_names.specs.Kept.{NamedView, named_of}
use Rattle.name_remarks.specs.Remarks.{Remark, bind, free, top, remark_text, BeginsAsOne}
use Rattle.name_remarks.specs.Bindings.{Bindings, nothing, AreTakenIn}
use Rattle.name_service.specs.declared.service.NameService.{NameService}
use Rattle.name_service.specs.declared.service.NameTerms.{NameTerms}
use Rattle.name_service.specs.Naming.{NamingView, is_no_lock}
use Rattle.name_service.specs.NamesText.{pool_bindings, names_text}
use Rattle.name_service.specs.Noting.{reply_line, line_of_said, binding_of, note_of_new, note_of_free, note_at, is_freed, note_of_name_left, notes_of_names_left}
use Rattle.name_service.specs.Serving.{IsNameToldOf, IsNameToldIf, IsNameTold, IsNameAnsweredIf, IsNameInputAnswered, IsNameServed}
use Rattle.name_service.specs.RightNames.{AreRightNames}
use Rattle.name_service.specs.NameLines.{AreNamesAnswered, begun_names}
use Rattle.name_service.specs.NameReplicas.{named_in, begun_with_all, AreNamesReplied, LocksOfNamedReplicasComeBack, NamesOfReplicasComeBack}
use Rattle.name_service.proofs.Digits.{IsDigit, AreDigits, decimal_digits}
use Rattle.name_service.proofs.PlainNotes.{plain_note, plain_left}
use Rattle.name_service.proofs.NamedJournals.{served_name_lines, names_gone, begun_plain, named_locks_come_back}
use Rattle.name_service.proofs.TakenNotes.{IsTakenText, taken_both, taken_none, no_lines, one_line}
use Rattle.name_service.proofs.TakenLines.{names_come_back}

-- ---- what is said is whole lines

named_ends : (name : List ℕ) → IsEnded (name_ended name)
named_ends name = (name, refl)

refused_ends : (name : List ℕ) (r : Refusal) → IsEnded (refusal_text name r)
refused_ends name refusal.Lock = ends_after (codes "refused lock ") (name_ended name) (named_ends name)
refused_ends name refusal.Holds = ends_after (codes "refused holds ") (name_ended name) (named_ends name)
refused_ends name refusal.Waits = ends_after (codes "refused waits ") (name_ended name) (named_ends name)
refused_ends name refusal.Circle = ends_after (codes "refused circle ") (name_ended name) (named_ends name)
refused_ends name refusal.Holder = ends_after (codes "refused holder ") (name_ended name) (named_ends name)
refused_ends name refusal.Waiter = ends_after (codes "refused waiter ") (name_ended name) (named_ends name)
refused_ends name refusal.Machine = ends_after (codes "refused machine ") (name_ended name) (named_ends name)
refused_ends name refusal.Value = ends_after (codes "refused value ") (name_ended name) (named_ends name)
refused_ends name refusal.Full = ends_after (codes "refused full ") (name_ended name) (named_ends name)
refused_ends name refusal.Memory = ends_after (codes "refused memory ") (name_ended name) (named_ends name)

holder_ends : (h : Option Holder) → IsEnded (holder_text h)
holder_ends None = (codes "0 0", refl)
holder_ends (Some h) = ends_after (spaced h.client) (ended h.token) (number_ends h.token)

answer_ends : (name : List ℕ) (a : Answer) → IsEnded (answer_text name a)
answer_ends name (answer.Granted token) = ends_after (codes "granted ") _ (ends_after (name_spaced name) (ended token) (number_ends token))
answer_ends name (answer.Waiting before) = ends_after (codes "waiting ") _ (ends_after (name_spaced name) (ended before) (number_ends before))
answer_ends name answer.Busy = ends_after (codes "busy ") (name_ended name) (named_ends name)
answer_ends name answer.Released = ends_after (codes "released ") (name_ended name) (named_ends name)
answer_ends name answer.Cancelled = ends_after (codes "cancelled ") (name_ended name) (named_ends name)
answer_ends name (answer.Corrupted old) = ends_after (codes "corrupted ") _ (ends_after (name_spaced name) (ended old) (number_ends old))
answer_ends name (answer.Stats s) =
    ends_after (codes "stats ") _ (ends_after (name_spaced name) _ (ends_after (spaced s.machines) _ (ends_after (spaced s.waiters) _ (ends_after (spaced s.passes) (holder_text s.holder) (holder_ends s.holder)))))
answer_ends name (answer.Refused why) = refused_ends name why

said_ends : (d : Said) → AreLines (line_of_said d)
said_ends d = by d.reply
  where
    by : (r : Reply) → AreLines (reply_line d.client d.name r)
    by (reply.Lock a) = inr (ends_after (spaced d.client) (answer_text d.name a) (answer_ends d.name a))
    by reply.Names = inr (ends_after (spaced d.client) _ (ends_after (codes "refused names ") (name_ended d.name) (named_ends d.name)))

denied_ends : (client : ℕ) (why : Denial) → AreLines (denial_line client why)
denied_ends client denial.Syntax = inr (ends_after (spaced client) (codes "refused syntax\n") (codes "refused syntax", refl))
denied_ends client denial.Number = inr (ends_after (spaced client) (codes "refused number\n") (codes "refused number", refl))
denied_ends client denial.Off = inr (ends_after (spaced client) (codes "refused off\n") (codes "refused off", refl))

module _ (terms : NameTerms) (old new : NamingView) (said noted : List ℕ) where
  are : (text : List ℕ) → said ≡ text → AreLines text → AreLines said
  are text e p = subst (λ (u : List ℕ). AreLines u) (sym e) p

  of_named : (q : Bool) (client : ℕ) (name : List ℕ) (a : Ask) → IsNameToldIf q terms client name a old said noted new → AreLines said
  of_named true client name a t = are _ t.says (said_ends (record { client = client; name = name; reply = reply.Lock (answer.Refused refusal.Lock) }))
  of_named false client name a t = are _ t.says (of_each line_of_said said_ends _)

  of_told : (client : ℕ) (ask : lines.Ask) → IsNameTold terms client (one_ask ask) old said noted new → AreLines said
  of_told client (lines.acquire name label) t = of_named (is_no_lock terms.most old.named name (Acquire label)) client name (Acquire label) t
  of_told client (lines.try name label) t = of_named (is_no_lock terms.most old.named name (Try label)) client name (Try label) t
  of_told client (lines.release name token) t = of_named (is_no_lock terms.most old.named name (Release token)) client name (Release token) t
  of_told client (lines.cancel name) t = of_named (is_no_lock terms.most old.named name Cancel) client name Cancel t
  of_told client lines.leave t = are _ t.says (of_each line_of_said said_ends _)
  of_told client (lines.corrupt name machine value) t = of_named (is_no_lock terms.most old.named name (Corrupt (in_32_bits machine) (in_32_bits value))) client name (Corrupt (in_32_bits machine) (in_32_bits value)) t
  of_told client (lines.stats name) t = of_named (is_no_lock terms.most old.named name Stats) client name Stats t

  of_if : (off : Bool) (client : ℕ) (ask : lines.Ask) → IsNameAnsweredIf off terms client ask old said noted new → AreLines said
  of_if true client ask t = are _ t.says (denied_ends client denial.Off)
  of_if false client ask t = of_told client ask t

  of_input : (i : Input) → IsNameInputAnswered terms i old said noted new → AreLines said
  of_input (input.Asked client ask) t = of_if (is_off terms.lines.faults ask) client ask t
  of_input (input.Refused client why) t = are _ t.says (denied_ends client _)
  of_input input.Nobody t = inl t.says

pub said_lines : (old new : NameService) (was is : Option Held) (line said noted : List ℕ) → IsNameServed old was line said noted new is → AreLines said
said_lines old new was is line said noted s = of_input old.terms old.segment new.segment said noted s.answered.0 s.answered.2

-- ---- the replica's own lines are lines

first_is_line : (first : List ℕ) → (first ≡ []) ⊎ IsLine first → IsLine (did_text first)
first_is_line [] f = refl
first_is_line (b ∷ bs) (inl e) = absurd cc
first_is_line (b ∷ bs) (inr f) = f

if_to_asker : (told : Bool) (first : List ℕ) → (first ≡ []) ⊎ IsLine first → (cond told first [] ≡ []) ⊎ IsLine (cond told first [])
if_to_asker true first e = e
if_to_asker false first e = inl refl

read_as : (line : List ℕ) (h : Heard) → heard line ≡ h → IsReadSo line h
read_as line h e = subst (λ (x : Heard). IsReadSo line x) e (read_so line)

-- a line whose remark says nothing of names
pub record IsOwnLine (line : List ℕ) : Type 0 where
  pub is_line : IsLine line
  pub other : ¬ BeginsAsOne (remark_of line)

third : List ℕ → ℕ
third bytes = slice_index bytes 2

digit_first : (ds rest : List ℕ) → AreDigits ds → 0 < length ds → (b : ℕ) → ¬ (IsDigit b) → third (35 ∷ 32 ∷ (ds ++ rest)) ≡ b → ⊥
unfolding third
digit_first [] rest all some b far e = absurd (omega (arith, some))
digit_first (d ∷ ds) rest all some b far e = far (subst (λ (x : ℕ). IsDigit x) e all.0)

no_name_word : (line : List ℕ) → ((b : ℕ) → ¬ (IsDigit b) → ¬ (b ≡ 97) → third (remark_of line) ≡ b → ⊥) → ¬ BeginsAsOne (remark_of line)
unfolding third
no_name_word line far (inl b) = far 110 (λ d. omega (arith, d.1)) (λ e. omega (arith, e)) (ap (λ (u : List ℕ). slice_index u 2) b.1)
no_name_word line far (inr (inl b)) = far 102 (λ d. omega (arith, d.1)) (λ e. omega (arith, e)) (ap (λ (u : List ℕ). slice_index u 2) b.1)
no_name_word line far (inr (inr b)) = far 102 (λ d. omega (arith, d.1)) (λ e. omega (arith, e)) (ap (λ (u : List ℕ). slice_index u 2) b.1)

-- a line that begins with a number, and that of a place
numbered_other : (n : ℕ) (rest : List ℕ) → n < 2 ^ 64 → ¬ BeginsAsOne (remark_of (spaced n ++ rest))
numbered_other n rest lt =
    no_name_word (spaced n ++ rest) (λ b far other e. digit_first (decimal n) (32 ∷ rest) (decimal_digits n) (decimal_nonempty n lt) b far (sym (ap (λ (u : List ℕ). third (35 ∷ 32 ∷ u)) (append_assoc (decimal n) (32 ∷ []) rest)) ∙ e))

place_other : (place : ℕ) (digest : List ℕ) → ¬ BeginsAsOne (remark_of (place_line place digest))
unfolding third
place_other place digest = no_name_word (place_line place digest) (λ b far other e. other (sym e))

own_line : (line : List ℕ) → IsLine line → ¬ BeginsAsOne (remark_of line) → IsOwnLine line
own_line line is other = record { is_line = is; other = other }

pub lines_bring : BringAll IsNameServed IsOwnLine IsLine
lines_bring since old new was is line said is_line = record {
  done = λ tag rest inside e a.
      let of : IsOfKey tag.key tag.number rest line = read_as line (Tagged tag rest) e in
      own_line _
      (line_after (spaced tag.key) _ (spaced_ends tag.key of.key_small)
      (line_after (spaced tag.number) _ (spaced_ends tag.number of.number_small)
      (line_after (codes "did ") (did_text (line_to_asker rest said)) word_ends (first_is_line (line_to_asker rest said) (if_to_asker (is_to_asker (order_at 32 rest) said) (first_line said) (first_of_lines said (said_lines old new was is rest said inside a)))))))
      (numbered_other tag.key _ of.key_small);
  did = λ tag rest text e d.
      let of : IsOfKey tag.key tag.number rest line = read_as line (Tagged tag rest) e in
      let spelled : IsOfKey tag.key tag.number (codes "did " ++ text) line = subst (λ (u : List ℕ). IsOfKey tag.key tag.number u line) (did_is rest text d) of in
      own_line _ (key_is_line (tag.key, record { number = tag.number; first = kept_text text }) (text_kept tag.key tag.number text line is_line spelled)) (numbered_other tag.key _ of.key_small);
  forgets = λ tag rest e.
      let of : IsOfKey tag.key tag.number rest line = read_as line (Tagged tag rest) e in
      own_line _ (line_after (spaced tag.key) _ (spaced_ends tag.key of.key_small) (line_after (spaced tag.number) (codes "forget\n") (spaced_ends tag.number of.number_small) forget_word)) (numbered_other tag.key _ of.key_small);
  place = λ place e. own_line _ (digest_is_line place (next_of since) (read_as line (Place place) e) (next_fits since)) (place_other place (next_of since));
  digest = λ place digest e. let r : IsReadSo line (Digest place digest) = read_as line (Digest place digest) e in own_line _ (digest_is_line place digest r.0 r.1) (place_other place digest);
}
  where
    forget_word : IsLine (codes "forget\n")
    forget_word = ((λ e. omega (arith, e)), ((λ e. omega (arith, e)), ((λ e. omega (arith, e)), ((λ e. omega (arith, e)), ((λ e. omega (arith, e)), ((λ e. omega (arith, e)), refl))))))

-- the lines of a state are such ones
keys_other : (keys : Table) → AllByRecursion IsKept keys → AllByRecursion IsOwnLine (key_lines keys)
keys_other [] all = tt
keys_other (e ∷ es) all = (own_line (key_line e) (key_is_line e all.0) (numbered_other e.0 _ all.0.key), keys_other es all.1)

place_lines_other : (place : ℕ) (since : List ℕ) → AllByRecursion IsLine (lines_at place since) → AllByRecursion IsOwnLine (lines_at place since)
place_lines_other place [] all = tt
place_lines_other place (b ∷ bs) all = (own_line _ all.0 (place_other place (take digest_digits (b ∷ bs))), tt)

both_own : (xs ys : List (List ℕ)) → AllByRecursion IsOwnLine xs → AllByRecursion IsOwnLine ys → AllByRecursion IsOwnLine (xs ++ ys)
both_own [] ys p q = q
both_own (x ∷ xs) ys p q = (p.0, both_own xs ys p.1 q)

pub all_own : (r : Replica NameService) → IsSound r → AllByRecursion IsOwnLine (own_lines r)
all_own r sound = both_own (key_lines r.numbered.keys) (lines_at r.running.place r.running.since) (keys_other r.numbered.keys sound.each)
    (place_lines_other r.running.place r.running.since (place_is_line r.running.place r.running.since (none_or_after r.running sound.running)))

pub only_lines : (own : List (List ℕ)) → AllByRecursion IsOwnLine own → AllByRecursion IsLine own
only_lines [] all = tt
only_lines (line ∷ own) all = (all.0.is_line, only_lines own all.1)

-- ---- the notes inside are whole lines

remark_ends : (r : Remark) → AreLines (remark_text r)
remark_ends (bind ring b) = inr (ends_after (codes "# name ") _ (ends_after (spaced ring) _ (ends_after (spaced b.before) _ (ends_after (spaced b.floor) (name_ended b.name) (named_ends b.name)))))
remark_ends (free ring) = inr (ends_after (codes "# free ") (ended ring) (number_ends ring))
remark_ends (top grants) = inr (ends_after (codes "# floor ") (ended grants) (number_ends grants))

new_ends : (s : Named) (x : List ℕ) (ring : ℕ) (q : Bool) → AreLines (note_of_new s x ring q)
new_ends s x ring true = remark_ends (bind ring (binding_of (fresh s x ring)))
new_ends s x ring false = inl refl

free_ends : (ring : ℕ) (q : Bool) → AreLines (note_of_free ring q)
free_ends ring true = remark_ends (free ring)
free_ends ring false = inl refl

note_ends : (o : Option ℕ) (old new : NamedView) (x : List ℕ) (r : NameAnswers) → AreLines (note_at o old new x r)
note_ends None old new x r = inl refl
note_ends (Some ring) old new x r =
    let note : List ℕ = note_about ring old.locks new.locks r.ended in
    of_both (note_of_new (named_of old) x ring r.fresh) (note ++ note_of_free ring r.freed) (new_ends (named_of old) x ring r.fresh)
    (of_both note (note_of_free ring r.freed) (plain_note ring old.locks new.locks r.ended).lines (free_ends ring r.freed))

left_ends : (fixed : ℕ) (vs : List LockView) (ls : List Left) → AreLines (notes_of_names_left fixed vs ls)
left_ends fixed vs ls = of_each (note_of_name_left fixed vs) (λ l. of_both (note_of_left vs l) (note_of_free l.lock (is_freed fixed l)) (plain_left vs l).lines (free_ends l.lock (is_freed fixed l))) ls

ends_if : (q : Bool) (note : List ℕ) → AreLines note → AreLines (cond q note [])
ends_if true note is = is
ends_if false note is = inl refl

module _ (terms : NameTerms) (old new : NamingView) (said noted : List ℕ) where
  is_lines : (note : List ℕ) → noted ≡ note → AreLines note → AreLines noted
  is_lines note e p = subst (λ (u : List ℕ). AreLines u) (sym e) p

  asked_lines : (client : ℕ) (x : List ℕ) (a : Ask) → IsNameToldOf terms client x a old said noted new → AreLines noted
  asked_lines client x a t = is_lines _ t.notes (ends_if terms.lines.noting (note_at t.answers.ring old.named new.named x t.answers) (note_ends t.answers.ring old.named new.named x t.answers))

  if_lock_lines : (q : Bool) (client : ℕ) (x : List ℕ) (a : Ask) → IsNameToldIf q terms client x a old said noted new → AreLines noted
  if_lock_lines true client x a t = inl t.notes
  if_lock_lines false client x a t = asked_lines client x a t

  told_lines : (client : ℕ) (ask : lines.Ask) → IsNameTold terms client (one_ask ask) old said noted new → AreLines noted
  told_lines client (lines.acquire name label) t = if_lock_lines (is_no_lock terms.most old.named name (Acquire label)) client name (Acquire label) t
  told_lines client (lines.try name label) t = if_lock_lines (is_no_lock terms.most old.named name (Try label)) client name (Try label) t
  told_lines client (lines.release name token) t = if_lock_lines (is_no_lock terms.most old.named name (Release token)) client name (Release token) t
  told_lines client (lines.cancel name) t = if_lock_lines (is_no_lock terms.most old.named name Cancel) client name Cancel t
  told_lines client lines.leave t = is_lines _ t.notes (ends_if terms.lines.noting (notes_of_names_left old.named.fixed new.named.locks new.left) (left_ends old.named.fixed new.named.locks new.left))
  told_lines client (lines.corrupt name machine value) t = if_lock_lines (is_no_lock terms.most old.named name (Corrupt (in_32_bits machine) (in_32_bits value))) client name (Corrupt (in_32_bits machine) (in_32_bits value)) t
  told_lines client (lines.stats name) t = if_lock_lines (is_no_lock terms.most old.named name Stats) client name Stats t

  if_lines : (off : Bool) (client : ℕ) (ask : lines.Ask) → IsNameAnsweredIf off terms client ask old said noted new → AreLines noted
  if_lines true client ask t = inl t.notes
  if_lines false client ask t = told_lines client ask t

  input_lines : (i : Input) → IsNameInputAnswered terms i old said noted new → AreLines noted
  input_lines (input.Asked client ask) t = if_lines (is_off terms.lines.faults ask) client ask t
  input_lines (input.Refused client why) t = inl t.notes
  input_lines input.Nobody t = inl t.notes

pub notes_whole : (old new : Stand NameService) (all : List (List ℕ)) (said noted : List ℕ) → Answers (by_stand IsNameServed) old all said noted new → AreLines noted
notes_whole old new [] said noted a = inl a.1
notes_whole old new (line ∷ all) said noted a =
    subst (λ (u : List ℕ). AreLines u) (sym a.7)
    (of_both a.3 a.4 (input_lines old.service.terms old.service.segment a.0.service.segment a.1 a.3 a.5.answered.0 a.5.answered.2) (notes_whole a.0 new all a.2 a.4 a.8))

-- ---- all notes, and those inside

-- without the remarks they are the same
pub record AreSameNotes (inside noted : List ℕ) : Type 0 where
  pub inner : AreLines inside
  pub whole : AreLines noted
  pub same : without_remarks noted ≡ without_remarks inside

pub all_same : (numbers : Numbers) (old new : Stand NameService) (all : List (List ℕ)) (inside noted : List ℕ) → AreGiven IsNameServed IsOwnLine numbers old all inside noted new → AreSameNotes inside noted
all_same numbers old new [] inside noted g = record { inner = inl g.0; whole = inl g.1; same = ap (λ (u : List ℕ). without_remarks u) (g.1 ∙ sym g.0) }
all_same numbers old new (line ∷ all) inside noted g =
    let one = g.5 in
    let rest = all_same (numbers_after (heard line) numbers) g.0 new all g.4 g.3 g.8 in
    let notes : AreLines one.notes = notes_whole old g.0 (given_of (heard line) numbers line) one.told one.notes one.answered in
    let own : AllByRecursion IsLine g.1 = only_lines g.1 one.each in
    let mine : AreLines (remarks_of g.1) = remark_lines g.1 own in
    let both : AreLines (one.notes ++ remarks_of g.1) = of_both one.notes (remarks_of g.1) notes mine in
    let first : AreLines g.2 = subst (λ (u : List ℕ). AreLines u) (sym one.noted_are) both in
    let here : without_remarks g.2 ≡ without_remarks one.notes =
    ap (λ (u : List ℕ). without_remarks u) one.noted_are
    ∙ (without_append one.notes (remarks_of g.1) notes ∙ (ap (λ (u : List ℕ). without_remarks one.notes ++ u) (remarks_alone g.1 (all_end_once g.1 own)) ∙ append-nil (without_remarks one.notes))) in
    record {
      inner = subst (λ (u : List ℕ). AreLines u) (sym g.6) (of_both one.notes g.4 notes rest.inner);
      whole = subst (λ (u : List ℕ). AreLines u) (sym g.7) (of_both g.2 g.3 first rest.whole);
      same =
          ap (λ (u : List ℕ). without_remarks u) g.7
          ∙ (without_append g.2 g.3 first
          ∙ (ap (λ (u : List ℕ). u ++ without_remarks g.3) here
          ∙ (ap (λ (u : List ℕ). without_remarks one.notes ++ u) rest.same
          ∙ (sym (without_append one.notes g.4 notes) ∙ ap (λ (u : List ℕ). without_remarks u) (sym g.6)))));
    }

-- what the names were asked, said and have noted
pub record IsWithin (old : Replica NameService) (all : List (List ℕ)) (noted : List ℕ) (new : Replica NameService) (was is : Option Held) : Type 0 where
  pub inside : List ℕ
  pub given_so : AreGiven IsNameServed IsOwnLine (numbers_of old.numbered.keys) (stand old.numbered.inner was) all inside noted (stand new.numbered.inner is)
  pub told : List ℕ
  pub answered : AreNamesAnswered old.numbered.inner.terms old.numbered.inner.segment (given (numbers_of old.numbered.keys) all) told inside new.numbered.inner.segment
  pub notes : AreSameNotes inside noted

within : (old new : Replica NameService) (all : List (List ℕ)) (said noted : List ℕ) → (a : AreNamesReplied old all said noted new) → IsWithin old all noted new a.was a.is
within old new all said noted a =
    let s : NameService = old.numbered.inner in
    let n : NameService = new.numbered.inner in
    let numbers : Numbers = numbers_of old.numbered.keys in
    let t = taken IsNameServed IsOwnLine IsLine lines_bring old new a.was a.is all said noted a.each a.answers a.whole in
    let g = given_inside IsNameServed IsOwnLine numbers (stand s a.was) (stand n a.is) all t.0 noted t.1 in
    record {
      inside = t.0;
      given_so = t.1;
      told = g.0;
      answered = (served_name_lines s n a.was a.is (given numbers all) g.0 t.0 a.noting g.1).0;
      notes = all_same numbers (stand s a.was) (stand n a.is) all t.0 noted t.1;
    }

-- ---- the locks come back

pub all_plain : (old : Replica NameService) (rest : List ℕ) → HaveBegun (named_in old).locks → AreRightNames (named_in old) → IsSound old → without_remarks (begun_with_all old ++ rest) ≡ begun_text (named_in old).locks ++ without_remarks rest
all_plain old rest begun right sound =
    let v : NamedView = named_in old in
    let own : List (List ℕ) = own_lines old in
    let gone : without_remarks (remarks_of own ++ rest) ≡ without_remarks rest = remarks_then own rest (all_end_once own (only_lines own (all_own old sound))) in
    ap (λ (u : List ℕ). without_remarks u) (append_assoc (begun_names v) (remarks_of own) rest) ∙ (begun_plain v (remarks_of own ++ rest) begun right ∙ ap (λ (u : List ℕ). begun_text v.locks ++ u) gone)

pub locks_of_named_replicas : LocksOfNamedReplicasComeBack
locks_of_named_replicas old new entries all said noted torn a kept none =
    let w = within old new all said noted a in
    let v : NamedView = named_in old in
    let head : List ℕ = begun_text v.locks in
    let rest : List ℕ = noted ++ torn in
    let text : without_remarks (begun_with_all old ++ rest) ≡ without_remarks (begun_names v ++ (w.inside ++ torn)) =
    all_plain old rest a.begun a.right a.sound
    ∙ (ap (λ (u : List ℕ). head ++ u) (without_append noted torn w.notes.whole ∙ (ap (λ (u : List ℕ). u ++ without_remarks torn) w.notes.same ∙ sym (without_append w.inside torn w.notes.inner)))
    ∙ sym (begun_plain v (w.inside ++ torn) a.begun a.right)) in
    subst (λ (u : List ℕ). ComeBack v.locks (named_in new).locks u) (sym text)
    (named_locks_come_back old.numbered.inner.terms old.numbered.inner.segment new.numbered.inner.segment entries (given (numbers_of old.numbered.keys) all) w.told w.inside torn a.begun a.right w.answered kept a.bits none)

-- ---- and so do their names

pub taken_split : (xs ys : List (List ℕ)) (old new : Bindings) → AreTakenIn (xs ++ ys) old new → (mid : Bindings) × AreTakenIn xs old mid × AreTakenIn ys mid new
taken_split [] ys old new p = (old, refl, p)
taken_split (x ∷ xs) ys old new p = let r = taken_split xs ys p.0 new p.1.1 in (r.0, (p.0, (p.1.0, r.1)), r.2)

pub own_taken : (own : List (List ℕ)) (t : Bindings) → AllByRecursion IsOwnLine own → IsTakenText (remarks_of own) t t
own_taken [] t all = taken_none t
own_taken (line ∷ own) t all =
    let once = ends_once line all.0.is_line in
    let one : IsTakenText (remark_of line) t t = record {
      lines = remark_ended line once;
      taken = subst (λ (ls : List (List ℕ)). AreTakenIn ls t t) (sym (one_line line once)) (t, (inr (all.0.other, refl), refl));
    } in
    taken_both (remark_of line) (remarks_of own) t t t one (own_taken own t all.1)

noted_taken : (numbers : Numbers) (old new : Stand NameService) (all : List (List ℕ)) (inside noted : List ℕ) → AreGiven IsNameServed IsOwnLine numbers old all inside noted new → (t u : Bindings) → AreTakenIn (lines_in inside) t u → IsTakenText noted t u
noted_taken numbers old new [] inside noted g t u p =
    let same : u ≡ t = subst (λ (ls : List (List ℕ)). AreTakenIn ls t u) (ap (λ (x : List ℕ). lines_in x) g.0 ∙ no_lines) p in
    subst (λ (x : List ℕ). IsTakenText x t u) (sym g.1) (subst (λ (x : Bindings). IsTakenText [] t x) (sym same) (taken_none t))
noted_taken numbers old new (line ∷ all) inside noted g t u p =
    let one = g.5 in
    let notes : AreLines one.notes = notes_whole old g.0 (given_of (heard line) numbers line) one.told one.notes one.answered in
    let s = taken_split (lines_in one.notes) (lines_in g.4) t u (subst (λ (ls : List (List ℕ)). AreTakenIn ls t u) (ap (λ (x : List ℕ). lines_in x) g.6 ∙ lines_append one.notes g.4 notes) p) in
    let first : IsTakenText (one.notes ++ remarks_of g.1) t s.0 = taken_both one.notes (remarks_of g.1) t s.0 s.0 (record { lines = notes; taken = s.1 }) (own_taken g.1 s.0 one.each) in
    let rest = noted_taken (numbers_after (heard line) numbers) g.0 new all g.4 g.3 g.8 s.0 u s.2 in
    subst (λ (x : List ℕ). IsTakenText x t u) (sym g.7) (taken_both g.2 g.3 t s.0 u (subst (λ (x : List ℕ). IsTakenText x t s.0) (sym one.noted_are) first) rest)

pub names_of_replicas : NamesOfReplicasComeBack
names_of_replicas old new all said noted a =
    let w = within old new all said noted a in
    let v : NamedView = named_in old in
    let numbers : Numbers = numbers_of old.numbered.keys in
    let r = names_come_back old.numbered.inner.terms old.numbered.inner.segment new.numbered.inner.segment (given numbers all) w.told w.inside a.begun a.right w.answered a.bits in
    let none : Bindings = nothing (length v.locks) in
    let end : Bindings = record { top = Some v.top; rings = pool_bindings (named_in new).fixed (named_in new).names } in
    let front : AreLines (begun_names v) = of_both (begun_text v.locks) (names_text v) (inr (head_ends (content_of v.locks))) (names_gone v a.right.spelled).lines in
    let s = taken_split (lines_in (begun_names v)) (lines_in w.inside) none end (subst (λ (ls : List (List ℕ)). AreTakenIn ls none end) (lines_append (begun_names v) w.inside front) r.recorded) in
    let begun : IsTakenText (begun_with_all old) none s.0 = taken_both (begun_names v) (remarks_of (own_lines old)) none s.0 s.0 (record { lines = front; taken = s.1 }) (own_taken (own_lines old) s.0 (all_own old a.sound)) in
    let rest : IsTakenText noted s.0 end = noted_taken numbers (stand old.numbered.inner a.was) (stand new.numbered.inner a.is) all w.inside noted w.given_so s.0 end s.2 in
    record {
      recorded = (taken_both (begun_with_all old) noted none s.0 end begun rest).taken;
      more = r.more;
      grants = r.grants;
    }
