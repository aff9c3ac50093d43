-- Equal lines give equal answers.
use Rattle.std.proofs.Common.{◌≡◌, ℕ, ◌-◌, Bool, true, false, List, [], ◌∷◌, ◌++◌, Option, Some, None, refl, sym, ap, subst, ◌∙◌}
use Rattle.std.specs.Prelude.{◌||◌, cond}
use Rattle.disks.specs.Held.{Held}
use Rattle.held_locks.specs.declared.answers.Answer.{Answer}
use Rattle.held_locks.specs.declared.answers.HoldEnd.{HoldEnd}
use Rattle.held_locks.specs.declared.answers.Left.{Left}
use Rattle.held_locks.specs.Locks.{Ask}
use Rattle.lock_protocol.specs.Views.{Input}
use Rattle.lock_protocol.specs.Views as input
use Rattle.lock_protocol.specs.Asks as asks
use Rattle.lock_protocol.specs.Names.{Names, lock_named}
use Rattle.lock_protocol.proofs.Whole.{one_reading}
use Rattle.line_service.specs.Stands.{stand}
use Rattle.lock_service.specs.declared.service.LockService.{LockService}
use Rattle.lock_journal.specs.declared.stages.Stage.{Stage}
use Rattle.lock_journal.specs.declared.terms.Terms.{Terms}
use Rattle.lock_journal.specs.Asking.{one_ask, is_off}
use Rattle.lock_journal.specs.Noting.{lines_about, note_about, lines_of_left, notes_of_left}
use Rattle.lock_journal.specs.Due.{has_short}
use Rattle.lock_journal.specs.Counting.{SegmentView, IsCounted, count_about, count_of_all}
use Rattle.lock_journal.specs.Answering.{IsSaid, IsToldOf, IsToldOfLeave, IsToldOfNamed, IsTold, IsAnsweredIf, IsInputAnswered, IsLineAnswered}
use Rattle.lock_service.specs.Serving.{IsServed}
use Rattle.lock_journal.specs.Stages.{is_past, stage_after}
use Rattle.held_locks.specs.Kept.{answers_of}
use Rattle.held_locks.proofs.Asking.{asked_long}
use Rattle.lock_journal.specs.Equal.{AreEqualLocks, AreEqualSegments}
use Rattle.lock_service.specs.Equal.{AreEqual, EqualLinesGiveEqualAnswers}
use Rattle.lock_journal.proofs.EqualLocks.{short_equal, note_equal, count_equal, notes_left_equal, count_left_equal, done_alike, asked_done, left_alike}

-- ---- what is counted

counted_alike : (a b c d : SegmentView) (m n : ℕ) → AreEqualSegments a b → AreEqualLocks c.locks d.locks → n ≡ m → IsCounted a c m → IsCounted b d n → AreEqualSegments c d
counted_alike a b c d m n e f same p q = record {
  locks = f;
  names = q.names ∙ e.names ∙ sym p.names;
  remaining = q.remaining ∙ ap (λ (x : ℕ). x - n) e.remaining ∙ ap (λ (x : ℕ). a.remaining - x) same ∙ sym p.remaining;
  short = q.short ∙ ap (λ (x : Bool). x || has_short d.locks) e.short ∙ ap (λ (x : Bool). a.short || x) (short_equal c.locks d.locks f) ∙ sym p.short;
}

-- ---- what is answered

module _ (a b c d : SegmentView) (e : AreEqualSegments a b) (said noted told kept : List ℕ) where
  pub record AreAlike : Type 0 where
    pub said_is : told ≡ said
    pub noted_is : kept ≡ noted
    pub segment : AreEqualSegments c d

  said_alike : (text : List ℕ) → IsSaid text a said noted c → IsSaid text b told kept d → AreAlike
  said_alike text p q = record {
    said_is = q.says ∙ sym p.says;
    noted_is = q.notes ∙ sym p.notes;
    segment = subst (λ (x : SegmentView). AreEqualSegments x d) (sym p.leaves) (subst (λ (x : SegmentView). AreEqualSegments a x) (sym q.leaves) e);
  }

  told_alike : (noting : Bool) (client i : ℕ) (ask : Ask) → IsToldOf true noting client i ask a said noted c → IsToldOf true noting client i ask b told kept d → AreAlike
  told_alike noting client i ask p q =
      let done = asked_done a.locks c.locks client i ask p.answers p.done p.given in
      let made = asked_done b.locks d.locks client i ask q.answers q.done q.given in
      let r = done_alike a.locks b.locks c.locks d.locks e.locks client i ask p.answers q.answers done made
      (asked_long a.locks c.locks client i ask p.answers p.done) (asked_long b.locks d.locks client i ask q.answers q.done) in
      let note : note_about i b.locks d.locks q.answers.ended ≡ note_about i a.locks c.locks p.answers.ended =
      ap (λ (x : Option HoldEnd). note_about i b.locks d.locks x) r.ended ∙ note_equal a.locks b.locks c.locks d.locks e.locks r.locks i p.answers.ended in
      let count : count_about i b.locks d.locks q.answers.ended ≡ count_about i a.locks c.locks p.answers.ended =
      ap (λ (x : Option HoldEnd). count_about i b.locks d.locks x) r.ended ∙ count_equal a.locks b.locks c.locks d.locks e.locks r.locks i p.answers.ended in record {
        said_is = q.says ∙ ap (λ (x : List (ℕ × Answer)). lines_about b.names i x) r.answers ∙ ap (λ (x : Names). lines_about x i (answers_of client p.answers)) e.names ∙ sym p.says;
        noted_is = q.notes ∙ ap (λ (x : List ℕ). cond noting x []) note ∙ sym p.notes;
        segment = counted_alike a b c d (count_about i a.locks c.locks p.answers.ended) (count_about i b.locks d.locks q.answers.ended) e r.locks count p.counted q.counted;
      }

  leave_alike : (noting : Bool) (client : ℕ) → IsToldOfLeave noting client a said noted c → IsToldOfLeave noting client b told kept d → AreAlike
  leave_alike noting client p q =
      let r = left_alike a.locks b.locks c.locks d.locks client p.left q.left e.locks p.done q.done in
      let note : notes_of_left d.locks q.left ≡ notes_of_left c.locks p.left = ap (λ (x : List Left). notes_of_left d.locks x) r.1 ∙ notes_left_equal c.locks d.locks r.0 p.left in
      let count : count_of_all d.locks q.left ≡ count_of_all c.locks p.left = ap (λ (x : List Left). count_of_all d.locks x) r.1 ∙ count_left_equal c.locks d.locks r.0 p.left in record {
        said_is = q.says ∙ ap (λ (x : List Left). lines_of_left b.names x) r.1 ∙ ap (λ (x : Names). lines_of_left x p.left) e.names ∙ sym p.says;
        noted_is = q.notes ∙ ap (λ (x : List ℕ). cond noting x []) note ∙ sym p.notes;
        segment = counted_alike a b c d (count_of_all c.locks p.left) (count_of_all d.locks q.left) e r.0 count p.counted q.counted;
      }

  named_alike : (o : Option ℕ) (noting : Bool) (client : ℕ) (name : List ℕ) (ask : Ask) → IsToldOfNamed o true noting client name ask a said noted c → IsToldOfNamed o true noting client name ask b told kept d → AreAlike
  named_alike None noting client name ask p q = said_alike _ p q
  named_alike (Some i) noting client name ask p q = told_alike noting client i ask p q

  asked_alike : (noting : Bool) (client : ℕ) (x : Option (List ℕ × Ask)) → IsTold true noting client x a said noted c → IsTold true noting client x b told kept d → AreAlike
  asked_alike noting client None p q = leave_alike noting client p q
  asked_alike noting client (Some (name, ask)) p q =
      let same : lock_named b.names name ≡ lock_named a.names name = ap (λ (x : Names). lock_named x name) e.names in
      named_alike (lock_named a.names name) noting client name ask p (subst (λ (o : Option ℕ). IsToldOfNamed o true noting client name ask b told kept d) same q)

  if_alike : (off : Bool) (terms : Terms) (client : ℕ) (ask : asks.Ask) → terms.strict ≡ true → IsAnsweredIf off terms client ask a said noted c → IsAnsweredIf off terms client ask b told kept d → AreAlike
  if_alike true terms client ask strict p q = said_alike _ p q
  if_alike false terms client ask strict p q =
      asked_alike terms.noting client (one_ask ask) (subst (λ (x : Bool). IsTold x terms.noting client (one_ask ask) a said noted c) strict p) (subst (λ (x : Bool). IsTold x terms.noting client (one_ask ask) b told kept d) strict q)

  input_alike : (terms : Terms) (i : Input) → terms.strict ≡ true → IsInputAnswered terms i a said noted c → IsInputAnswered terms i b told kept d → AreAlike
  input_alike terms (input.Asked client ask) strict p q = if_alike (is_off terms.faults ask) terms client ask strict p q
  input_alike terms (input.Refused client why) strict p q = said_alike _ p q
  input_alike terms input.Nobody strict p q = said_alike _ p q

  pub line_alike : (terms : Terms) (line : List ℕ) → terms.strict ≡ true → IsLineAnswered terms a line said noted c → IsLineAnswered terms b line told kept d → AreAlike
  line_alike terms line strict p q =
      input_alike terms p.0 strict p.2 (subst (λ (x : Input). IsInputAnswered terms x b told kept d) (one_reading line q.0 p.0 q.1 p.1) q.2)

-- ---- the service

past_alike : (terms : Terms) (a b : SegmentView) → AreEqualSegments a b → is_past terms b ≡ is_past terms a
past_alike terms a b e = let m = e.remaining in let s = e.short in rw (m, s) refl

pub record IsServedAlike (said noted told kept : List ℕ) (c d : LockService) : Type 0 where
  pub said_is : told ≡ said
  pub noted_is : kept ≡ noted
  pub equal : AreEqual c d

served_alike : (a b c d : LockService) (before after was is : Option Held) (line said noted told kept : List ℕ) → a.terms.strict ≡ true → AreEqual a b → IsServed a before line said noted c after → IsServed b was line told kept d is → IsServedAlike said noted told kept c d
served_alike a b c d before after was is line said noted told kept strict e p q =
    let there : IsLineAnswered a.terms b.segment line told kept d.segment = subst (λ (x : Terms). IsLineAnswered x b.segment line told kept d.segment) e.terms q.answered in
    let r = line_alike a.segment b.segment c.segment d.segment e.segment said noted told kept a.terms line strict p.answered there in
    let past : is_past b.terms d.segment ≡ is_past a.terms c.segment = ap (λ (x : Terms). is_past x d.segment) e.terms ∙ past_alike a.terms c.segment d.segment r.segment in record {
      said_is = r.said_is;
      noted_is = r.noted_is;
      equal = record {
        segment = r.segment;
        terms = q.terms ∙ e.terms ∙ sym p.terms;
        stage = q.stage ∙ ap (λ (x : Stage). stage_after x (is_past b.terms d.segment)) e.stage ∙ ap (λ (x : Bool). stage_after a.stage x) past ∙ sym p.stage;
      };
    }

ended_alike : (a b c d : LockService) (before after was is : Option Held) → AreEqual a b → stand c after ≡ stand a before → stand d is ≡ stand b was → AreEqual c d
ended_alike a b c d before after was is e p q =
    subst (λ (x : LockService). AreEqual x d) (sym (ap (λ s. s.service) p)) (subst (λ (x : LockService). AreEqual a x) (sym (ap (λ s. s.service) q)) e)

pub equal_lines : EqualLinesGiveEqualAnswers
equal_lines a b c d before after was is [] said noted told kept strict e p q = (q.0 ∙ sym p.0, q.1 ∙ sym p.1, ended_alike a b c d before after was is e p.2 q.2)
equal_lines a b c d before after was is (line ∷ lines) said noted told kept strict e p q =
    let r = served_alike a b p.0.service q.0.service before p.0.files was q.0.files line p.1 p.3 q.1 q.3 strict e p.5 q.5 in
    let still : p.0.service.terms.strict ≡ true = ap (λ (x : Terms). x.strict) p.5.terms ∙ strict in
    let more = equal_lines p.0.service q.0.service c d p.0.files after q.0.files is lines p.2 p.4 q.2 q.4 still r.equal p.8 q.8 in (
      q.6 ∙ ap (λ (x : List ℕ). x ++ q.2) r.said_is ∙ ap (λ (x : List ℕ). p.1 ++ x) more.0 ∙ sym p.6,
      q.7 ∙ ap (λ (x : List ℕ). x ++ q.4) r.noted_is ∙ ap (λ (x : List ℕ). p.3 ++ x) more.1 ∙ sym p.7,
      more.2,
    )
